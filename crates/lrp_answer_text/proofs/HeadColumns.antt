-- The columns of a well-sorted query can be those of a relation, where their names are names.
use Rattle.std.proofs.Common.{◌≡◌, ◌≢◌, ◌≤◌, ◌+◌, ℕ, Bool, true, false, ◌||◌, List, [], ◌∷◌, ◌++◌, map, refl, sym, arith, codes}
use Rattle.std.specs.Prelude.{◌==◌, not, if◌then◌else◌, reverse}
use Rattle.std.specs.List.{AllByRecursion}
use Rattle.std.specs.Str.{bytes_eq}
use Rattle.std.specs.Cmp.Lexicographic.{bytes_decides}
use Rattle.std.proofs.lemmas.Bool.Decides.{nat_tests}
use Rattle.std.proofs.lemmas.List.Sums.{sum_by-cons}
use Rattle.lrp_model.specs.Texts.{Identifier, AreDistinct}
use Rattle.lrp_model.specs.Sorts.{is_time, is_data, time_count, text_count}
use Rattle.lrp_model.specs.Names.{IsName, AreNamed}
use Rattle.lrp_model.specs.Lexing.{scan, run, after_run, word_or_name, scan_in}
use Rattle.lrp_model.specs.Faults.{fault_if, is_named_in, ninth}
use Rattle.lrp_model.specs.DatabaseMeaning.{column_of}
use Rattle.lrp_model.specs.RawQueries.{RawQuestion}
use Rattle.lrp_model.specs.Checked.{plain_question}
use Rattle.lrp_model.specs.Sorting.{Binders, query_fault, binder_faults, sort_faults, head_faults, form_faults, widened, IsWellSorted}
use Rattle.lrp_model.specs.declared.relations.Relation.{Relation}
use Rattle.lrp_model.specs.declared.raw.RawColumn.{RawColumn}
use Rattle.lrp_model.specs.declared.faults.QueryKind.TheVariants.{Wide, Rebound}
use Rattle.lrp_answer_text.specs.Answering.{AreAnswerColumns}

-- the relation's own name
answer_named : IsName (codes "answer")
unfolding scan_in run after_run word_or_name
answer_named = refl

-- two lists that are nothing together
both_none : {F : Type 0} (xs ys : List F) → xs ++ ys ≡ [] → (xs ≡ []) × (ys ≡ [])
both_none [] ys e = (refl, e)
both_none (x ∷ xs) ys e = cc

-- where there is no fault, its test is false
none_if : {F : Type 0} (b : Bool) (f : F) → fault_if b f ≡ [] → b ≡ false
none_if true f e = cc
none_if false f e = refl

-- ---- names

abbrev names : Binders → List Identifier
names bs = map (λ b. b.name) bs

-- neither of two tests
neither : (a b : Bool) → (a || b) ≡ false → (a ≡ false) × (b ≡ false)
neither true b e = cc
neither false b e = (refl, e)

-- a name that is not the other's
other_name : (m n : Identifier) → bytes_eq n m ≡ false → m ≢ n
other_name m n e d = let t : bytes_eq n m ≡ true = (bytes_decides n m).1 (sym d) in cc

-- columns whose names are none of these
abbrev AreNew : List Identifier → List RawColumn → Type 0
AreNew before cs = AllByRecursion (λ c. is_named_in before c.name ≡ false) cs

-- none of them has the first one's name, and none one after it
first_new : (n : Identifier) (before : List Identifier) (cs : List RawColumn) → AreNew (n ∷ before) cs → AllByRecursion (λ m. n ≢ m) (map (λ c. c.name) (map column_of cs)) × AreNew before cs
first_new n before [] h = (tt, tt)
first_new n before (c ∷ cs) h =
    let both = neither (bytes_eq c.name n) (is_named_in before c.name) h.0 in
    let rest = first_new n before cs h.1 in
    ((other_name n c.name both.0, rest.0), (both.1, rest.1))

-- columns of a head without faults are new, and their names differ
head_differs : (db : List Relation) (bs : Binders) (cs : List RawColumn) → head_faults db bs cs ≡ [] → AreNew (names bs) cs × AreDistinct (map (λ c. c.name) (map column_of cs))
head_differs db bs [] e = (tt, tt)
head_differs db bs (c ∷ cs) e =
    let both = both_none (binder_faults db bs c) (head_faults db (c ∷ bs) cs) e in
    let own = both_none (fault_if (is_named_in (names bs) c.name) (query_fault Rebound c.place)) (sort_faults db c.sort c.sort_place) both.0 in
    let rest = head_differs db (c ∷ bs) cs both.1 in
    let new = first_new c.name (names bs) cs rest.0 in
    ((none_if (is_named_in (names bs) c.name) (query_fault Rebound c.place) own.0, new.1), (new.0, rest.1))

-- ---- how many

-- a column more is counted where it is a time column, and else among those of data sorts
times_more : (c : RawColumn) (cs : List RawColumn) → time_count (map column_of (c ∷ cs)) ≡ (if is_time c.sort then 1 else 0) + time_count (map column_of cs)
times_more c cs = sum_by-cons (λ x. if is_time x.sort then 1 else 0) (column_of c) (map column_of cs)

texts_more : (c : RawColumn) (cs : List RawColumn) → text_count (map column_of (c ∷ cs)) ≡ (if not (is_time c.sort) then 1 else 0) + text_count (map column_of cs)
texts_more c cs = sum_by-cons (λ x. if is_data x.sort then 1 else 0) (column_of c) (map column_of cs)

eight : (n : ℕ) → n ≤ 8 → (n == 8) ≡ false → n + 1 ≤ 8
eight n h t = grind (arith, nat_tests)

-- not more than 8 of a kind, where there is no ninth
few_columns : (times texts : ℕ) (cs : List RawColumn) → times ≤ 8 → texts ≤ 8 → ninth (query_fault Wide) times texts cs ≡ [] → (times + time_count (map column_of cs) ≤ 8) × (texts + text_count (map column_of cs) ≤ 8)
few_columns times texts [] le less e = (omega (arith, le), omega (arith, less))
few_columns times texts (c ∷ cs) le less e =
    let r = by (is_time c.sort) e (few_columns (times + 1) texts cs) (few_columns times (texts + 1) cs) in
    let t = times_more c cs in
    let x = texts_more c cs in
    (omega (arith, r.0, t), omega (arith, r.1, x))
  where
    by : (b : Bool) → (if b then fault_if (times == 8) (query_fault Wide c.place) ++ ninth (query_fault Wide) (times + 1) texts cs else fault_if (texts == 8) (query_fault Wide c.place) ++ ninth (query_fault Wide) times (texts + 1) cs) ≡ []
        → (times + 1 ≤ 8 → texts ≤ 8 → ninth (query_fault Wide) (times + 1) texts cs ≡ [] → (times + 1 + time_count (map column_of cs) ≤ 8) × (texts + text_count (map column_of cs) ≤ 8))
        → (times ≤ 8 → texts + 1 ≤ 8 → ninth (query_fault Wide) times (texts + 1) cs ≡ [] → (times + time_count (map column_of cs) ≤ 8) × (texts + 1 + text_count (map column_of cs) ≤ 8))
        → (times + ((if b then 1 else 0) + time_count (map column_of cs)) ≤ 8) × (texts + ((if not b then 1 else 0) + text_count (map column_of cs)) ≤ 8)
    by true h one two =
        let none = both_none (fault_if (times == 8) (query_fault Wide c.place)) (ninth (query_fault Wide) (times + 1) texts cs) h in
        let r = one (eight times le (none_if (times == 8) (query_fault Wide c.place) none.0)) less none.1 in
        (omega (arith, r.0), omega (arith, r.1))
    by false h one two =
        let none = both_none (fault_if (texts == 8) (query_fault Wide c.place)) (ninth (query_fault Wide) times (texts + 1) cs) h in
        let r = two le (eight texts less (none_if (texts == 8) (query_fault Wide c.place) none.0)) none.1 in
        (omega (arith, r.0), omega (arith, r.1))

-- ---- the head

pub head_columns : (db : List Relation) (q : RawQuestion) → IsWellSorted db q → AreNamed (plain_question q).head → AreAnswerColumns (plain_question q).head
head_columns db q sorted named =
    let inside = form_faults q.body db (reverse q.head) in
    let outer = both_none (head_faults db [] q.head ++ ninth (query_fault Wide) 0 0 q.head) (widened (reverse q.head) [] q.body inside) sorted in
    let parts = both_none (head_faults db [] q.head) (ninth (query_fault Wide) 0 0 q.head) outer.0 in
    let few = few_columns 0 0 q.head (omega arith) (omega arith) parts.1 in
    record {
      name = answer_named;
      columns = named;
      differ = (head_differs db [] q.head parts.0).1;
      times = omega (arith, few.0);
      texts = omega (arith, few.1);
      rows = tt;
    }
