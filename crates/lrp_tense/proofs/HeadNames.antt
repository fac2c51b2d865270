-- The names of a head without faults differ, so each has the same sort read from either end.
use Rattle.std.proofs.Common.{◌≡◌, ◌≢◌, Bool, true, false, ◌||◌, List, [], ◌∷◌, ◌++◌, Option, Some, None, map, refl, sym, ap, subst, ◌∙◌, cond}
use Rattle.std.specs.Prelude.{reverse, find, option_map}
use Rattle.std.proofs.lemmas.List.{reverse-append}
use Rattle.std.specs.List.{AllByRecursion}
use Rattle.std.specs.Str.{bytes_eq}
use Rattle.std.specs.Cmp.Lexicographic.{bytes_decides}
use Rattle.lrp_model.specs.Texts.{Identifier}
use Rattle.lrp_model.specs.DatabaseMeaning.{column_of}
use Rattle.lrp_model.specs.Faults.{fault_if, is_named_in, ninth}
use Rattle.lrp_model.specs.Satisfaction.{HaveDistinctNames}
use Rattle.lrp_model.specs.Sorting.{Binders, binder_sort, binder_faults, form_faults, head_faults, query_fault, query_faults, widened}
use Rattle.lrp_model.specs.RawQueries.{RawQuestion}
use Rattle.lrp_model.specs.declared.relations.Sort.{Sort}
use Rattle.lrp_model.specs.declared.relations.Column.{Column}
use Rattle.lrp_model.specs.declared.relations.Relation.{Relation}
use Rattle.lrp_model.specs.declared.faults.QueryKind.TheVariants.{Wide}
use Rattle.lrp_model.specs.declared.raw.RawColumn.{RawColumn}
use Rattle.lrp_model.proofs.NoFaults.{both_none, none_if}
use Rattle.lrp_tense.proofs.Scoping.{own_name, other_name, bound_here, bound_further}

-- ---- names that differ

-- a later column has no name that is bound
distinct_from : (db : List Relation) (bs : Binders) (cs : List RawColumn) → head_faults db bs cs ≡ [] → (n : Identifier) → is_named_in (map (λ b. b.name) bs) n ≡ true → AllByRecursion (λ d. n ≢ d.name) (map column_of cs)
distinct_from db bs [] e n k = tt
distinct_from db bs (c ∷ cs) e n k =
    let x = both_none (binder_faults db bs c) (head_faults db (c ∷ bs) cs) e in
    let free : is_named_in (map (λ b. b.name) bs) c.name ≡ false = none_if (is_named_in (map (λ b. b.name) bs) c.name) _ (both_none (fault_if (is_named_in (map (λ b. b.name) bs) c.name) _) _ x.0).0 in (
      (λ same. let t : is_named_in (map (λ b. b.name) bs) c.name ≡ true = subst (λ m. is_named_in (map (λ b. b.name) bs) m ≡ true) same k in cc),
      distinct_from db (c ∷ bs) cs x.1 n (or_so (bytes_eq n c.name) (is_named_in (map (λ b. b.name) bs) n) k),
    )
  where
    or_so : (a b : Bool) → b ≡ true → (a || b) ≡ true
    or_so true b e = refl
    or_so false b e = e

head_distinct : (db : List Relation) (bs : Binders) (cs : List RawColumn) → head_faults db bs cs ≡ [] → HaveDistinctNames (map column_of cs)
head_distinct db bs [] e = tt
head_distinct db bs (c ∷ cs) e =
    let x = both_none (binder_faults db bs c) (head_faults db (c ∷ bs) cs) e in
    (distinct_from db (c ∷ bs) cs x.1 c.name (ap (λ t. t || is_named_in (map (λ b. b.name) bs) c.name) (own_name c.name)), head_distinct db (c ∷ bs) cs x.1)

pub query_distinct : (db : List Relation) (q : RawQuestion) → query_faults db q ≡ [] → HaveDistinctNames (map column_of q.head)
query_distinct db q e =
    let x = both_none (head_faults db [] q.head ++ ninth (query_fault Wide) 0 0 q.head) (widened (reverse q.head) [] q.body (form_faults q.body db (reverse q.head))) e in
    head_distinct db [] q.head (both_none (head_faults db [] q.head) (ninth (query_fault Wide) 0 0 q.head) x.0).0

-- ---- read backwards

sort_front : (xs ys : Binders) (n : Identifier) (s : Sort) → binder_sort xs n ≡ Some s → binder_sort (xs ++ ys) n ≡ Some s
sort_front [] ys n s e = cc
sort_front (x ∷ xs) ys n s e = by (bytes_eq x.name n) refl (λ k. sort_front xs ys n s k)
  where
    by : (b : Bool) → bytes_eq x.name n ≡ b → (binder_sort xs n ≡ Some s → binder_sort (xs ++ ys) n ≡ Some s) → binder_sort (x ∷ (xs ++ ys)) n ≡ Some s
    by true t r = bound_here x (xs ++ ys) n t ∙ sym (bound_here x xs n t) ∙ e
    by false t r = bound_further x (xs ++ ys) n t ∙ r (sym (bound_further x xs n t) ∙ e)

sort_after : (xs ys : Binders) (n : Identifier) → binder_sort xs n ≡ None → binder_sort (xs ++ ys) n ≡ binder_sort ys n
sort_after [] ys n e = refl
sort_after (x ∷ xs) ys n e = by (bytes_eq x.name n) refl (λ k. sort_after xs ys n k)
  where
    by : (b : Bool) → bytes_eq x.name n ≡ b → (binder_sort xs n ≡ None → binder_sort (xs ++ ys) n ≡ binder_sort ys n) → binder_sort (x ∷ (xs ++ ys)) n ≡ binder_sort ys n
    by true t r = let z : Some x.sort ≡ None = sym (bound_here x xs n t) ∙ e in cc
    by false t r = bound_further x (xs ++ ys) n t ∙ r (sym (bound_further x xs n t) ∙ e)

not_there : (n : Identifier) (cs : List RawColumn) → AllByRecursion (λ d. n ≢ d.name) (map column_of cs) → binder_sort cs n ≡ None
not_there n [] h = refl
not_there n (c ∷ cs) h = bound_further c cs n (other_name c.name n (λ e. h.0 (sym e))) ∙ not_there n cs h.1

-- names that differ have the same sorts in both orders
pub turned_sort : (cs : List RawColumn) → HaveDistinctNames (map column_of cs) → (n : Identifier) → binder_sort (reverse cs) n ≡ binder_sort cs n
turned_sort [] h n = refl
turned_sort (c ∷ cs) h n = ap (λ l. binder_sort l n) (reverse-append (c ∷ []) cs) ∙ by (bytes_eq c.name n) refl (turned_sort cs h.1 n)
  where
    further : (o : Option Sort) → bytes_eq c.name n ≡ false → binder_sort (reverse cs) n ≡ o → binder_sort (reverse cs) n ≡ binder_sort cs n → binder_sort (reverse cs ++ c ∷ []) n ≡ binder_sort (c ∷ cs) n
    further (Some s) t e r = sort_front (reverse cs) (c ∷ []) n s e ∙ sym e ∙ r ∙ sym (bound_further c cs n t)
    further None t e r = sort_after (reverse cs) (c ∷ []) n e ∙ bound_further c [] n t ∙ sym e ∙ r ∙ sym (bound_further c cs n t)

    by : (b : Bool) → bytes_eq c.name n ≡ b → binder_sort (reverse cs) n ≡ binder_sort cs n → binder_sort (reverse cs ++ c ∷ []) n ≡ binder_sort (c ∷ cs) n
    by true t r =
        let none : binder_sort cs n ≡ None = subst (λ m. binder_sort cs m ≡ None) ((bytes_decides c.name n).0 t) (not_there c.name cs h.0) in
        sort_after (reverse cs) (c ∷ []) n (r ∙ none) ∙ bound_here c [] n t ∙ sym (bound_here c cs n t)
    by false t r = further (binder_sort (reverse cs) n) t refl r

-- ---- the sort of a name among columns

-- among those of binders it has the sort of its binder
pub sort_among : (bs : Binders) (n : Identifier) → option_map (λ c. c.sort) (find (λ c. bytes_eq c.name n) (map column_of bs)) ≡ binder_sort bs n
sort_among [] n = refl
sort_among (b ∷ bs) n = by (bytes_eq b.name n) (sort_among bs n)
  where
    by : (t : Bool) → option_map (λ c. c.sort) (find (λ c. bytes_eq c.name n) (map column_of bs)) ≡ binder_sort bs n
        → option_map (λ (c : Column). c.sort) (cond t (Some (column_of b)) (find (λ c. bytes_eq c.name n) (map column_of bs))) ≡ option_map (λ (c : RawColumn). c.sort) (cond t (Some b) (find (λ c. bytes_eq c.name n) bs))
    by true r = refl
    by false r = r

-- columns that give each name the sort that it has among the binders
abbrev pub AgreeOn : List Column → Binders → Type 0
AgreeOn columns bs = (n : Identifier) → option_map (λ c. c.sort) (find (λ c. bytes_eq c.name n) columns) ≡ binder_sort bs n

pub agree_more : (columns : List Column) (bs : Binders) → AgreeOn columns bs → (c : RawColumn) → AgreeOn (column_of c ∷ columns) (c ∷ bs)
agree_more columns bs h c n = by (bytes_eq c.name n)
  where
    by : (b : Bool) → option_map (λ (d : Column). d.sort) (cond b (Some (column_of c)) (find (λ d. bytes_eq d.name n) columns)) ≡ option_map (λ (d : RawColumn). d.sort) (cond b (Some c) (find (λ d. bytes_eq d.name n) bs))
    by true = refl
    by false = h n

-- the columns of a head without faults
pub head_agrees : (db : List Relation) (q : RawQuestion) → query_faults db q ≡ [] → AgreeOn (map column_of q.head) (reverse q.head)
head_agrees db q e = λ n. sort_among q.head n ∙ sym (turned_sort q.head (query_distinct db q e) n)
