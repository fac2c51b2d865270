-- Relations by their names, and why no text has the sort of times.
use Rattle.std.proofs.Common.{◌≡◌, ◌≢◌, ◌<◌, ◌+◌, ℕ, zero, suc, Bool, true, false, ◌||◌, if◌then◌else◌, List, [], ◌∷◌, ◌++◌, length, map, filter, get_or, take, find, slice_get, Some, None, refl, sym, ap, ◌∙◌, arith, add-one}
use Rattle.std.specs.List.{list_any, flat_map, AllByRecursion}
use Rattle.std.specs.Str.{bytes_eq}
use Rattle.std.specs.Cmp.Lexicographic.{bytes_decides}
use Rattle.std.proofs.lemmas.Cmp.{nat_list_eq_equiv}
use Rattle.std.proofs.lemmas.List.Elements.{filter-append}
use Rattle.std.proofs.lemmas.Option.{get_or_from_slice_get, slice_get_within}
use Rattle.std.proofs.Math.Seq.{take-suc}
use Rattle.indexmap.specs.IndexSet.{insert_key}
use Rattle.lrp_model.specs.Texts.{Text, Identifier, AreDistinct}
use Rattle.lrp_model.specs.Sorts.{same_sort}
use Rattle.lrp_model.specs.Domains.{row_texts, database_texts}
use Rattle.lrp_model.specs.declared.relations.Sort.{Sort}
use Rattle.lrp_model.specs.declared.relations.Sort.TheVariants.{Time}
use Rattle.lrp_model.specs.declared.relations.Column.{Column}
use Rattle.lrp_model.specs.declared.relations.Value.{Value}
use Rattle.lrp_model.specs.declared.relations.Value.TheVariants.{Point, Const}
use Rattle.lrp_model.specs.declared.relations.Relation.{Relation}
use Rattle.lrp_model.specs.Kept.{AreValuesOf, IsRowOf, IsKept}
use Rattle.lrp_model.proofs.Everywhere.{all_at, all_as}
use Rattle.lrp_database.proofs.SeenLemmas.{IsFirst, neither}

-- a test that passes nothing of each part passes nothing of the whole
none_of_each : {A B : Type 0} (p : B → Bool) (f : A → List B) (xs : List A) → AllByRecursion (λ x. filter p (f x) ≡ []) xs → filter p (flat_map f xs) ≡ []
none_of_each p f [] h = refl
none_of_each p f (x ∷ xs) h = filter-append p (f x) (flat_map f xs) ∙ ap (λ l. l ++ filter p (flat_map f xs)) h.0 ∙ none_of_each p f xs h.1

-- the test for the sort of times
abbrev pub has_time : Sort × Text → Bool
has_time entry = same_sort entry.0 Time

-- the texts of a row stand in columns of data sorts
no_times_in_row : (cs : List Column) (vs : List Value) → AreValuesOf cs vs → filter has_time (row_texts cs vs) ≡ []
no_times_in_row [] [] h = refl
no_times_in_row [] (v ∷ vs) h = absurd h
no_times_in_row (c ∷ cs) [] h = absurd h
no_times_in_row (c ∷ cs) (Point p ∷ vs) h = no_times_in_row cs vs h.1
no_times_in_row (c ∷ cs) (Const t ∷ vs) h =
    ap (λ b. if b then (c.sort, t) ∷ filter has_time (row_texts cs vs) else filter has_time (row_texts cs vs)) h.0.0 ∙ no_times_in_row cs vs h.1

-- no text of kept relations has the sort of times
pub no_times : (rs : List Relation) → AllByRecursion IsKept rs → filter has_time (database_texts rs) ≡ []
no_times rs h =
    none_of_each has_time (λ r. flat_map (λ row. row_texts r.columns row.values) r.rows) rs
    (all_as IsKept (λ r. filter has_time (flat_map (λ row. row_texts r.columns row.values) r.rows) ≡ []) (λ r k.
    none_of_each has_time (λ row. row_texts r.columns row.values) r.rows
    (all_as (IsRowOf r.columns) (λ row. filter has_time (row_texts r.columns row.values) ≡ []) (λ row w. no_times_in_row r.columns row.values w.values) r.rows k.rows)) rs h)

-- two names that differ are not one by their bytes
apart : (m n : Identifier) (b : Bool) → bytes_eq n m ≡ b → m ≢ n → b ≡ false
apart m n true e differ = absurd (differ (sym ((bytes_decides n m).0 e)))
apart m n false e differ = refl

-- a name does not stand among those before it
not_before : (ns : List Identifier) (i : ℕ) (n : Identifier) → AreDistinct ns → i < length ns → n ≡ get_or ns i n → list_any (bytes_eq n) (take i ns) ≡ false
not_before [] i n d lt e = absurd (omega (arith, lt))
not_before (m ∷ ns) zero n d lt e = refl
not_before (m ∷ ns) (suc i) n d lt e =
    let other : m ≢ n = all_at (λ k. m ≢ k) ns i n d.0 (omega (arith, lt)) e in
    ap (λ b. b || list_any (bytes_eq n) (take i ns)) (apart m n (bytes_eq n m) refl other) ∙ not_before ns i n d.1 (omega (arith, lt)) e

-- the next name goes after those before it
pub next_name : (ns : List Identifier) (i : ℕ) (n : Identifier) → AreDistinct ns → i < length ns → n ≡ get_or ns i n → insert_key bytes_eq (take i ns) n ≡ take (i + 1) ns
next_name ns i n d lt e =
    ap (λ b. if b then take i ns else take i ns ++ n ∷ []) (not_before ns i n d lt e)
    ∙ ap (λ m. take i ns ++ m ∷ []) e ∙ sym (take-suc ns i n lt) ∙ ap (λ k. take k ns) (sym (add-one i))

-- the relation at the first place of a name is that of the name
pub named_found : (rs : List Relation) (i : ℕ) (name : Identifier) (r : Relation) → IsFirst (bytes_eq name) (map (λ x. x.name) rs) i → get_or rs i r ≡ r → find (λ x. bytes_eq x.name name) rs ≡ Some r
named_found [] i name r first e = absurd first
named_found (x ∷ rs) zero name r first e =
    ap (λ b. if b then Some x else find (λ y. bytes_eq y.name name) rs) (nat_list_eq_equiv.symm x.name name ∙ first) ∙ ap Some e
named_found (x ∷ rs) (suc i) name r first e =
    ap (λ b. if b then Some x else find (λ y. bytes_eq y.name name) rs) (nat_list_eq_equiv.symm x.name name ∙ first.0) ∙ named_found rs i name r first.1 e

-- there is no relation of a name that is not there
pub named_none : (rs : List Relation) (name : Identifier) → list_any (bytes_eq name) (map (λ x. x.name) rs) ≡ false → find (λ x. bytes_eq x.name name) rs ≡ None
named_none [] name h = refl
named_none (x ∷ rs) name h =
    let both = neither (bytes_eq name x.name) (list_any (bytes_eq name) (map (λ y. y.name) rs)) h in
    ap (λ b. if b then Some x else find (λ y. bytes_eq y.name name) rs) (nat_list_eq_equiv.symm x.name name ∙ both.0) ∙ named_none rs name both.1

-- what holds of each element holds of the one that a look-up by index gives
pub all_got : {A : Type 0} (P : A → Type 0) (xs : List A) (i : ℕ) (a : A) → AllByRecursion P xs → slice_get xs i ≡ Some a → P a
all_got P xs i a h e = all_at P xs i a h (slice_get_within xs i a e) (sym (get_or_from_slice_get xs i a a e))
