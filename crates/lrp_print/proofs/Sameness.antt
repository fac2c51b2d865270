-- A relation whose offsets are taken modulo their periods holds the same.
use Rattle.std.proofs.Common.{◌≡◌, inl, inr, ℤ, List, [], ◌∷◌, map, refl, ap, sym, subst, Contains, arith}
use Rattle.std.specs.Prelude.{◌≤ℤ◌, ◌-ℤ◌, ◌+ℤ◌, pos, cond, Some, None}
use Rattle.std.proofs.lemmas.Int.{ints}
use Rattle.std.specs.Int.{int_rem_euclid}
use Rattle.std.specs.List.{AllByRecursion}
use Rattle.std.specs.Cmp.Lexicographic.{bytes_decides}
use Rattle.lrp_theory.specs.Divides.{Divides}
use Rattle.lrp_theory.proofs.Modulo.{Divides-+, Divides--, Divides-is, rem_divides}
use Rattle.lrp_model.specs.declared.relations.Value.{Value}
use Rattle.lrp_model.specs.declared.relations.Value.TheVariants.{Point, Const}
use Rattle.lrp_model.specs.declared.relations.Column.{Column}
use Rattle.lrp_model.specs.declared.relations.Row.{Row}
use Rattle.lrp_model.specs.declared.relations.Relation.{Relation}
use Rattle.lrp_model.specs.Rows.{Datum, time, text, IsOf, IsInRow, rows_in, rows_of}
use Rattle.lrp_model.proofs.Decided.{cons_cases, contains_first, contains_later, contains_none}
use Rattle.lrp_model.specs.Kept.{IsRowOf, IsKept}
use Rattle.lrp_print.specs.ReadBack.{IsSame, AreSame}
use Rattle.lrp_print.proofs.Trees.{IsReadable, values_readable}
use Rattle.lrp_print.proofs.Meant.{reduced_value, reduced_row, reduced}

-- ---- values

-- a member of a point is one of the reduced point
member_reduced : (c k x : ℤ) → pos 1 ≤ℤ k → Divides k (x -ℤ c) → Divides k (x -ℤ int_rem_euclid c k)
member_reduced c k x one h =
    let r = int_rem_euclid c k in
    let d = rem_divides k c r one refl in
    Divides-is k ((x -ℤ c) +ℤ (c -ℤ r)) (x -ℤ r) (omega (arith, ints)) (Divides-+ k (x -ℤ c) (c -ℤ r) h d)

-- and the other way round
member_whole : (c k x : ℤ) → pos 1 ≤ℤ k → Divides k (x -ℤ int_rem_euclid c k) → Divides k (x -ℤ c)
member_whole c k x one h =
    let r = int_rem_euclid c k in
    let d = rem_divides k c r one refl in
    Divides-is k ((x -ℤ r) -ℤ (c -ℤ r)) (x -ℤ c) (omega (arith, ints)) (Divides-- k (x -ℤ r) (c -ℤ r) h d)

-- a tuple of the values is one of the reduced values
values_reduced : (vs : List Value) (tuple : List Datum) → AllByRecursion IsReadable vs → IsOf vs tuple → IsOf (map reduced_value vs) tuple
values_reduced [] [] r h = tt
values_reduced [] (d ∷ tuple) r h = absurd h
values_reduced (Point p ∷ vs) [] r h = absurd h
values_reduced (Point p ∷ vs) (time x ∷ tuple) r h = (member_reduced p.offset p.period x r.0.0 h.0, values_reduced vs tuple r.1 h.1)
values_reduced (Point p ∷ vs) (text t ∷ tuple) r h = absurd h
values_reduced (Const c ∷ vs) [] r h = absurd h
values_reduced (Const c ∷ vs) (time x ∷ tuple) r h = absurd h
values_reduced (Const c ∷ vs) (text t ∷ tuple) r h = (h.0, values_reduced vs tuple r.1 h.1)

-- and the other way round
values_whole : (vs : List Value) (tuple : List Datum) → AllByRecursion IsReadable vs → IsOf (map reduced_value vs) tuple → IsOf vs tuple
values_whole [] [] r h = tt
values_whole [] (d ∷ tuple) r h = absurd h
values_whole (Point p ∷ vs) [] r h = absurd h
values_whole (Point p ∷ vs) (time x ∷ tuple) r h = (member_whole p.offset p.period x r.0.0 h.0, values_whole vs tuple r.1 h.1)
values_whole (Point p ∷ vs) (text t ∷ tuple) r h = absurd h
values_whole (Const c ∷ vs) [] r h = absurd h
values_whole (Const c ∷ vs) (time x ∷ tuple) r h = absurd h
values_whole (Const c ∷ vs) (text t ∷ tuple) r h = (h.0, values_whole vs tuple r.1 h.1)

-- ---- rows

-- some row has the tuple as a member
abbrev HeldBy : List Row → List Datum → Type 0
HeldBy rows tuple = (row : Row) × Contains rows row × IsInRow row tuple

-- a tuple of a row is one of the reduced row
row_reduced : (cs : List Column) (r : Row) (tuple : List Datum) → IsRowOf cs r → IsInRow r tuple → IsInRow (reduced_row r) tuple
row_reduced cs r tuple k h = record { values = values_reduced r.values tuple (values_readable cs r.values k.values) h.values; bounds = h.bounds }

-- and the other way round
row_whole : (cs : List Column) (r : Row) (tuple : List Datum) → IsRowOf cs r → IsInRow (reduced_row r) tuple → IsInRow r tuple
row_whole cs r tuple k h = record { values = values_whole r.values tuple (values_readable cs r.values k.values) h.values; bounds = h.bounds }

-- what rows hold the reduced rows hold
rows_reduced : (cs : List Column) (rows : List Row) (tuple : List Datum) → AllByRecursion (IsRowOf cs) rows → HeldBy rows tuple → HeldBy (map reduced_row rows) tuple
rows_reduced cs [] tuple k h = absurd (contains_none h.0 h.1)
rows_reduced cs (r ∷ rows) tuple k h =
    elim (cons_cases r h.0 rows h.1) [
      | inl e ↦ (reduced_row r, contains_first (reduced_row r) (map reduced_row rows), row_reduced cs r tuple k.0 (subst (λ x. IsInRow x tuple) (sym e) h.2))
      | inr c ↦ let n = rows_reduced cs rows tuple k.1 (h.0, c, h.2) in (n.0, contains_later (reduced_row r) n.0 (map reduced_row rows) n.1, n.2)
    ]

-- and the other way round
rows_whole : (cs : List Column) (rows : List Row) (tuple : List Datum) → AllByRecursion (IsRowOf cs) rows → HeldBy (map reduced_row rows) tuple → HeldBy rows tuple
rows_whole cs [] tuple k h = absurd (contains_none h.0 h.1)
rows_whole cs (r ∷ rows) tuple k h =
    elim (cons_cases (reduced_row r) h.0 (map reduced_row rows) h.1) [
      | inl e ↦ (r, contains_first r rows, row_whole cs r tuple k.0 (subst (λ x. IsInRow x tuple) (sym e) h.2))
      | inr c ↦ let n = rows_whole cs rows tuple k.1 (h.0, c, h.2) in (n.0, contains_later r n.0 rows n.1, n.2)
    ]

-- ---- relations

-- a relation by its own name
own_rows : (r : Relation) → rows_of (r ∷ []) r.name ≡ r.rows
own_rows r = ap (λ b. rows_in (cond b (Some r) None)) ((bytes_decides r.name r.name).1 refl)

-- a relation and the reduced one hold the same
pub reduced_same : (r : Relation) → IsKept r → IsSame r (reduced r)
reduced_same r k = record {
  name = refl;
  columns = refl;
  tuples = λ tuple. (
    λ h. subst (λ rows. HeldBy rows tuple) (sym (own_rows (reduced r))) (rows_reduced r.columns r.rows tuple k.rows (subst (λ rows. HeldBy rows tuple) (own_rows r) h)),
    λ h. subst (λ rows. HeldBy rows tuple) (sym (own_rows r)) (rows_whole r.columns r.rows tuple k.rows (subst (λ rows. HeldBy rows tuple) (own_rows (reduced r)) h)),
  );
}

-- relations, one by one
pub all_same : (rs : List Relation) → AllByRecursion IsKept rs → AreSame rs (map reduced rs)
all_same [] k = tt
all_same (r ∷ rs) k = (reduced_same r k.0, all_same rs k.1)
