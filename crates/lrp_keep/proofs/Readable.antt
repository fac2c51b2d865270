-- A row that can be held can be read by each atom of its relation, within the limits.
use Rattle.std.proofs.Common.{◌≡◌, ◌≤◌, ◌+◌, ◌^◌, ℕ, suc, List, [], ◌∷◌, length, flat_map, Contains, Some, refl, sym, ap, subst, ◌∙◌, arith}
use Rattle.std.specs.Prelude.{ℤ, pos, ◌≤ℤ◌, nat_abs, slice_get}
use Rattle.std.specs.List.{AllByRecursion, AllZip}
use Rattle.std.proofs.lemmas.Int.{ints}
use Rattle.slab.specs.Slab.{get}
use Rattle.lrp_theory.specs.Divides.{Divides, IsMultiple}
use Rattle.lrp_theory.proofs.Multiples.{Divides-trans, multiple_le}
use Rattle.lrp_model.specs.Periods.{value_periods, row_periods}
use Rattle.lrp_model.specs.Texts.{Identifier, Text}
use Rattle.lrp_model.specs.declared.formulas.Term.{Term}
use Rattle.lrp_model.specs.declared.formulas.Test.{Test}
use Rattle.lrp_model.specs.declared.relations.Column.{Column}
use Rattle.lrp_model.specs.declared.relations.Row.{Row}
use Rattle.lrp_model.specs.declared.relations.Value.{Value}
use Rattle.lrp_model.specs.declared.relations.Value.TheVariants.{Point, Const}
use Rattle.lrp_tables.specs.Calls.{CanBeCarried, test_period}
use Rattle.lrp_steps.specs.Rows.{CanBeRead, DividesPeriod, HasSmallPeriod, bounds_reach}
use Rattle.lrp_kept.specs.Held.{AreLowRows, greatest_bounds}
use Rattle.lrp_kept.specs.Keys.{keys_of}
use Rattle.lrp_kept.specs.Outlines.{IsOutlineFor}
use Rattle.lrp_kept.specs.Sizes.{joined_reach}
use Rattle.lrp_kept.specs.declared.disjuncts.Disjunct.{Disjunct}
use Rattle.lrp_kept.specs.declared.disjuncts.JoinedAtom.{JoinedAtom}
use Rattle.lrp_kept.specs.declared.rows.Sketch.{Sketch}
use Rattle.lrp_kept.specs.declared.rows.HeldRow.{HeldRow}
use Rattle.lrp_parts.specs.Derivations.{Ground}
use Rattle.lrp_keep.specs.Keeps.{CanBeHeld, CanStandAlone}
use Rattle.lrp_kept.specs.Sketches.{AreSketchesOf, IsSketchAmong}
use Rattle.lrp_keep.proofs.Deriving.{IsReadable}
use Rattle.lrp_keep.proofs.LowRows.{low_rows}
use Rattle.lrp_holdings.proofs.Chained.{some_is}
use Rattle.lrp_store.proofs.Held.{Contains-from_get}
use Rattle.lrp_tables.proofs.Joining.{place_in}
use Rattle.lrp_steps.proofs.Steps.{abs_is}

-- ---- periods

at_most : (z : ℤ) (n : ℕ) → nat_abs z ≤ n → z ≤ℤ pos n
at_most z n h = omega (arith, ints, h)

-- points stand in their columns with periods of at least 1
values_divide : (domain : List Text) (K : ℕ) (cs : List Column) (vs : List Value) → AllZip (CanStandAlone domain) cs vs → AllByRecursion (λ k. IsMultiple k K) (flat_map value_periods vs) → AllByRecursion (DividesPeriod (pos K)) vs
values_divide domain K [] [] h m = tt
values_divide domain K [] (v ∷ vs) h m = absurd h
values_divide domain K (c ∷ cs) [] h m = absurd h
values_divide domain K (c ∷ cs) (Point at ∷ vs) h m = ((h.0.1, subst (λ z. Divides z (pos K)) (abs_is at.period h.0.1) m.0), values_divide domain K cs vs h.1 m.1)
values_divide domain K (c ∷ cs) (Const t ∷ vs) h m = (tt, values_divide domain K cs vs h.1 m)

values_small : (domain : List Text) (K : ℕ) (cs : List Column) (vs : List Value) → 1 ≤ K → K ≤ 2 ^ 62 → AllZip (CanStandAlone domain) cs vs → AllByRecursion (λ k. IsMultiple k K) (flat_map value_periods vs) → AllByRecursion HasSmallPeriod vs
values_small domain K [] [] low high h m = tt
values_small domain K [] (v ∷ vs) low high h m = absurd h
values_small domain K (c ∷ cs) [] low high h m = absurd h
values_small domain K (c ∷ cs) (Point at ∷ vs) low high h m =
    let l : nat_abs at.period ≤ K = multiple_le (nat_abs at.period) K low m.0 in
    ((h.0.1, at_most at.period (2 ^ 62) (omega (arith, l, high))), values_small domain K cs vs low high h.1 m.1)
values_small domain K (c ∷ cs) (Const t ∷ vs) low high h m = (tt, values_small domain K cs vs low high h.1 m)

-- and so the periods of a row are at least 1
pub low_periods : (domain : List Text) (cs : List Column) (vs : List Value) → AllZip (CanStandAlone domain) cs vs → AllByRecursion (λ k. 1 ≤ k) (flat_map value_periods vs)
low_periods domain [] [] h = tt
low_periods domain [] (v ∷ vs) h = absurd h
low_periods domain (c ∷ cs) [] h = absurd h
low_periods domain (c ∷ cs) (Point at ∷ vs) h = (low at.period h.0.1, low_periods domain cs vs h.1)
  where
    low : (z : ℤ) → pos 1 ≤ℤ z → 1 ≤ nat_abs z
    low z l = omega (arith, ints)
low_periods domain (c ∷ cs) (Const t ∷ vs) h = low_periods domain cs vs h.1

pub zip_count : {X Y : Type 0} (R : X → Y → Type 0) (xs : List X) (ys : List Y) → AllZip R xs ys → length ys ≡ length xs
zip_count R [] [] z = refl
zip_count R [] (y ∷ ys) z = absurd z
zip_count R (x ∷ xs) [] z = absurd z
zip_count R (x ∷ xs) (y ∷ ys) z = ap suc (zip_count R xs ys z.1)

-- ---- rows

-- a row of the columns, whose periods have the multiple K
pub can_be_read : (domain : List Text) (columns : List Column) (row : Row) (terms : List Term) (K : ℕ) → CanBeHeld domain columns row → length terms ≡ length columns → 1 ≤ K → K ≤ 2 ^ 62 → AllByRecursion (λ k. IsMultiple k K) (row_periods row) → bounds_reach row.bounds terms + K ≤ 2 ^ 62 → CanBeRead terms row
can_be_read domain columns row terms K fits count low high multiples room = record {
  count = zip_count (CanStandAlone domain) columns row.values fits.values ∙ sym count;
  values = values_small domain K columns row.values low high fits.values multiples;
  room = omega (arith, low, room);
}

-- the sketch for an atom of the row is an outline of it
pub sketched_for : (domain : List Text) (ds : List Disjunct) → ((i : ℕ) (d : Disjunct) → slice_get ds i ≡ Some d → d.number ≡ i) → (relation : ℕ) (row : Row) (all : List Sketch) → AreSketchesOf domain ds relation row all
    → (d : Disjunct) → Contains ds d → (i : ℕ) (a : JoinedAtom) → slice_get d.atoms.items i ≡ Some a → (s : Sketch) → Contains all s → s.disjunct ≡ d.number → s.atom ≡ i → IsOutlineFor domain a.vars a.terms row s.outline
sketched_for domain ds numbered relation row all are d listed i a at s c number place =
    let w : IsSketchAmong domain ds relation row s = are s c in
    let p = place_in ds w.disjunct w.listed in
    let r = place_in ds d listed in
    let same_place : p.0 ≡ r.0 = sym (numbered p.0 w.disjunct p.1) ∙ sym w.is.disjunct_is ∙ number ∙ numbered r.0 d r.1 in
    let same : w.disjunct ≡ d = some_is w.disjunct d (sym p.1 ∙ ap (slice_get ds) same_place ∙ r.1) in
    let here : w.atom ≡ i = sym w.is.atom_is ∙ place in
    w.is.outline a (ap (λ (e : Disjunct). slice_get e.atoms.items w.atom) same ∙ ap (slice_get d.atoms.items) here ∙ at)

-- ---- the row under a key

module _ (g : Ground) (ds : List Disjunct) (numbered : (i : ℕ) (d : Disjunct) → slice_get ds i ≡ Some d → d.number ≡ i) (low : AreLowRows g.rows) (positive : 1 ≤ g.period) (high : g.period ≤ 2 ^ 62) where
  pub readable : (d : Disjunct) → Contains ds d → (i : ℕ) (a : JoinedAtom) (key : ℕ) (source : HeldRow) (columns : List Column) → slice_get d.atoms.items i ≡ Some a → Contains (keys_of g.rows a.relation) key → get g.rows.sources key ≡ Some source
      → CanBeHeld g.domain columns source.row → length a.terms ≡ length columns → AllByRecursion (λ k. IsMultiple k g.period) (row_periods source.row) → joined_reach (greatest_bounds g.rows.relations.items) g.period a ≤ 2 ^ 62
      → AreSketchesOf g.domain ds a.relation source.row source.sketches.items → IsReadable g (greatest_bounds g.rows.relations.items) d i a key
  readable d listed i a key source columns at c held fits count multiples room sketches =
      let l : bounds_reach source.row.bounds a.terms + g.period ≤ joined_reach (greatest_bounds g.rows.relations.items) g.period a = low_rows g d.atoms.items low a key source (Contains-from_get d.atoms.items i a at) c held in
      record {
        source = source;
        held = held;
        read = can_be_read g.domain columns source.row a.terms g.period fits count positive high multiples (omega (arith, l, room));
        periods = values_divide g.domain g.period columns source.row.values fits.values multiples;
        low = l;
        sketched = λ s k e f. sketched_for g.domain ds numbered a.relation source.row source.sketches.items sketches d listed i a at s k e f;
      }

-- ---- in cells of a greater period

pub divides_further : (k l : ℕ) (vs : List Value) → IsMultiple k l → AllByRecursion (DividesPeriod (pos k)) vs → AllByRecursion (DividesPeriod (pos l)) vs
divides_further k l [] m h = tt
divides_further k l (Point at ∷ vs) m h = ((h.0.0, Divides-trans at.period (pos k) (pos l) h.0.1 m), divides_further k l vs m h.1)
divides_further k l (Const t ∷ vs) m h = (tt, divides_further k l vs m h.1)

pub carried_further : (times texts : List Identifier) (k l : ℕ) (ts : List Test) → IsMultiple k l → AllByRecursion (CanBeCarried times texts (pos k)) ts → AllByRecursion (CanBeCarried times texts (pos l)) ts
carried_further times texts k l [] m h = tt
carried_further times texts k l (t ∷ ts) m h = (record { times_known = h.0.times_known; texts_known = h.0.texts_known; low = h.0.low; divides = Divides-trans (test_period t) (pos k) (pos l) h.0.divides m }, carried_further times texts k l ts m h.1)
