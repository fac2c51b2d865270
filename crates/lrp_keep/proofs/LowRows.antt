-- The bounds of held rows are no greater than the numbers beside their relations.
use Rattle.std.proofs.Common.{◌≡◌, ◌<◌, ◌≤◌, ◌+◌, ℕ, zero, suc, List, [], ◌∷◌, length, Contains, inl, inr, Option, Some, None, refl, sym, ap, subst, arith}
use Rattle.std.specs.Prelude.{◌-◌, slice_get, slice_index_or}
use Rattle.slab.specs.Slab.{get}
use Rattle.lrp_model.specs.Formulas.{Question}
use Rattle.lrp_model.specs.Texts.{AreDistinct}
use Rattle.lrp_model.proofs.Decided.{cons_cases, contains_none}
use Rattle.lrp_steps.specs.Rows.{bounds_reach}
use Rattle.lrp_cutting.proofs.Lists.{got_in}
use Rattle.lrp_parts.specs.Derivations.{Ground, HoldsIn, Levels}
use Rattle.lrp_kept.specs.Keys.{keys_in}
use Rattle.lrp_kept.specs.Disjuncts.{AreDisjunctsOf}
use Rattle.lrp_kept.specs.Held.{AreLowRows, greatest_bounds, names_of, relations_of}
use Rattle.lrp_kept.specs.Limits.{kept_reach, row_bound}
use Rattle.lrp_kept.specs.Sizes.{joined_reach, reach_over}
use Rattle.lrp_keep.specs.Taken.{HeldHaveReach}
use Rattle.lrp_keep.specs.Unions.{AreDerived}
use Rattle.lrp_kept.specs.declared.disjuncts.Disjunct.{Disjunct}
use Rattle.lrp_kept.specs.declared.disjuncts.JoinedAtom.{JoinedAtom}
use Rattle.lrp_kept.specs.declared.rows.HeldRelation.{HeldRelation}
use Rattle.lrp_keep.proofs.Reaching.{HaveLowRows, low_answers}
use Rattle.lrp_kept.proofs.SameReach.{kept_reach_is}
use Rattle.lrp_holdings.proofs.Chained.{none_some, some_is}
use Rattle.lrp_plan_laws.proofs.Elements.{found}

pub most_at : (rs : List HeldRelation) (i : ℕ) (r : HeldRelation) → slice_get rs i ≡ Some r → slice_index_or (greatest_bounds rs) i 0 ≡ r.most
most_at [] i r e = absurd (none_some r e)
most_at (h ∷ rs) zero r e = ap (λ (x : HeldRelation). x.most) (some_is h r e)
most_at (h ∷ rs) (suc i) r e = most_at rs i r e

pub low_rows : (g : Ground) (atoms : List JoinedAtom) → AreLowRows g.rows → HaveLowRows g (greatest_bounds g.rows.relations.items) atoms
low_rows g atoms low a key s i k e = by (slice_get g.rows.relations.items a.relation) refl
  where
    by : (o : Option HeldRelation) → slice_get g.rows.relations.items a.relation ≡ o → bounds_reach s.row.bounds a.terms + g.period ≤ joined_reach (greatest_bounds g.rows.relations.items) g.period a
    by None none = absurd (contains_none key (subst (λ x. Contains (keys_in x) key) none k))
    by (Some r) at =
        let l : row_bound s.row ≤ r.most = low a.relation key r s at (subst (λ x. Contains (keys_in x) key) at k) e in
        let m : slice_index_or (greatest_bounds g.rows.relations.items) a.relation 0 ≡ r.most = most_at g.rows.relations.items a.relation r at in
        omega (arith, l, m)

place_of : {X : Type 0} (xs : List X) (x : X) → Contains xs x → (i : ℕ) × (slice_get xs i ≡ Some x) × (i < length xs)
place_of [] x c = absurd (contains_none x c)
place_of (y ∷ xs) x c = elim (cons_cases y x xs c) [
  | inl e ↦ (0, ap (λ z. Some z) e, omega arith)
  | inr d ↦ let r = place_of xs x d in (suc r.0, r.1, let l : r.0 < length xs = r.2 in omega (arith, l))
]

-- what is held of whole choices has at most the kept reach of the query
pub kept_low : (g : Ground) (q : Question) (ds : List Disjunct) (all : List Levels) → AreDistinct (names_of g.rows) → AreDisjunctsOf (names_of g.rows) q ds → AreDerived g ds all → AreLowRows g.rows → ((i : ℕ) (d : Disjunct) → slice_get ds i ≡ Some d → 0 < length d.atoms.items)
    → (levels : Levels) → Contains all levels → HeldHaveReach (HoldsIn levels (length levels - 1)) (kept_reach (relations_of (get g.rows.sources) g.rows.relations.items) (greatest_bounds g.rows.relations.items) g.period q)
kept_low g q ds all distinct are derived low some levels c =
    let at = place_of all levels c in
    let n : length all ≡ length ds = derived.count in
    let within : at.0 < length all = at.2 in
    let d = found ds at.0 (omega (arith, n, within)) in
    let held : HeldHaveReach (HoldsIn levels (length levels - 1)) (reach_over (greatest_bounds g.rows.relations.items) g.period ds) =
    low_answers g (greatest_bounds g.rows.relations.items) ds d.0 (got_in ds at.0 d.0 d.1) (some at.0 d.0 d.1) (low_rows g d.0.atoms.items low) levels (derived.each at.0 d.0 levels d.1 at.1).sound in
    subst (λ r. HeldHaveReach (HoldsIn levels (length levels - 1)) r) (sym (kept_reach_is (get g.rows.sources) g.rows.relations.items distinct g.period q ds are)) held
