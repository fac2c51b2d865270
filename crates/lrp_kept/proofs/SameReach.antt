-- The reach of the disjuncts as they are derived is the kept reach of the query.
use Rattle.std.proofs.Common.{◌≡◌, ◌≢◌, ◌+◌, ◌*◌, ◌^◌, ℕ, zero, suc, Bool, true, false, cond, List, [], ◌∷◌, ◌++◌, length, map, flat_map, filter, Option, Some, None, refl, sym, ap, ap₂, subst, ◌∙◌, bytes_eq, arith}
use Rattle.std.specs.Prelude.{if◌then◌else◌, slice_get, slice_index_or}
use Rattle.std.specs.List.{AllZip}
use Rattle.std.proofs.lemmas.List.Sums.{sum_by_push}
use Rattle.lrp_model.specs.Formulas.{Form, Question, atom, test, sorted, negation, conjunction, disjunction, implication, exists, forall}
use Rattle.lrp_model.specs.Reach.{greatest, test_reach, term_magnitudes}
use Rattle.lrp_model.specs.Sorts.{is_time, time_count}
use Rattle.lrp_model.specs.Texts.{AreDistinct, Identifier}
use Rattle.lrp_model.specs.Variables.{Variable, bound_by}
use Rattle.lrp_model.specs.declared.relations.Column.{Column}
use Rattle.lrp_model.specs.declared.relations.Sort.{Sort}
use Rattle.lrp_model.specs.declared.relations.Sort.TheVariants.{Time, Data, Named}
use Rattle.lrp_plan_laws.specs.Atoms.{Atom, atoms}
use Rattle.lrp_plan_laws.proofs.CoreLaws.{own_name}
use Rattle.lrp_plan_laws.proofs.HeadLaws.{other_name}
use Rattle.lrp_plan_laws.proofs.Members.{all_of}
use Rattle.lrp_cutting.proofs.Lists.{got_in}
use Rattle.lrp_kept.specs.Choices.{disjunct_tests, listed_disjuncts}
use Rattle.lrp_kept.specs.Disjuncts.{AreDisjunctsOf, IsAtomOf, IsDisjunctOf, bound_columns}
use Rattle.lrp_kept.specs.Held.{greatest_bounds, relations_of}
use Rattle.lrp_kept.specs.KeptForm.{bound_variables}
use Rattle.lrp_kept.specs.Limits.{atom_reach, disjunct_reach, is_of_time, kept_reach, time_quantifiers, number_beside}
use Rattle.lrp_kept.specs.Sizes.{joined_reach, reach_in, reach_over}
use Rattle.lrp_kept.specs.declared.disjuncts.Disjunct.{Disjunct}
use Rattle.lrp_kept.specs.declared.disjuncts.JoinedAtom.{JoinedAtom}
use Rattle.lrp_kept.specs.declared.rows.HeldRelation.{HeldRelation}
use Rattle.lrp_kept.specs.declared.rows.HeldRow.{HeldRow}
use Rattle.lrp_kept.proofs.JoinedUp.{same_some}

none_is : {X : Type 0} (x : X) → None ≡ Some x → ⊥
none_is x e = cc

maps_same : {X Y : Type 0} (R : X → Y → Type 0) (f : X → ℕ) (g : Y → ℕ) (xs : List X) (ys : List Y) → AllZip R xs ys → ((x : X) (y : Y) → R x y → f x ≡ g y) → map f xs ≡ map g ys
maps_same R f g [] [] z each = refl
maps_same R f g [] (y ∷ ys) z each = absurd z
maps_same R f g (x ∷ xs) [] z each = absurd z
maps_same R f g (x ∷ xs) (y ∷ ys) z each = ap₂ (λ n ns. n ∷ ns) (each x y z.0) (maps_same R f g xs ys z.1 each)

lengths_same : {X Y : Type 0} (R : X → Y → Type 0) (xs : List X) (ys : List Y) → AllZip R xs ys → length xs ≡ length ys
lengths_same R [] [] z = refl
lengths_same R [] (y ∷ ys) z = absurd z
lengths_same R (x ∷ xs) [] z = absurd z
lengths_same R (x ∷ xs) (y ∷ ys) z = ap (λ n. suc n) (lengths_same R xs ys z.1)

-- ---- bound variables of time

counted : (c : Column) (xs : List Column) → time_count (xs ++ c ∷ []) ≡ cond (is_time c.sort) 1 0 + time_count xs
counted c xs = let r : time_count (xs ++ c ∷ []) ≡ time_count xs + cond (is_time c.sort) 1 0 = sum_by_push (λ (x : Column). cond (is_time x.sort) 1 0) xs c in omega (arith, r)

one_more : (s : Sort) (v : Identifier) (vs : List Variable) → length (filter is_of_time (bound_by s v ∷ vs)) ≡ cond (is_time s) 1 0 + length (filter is_of_time vs)
one_more Time v vs = omega arith
one_more Data v vs = omega arith
one_more (Named n) v vs = omega arith

pub same_quantifiers : (f : Form) → time_quantifiers f ≡ time_count (bound_columns f)
same_quantifiers (exists v s f) =
    let a : time_quantifiers (exists v s f) ≡ cond (is_time s) 1 0 + time_quantifiers f = one_more s v (bound_variables f) in
    let b : time_count (bound_columns (exists v s f)) ≡ cond (is_time s) 1 0 + time_count (bound_columns f) = counted (record { name = v; sort = s }) (bound_columns f) in
    a ∙ ap (λ n. cond (is_time s) 1 0 + n) (same_quantifiers f) ∙ sym b
same_quantifiers (conjunction fs) = refl
same_quantifiers (atom name terms) = refl
same_quantifiers (test t) = refl
same_quantifiers (sorted s v) = refl
same_quantifiers (negation f) = refl
same_quantifiers (disjunction fs) = refl
same_quantifiers (implication f g) = refl
same_quantifiers (forall v s f) = refl

module _ (sources : ℕ → Option HeldRow) where
  -- ---- the numbers beside relations

  number_is : (rs : List HeldRelation) (i : ℕ) (name : Identifier) → AreDistinct (map (λ (r : HeldRelation). r.name) rs) → slice_get (map (λ (r : HeldRelation). r.name) rs) i ≡ Some name → number_beside (relations_of sources rs) (greatest_bounds rs) name ≡ slice_index_or (greatest_bounds rs) i 0
  number_is [] i name d e = absurd (none_is name e)
  number_is (h ∷ rs) zero name d e = subst (λ n. number_beside (relations_of sources (h ∷ rs)) (greatest_bounds (h ∷ rs)) n ≡ h.most) (same_some h.name name e) (by (bytes_eq h.name h.name) (own_name h.name))
    where
      by : (b : Bool) → b ≡ true → (if b then h.most else number_beside (relations_of sources rs) (greatest_bounds rs) h.name) ≡ h.most
      by true t = refl
      by false t = cc
  number_is (h ∷ rs) (suc i) name d e = by (bytes_eq h.name name) (other_name h.name name (λ same. all_of (λ m. h.name ≢ m) (map (λ (r : HeldRelation). r.name) rs) name d.0 (got_in (map (λ (r : HeldRelation). r.name) rs) i name e) (sym same))) (number_is rs i name d.1 e)
    where
      by : (b : Bool) → b ≡ false → number_beside (relations_of sources rs) (greatest_bounds rs) name ≡ slice_index_or (greatest_bounds rs) i 0 → (if b then h.most else number_beside (relations_of sources rs) (greatest_bounds rs) name) ≡ slice_index_or (greatest_bounds rs) i 0
      by true t rest = cc
      by false t rest = rest

  module _ (rs : List HeldRelation) (distinct : AreDistinct (map (λ (r : HeldRelation). r.name) rs)) (period : ℕ) where
    abbrev names : List Identifier
    names = map (λ (r : HeldRelation). r.name) rs

    atom_is : (a : Atom) (j : JoinedAtom) → IsAtomOf names a j → atom_reach (relations_of sources rs) (greatest_bounds rs) period a ≡ joined_reach (greatest_bounds rs) period j
    atom_is a j is = ap₂ (λ n ts. n + 2 * greatest (flat_map term_magnitudes ts) + period) (number_is rs j.relation a.name distinct is.name) (sym is.terms)

    reach_is : (f : Form) (d : Disjunct) → IsDisjunctOf names f d → disjunct_reach (relations_of sources rs) (greatest_bounds rs) period f ≡ reach_in (greatest_bounds rs) period d
    reach_is f d is = ap₂ (λ xs ts. greatest (xs ++ map test_reach ts)) (maps_same (IsAtomOf names) (atom_reach (relations_of sources rs) (greatest_bounds rs) period) (joined_reach (greatest_bounds rs) period) (atoms f) d.atoms.items is.atoms_are atom_is) (sym is.tests_are)

    pub kept_reach_is : (q : Question) (ds : List Disjunct) → AreDisjunctsOf names q ds → kept_reach (relations_of sources rs) (greatest_bounds rs) period q ≡ reach_over (greatest_bounds rs) period ds
    kept_reach_is q ds all =
        let fs = listed_disjuncts q in
        let r = ap greatest (maps_same (IsDisjunctOf names) (disjunct_reach (relations_of sources rs) (greatest_bounds rs) period) (reach_in (greatest_bounds rs) period) fs ds all.each reach_is) in
        let n = ap greatest (maps_same (IsDisjunctOf names) (λ f. length (atoms f)) (λ d. length d.atoms.items) fs ds all.each (λ f d is. lengths_same (IsAtomOf names) (atoms f) d.atoms.items is.atoms_are)) in
        let t = ap greatest (maps_same (IsDisjunctOf names) (λ f. length (disjunct_tests f)) (λ d. length d.tests) fs ds all.each (λ f d is. ap length (sym is.tests_are))) in
        let b = ap greatest (maps_same (IsDisjunctOf names) time_quantifiers (λ d. time_count d.bound) fs ds all.each (λ f d is. same_quantifiers f ∙ ap time_count (sym is.bound_are))) in
        ap₂ (λ x y. x * 2 ^ y) (ap₂ (λ x y. x + y * period) r (ap₂ (λ x y. x + y) n t)) b
