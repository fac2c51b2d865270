-- The zone of a row's bounds.
use Rattle.std.proofs.Common.{◌≡◌, ℕ, ◌+◌, ◌-◌, ◌<◌, ◌≤◌, ◌^◌, inl, List, length, Option, None, Some, refl, sym, ap, subst, ◌∙◌, arith}
use Rattle.std.specs.Prelude.{ℤ, pos, nat_abs, ◌-ℤ◌, ◌≤ℤ◌, All, IfNone, IfSome}
use Rattle.std.specs.List.{AllByRecursion}
use Rattle.std.proofs.lemmas.Int.{ints}
use Rattle.std.proofs.lemmas.List.{get_or_default}
use Rattle.std.proofs.lemmas.List.Elements.{All-from_recursion, recursion_from_All}
use Rattle.lrp_theory.specs.Entries.{node}
use Rattle.lrp_model.specs.Rows.{MeetsBound}
use Rattle.lrp_model.specs.declared.relations.Bound.{Bound}
use Rattle.lrp_zone.specs.Given.{bound_at, IsGivenZone, HasNone, AreGiven, MeetsGiven}
use Rattle.lrp_zone.specs.Zones.{ZoneView, IsMember, IsZone, reach_of}
use Rattle.lrp_lint.specs.Contents.{HasNoneBounded, IsBoundZone}
use Rattle.lrp_lint.specs.Ties.{AreBetween}
use Rattle.lrp_lint.proofs.Points.{one_divides}

-- what follows of a value that is there, and of none
pub none_map : {X : Type 0} (o : Option X) (P Q : Type 0) → (P → Q) → IfNone o P → IfNone o Q
none_map None P Q f h = f h
none_map (Some x) P Q f h = tt

pub some_map : {X : Type 0} (o : Option X) (P R Q : X → Type 0) → ((x : X) → P x → R x → Q x) → IfSome o P → IfSome o R → IfSome o Q
some_map None P R Q f h k = tt
some_map (Some x) P R Q f h k = f x h k

module _ (bounds : List Bound) (times : ℕ) (rs : List ℤ) (count : length rs ≡ times) where
  abbrev none_at : Bound
  none_at = record { left = 0; right = 0; most = pos 0 }

  pub bounded_given : AllByRecursion (AreBetween times) bounds → All (λ (b : Bound). nat_abs b.most ≤ 2 ^ 62) bounds → AreGiven (pos 1) rs bounds
  bounded_given between small = record {
    each = λ i h. let b = All-from_recursion (AreBetween times) bounds between i none_at h in record {
      left = subst (λ n. (bound_at bounds i).left ≤ n) (sym count) b.left;
      right = subst (λ n. (bound_at bounds i).right ≤ n) (sym count) b.right;
      fits = record { room = inl (one_divides _, small i none_at h) };
    };
  }

  met_given : (xs : List ℤ) → length xs ≡ times → AllByRecursion (MeetsBound xs) bounds → MeetsGiven (pos 1) rs bounds xs
  met_given xs e h = record { count = e ∙ sym count; residues = record { each = λ p low. one_divides _ }; meets = λ i low. All-from_recursion (MeetsBound xs) bounds h i none_at low }

  pub bounded_none : HasNone (pos 1) rs bounds → HasNoneBounded bounds times
  bounded_none none = record { none = λ xs e h. none.none xs (met_given xs e h) }

  pub bounded_some : (z : ZoneView) → IsGivenZone (pos 1) rs bounds z → IsZone z → IsBoundZone bounds times z
  bounded_some z of valid = record {
    valid = valid;
    period = one;
    count = ap length of.residues ∙ count;
    to = λ xs h. recursion_from_All (MeetsBound xs) bounds (λ k d low. subst (MeetsBound xs) (get_or_default bounds k none_at d low) ((of.to xs h).meets k low));
    from = λ xs e h. of.from xs (met_given xs e h);
    reach = λ high all. by (reach_of z) high z.period one (of.reach high (λ i low. all i none_at low));
  }
    where
      one : z.period ≡ 1
      one = let e = of.period in omega (arith, ints, e)

      by : (a h p : ℕ) → p ≡ 1 → a ≤ h + (p - 1) → a ≤ h
      by a h p e l = omega (arith, e, l)
