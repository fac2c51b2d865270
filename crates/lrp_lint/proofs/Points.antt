-- Points of a row as parts of a system.
use Rattle.std.proofs.Common.{◌≡◌, ◌≢◌, ℕ, zero, suc, ◌+◌, ◌-◌, ◌<◌, ◌≤◌, ◌^◌, inl, inr, List, [], ◌∷◌, ◌++◌, length, take, get_or, map, Option, None, Some, refl, sym, ap, subst, ◌∙◌, arith, Contains}
use Rattle.std.specs.Prelude.{◌⊎◌, ◌↔◌, ℤ, pos, neg_ℤ, nat_abs, ◌+ℤ◌, ◌-ℤ◌, ◌≤ℤ◌, ◌<ℤ◌, All, slice_get}
use Rattle.std.specs.List.{AllByRecursion}
use Rattle.std.proofs.lemmas.Int.{ints}
use Rattle.std.proofs.lemmas.List.{length-append, take_more, get_or_default}
use Rattle.std.proofs.lemmas.List.Elements.{All-from_recursion, recursion_from_All}
use Rattle.std.proofs.lemmas.Option.{slice_get_within, get_or_from_slice_get}
use Rattle.lrp_theory.specs.Divides.{Divides, IsPointMember}
use Rattle.lrp_theory.proofs.Modulo.{Divides-+, Divides--, Divides-is, Divides-neg, Divides-zero, rem_divides}
use Rattle.std.proofs.Common.{to_z, of_z}
use Rattle.std.specs.Int.{int_rem_euclid, w64}
use Rattle.lrp_theory.specs.Entries.{entry, node, AtMost}
use Rattle.lrp_model.proofs.Logic.{all_append}
use Rattle.lrp_model.specs.declared.relations.Bound.{Bound}
use Rattle.lrp_model.specs.declared.relations.RowPoint.{RowPoint}
use Rattle.lrp_model.specs.declared.relations.Value.{Value}
use Rattle.lrp_model.specs.declared.relations.Value.TheVariants.{Point, Const}
use Rattle.lrp_systems.specs.Parts.{PartView, IsPlacedZone, InPart, Fits}
use Rattle.lrp_zone.proofs.Reaches.{small_reach}
use Rattle.lrp_zone.specs.Given.{bound_at, IsGivenZone, HasNone, MeetsGiven, IsStoredFor}
use Rattle.lrp_zone.specs.Spread.{ArePlaces, target}
use Rattle.lrp_zone.specs.Zones.{ZoneView, IsMember, IsResidue, IsZone, columns_of, reach_of}
use Rattle.lrp_lint.specs.Contents.{ArePointParts, AreMembers, HasPointPeriod, IsPointPart, row_points}

-- one divides every integer
pub one_divides : (z : ℤ) → Divides (pos 1) z
one_divides z = record { times = z; is = omega (arith, ints) }

-- ---- one point

module _ (at : RowPoint) (r : ℤ) (equal : Divides at.period (r -ℤ at.offset)) where
  met : (x : ℤ) → Divides at.period (x -ℤ r) → MeetsGiven at.period (r ∷ []) [] (x ∷ [])
  met x d = record { count = refl; residues = record { each = each }; meets = λ i h. absurd (omega arith) }
    where
      each : (p : ℕ) → p ≤ 1 → Divides at.period (node (x ∷ []) p -ℤ node (r ∷ []) p)
      each zero h = Divides-is at.period (pos 0) _ (omega (arith, ints)) (Divides-zero at.period)
      each (suc zero) h = d
      each (suc (suc p)) h = absurd (omega arith)

  -- a number of the residue is a member
  member_of : (x : ℤ) → Divides at.period (x -ℤ r) → IsPointMember at.offset at.period x
  member_of x d = Divides-is at.period ((x -ℤ r) +ℤ (r -ℤ at.offset)) (x -ℤ at.offset) (omega (arith, ints)) (Divides-+ at.period (x -ℤ r) (r -ℤ at.offset) d equal)

  of_member : (x : ℤ) → IsPointMember at.offset at.period x → Divides at.period (x -ℤ r)
  of_member x m = Divides-is at.period ((x -ℤ at.offset) -ℤ (r -ℤ at.offset)) (x -ℤ r) (omega (arith, ints)) (Divides-- at.period (x -ℤ at.offset) (r -ℤ at.offset) m equal)

  -- some number has the residue
  pub has_one : HasNone at.period (r ∷ []) [] → ⊥
  has_one none = none.none (r ∷ []) (met r (Divides-is at.period (pos 0) (r -ℤ r) (omega (arith, ints)) (Divides-zero at.period)))

  module _ (z : ZoneView) (valid : IsZone z) (of : IsGivenZone at.period (r ∷ []) [] z) where
    near : reach_of z ≤ 0
    near = small_reach z 0 valid.shape.columns valid.size valid.shape.outside (record { each = λ p q pl ql. at_none p q (of.stored.one p q (let c = valid.shape.columns in omega (arith, c, pl)) (let c = valid.shape.columns in omega (arith, c, ql))) })
      where
        at_none : (p q : ℕ) → (entry z.bounds p q ≡ None) ⊎ ((i : ℕ) × (i < 0) × ((bound_at [] i).left ≡ p) × ((bound_at [] i).right ≡ q) × IsStoredFor at.period (r ∷ []) (bound_at [] i) (entry z.bounds p q)) → AtMost 0 (entry z.bounds p q)
        at_none p q (inl e) = subst (AtMost 0) (sym e) tt
        at_none p q (inr h) = let low : h.0 < 0 = h.1 in absurd (omega (arith, low))

    pub point_part_is : (place : ℕ) (rest : List ℕ) (part : PartView) → part ≡ record { zone = z; places = take (columns_of z) (place ∷ rest) } → IsPlacedZone part → IsPointPart at place part
    point_part_is place rest part is placed = record {
      valid = placed;
      places = ap (λ (q : PartView). q.places) is ∙ ap (λ n. take n (place ∷ rest)) one;
      period = ap (λ (q : PartView). pos q.zone.period) is ∙ of.period;
      reach = subst (λ (q : PartView). reach_of q.zone ≤ 0) (sym is) near;
      members = subst (λ (q : PartView). (x : ℤ) → IsMember q.zone (x ∷ []) ↔ IsPointMember at.offset at.period x) (sym is)
          (λ x. (λ m. member_of x ((of.to (x ∷ []) m).residues.each 1 (omega arith)), λ m. of.from (x ∷ []) (met x (of_member x m))));
    }
      where
        one : columns_of z ≡ 1
        one = ap length of.residues

-- ---- the points of values

-- those of two lists of values
pub points_append : (vs ws : List Value) → row_points (vs ++ ws) ≡ row_points vs ++ row_points ws
points_append [] ws = refl
points_append (Point at ∷ vs) ws = ap (λ ps. at ∷ ps) (points_append vs ws)
points_append (Const t ∷ vs) ws = points_append vs ws

-- one value more
pub points_more : (vs : List Value) (i : ℕ) (v : Value) → slice_get vs i ≡ Some v → row_points (take (i + 1) vs) ≡ row_points (take i vs) ++ row_points (v ∷ [])
points_more vs i v e = ap row_points (take_more vs i v (slice_get_within vs i v e) ∙ ap (λ w. take i vs ++ w ∷ []) (get_or_from_slice_get vs i v v e)) ∙ points_append (take i vs) (v ∷ [])

-- the value of a turn
pub points_step : (values items : List Value) (i : ℕ) (v : Value) → items ≡ values → i < length items → v ≡ get_or items i v → row_points (take (i + 1) values) ≡ row_points (take i values) ++ row_points (v ∷ [])
points_step values items i v same low is =
    ap (λ vs. row_points (take (i + 1) vs)) (sym same) ∙ ap row_points (take_more items i v low ∙ ap (λ w. take i items ++ w ∷ []) (sym is)) ∙ points_append (take i items) (v ∷ []) ∙ ap (λ vs. row_points (take i vs) ++ row_points (v ∷ [])) same

-- one part more
pub parts_push : (place : ℕ) (points : List RowPoint) (parts : List PartView) (at : RowPoint) (part : PartView) → ArePointParts place points parts → IsPointPart at (length parts + place) part → ArePointParts place (points ++ at ∷ []) (parts ++ part ∷ [])
parts_push place [] [] at part all is = (subst (λ n. IsPointPart at n part) (let e : 0 + place ≡ place = omega arith in e) is, tt)
parts_push place [] (q ∷ parts) at part all is = absurd all
parts_push place (p ∷ points) [] at part all is = absurd all
parts_push place (p ∷ points) (q ∷ parts) at part all is = (all.0, parts_push (suc place) points parts at part all.1 (subst (λ n. IsPointPart at n part) (let e : length parts + 1 + place ≡ length parts + suc place = omega arith in e) (subst (λ n. IsPointPart at (n + place) part) (let e : length (q ∷ parts) ≡ length parts + 1 = omega arith in e) is)))

-- there are as many
pub parts_count : (place : ℕ) (points : List RowPoint) (parts : List PartView) → ArePointParts place points parts → length parts ≡ length points
parts_count place [] [] all = refl
parts_count place [] (q ∷ parts) all = absurd all
parts_count place (p ∷ points) [] all = absurd all
parts_count place (p ∷ points) (q ∷ parts) all = ap (λ n. suc n) (parts_count (suc place) points parts all.1)

-- the values at the places are in the parts where they are members of the points
pub in_parts : (xs : List ℤ) (place : ℕ) (points : List RowPoint) (parts : List PartView) → ArePointParts place points parts → AllByRecursion (λ part. InPart part xs) parts ↔ AreMembers xs place points
in_parts xs place [] [] all = (λ h. tt, λ h. tt)
in_parts xs place [] (q ∷ parts) all = absurd all
in_parts xs place (p ∷ points) [] all = absurd all
in_parts xs place (p ∷ points) (q ∷ parts) all =
    let further : AllByRecursion (λ part. InPart part xs) parts ↔ AreMembers xs (suc place) points = in_parts xs (suc place) points parts all.1 in
    let here : IsMember q.zone (map (node xs) q.places) ↔ IsPointMember p.offset p.period (node xs place) = subst (λ ps. IsMember q.zone (map (node xs) ps) ↔ IsPointMember p.offset p.period (node xs place)) (sym all.0.places) (all.0.members (node xs place)) in
    (λ h. (here.0 h.0, further.0 h.1), λ h. (here.1 h.0, further.1 h.1))

-- ---- what the parts need

one_place : (place n : ℕ) → 0 < place → place ≤ n → ArePlaces (place ∷ []) n
one_place place n low high = record { low = λ p h. low_at p h; high = λ p h. high_at p h; differ = λ p q h k e. differ p q h k e }
  where
    low_at : (p : ℕ) → p < 1 → 0 < target (place ∷ []) (p + 1)
    low_at zero h = low
    low_at (suc p) h = absurd (omega arith)

    high_at : (p : ℕ) → p ≤ 1 → target (place ∷ []) p ≤ n
    high_at zero h = omega arith
    high_at (suc zero) h = high
    high_at (suc (suc p)) h = absurd (omega arith)

    differ : (p q : ℕ) → p ≤ 1 → q ≤ 1 → target (place ∷ []) p ≡ target (place ∷ []) q → p ≡ q
    differ zero zero h k e = refl
    differ zero (suc zero) h k e = absurd (omega (arith, e, low))
    differ (suc zero) zero h k e = absurd (omega (arith, e, low))
    differ (suc zero) (suc zero) h k e = refl
    differ (suc (suc p)) q h k e = absurd (omega arith)
    differ p (suc (suc q)) h k e = absurd (omega arith)

-- each part fits where the periods divide the number
pub parts_fit : (n k : ℕ) → k ≤ 2 ^ 62 → (place : ℕ) (points : List RowPoint) (parts : List PartView) → 0 < place → length points + place ≤ n + 1 → AllByRecursion (λ (at : RowPoint). Divides at.period (pos k)) points → ArePointParts place points parts → AllByRecursion (Fits n k) parts
parts_fit n k small place [] [] low high divide all = tt
parts_fit n k small place [] (q ∷ parts) low high divide all = absurd all
parts_fit n k small place (p ∷ points) [] low high divide all = absurd all
parts_fit n k small place (p ∷ points) (q ∷ parts) low high divide all = (
  record {
    places = subst (λ ps. ArePlaces ps n) (sym all.0.places) (one_place place n low (omega (arith, high)));
    multiple = subst (λ z. Divides z (pos k)) (sym all.0.period) divide.0;
    reach = λ differ. (let r = all.0.reach in omega (arith, r, small));
  },
  parts_fit n k small (suc place) points parts (omega arith) (omega (arith, high)) divide.1 all.1,
)

-- ---- numbers as they are passed

pub word_is : (m : ℤ) → neg_ℤ (pos (2 ^ 62)) ≤ℤ m → m ≤ℤ pos (2 ^ 62) → to_z w64 (of_z w64 m) ≡ m
word_is m low high = omega (arith, ints)

pub of_words : (j k q r : ℤ) (z : ZoneView) → j ≡ k → q ≡ r → IsGivenZone j (q ∷ []) [] z → IsGivenZone k (r ∷ []) [] z
of_words j k q r z ek er h = subst (λ y. IsGivenZone y (r ∷ []) [] z) ek (subst (λ y. IsGivenZone j (y ∷ []) [] z) er h)

pub none_words : (j k q r : ℤ) → j ≡ k → q ≡ r → HasNone j (q ∷ []) [] → HasNone k (r ∷ []) []
none_words j k q r ek er h = subst (λ y. HasNone y (r ∷ []) []) ek (subst (λ y. HasNone j (y ∷ []) []) er h)

-- a remainder is equal to the number
pub remainder_is : (z d k r s o : ℤ) → r ≡ int_rem_euclid z d → z ≡ o → d ≡ k → s ≡ r → pos 1 ≤ℤ k → Divides k (s -ℤ o)
remainder_is z d k r s o e f g h low =
    let is : r ≡ int_rem_euclid o k = subst (λ y. r ≡ int_rem_euclid y k) f (subst (λ y. r ≡ int_rem_euclid z y) g e) in
    subst (λ y. Divides k (y -ℤ o)) (sym h) (Divides-is k (neg_ℤ (o -ℤ r)) (r -ℤ o) (omega (arith, ints)) (Divides-neg k (o -ℤ r) (rem_divides k o r low is)))
