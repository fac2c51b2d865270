-- The nearest number of one time column that no part has.
use Rattle.std.proofs.Common.{◌≡◌, ◌≢◌, ◌⊎◌, inl, inr, ⊎_elim, ℕ, zero, suc, ◌+◌, ◌-◌, ◌*◌, ◌/◌, ◌%◌, ◌<◌, ◌≤◌, ◌^◌, List, [], ◌∷◌, length, map, take, replicate, Option, Some, None, Contains, refl, sym, ap, subst, ◌∙◌, arith}
use Rattle.std.specs.Prelude.{ℤ, pos, negsuc, nat_abs, ◌-ℤ◌, ◌≤ℤ◌, ◌<ℤ◌, IfSome, AllPairs}
use Rattle.std.specs.Int.{int_rem_euclid}
use Rattle.std.proofs.lemmas.Int.{ints}
use Rattle.lrp_theory.specs.Divides.{Divides}
use Rattle.lrp_theory.specs.Residues.{rank}
use Rattle.lrp_theory.proofs.Members.{in_one}
use Rattle.lrp_theory.proofs.Modulo.{Divides--, Divides-is, Divides-self, Divides-zero, rem_between, rem_divides}
use Rattle.lrp_model.specs.Texts.{Ascends, Identifier, Text}
use Rattle.lrp_model.specs.Satisfaction.{Assignment}
use Rattle.lrp_store.specs.Growing.{IsAdded, IsTupleOf}
use Rattle.lrp_store.specs.Stores.{HasReach, InStore, IsStore, StoreView, zone_of}
use Rattle.lrp_zone.specs.Zones.{IsMember, greatest_of}
use Rattle.lrp_tables.specs.declared.table.Table.{Table}
use Rattle.lrp_tables.specs.Caps.{Inhabits, InhabitsMoreThan}
use Rattle.lrp_tables.specs.Tables.{named_variables}
use Rattle.lrp_tables.proofs.Gathering.{added_as}
use Rattle.lrp_model.specs.Cells.{Differ}
use Rattle.lrp_steps.proofs.Steps.{empty_store, farther, positive}
use Rattle.lrp_periods.specs.Nearest.{AreCoversWithin, HasRankedResidue, IsNearestLeft, IsNearestOpen, IsOfResidue}
use Rattle.lrp_periods.specs.Operations.{AreOperand}
use Rattle.lrp_periods.specs.Parts.{HasSome, IsPartOfSet, part_texts, part_times}
use Rattle.lrp_periods.specs.Sets.{IsComplementOf}
use Rattle.lrp_periods.specs.Sieves.{AreCoversOf, CanSift, IsLeftOpen, IsLineStore, IsOpen, IsShut, line_cell}
use Rattle.lrp_periods.specs.declared.sieves.Cover.{Cover}
use Rattle.lrp_periods.proofs.LineLaws.{line_few}
use Rattle.lrp_periods.proofs.Summing.{many_fewer}
use Rattle.lrp_periods.proofs.Sieved.{from_open, lone_part, to_open, variable}
use Rattle.lrp_periods.proofs.Sieving.{in_line, natural_below, no_reach, of_line, open_there, shut_there}

-- ---- ranks

-- numbers of one rank are one number
pub rank_same : (x y : ℤ) → rank x ≡ rank y → x ≡ y
rank_same (pos zero) (pos zero) e = refl
rank_same (pos zero) (pos (suc n)) e = absurd (let f : 0 ≡ 2 * suc n - 1 = e in omega (arith, f))
rank_same (pos zero) (negsuc n) e = absurd (let f : 0 ≡ 2 * suc n = e in omega (arith, f))
rank_same (pos (suc m)) (pos zero) e = absurd (let f : 2 * suc m - 1 ≡ 0 = e in omega (arith, f))
rank_same (pos (suc m)) (pos (suc n)) e = let f : 2 * suc m - 1 ≡ 2 * suc n - 1 = e in let g : m ≡ n = omega (arith, f) in ap (λ k. pos (suc k)) g
rank_same (pos (suc m)) (negsuc n) e = absurd (let f : 2 * suc m - 1 ≡ 2 * suc n = e in omega (arith, f))
rank_same (negsuc m) (pos zero) e = absurd (let f : 2 * suc m ≡ 0 = e in omega (arith, f))
rank_same (negsuc m) (pos (suc n)) e = absurd (let f : 2 * suc m ≡ 2 * suc n - 1 = e in omega (arith, f))
rank_same (negsuc m) (negsuc n) e = let f : 2 * suc m ≡ 2 * suc n = e in let g : m ≡ n = omega (arith, f) in ap (λ k. negsuc k) g

rank_above : (n own : ℕ) → 2 * n ≤ own + 1 → rank (pos n) ≤ own
rank_above zero own l = omega arith
rank_above (suc n) own l = let g : 2 * suc n - 1 ≤ own = omega (arith, l) in g

rank_below : (n own : ℕ) → n < own → own + 1 < 2 * n → rank (pos n -ℤ pos own) ≤ own
rank_below n own l m =
    let e : negsuc (own - n - 1) ≡ pos n -ℤ pos own = omega (arith, ints, l) in
    let g : 2 * suc (own - n - 1) ≤ own = omega (arith, l, m) in
    subst (λ z. rank z ≤ own) e g

odd_rank : (far place : ℕ) → 0 < far → place ≡ 2 * far - 1 → rank (pos far) ≡ place
odd_rank zero place l e = absurd (omega (arith, l))
odd_rank (suc n) place l e = sym e

even_rank : (far place : ℕ) → place ≡ 2 * far → rank (pos 0 -ℤ pos far) ≡ place
even_rank zero place e = let f : place ≡ 0 = omega (arith, e) in sym f
even_rank (suc n) place e = let z : negsuc n ≡ pos 0 -ℤ pos (suc n) = omega (arith, ints) in subst (λ w. rank w ≡ place) z (sym e)

-- each number has another one of its residue that is not far
near_rank : (own : ℕ) → 0 < own → (x : ℤ) → (y : ℤ) × Divides (pos own) (y -ℤ x) × (rank y ≤ own)
near_rank own low x =
    let one : pos 1 ≤ℤ pos own = omega (arith, ints, low) in
    let b = rem_between (pos own) x (int_rem_euclid x (pos own)) one refl in
    let d = rem_divides (pos own) x (int_rem_euclid x (pos own)) one refl in
    let n = natural_below (int_rem_euclid x (pos own)) own b.0 b.1 in
    let e : Divides (pos own) (x -ℤ pos n.0) = subst (λ (t : ℤ). Divides (pos own) (x -ℤ t)) n.1 d in
    let back : Divides (pos own) (pos n.0 -ℤ x) = Divides-is (pos own) (pos 0 -ℤ (x -ℤ pos n.0)) (pos n.0 -ℤ x) (omega (arith, ints)) (Divides-- (pos own) (pos 0) (x -ℤ pos n.0) (Divides-zero (pos own)) e) in
    elim (half n.0 own) [
      | inl l ↦ (pos n.0, back, rank_above n.0 own l)
      | inr m ↦ (pos n.0 -ℤ pos own, Divides-is (pos own) ((pos n.0 -ℤ x) -ℤ pos own) ((pos n.0 -ℤ pos own) -ℤ x) (omega (arith, ints)) (Divides-- (pos own) (pos n.0 -ℤ x) (pos own) back (Divides-self (pos own))), rank_below n.0 own n.2 m)
    ]
  where
    half : (n own : ℕ) → (2 * n ≤ own + 1) ⊎ (own + 1 < 2 * n)
    half n own = grind arith

-- ---- the residue of a number by its rank

module _ (own place far residue : ℕ) (low : 0 < own) where
  mod_low : (n : ℕ) → n % own < own
  mod_low n = omega (arith, low)

  mod_divides : (n : ℕ) → Divides (pos own) (pos n -ℤ pos (n % own))
  mod_divides n = rem_divides (pos own) (pos n) (pos (n % own)) (omega (arith, ints, low)) refl

  pub ranked_above : 0 < far → place ≡ 2 * far - 1 → residue ≡ far % own → HasRankedResidue own place residue
  ranked_above some odd is = record {
    number = pos far;
    ranked = odd_rank far place some odd;
    low = subst (λ r. r < own) (sym is) (mod_low far);
    is = subst (λ r. Divides (pos own) (pos far -ℤ pos r)) (sym is) (mod_divides far);
  }

  pub ranked_below : far ≤ own → place ≡ 2 * far → residue ≡ (own - far) % own → HasRankedResidue own place residue
  ranked_below within even is = record {
    number = pos 0 -ℤ pos far;
    ranked = even_rank far place even;
    low = subst (λ r. r < own) (sym is) (mod_low (own - far));
    is = subst (λ r. Divides (pos own) ((pos 0 -ℤ pos far) -ℤ pos r)) (sym is)
        (Divides-is (pos own) ((pos (own - far) -ℤ pos ((own - far) % own)) -ℤ pos own) ((pos 0 -ℤ pos far) -ℤ pos ((own - far) % own)) (moved ((own - far) % own))
        (Divides-- (pos own) (pos (own - far) -ℤ pos ((own - far) % own)) (pos own) (mod_divides (own - far)) (Divides-self (pos own))));
  }
    where
      moved : (r : ℕ) → (pos (own - far) -ℤ pos r) -ℤ pos own ≡ (pos 0 -ℤ pos far) -ℤ pos r
      moved r = omega (arith, ints, within)

-- ---- one rank after another

-- no number of a lower rank is open
abbrev pub AreNoneBefore : List Cover → ℕ → Type 0
AreNoneBefore covers place = (x : ℤ) → rank x < place → IsOpen covers x → ⊥

pub none_before : (covers : List Cover) (place : ℕ) → place ≡ 0 → AreNoneBefore covers place
none_before covers place e x l h = absurd (omega (arith, e, l))

module _ (covers : List Cover) (own : ℕ) (within : AreCoversWithin own covers) where
  pub none_more : (place residue : ℕ) → HasRankedResidue own place residue → IsShut covers (pos residue) → AreNoneBefore covers place → AreNoneBefore covers (place + 1)
  none_more place residue r shut before x l h = elim (cases (rank x) place l) [
    | inl less ↦ before x less h
    | inr same ↦ (let e : r.number ≡ x = rank_same r.number x (r.ranked ∙ sym same) in shut_there covers own within.divide x (pos residue) (subst (λ (y : ℤ). Divides (pos own) (y -ℤ pos residue)) e r.is) shut h)
  ]
    where
      cases : (m n : ℕ) → m < n + 1 → (m < n) ⊎ (m ≡ n)
      cases m n l = grind arith

  pub found_first : (place residue : ℕ) → HasRankedResidue own place residue → IsOpen covers (pos residue) → AreNoneBefore covers place → IsNearestOpen covers own (Some residue)
  found_first place residue r uncovered before = record {
    low = r.low;
    uncovered = uncovered;
    near = λ x h. elim (cases (rank x) place) [
      | inl less ↦ absurd (before x less h)
      | inr more ↦ (r.number, record { number = r.number; times_are = refl; none = refl; residue = residue; found_is = refl; is = r.is }, subst (λ n. n ≤ rank x) (sym r.ranked) more)
    ];
  }
    where
      cases : (m n : ℕ) → (m < n) ⊎ (n ≤ m)
      cases m n = grind arith

  pub none_found : (place : ℕ) → own + 1 ≤ place → AreNoneBefore covers place → IsNearestOpen covers own None
  none_found place high before = record {
    low = tt;
    uncovered = tt;
    near = λ x h. let y = near_rank own within.low x in let l : rank y.0 ≤ own = y.2 in absurd (before y.0 (omega (arith, l, high)) (open_there covers own within.divide y.0 x y.1 h));
  }

  -- a number of the residue that was found is open
  pub residue_open : (found : Option ℕ) → IsNearestOpen covers own found → (xs : List ℤ) (ns : List ℕ) → IsOfResidue own found xs ns → IsLeftOpen covers xs ns
  residue_open found near xs ns h = record {
    number = h.number;
    times_are = h.times_are;
    none = h.none;
    uncovered = open_there covers own within.divide h.number (pos h.residue) h.is (subst (λ o. IfSome o (λ r. IsOpen covers (pos r))) h.found_is near.uncovered);
  }

pub within_of : {covers : List Cover} {own : ℕ} {out : StoreView} → CanSift covers own out → AreCoversWithin own covers
within_of can = record { low = can.low; divide = can.divide; some = can.some }

-- ---- the cell of a residue

module _ (out new : StoreView) (cap : ℕ) (line : IsLineStore out) where
  no_texts : (residue : ℕ) → take out.shape.texts (line_cell residue).texts ≡ []
  no_texts residue = ap (λ n. take n (replicate 8 0)) line.texts

  pub residue_added : (residue : ℕ) → IsAdded (IsTupleOf (zone_of out (line_cell residue) (replicate 81 None)) (take out.shape.texts (line_cell residue).texts)) cap (greatest_of (replicate 81 None)) out new → IsAdded (IsOfResidue out.period (Some residue)) cap 0 out new
  residue_added residue a = added_as cap (IsTupleOf (zone_of out (line_cell residue) (replicate 81 None)) (take out.shape.texts (line_cell residue).texts)) (IsOfResidue out.period (Some residue)) (greatest_of (replicate 81 None)) 0 (no_reach 81) out new line.valid to from a
    where
      to : (xs : List ℤ) (ns : List ℕ) → IsTupleOf (zone_of out (line_cell residue) (replicate 81 None)) (take out.shape.texts (line_cell residue).texts) xs ns → IsOfResidue out.period (Some residue) xs ns
      to xs ns h = let m = of_line out line residue xs h.member in record { number = m.0; times_are = m.1; none = sym h.same ∙ no_texts residue; residue = residue; found_is = refl; is = m.2 }

      from : (xs : List ℤ) (ns : List ℕ) → IsOfResidue out.period (Some residue) xs ns → IsTupleOf (zone_of out (line_cell residue) (replicate 81 None)) (take out.shape.texts (line_cell residue).texts) xs ns
      from xs ns h =
          let e : h.residue ≡ residue = (let f : Some residue ≡ Some h.residue = h.found_is in cc) in
          record {
            member = subst (IsMember (zone_of out (line_cell residue) (replicate 81 None))) (sym h.times_are) (in_line out line residue h.number (subst (λ r. Divides (pos out.period) (h.number -ℤ pos r)) e h.is));
            same = no_texts residue ∙ sym h.none;
          }

-- ---- the part of the residue

module _ {domain : List Text} {period : ℤ} {parts : List Table} (can : AreOperand domain period parts) (one : length (part_times parts) ≡ 1) (none : part_texts parts ≡ []) (covers : List Cover) (are : AreCoversOf parts covers) where
  abbrev v : Identifier
  v = (variable can one none).0

  pub nearest_is : Ascends domain → (own cap : ℕ) → own ≡ nat_abs period → AreCoversWithin own covers → (found : Option ℕ) → IsNearestOpen covers own found → (start out : StoreView) → start ≡ empty_store (part_times parts) (part_texts parts) own → IsAdded (IsOfResidue own found) cap 0 start out
      → (made : Table) → made.vars.times ≡ part_times parts → made.vars.texts ≡ part_texts parts → made.store ≡ out → IsNearestLeft domain period parts made
  nearest_is ascends own cap word within found near start out fresh added made et ex es =
      let p : IsPartOfSet domain (part_times parts) (part_texts parts) period (λ env. IsOfResidue own found (env.times v ∷ []) []) made × HasReach made.store 0 =
      lone_part can one none (IsOfResidue own found) (λ xs ns h. (h.number, h.times_are, h.none)) ascends own cap word start out fresh added made et ex es in
      record {
        part = p.0.part;
        sound = λ env h. to_open can one none covers are env (env.times v ∷ []) [] refl (residue_open covers own within found near (env.times v ∷ []) [] (p.0.sound env h));
        near = λ env c.
            let n = near.near (env.times v) (open_number env (from_open can one none covers are env c)) in
            (n.0, subst (λ s. InStore s (n.0 ∷ []) []) (sym es) (added.whole.each (n.0 ∷ []) [] n.1), λ w k. (let e : v ≡ w = in_one v w (subst (λ ts. Contains ts w) (variable can one none).1 k) in subst (λ u. rank n.0 ≤ rank (env.times u)) e n.2));
        free = p.1;
      }
    where
      open_number : (env : Assignment) → IsLeftOpen covers (env.times v ∷ []) [] → IsOpen covers (env.times v)
      open_number env h = let e : h.number ≡ env.times v = (let f : env.times v ∷ [] ≡ h.number ∷ [] = h.times_are in cc) in subst (IsOpen covers) e h.uncovered

-- ---- how many cells what is left inhabits

-- one for each residue at most
pub line_within : (domain : List Text) (cap k : ℕ) → k ≤ cap → (times texts : List Identifier) (set : Assignment → Type 0) → length times ≡ 1 → texts ≡ [] → InhabitsMoreThan cap domain k times texts set → ⊥
line_within domain cap k low times texts set one none m = line_few domain k times texts set one none (many_fewer (Differ (named_variables times texts)) (Inhabits domain k (named_variables times texts) set) k cap low m)
