-- Differences of stores as those of the tables whose columns they have.
use Rattle.std.proofs.Common.{◌≡◌, ◌≢◌, ℕ, ◌+◌, ◌*◌, ◌-◌, ◌<◌, ◌≤◌, ◌^◌, List, [], length, refl, sym, ap, subst, ◌∙◌, arith, get_or, to_z, of_z}
use Rattle.std.specs.Prelude.{ℤ, pos, All, nat_abs, ◌≤ℤ◌}
use Rattle.std.specs.Int.{w64}
use Rattle.std.specs.FinMap as finite
use Rattle.std.proofs.lemmas.Int.{ints}
use Rattle.std.proofs.lemmas.List.{get_or_default}
use Rattle.std.proofs.lemmas.Option.{slice_get_within, slice_get-get_or}
use Rattle.lrp_theory.specs.Divides.{Divides}
use Rattle.lrp_model.specs.Texts.{Text, Ascends}
use Rattle.lrp_model.specs.declared.tuples.Shape.{Shape}
use Rattle.lrp_zone.specs.Spread.{ArePlaces}
use Rattle.lrp_zone.specs.Zones.{reach_of}
use Rattle.lrp_store.specs.Growing.{IsAdded, IsRefused}
use Rattle.lrp_store.specs.Stores.{StoreView, IsStore, InStore, HasReach, zone_of}
use Rattle.lrp_store.specs.Tables.{AreNumbered}
use Rattle.lrp_store.proofs.Held.{new_store}
use Rattle.lrp_tables.specs.declared.table.Table.{Table}
use Rattle.lrp_tables.specs.Caps.{InhabitsMoreThan}
use Rattle.lrp_tables.specs.Columns.{ArePlacesOf, IsPlace}
use Rattle.lrp_tables.specs.Tables.{HasAssignment, HasTexts, IsMinus, IsTableOf}
use Rattle.lrp_tables.proofs.CellsNamed.{AreTuplesOf}
use Rattle.lrp_tables.proofs.Filled.{IsStart, step_table, step_few, step_many, reach_held}
use Rattle.lrp_tables.proofs.Joining.{places_count, place_is, places_are}
use Rattle.lrp_tables.proofs.Named.{pairs_left}
use Rattle.lrp_tables.proofs.TableLaws.{table_texts}
use Rattle.lrp_tables.proofs.TableMade.{held_times, held_texts, held_known, tuples_of}
use Rattle.lrp_tables.proofs.Wider.{IsWider, less_tuples, same_tuples, wider_tuples}
use Rattle.lrp_cutting.specs.Settling.{IsLike}
use Rattle.lrp_cutting.proofs.LineLaws.{word_pos}
use Rattle.lrp_minus.specs.Beneath.{ArePlacesFor}
use Rattle.lrp_minus.specs.Cutters.{CanCut, CanSubtract, CanSubtractIn, CanTake, SidesHaveReach, IsSpared}
use Rattle.lrp_minus.specs.declared.differences.Difference.{Difference}
use Rattle.lrp_tables.specs.declared.names.Places.{Places}

-- a period as it is passed
pub passed_is : (k : ℤ) → pos 1 ≤ℤ k → 2 * nat_abs k ≤ 2 ^ 62 → to_z w64 (of_z w64 k) ≡ k
passed_is k low high = omega (arith, ints)

pub passed_abs : (k : ℤ) → pos 1 ≤ℤ k → 2 * nat_abs k ≤ 2 ^ 62 → nat_abs (to_z w64 (of_z w64 k)) ≡ nat_abs k
passed_abs k low high = ap nat_abs (passed_is k low high)

pub passed_pos : (k : ℤ) → pos 1 ≤ℤ k → k ≡ pos (nat_abs k)
passed_pos k low = omega (arith, ints)

-- the period of a store as it is passed
pub word_abs : (z : ℤ) (k : ℕ) → z ≡ pos k → k ≤ 2 ^ 62 → nat_abs (to_z w64 (of_z w64 z)) ≡ k
word_abs z k e h = omega (arith, ints)

pub same_word : (a b : ℤ) (j k : ℕ) → a ≡ pos j → b ≡ pos k → j ≤ 2 ^ 62 → k ≤ 2 ^ 62 → of_z w64 a ≡ of_z w64 b → j ≡ k
same_word a b j k ea eb hj hk h =
    let e : pos j ≡ pos k = sym (word_pos a j ea hj) ∙ ap (to_z w64) h ∙ word_pos b k eb hk in
    omega (arith, ints, e)

-- a farther reach
pub farther : (s : StoreView) (low high : ℕ) → low ≤ high → HasReach s low → HasReach s high
farther s low high le r = record { each = λ c t h. let l : reach_of (zone_of s c t) ≤ low = r.each c t h in omega arith }

-- that of a store that is aligned
pub align_reach : (s : StoreView) (z : ℤ) (k : ℕ) → z ≡ pos k → 2 * k ≤ 2 ^ 62 → HasReach s (2 ^ 62 - 2 * k) → HasReach s (2 ^ 62 - nat_abs (to_z w64 (of_z w64 z)))
align_reach s z k e h r = subst (λ (n : ℕ). HasReach s (2 ^ 62 - n)) (sym (word_abs z k e (omega arith))) (farther s (2 ^ 62 - 2 * k) (2 ^ 62 - k) (omega arith) r)

-- the right store can be cut to cells of the common period
pub can_cut : (places : Places) (left right : StoreView) (k : ℕ) → CanSubtract places left right k → (out : StoreView) → out.shape ≡ left.shape → out.period ≡ k → CanCut places out right
can_cut places left right k can out shape period = record {
  right_store = can.right_store;
  among = subst (λ (q : Shape). ArePlacesFor q.times q.texts right places) (sym shape) can.among;
  multiple = subst (λ (n : ℕ). Divides (pos right.period) (pos n)) (sym period) can.right_multiple;
  period = let h : 2 * k ≤ 2 ^ 62 = can.period in omega arith;
  reach = subst (λ (n : ℕ). HasReach right (2 ^ 62 - 2 * n)) (sym period) can.right_reach;
}

-- a store that grew can take more of a difference
pub subtract_on : (d : Difference) (start out : StoreView) → IsStore out → out.shape ≡ start.shape → out.period ≡ start.period → CanSubtractIn d start → CanSubtractIn d out
subtract_on d start out valid shape period can = record { valid = valid; shape = shape ∙ can.shape; subtract = subst (λ (n : ℕ). CanSubtract d.places.now d.left.now d.right.now n) (sym period) can.subtract }

-- a store without cells of a shape and a period
abbrev pub without_cells : Shape → ℕ → StoreView
without_cells q k = record { shape = q; period = k; tables = finite.empty; spare = 0 }

pub started : (start : StoreView) (q r : Shape) (j k : ℕ) → start ≡ without_cells q j → q ≡ r → j ≡ k → start ≡ without_cells r k
started start q r j k e eq ek = e ∙ ap (λ (p : Shape). without_cells p j) eq ∙ ap (λ (n : ℕ). without_cells r n) ek

-- it is a store
pub fresh_valid : (s : StoreView) → IsStore s → (k : ℤ) → pos 1 ≤ℤ k → 2 * nat_abs k ≤ 2 ^ 62 → (start : StoreView) → start ≡ without_cells s.shape (nat_abs k) → IsStore start
fresh_valid s is k low high start fresh = subst IsStore (sym fresh) (new_store s.shape (nat_abs k) is.times is.texts (omega (arith, ints)) (omega (arith, ints)))

-- ---- the left store where its period is the common one
module _ (places : Places) (left right : StoreView) (k : ℕ) (can : CanSubtract places left right k) (same : left.period ≡ k) where
  -- both reach no farther than tables may
  pub both_reach : (high : ℕ) → HasReach left high → HasReach right high → SidesHaveReach left right high
  both_reach high l r = record { in_left = farther left high (high + (left.period - 1)) (omega arith) l; in_right = r }

  pub can_take : CanTake places left right
  can_take = record {
    cut = can_cut places left right k can left refl same;
    reach = subst (λ (n : ℕ). SidesHaveReach left right (2 ^ 62 - 2 * n)) (sym same) (both_reach (2 ^ 62 - 2 * k) can.left_reach can.right_reach);
  }

  pub is_like : (out : StoreView) → out.shape ≡ left.shape → out.period ≡ k → IsLike left out
  is_like out shape period = record { shape = shape; period = period ∙ sym same }

  module _ (set : List ℤ → List ℕ → Type 0) (cap high : ℕ) (start out : StoreView) where
    pub same_added : IsAdded set cap (high + 2 * left.period) start out → IsAdded set cap (high + 2 * k) start out
    same_added = subst (λ (n : ℕ). IsAdded set cap (high + 2 * left.period) start out → IsAdded set cap (high + 2 * n) start out) same (λ a. a)

    pub same_refused : IsRefused set cap (high + 2 * left.period) start out → IsRefused set cap (high + 2 * k) start out
    same_refused = subst (λ (n : ℕ). IsRefused set cap (high + 2 * left.period) start out → IsRefused set cap (high + 2 * n) start out) same (λ a. a)

module _ (left right : Table) (right_is : IsStore right.store) (places : Places) (times_at : ArePlacesOf right.vars.times left.vars.times places.times) (texts_at : ArePlacesOf right.vars.texts left.vars.texts places.texts)
    (k : ℕ) where
  -- ---- the right store stands beneath the left one

  text_place : All (λ p. (0 < p) × (p ≤ left.store.shape.texts)) places.texts
  text_place i d h =
      let c : length places.texts ≡ length right.vars.texts = places_count right.vars.texts left.vars.texts places.texts texts_at in
      let at : IsPlace left.vars.texts (get_or places.texts i 0) (get_or right.vars.texts i []) = place_is right.vars.texts left.vars.texts places.texts texts_at i (get_or right.vars.texts i []) (slice_get-get_or right.vars.texts i [] (omega arith)) in
      let low : 0 < get_or places.texts i 0 = at.0 in
      let within : get_or places.texts i 0 - 1 < length left.vars.texts = slice_get_within left.vars.texts (get_or places.texts i 0 - 1) (get_or right.vars.texts i []) at.1 in
      let t = left.texts_named in
      subst (λ p. (0 < p) × (p ≤ left.store.shape.texts)) (get_or_default places.texts i 0 d h) (low, omega arith)

  -- each of its times has a place
  pub all_placed : length places.times ≡ right.store.shape.times
  all_placed = places_count right.vars.times left.vars.times places.times times_at ∙ right.times_named

  among : ArePlacesFor left.store.shape.times left.store.shape.texts right.store places
  among = record {
    times_count = all_placed;
    texts_count = places_count right.vars.texts left.vars.texts places.texts texts_at ∙ right.texts_named;
    in_times = subst (ArePlaces places.times) left.times_named (places_are right.vars.times left.vars.times places.times times_at (pairs_left ◌≢◌ right.vars.times right.vars.texts right.names_differ));
    in_texts = text_place;
  }

  pub can_subtract : IsStore left.store → Divides (pos left.store.period) (pos k) → Divides (pos right.store.period) (pos k) → 2 * k ≤ 2 ^ 62 → HasReach left.store (2 ^ 62 - 2 * k) → HasReach right.store (2 ^ 62 - 2 * k) → CanSubtract places left.store right.store k
  can_subtract left_is own other small l r = record { left_store = left_is; right_store = right_is; among = among; left_multiple = own; right_multiple = other; period = small; left_reach = l; right_reach = r }

  -- ---- tuples that are spared are those of the assignments of the difference

  module _ (left_is : IsStore left.store) (domain : List Text) (ascends : Ascends domain) (numbered : AreNumbered domain left.store) where
    abbrev Wide : List ℤ → List ℕ → Type 0
    Wide = IsWider (length domain) (length left.vars.times) (length left.vars.texts) places.times places.texts right.store

    are : AreTuplesOf domain left.vars.times left.vars.texts (IsSpared places left.store right.store) (IsMinus domain left right)
    are = same_tuples domain left.vars.times left.vars.texts (λ xs ns. InStore left.store xs ns × (Wide xs ns → ⊥)) (IsSpared places left.store right.store)
        (λ env. HasAssignment left domain env × (HasTexts domain left.vars.texts env × HasAssignment right domain env → ⊥)) (IsMinus domain left right)
        (λ xs ns. (
          λ h. record {
            held = h.0;
            none = λ b. h.1 (record {
              times_count = held_times left.store left_is xs ns h.0 ∙ sym left.times_named;
              texts_count = held_texts left.store left_is xs ns h.0 ∙ sym left.texts_named;
              known = held_known left.store left_is domain numbered xs ns h.0;
              held = b;
            });
          },
          λ h. (h.held, λ w. h.none w.held),
        ))
        (λ env. (λ h. record { has = h.0; none = λ r. h.1 (table_texts domain left env h.0, r) }, λ h. (h.has, λ p. h.none p.1)))
        (less_tuples domain ascends left.vars.times left.vars.texts (InStore left.store) Wide (HasAssignment left domain) (λ env. HasTexts domain left.vars.texts env × HasAssignment right domain env) (tuples_of domain left left_is numbered)
        (wider_tuples domain ascends left.vars.times left.vars.texts right places.times places.texts times_at texts_at))

    module _ (cap : ℕ) (start out : StoreView) (fresh : start ≡ without_cells left.store.shape k) (valid : IsStore start) where
      period_is : start.period ≡ k
      period_is = ap (λ (s : StoreView). s.period) fresh

      start_is : IsStart domain left.vars.times left.vars.texts start
      start_is = record {
        ascends = ascends;
        names_differ = left.names_differ;
        valid = valid;
        times_are = ap (λ (s : StoreView). s.shape.times) fresh ∙ sym left.times_named;
        texts_are = ap (λ (s : StoreView). s.shape.texts) fresh ∙ sym left.texts_named;
        empty = ap (λ (s : StoreView). s.tables) fresh;
      }

      module _ (high : ℕ) (a : IsAdded (IsSpared places left.store right.store) cap high start out) where
        pub minus_table : (made : Table) → made.vars.times ≡ left.vars.times → made.vars.texts ≡ left.vars.texts → made.store ≡ out → IsTableOf domain left.vars.times left.vars.texts k (IsMinus domain left right) made
        minus_table made et ex eo = subst (λ (n : ℕ). IsTableOf domain left.vars.times left.vars.texts n (IsMinus domain left right) made) period_is
            (step_table domain left.vars.times left.vars.texts start start_is (IsSpared places left.store right.store) (IsMinus domain left right) are cap high out a made et ex eo)

        pub minus_few : InhabitsMoreThan cap domain k left.vars.times left.vars.texts (IsMinus domain left right) → ⊥
        minus_few more = step_few domain left.vars.times left.vars.texts start start_is (IsSpared places left.store right.store) (IsMinus domain left right) are cap high out a
            (subst (λ (n : ℕ). InhabitsMoreThan cap domain n left.vars.times left.vars.texts (IsMinus domain left right)) (sym period_is) more)

      pub minus_many : (high : ℕ) → IsRefused (IsSpared places left.store right.store) cap high start out → InhabitsMoreThan cap domain k left.vars.times left.vars.texts (IsMinus domain left right)
      minus_many high r = subst (λ (n : ℕ). InhabitsMoreThan cap domain n left.vars.times left.vars.texts (IsMinus domain left right)) period_is
          (step_many domain left.vars.times left.vars.texts start start_is (IsSpared places left.store right.store) (IsMinus domain left right) are cap high out r)

  pub minus_reach : (cap : ℕ) (start out : StoreView) → start ≡ without_cells left.store.shape k → (high : ℕ) → IsAdded (IsSpared places left.store right.store) cap (high + 2 * k) start out → HasReach out (high + 2 * k)
  minus_reach cap start out fresh high a = reach_held (IsSpared places left.store right.store) cap (high + 2 * k) start out (ap (λ (s : StoreView). s.tables) fresh) a.grown
