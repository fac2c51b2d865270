-- The answers of all whole choices, taken into one store over the columns of the head.
use Rattle.std.proofs.Common.{◌≡◌, ◌<◌, ◌≤◌, ◌+◌, ◌-◌, ◌^◌, ℕ, List, length, Some, Contains, refl, sym, ap, ◌∙◌, arith}
use Rattle.std.specs.Prelude.{ℤ, slice_get}
use Rattle.std.specs.FinMap as finite
use Rattle.std.proofs.lemmas.Option.{same_Some}
use Rattle.lrp_model.specs.declared.tuples.Shape.{Shape}
use Rattle.lrp_store.specs.Stores.{HasReach, InStore, IsStore, StoreView}
use Rattle.lrp_tables.proofs.Passing.{nothing_at}
use Rattle.lrp_tables.specs.Columns.{head_texts, head_times}
use Rattle.lrp_cutting.specs.Settling.{IsLike}
use Rattle.lrp_parts.specs.Derivations.{HoldsIn, Levels}
use Rattle.lrp_keep.specs.States.{IsKeeping, levels_of}
use Rattle.lrp_keep.specs.Taken.{HasTakenSome, HeldHaveReach, IsLikeLast}
use Rattle.lrp_keep.specs.Unions.{HoldsAll, HoldsAmong}
use Rattle.lrp_keep.specs.declared.kept_query.KeptQuery.{KeptQuery}
use Rattle.lrp_keep.specs.declared.states.State.{State}
use Rattle.std.proofs.Common.{to_z, of_z}
use Rattle.std.specs.Int.{w64}
use Rattle.std.specs.Prelude.{nat_abs, pos}
use Rattle.std.proofs.lemmas.Int.{ints}
use Rattle.lrp_steps.proofs.Steps.{store_period}
use Rattle.lrp_limits.specs.declared.periods.Period.{Period}
use Rattle.lrp_keep.proofs.Taken.{holds_all, none_among}
use Rattle.lrp_plan_laws.proofs.Elements.{found, within}
use Rattle.lrp_store.proofs.Held.{Contains-from_get}

abbrev as_shape : ℕ → ℕ → Shape
as_shape times texts = record { times = times; texts = texts }

module _ (of : KeptQuery) (s : State) (is : IsKeeping of s) (start : StoreView) (valid : IsStore start) (empty : start.tables ≡ finite.empty) (times_are : start.shape.times ≡ length (head_times of.query.now.head.columns)) (texts_are : start.shape.texts ≡ length (head_texts of.query.now.head.columns)) (period_is : start.period ≡ s.period.number) where
  abbrev all : List Levels
  all = levels_of s

  pub none_yet : HasTakenSome (HoldsAmong all 0) start start
  none_yet = none_among all start valid

  nothing : (xs : List ℤ) (ns : List ℕ) → InStore start xs ns → ⊥
  nothing xs ns i = nothing_at start empty i.cell i.table i.held

  -- what is held of whole choices is over the head, too
  pub alike : (now : StoreView) → IsStore now → now.shape ≡ start.shape → now.period ≡ start.period → (i : ℕ) (levels : Levels) → slice_get all i ≡ Some levels → IsLikeLast levels now
  alike now valid_now shape period i levels there = record { valid = valid_now; each = each_like }
    where
      shape_is : (store made : StoreView) → store ≡ made → made.shape.times ≡ length (head_times of.query.now.head.columns) → made.shape.texts ≡ length (head_texts of.query.now.head.columns) → start.shape ≡ store.shape
      shape_is store made same t x =
          ap (λ n. as_shape n start.shape.texts) (times_are ∙ sym t) ∙ ap (λ n. as_shape made.shape.times n) (texts_are ∙ sym x) ∙ ap (λ (v : StoreView). v.shape) (sym same)

      each_like : (keys : List ℕ) (store : StoreView) → HoldsIn levels (length levels - 1) keys (Some store) → IsLike store now
      each_like keys store held =
          let d = found of.disjuncts.items i (let l : i < length all = within all i levels there in let n : length all ≡ length of.disjuncts.items = is.state.derived.count in omega (arith, l, n)) in
          let w = is.state.derived.each i d.0 levels d.1 there in
          let x = w.sound.each (length levels - 1) keys (Some store) held in
          let low : 0 < length d.0.atoms.items = (is.state.can i d.0 d.1).some in
          let size : length levels ≡ length d.0.atoms.items = w.sound.count in
          let own : length keys ≡ length levels - 1 + 1 = x.0 in
          let a = x.1.answers (omega (arith, low, size, own)) in
          let same : store ≡ a.2.made.store = same_Some store a.0 a.1 ∙ sym a.2.store in
          record {
            shape = shape ∙ shape_is store a.2.made.store same (sym a.2.made.times_named ∙ ap length a.2.table.times_are) (sym a.2.made.texts_named ∙ ap length a.2.table.texts_are);
            period = period ∙ period_is ∙ sym (ap (λ (t : StoreView). t.period) same ∙ a.2.table.period_is);
          }

  module _ (final : StoreView) (taken : HasTakenSome (HoldsAmong all (length all)) start final) where
    pub all_hold : HoldsAll all of.domain final
    all_hold = holds_all all of.domain start final nothing taken

    pub all_reach : (high : ℕ) → ((levels : Levels) → Contains all levels → HeldHaveReach (HoldsIn levels (length levels - 1)) high) → HasReach final high
    all_reach high each = taken.within high (λ keys store x. each x.1 (Contains-from_get all x.0 x.1 x.3) keys store x.4) (record { each = λ cell table c. absurd (nothing_at start empty cell table c) })

-- the period as it is passed
pub word_period : (p : Period) → nat_abs (to_z w64 (of_z w64 (pos p.number))) ≡ p.number
word_period p = store_period p.number (pos p.number) (let l : 1 ≤ p.number = p.low in omega (arith, l)) p.high refl

pub passed_period : (p : Period) → to_z w64 p.number ≡ pos p.number
passed_period p = let l : p.number ≤ 2 ^ 62 = p.high in omega (arith, ints, l)
