-- The tuples of either of two tables over the variables of both.
use Rattle.std.proofs.Common.{◌≡◌, ◌≢◌, ℕ, ◌+◌, ◌<◌, ◌≤◌, ◌^◌, ◌-◌, ◌⊎◌, inl, inr, List, ◌++◌, length, refl, sym, ap, subst, ◌∙◌, arith, to_z, of_z, Contains}
use Rattle.std.specs.Prelude.{ℤ, pos, nat_abs, AllPairs}
use Rattle.std.specs.Int.{w64}
use Rattle.std.proofs.lemmas.List.{length-append, get_or_append_left, get_or-append-add}
use Rattle.lrp_theory.specs.Divides.{Divides}
use Rattle.lrp_model.specs.Texts.{Text, Identifier, Ascends}
use Rattle.lrp_model.specs.declared.tuples.Shape.{Shape}
use Rattle.lrp_store.specs.Stores.{StoreView, IsStore, HasReach}
use Rattle.lrp_store.specs.Growing.{IsAdded, IsRefused}
use Rattle.lrp_tables.specs.declared.table.Table.{Table}
use Rattle.lrp_tables.specs.declared.table.Vars.{Vars}
use Rattle.lrp_store.proofs.Grown.{Set}
use Rattle.lrp_systems.specs.Parts.{system_reach}
use Rattle.lrp_tables.specs.Calls.{CanMeet}
use Rattle.lrp_tables.specs.Caps.{InhabitsMoreThan}
use Rattle.lrp_tables.specs.Columns.{ArePlacesOf, joint}
use Rattle.lrp_tables.specs.Steps.{CanCombine}
use Rattle.lrp_tables.specs.Tables.{IsUnited, IsTableOf}
use Rattle.lrp_tables.proofs.CellsNamed.{AreTuplesOf}
use Rattle.lrp_tables.proofs.HeadNames.{pairs_apart}
use Rattle.lrp_tables.proofs.Joining.{joint_differs, of_joint}
use Rattle.lrp_tables.proofs.Named.{pairs_left, pairs_right}
use Rattle.lrp_tables.specs.declared.names.Places.{Places}
use Rattle.lrp_steps.specs.declared.pattern.Pattern.{Pattern}
use Rattle.lrp_steps.specs.Patterns.{parts_of, IsOver}
use Rattle.lrp_steps.specs.Gathered.{IsFound, CanStandIn, HasBrought}
use Rattle.lrp_tables.proofs.Gathering.{IsGathering, gathering_none, gathering_more, gathering_refused, gathered}
use Rattle.lrp_steps.proofs.Steps.{at_has, has_at, can_stand, over_tuples, has_texts, free, free_reach, free_suits, step_table, step_few, step_many, step_reach, brought_by, divides_abs, empty_store, fresh_by, positive, same_word}

-- the names of two tables differ where they meet
pub apart_names : (names more : List Identifier) → AllPairs ◌≢◌ (names ++ more) → (name : Identifier) → Contains names name → Contains more name → ⊥
apart_names names more pairs name h k =
    let l : h.0 < length names = h.1 in
    let m : k.0 < length more = k.1 in
    let n : length (names ++ more) ≡ length names + length more = length-append names more in
    pairs h.0 (length names + k.0) name (omega arith) (omega arith) (get_or_append_left names more name h.0 l ∙ h.2 ∙ sym k.2 ∙ sym (get_or-append-add names more k.0 name))

pub joint_names_differ : (left right : Table) → CanMeet left right → AllPairs ◌≢◌ (joint left.vars.times right.vars.times ++ joint left.vars.texts right.vars.texts)
joint_names_differ left right meet =
    pairs_apart (joint left.vars.times right.vars.times) (joint left.vars.texts right.vars.texts) (joint_differs left.vars.times right.vars.times (pairs_left ◌≢◌ left.vars.times left.vars.texts left.names_differ)) (joint_differs left.vars.texts right.vars.texts (pairs_right ◌≢◌ left.vars.times left.vars.texts left.names_differ))
    (λ name h k. elim (of_joint left.vars.times right.vars.times name h) [
      | inl a ↦ elim (of_joint left.vars.texts right.vars.texts name k) [
        | inl b ↦ apart_names left.vars.times left.vars.texts left.names_differ name a b
        | inr b ↦ meet.left_apart name a b
      ]
      | inr a ↦ elim (of_joint left.vars.texts right.vars.texts name k) [
        | inl b ↦ meet.right_apart name a b
        | inr b ↦ apart_names right.vars.times right.vars.texts right.names_differ name a b
      ]
    ])

module _ (domain : List Text) (ascends : Ascends domain) (step : ℤ) (left right : Table) (tables : CanCombine step left right)
    (vars : Vars) (vars_times : vars.times ≡ joint left.vars.times right.vars.times) (vars_texts : vars.texts ≡ joint left.vars.texts right.vars.texts)
    (lp rp : Places) (left_times : ArePlacesOf left.vars.times vars.times lp.times) (left_texts : ArePlacesOf left.vars.texts vars.texts lp.texts)
    (right_times : ArePlacesOf right.vars.times vars.times rp.times) (right_texts : ArePlacesOf right.vars.texts vars.texts rp.texts)
    (pattern : Pattern) (none : pattern ≡ free) (size : ℕ) (es : size ≡ length domain) (cap : ℕ) (start : StoreView)
    (begins : start ≡ empty_store vars.times vars.texts (nat_abs (to_z w64 (of_z w64 step)))) where
  abbrev times : List Identifier
  times = joint left.vars.times right.vars.times

  abbrev texts : List Identifier
  texts = joint left.vars.texts right.vars.texts

  abbrev shape : Shape
  shape = record { times = length times; texts = length texts }

  abbrev period : ℕ
  period = nat_abs step

  meet : CanMeet left right
  meet = tables.columns

  low : 0 < period
  low = positive step tables.low

  -- the places are among the joint columns, and the store has these
  lt : ArePlacesOf left.vars.times times lp.times
  lt = subst (λ l. ArePlacesOf left.vars.times l lp.times) vars_times left_times

  lx : ArePlacesOf left.vars.texts texts lp.texts
  lx = subst (λ l. ArePlacesOf left.vars.texts l lp.texts) vars_texts left_texts

  rt : ArePlacesOf right.vars.times times rp.times
  rt = subst (λ l. ArePlacesOf right.vars.times l rp.times) vars_times right_times

  rx : ArePlacesOf right.vars.texts texts rp.texts
  rx = subst (λ l. ArePlacesOf right.vars.texts l rp.texts) vars_texts right_texts

  fresh : start ≡ empty_store times texts period
  fresh = fresh_by start vars.times times vars.texts texts _ period begins vars_times vars_texts (same_word step tables.low tables.high)

  -- the tuples of the one and of the other
  abbrev OfLeft : Set
  OfLeft = IsFound left.store lp pattern

  abbrev OfRight : Set
  OfRight = IsFound right.store rp pattern

  abbrev OfBoth : Set
  OfBoth xs ns = OfLeft xs ns ⊎ OfRight xs ns

  abbrev United : Set
  United = IsOver shape size OfBoth

  are : AreTuplesOf domain times texts United (IsUnited domain left right)
  are = over_tuples domain times texts shape size es refl refl OfBoth (IsUnited domain left right)
      (λ env ns a h. record {
        known = has_texts domain texts env ns a;
        has = elim h [
          | inl f ↦ inl (at_has domain ascends left.store left.vars.times left.vars.texts times texts lp lt lx env ns a f.held)
          | inr f ↦ inr (at_has domain ascends right.store right.vars.times right.vars.texts times texts rp rt rx env ns a f.held)
        ];
      })
      (λ env m. m.known)
      (λ env m ns a. elim m.has [
        | inl f ↦ inl (record { held = has_at domain ascends left.store left.vars.times left.vars.texts times texts lp lt lx env ns a f; suits = free_suits pattern none _ ns })
        | inr f ↦ inr (record { held = has_at domain ascends right.store right.vars.times right.vars.texts times texts rp rt rx env ns a f; suits = free_suits pattern none _ ns })
      ])

  start_period : start.period ≡ period
  start_period = ap (λ (s : StoreView). s.period) fresh

  start_shape : start.shape ≡ shape
  start_shape = ap (λ (s : StoreView). s.shape) fresh

  -- both can stand among the columns
  pub left_stands : IsStore left.store → CanStandIn lp left.store start
  left_stands is = can_stand domain ascends left.store left.vars.times left.vars.texts times texts lp lt lx start is left.times_named left.texts_named (pairs_left ◌≢◌ left.vars.times left.vars.texts left.names_differ)
      (ap (λ (q : Shape). q.times) start_shape) (ap (λ (q : Shape). q.texts) start_shape) (subst (λ k. Divides (pos left.store.period) (pos k)) (sym start_period) (divides_abs step _ tables.low tables.left_period)) (λ n. subst (λ k. HasReach left.store (2 ^ 62 - k)) (sym start_period) tables.left_reach)

  right_of : (out : StoreView) → IsStore right.store → out.shape ≡ shape → out.period ≡ period → CanStandIn rp right.store out
  right_of out is e k = can_stand domain ascends right.store right.vars.times right.vars.texts times texts rp rt rx out is right.times_named right.texts_named (pairs_left ◌≢◌ right.vars.times right.vars.texts right.names_differ)
      (ap (λ (q : Shape). q.times) e) (ap (λ (q : Shape). q.texts) e) (subst (λ p. Divides (pos right.store.period) (pos p)) (sym k) (divides_abs step _ tables.low tables.right_period)) (λ n. subst (λ p. HasReach right.store (2 ^ 62 - p)) (sym k) tables.right_reach)

  to_left : (xs : List ℤ) (ns : List ℕ) → IsOver start.shape size OfLeft xs ns → United xs ns
  to_left xs ns h = subst (λ (q : Shape). IsOver q size OfBoth xs ns) start_shape (record { times_count = h.times_count; texts_count = h.texts_count; known = h.known; is = inl h.is })

  begun : (high : ℕ) → IsStore start → IsGathering United United cap high start start
  begun high valid = gathering_none United cap high start United valid (λ xs ns h. h)

  module _ (valid : IsStore start) where
    pub left_many : (out : StoreView) → ((high : ℕ) → HasBrought left.store start.period high → system_reach start.period (parts_of pattern) ≤ high → IsRefused (IsOver start.shape size OfLeft) cap high start out) → InhabitsMoreThan cap domain period times texts (IsUnited domain left right)
    left_many out refused =
        let high : ℕ = 2 ^ 62 + period in
        let b = subst (λ k. HasBrought left.store k high) (sym start_period) (brought_by left.store period (2 ^ 62) (wide left.store tables.left_reach)) in
        step_many domain ascends times texts (pairs_left ◌≢◌ times texts (joint_names_differ left right meet)) (pairs_right ◌≢◌ times texts (joint_names_differ left right meet)) meet.times meet.texts period low United (IsUnited domain left right) are cap start out fresh high
        (gathering_refused United cap high start United (IsOver start.shape size OfLeft) high start out (begun high valid) (omega arith) to_left (refused high b (free_reach pattern none start.period high)))
      where
        wide : (s : StoreView) → HasReach s (2 ^ 62 - period) → HasReach s (2 ^ 62)
        wide s r = record { each = λ c t h. let l = r.each c t h in omega (arith, l) }

    module _ (mid : StoreView) (ok : (high : ℕ) → HasBrought left.store start.period high → system_reach start.period (parts_of pattern) ≤ high → IsAdded (IsOver start.shape size OfLeft) cap high start mid) where
      abbrev Rest : Set
      Rest = IsOver shape size OfRight

      -- the one was added
      half : (high : ℕ) → HasReach left.store high → IsGathering United Rest cap (high + period) start mid
      half high r =
          gathering_more United cap (high + period) start United Rest (IsOver start.shape size OfLeft) (high + period) start mid (begun (high + period) valid) (omega arith) to_left
          (λ xs ns h l. elim h.is [
            | inl f ↦ inl (subst (λ (q : Shape). IsOver q size OfLeft xs ns) (sym start_shape) (record { times_count = h.times_count; texts_count = h.texts_count; known = h.known; is = f }))
            | inr f ↦ inr (record { times_count = h.times_count; texts_count = h.texts_count; known = h.known; is = f })
          ])
          (ok (high + period) (subst (λ k. HasBrought left.store k (high + period)) (sym start_period) (brought_by left.store period high r)) (free_reach pattern none start.period (high + period)))

      mid_shape : mid.shape ≡ shape
      mid_shape = (half (2 ^ 62 - period) tables.left_reach).grown.shape ∙ start_shape

      pub mid_valid : IsStore mid
      mid_valid = (half (2 ^ 62 - period) tables.left_reach).grown.valid

      mid_period : mid.period ≡ period
      mid_period = (half (2 ^ 62 - period) tables.left_reach).grown.period ∙ start_period

      pub right_stands : IsStore right.store → CanStandIn rp right.store mid
      right_stands is = right_of mid is mid_shape mid_period

      to_right : (xs : List ℤ) (ns : List ℕ) → IsOver mid.shape size OfRight xs ns → United xs ns
      to_right xs ns h = subst (λ (q : Shape). IsOver q size OfBoth xs ns) mid_shape (record { times_count = h.times_count; texts_count = h.texts_count; known = h.known; is = inr h.is })

      pub right_many : (out : StoreView) → ((high : ℕ) → HasBrought right.store mid.period high → system_reach mid.period (parts_of pattern) ≤ high → IsRefused (IsOver mid.shape size OfRight) cap high mid out) → InhabitsMoreThan cap domain period times texts (IsUnited domain left right)
      right_many out refused =
          let high : ℕ = (2 ^ 62 - period) + period in
          let b = subst (λ k. HasBrought right.store k high) (sym mid_period) (brought_by right.store period (2 ^ 62 - period) tables.right_reach) in
          step_many domain ascends times texts (pairs_left ◌≢◌ times texts (joint_names_differ left right meet)) (pairs_right ◌≢◌ times texts (joint_names_differ left right meet)) meet.times meet.texts period low United (IsUnited domain left right) are cap start out fresh high
          (gathering_refused United cap high start Rest (IsOver mid.shape size OfRight) high mid out (half (2 ^ 62 - period) tables.left_reach) (omega arith) to_right (refused high b (free_reach pattern none mid.period high)))

      module _ (out : StoreView) (done : (high : ℕ) → HasBrought right.store mid.period high → system_reach mid.period (parts_of pattern) ≤ high → IsAdded (IsOver mid.shape size OfRight) cap high mid out) where
        abbrev Nothing : Set
        Nothing xs ns = ⊥

        both : (high : ℕ) → HasReach left.store high → HasReach right.store high → IsAdded United cap (high + period) start out
        both high l r =
            gathered United cap (high + period) start Nothing out
            (gathering_more United cap (high + period) start Rest Nothing (IsOver mid.shape size OfRight) (high + period) mid out (half high l) (omega arith) to_right
            (λ xs ns h f. inl (subst (λ (q : Shape). IsOver q size OfRight xs ns) (sym mid_shape) f))
            (done (high + period) (subst (λ k. HasBrought right.store k (high + period)) (sym mid_period) (brought_by right.store period high r)) (free_reach pattern none mid.period (high + period))))
            (λ xs ns h f. f)

        all : IsAdded United cap ((2 ^ 62 - period) + period) start out
        all = both (2 ^ 62 - period) tables.left_reach tables.right_reach

        pub union_table : (made : Table) → made.vars.times ≡ times → made.vars.texts ≡ texts → made.store ≡ out → IsTableOf domain times texts period (IsUnited domain left right) made
        union_table = step_table domain ascends times texts (pairs_left ◌≢◌ times texts (joint_names_differ left right meet)) (pairs_right ◌≢◌ times texts (joint_names_differ left right meet)) meet.times meet.texts period low United (IsUnited domain left right) are cap start out fresh ((2 ^ 62 - period) + period) all

        pub union_few : InhabitsMoreThan cap domain period times texts (IsUnited domain left right) → ⊥
        union_few = step_few domain ascends times texts (pairs_left ◌≢◌ times texts (joint_names_differ left right meet)) (pairs_right ◌≢◌ times texts (joint_names_differ left right meet)) meet.times meet.texts period low United (IsUnited domain left right) are cap start out fresh ((2 ^ 62 - period) + period) all

        pub union_reach : (high : ℕ) → HasReach left.store high → HasReach right.store high → HasReach out (high + period)
        union_reach high l r = step_reach domain ascends times texts (pairs_left ◌≢◌ times texts (joint_names_differ left right meet)) (pairs_right ◌≢◌ times texts (joint_names_differ left right meet)) meet.times meet.texts period low United (IsUnited domain left right) are cap start out fresh (high + period) (both high l r)

        pub union_times : length times ≡ out.shape.times
        union_times = ap (λ (q : Shape). q.times) (sym (all.grown.shape ∙ start_shape))

        pub union_texts : length texts ≡ out.shape.texts
        union_texts = ap (λ (q : Shape). q.texts) (sym (all.grown.shape ∙ start_shape))
