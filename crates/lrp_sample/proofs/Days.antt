-- The period of the sample is a day, and its reach is small.
use Rattle.std.proofs.Common.{◌≡◌, ℕ, zero, suc, ◌+◌, ◌*◌, ◌^◌, ◌≤◌, max, List, [], ◌∷◌, ◌++◌, map, flat_map, refl, ap, ap₂, arith, ◌⊎◌, inl, inr}
use Rattle.std.specs.Prelude.{pos, neg_ℤ, nat_abs}
use Rattle.std.specs.List.{AllByRecursion, range_with_len}
use Rattle.lrp_model.specs.Periods.{lcm, lcm_all, value_periods, period}
use Rattle.lrp_model.specs.Reach.{greatest}
use Rattle.lrp_model.specs.Plans.{scaled_reach, IsWithinLimits}
use Rattle.lrp_model.specs.declared.relations.Row.{Row}
use Rattle.lrp_model.proofs.Logic.{all_append}
use Rattle.lrp_sample.specs.Texts.{duration}
use Rattle.lrp_sample.specs.Trees.{trip, sample_relations, sample_question}
use Rattle.lrp_sample.specs.Plans.{sample_steps}

-- ---- numbers that are all 1440

abbrev AreDays : List ℕ → Type 0
AreDays = AllByRecursion (λ k. k ≡ 1440)

one_or_day : (ks : List ℕ) → AreDays ks → (lcm_all ks ≡ 1) ⊎ (lcm_all ks ≡ 1440)
one_or_day [] h = inl refl
one_or_day (k ∷ ks) h = elim (one_or_day ks h.1) [ inl e ↦ inr (ap₂ lcm h.0 e) | inr e ↦ inr (ap₂ lcm h.0 e) ]

day : (ks : List ℕ) → AreDays ks → lcm_all (1440 ∷ ks) ≡ 1440
day ks h = elim (one_or_day ks h) [ inl e ↦ ap (lcm 1440) e | inr e ↦ ap (lcm 1440) e ]

-- ---- the periods of n + 1 trips, those of the first trip in front

trips_are_daily : (seed : ℕ) (is : List ℕ) → AreDays (flat_map (λ row. flat_map value_periods row.values) (map (trip seed) is))
trips_are_daily seed [] = tt
trips_are_daily seed (i ∷ is) = (refl, (refl, trips_are_daily seed is))

module _ (seed n : ℕ) where
  abbrev further_periods : List ℕ
  further_periods = flat_map (λ row. flat_map value_periods row.values) (map (trip seed) (range_with_len 1 n))

  further_daily : AreDays further_periods
  further_daily = trips_are_daily seed (range_with_len 1 n)

  two_days : (ks ls : List ℕ) → AreDays ks → AreDays ls → AreDays (ks ++ ls)
  two_days ks ls h g = (all_append (λ k. k ≡ 1440) ks ls).1 (h, g)

  -- the period of a scan
  abbrev pub scan_period : ℕ
  scan_period = lcm_all (1440 ∷ 1440 ∷ further_periods)

  -- that of a conjunction of a scan and of comparisons
  abbrev pub join_period : ℕ
  join_period = lcm_all (1440 ∷ 1440 ∷ (further_periods ++ []))

  -- and that of a scan with such a conjunction
  abbrev pub body_period : ℕ
  body_period = lcm_all (1440 ∷ 1440 ∷ (further_periods ++ (1440 ∷ 1440 ∷ ((further_periods ++ []) ++ []))))

  pub scan_is_daily : scan_period ≡ 1440
  scan_is_daily = day (1440 ∷ further_periods) (refl, further_daily)

  pub join_is_daily : join_period ≡ 1440
  join_is_daily = day (1440 ∷ (further_periods ++ [])) (refl, two_days further_periods [] further_daily tt)

  pub minus_is_daily : body_period ≡ 1440
  minus_is_daily =
      let taken : AreDays ((further_periods ++ []) ++ []) = two_days (further_periods ++ []) [] (two_days further_periods [] further_daily tt) tt in
      day (1440 ∷ (further_periods ++ (1440 ∷ 1440 ∷ ((further_periods ++ []) ++ []))))
      (refl, two_days further_periods (1440 ∷ 1440 ∷ ((further_periods ++ []) ++ [])) further_daily (refl, (refl, taken)))

pub body_is_daily : (seed size : ℕ) → 1 ≤ size → period (sample_relations seed size) sample_question.body ≡ 1440
body_is_daily seed zero h = absurd (omega arith)
body_is_daily seed (suc n) h = minus_is_daily seed n

-- ---- the reach

abbrev magnitudes : List Row → List ℕ
magnitudes = flat_map (λ row. map (λ bound. nat_abs bound.most) row.bounds)

with_negated : (d n : ℕ) → d ≤ 59 → n ≤ 59 → max d (max (nat_abs (neg_ℤ (pos d))) n) ≤ 59
with_negated zero n h g = omega arith
with_negated (suc d) n h g = omega arith

bounds_are_small : (seed : ℕ) (is : List ℕ) → greatest (magnitudes (map (trip seed) is)) ≤ 59
bounds_are_small seed [] = omega arith
bounds_are_small seed (i ∷ is) = with_negated (duration i) (greatest (magnitudes (map (trip seed) is))) (omega arith) (bounds_are_small seed is)

-- step by step: a scan, the join with its drops, the minus with its drop
reach_by_steps : (bound scan join minus : ℕ) → bound ≤ 59 → scan ≡ 1440 → join ≡ 1440 → minus ≡ 1440
    → 4 * (2 * (max (bound + 2 * 0 + scan) (2 * (2 * (max (bound + 2 * 0 + scan) (max 1 (max 16 0)) + join))) + 2 * minus)) ≤ 117088
reach_by_steps bound scan join minus b s j m = omega arith

pub reach_is_small : (seed size : ℕ) → 1 ≤ size → scaled_reach (sample_steps seed size) sample_question ≤ 117088
reach_is_small seed zero h = absurd (omega arith)
reach_is_small seed (suc n) h =
    reach_by_steps (greatest (magnitudes (map (trip seed) (range_with_len 0 (suc n))))) (scan_period seed n) (join_period seed n) (body_period seed n)
    (bounds_are_small seed (range_with_len 0 (suc n))) (scan_is_daily seed n) (join_is_daily seed n) (minus_is_daily seed n)

within : (p r : ℕ) → p ≡ 1440 → r ≤ 117088 → (p ≤ 2 ^ 62) × (r ≤ 2 ^ 62)
within p r e h = (omega arith, omega arith)

pub is_in_range : (seed size : ℕ) → 1 ≤ size → IsWithinLimits (sample_steps seed size) (sample_relations seed size) sample_question
is_in_range seed size h =
    let both = within (period (sample_relations seed size) sample_question.body) (scaled_reach (sample_steps seed size) sample_question) (body_is_daily seed size h) (reach_is_small seed size h) in
    record { period = both.0; reach = both.1 }
