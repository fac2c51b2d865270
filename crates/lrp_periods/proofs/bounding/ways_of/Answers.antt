-- The store's period divides the other.
use Rattle.std.proofs.Common.{◌≡◌, ◌*◌, ◌/◌, ◌≤◌, ◌^◌, ℕ, sym, subst, arith, to_z, of_z, w64}
use Rattle.std.specs.Prelude.{ℤ, pos, nat_abs}
use Rattle.std.proofs.lemmas.Int.{ints}
use Rattle.lrp_periods.proofs.WayLaws.{ways_value, ways_some}
use Rattle.lrp_periods.proofs.bounding.ways_of.Goals as goal

-- a period of 63 bits is its word
word_is : (p : ℕ) (z : ℤ) → z ≡ pos p → p ≤ 2 ^ 62 → nat_abs (to_z w64 (of_z w64 z)) ≡ p
word_is p z e h = omega (arith, ints)

pub returns-clause-value : goal.returns-clause-value
returns-clause-value c =
    subst (λ d. c.args.period / d * c.args.store.now.period ≡ c.args.period) (sym (word_is c.args.store.now.period c.period.result c.period.ensures c.requires.valid.period_high))
    (ways_value c.args.store.now.period c.args.period c.requires.valid.period_low c.requires.multiple)

pub returns-clause-some : goal.returns-clause-some
returns-clause-some c = ways_some _ c.args.store.now.period c.args.period (returns-clause-value c) c.requires.low
