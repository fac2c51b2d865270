-- The spans of each group are some of the store's period.
use Rattle.std.proofs.Common.{◌≡◌, ℕ, ◌≤◌, ◌^◌, subst, sym, to_z, of_z, w64, arith}
use Rattle.std.specs.Prelude.{ℤ, pos, nat_abs}
use Rattle.std.proofs.lemmas.Int.{ints}
use Rattle.lrp_spans.specs.Periods.{AreSpanLists}
use Rattle.lrp_canon.proofs.LeastLaws.{span_lists}
use Rattle.lrp_canon.proofs.answers.periods_of.Goals as goal

-- the period is a word
period_word : (k : ℕ) (p : ℤ) → k ≤ 2 ^ 62 → p ≡ pos k → nat_abs (to_z w64 (of_z w64 p)) ≡ k
period_word k p l e = omega (arith, ints)

pub period_of-requires-clause-spans : goal.period_of-requires-clause-spans
period_of-requires-clause-spans c = subst (λ k. AreSpanLists k c.args.groups.now.lists) (sym (period_word c.args.store.now.period c.period-whole.result c.requires.valid.period_high c.period-whole.ensures))
    (span_lists c.args.store.now c.requires.valid c.requires.can.column c.args.groups.now.lists c.requires.groups)
