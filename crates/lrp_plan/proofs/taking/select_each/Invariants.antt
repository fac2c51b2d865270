use Rattle.std.proofs.Common.{ℕ}
use Rattle.lrp_model.specs.Satisfaction.{Structure}
use Rattle.lrp_model.specs.Conjunctions.{select_each}
use Rattle.lrp_plan.specs.Drafts.{AreTests, Extends}
use Rattle.lrp_plan.proofs.taking.select_each.Given as goal

-- the tests so far were selected
abbrev pub invariant-loop-test : goal.invariant-loop-test
invariant-loop-test l = (M : Structure) (K : ℕ) → AreTests l.yielded → Extends M K (select_each l.yielded) l.fn.draft l.draft
