-- The table is that of the last step.
use Rattle.std.proofs.Common.{◌≡◌, refl, subst}
use Rattle.lrp_eval.specs.Ending.{IsEnding, IsWanted}
use Rattle.lrp_eval.specs.declared.endings.Ending.{Ending}
use Rattle.lrp_eval.specs.declared.endings.Wanted.TheVariants.{Table, First}
use Rattle.lrp_eval.proofs.endings.run_steps.Goals as goal

pub returns-in-Ok-Whole-clause-table : goal.returns-in-Ok-Whole-clause-table
returns-in-Ok-Whole-clause-table c = λ planned q h. (subst (λ (e : Ending). IsEnding planned c.args.database.now q c.args.cap e) c.in-Ok-Whole.field-0-is (c.in-Ok-Whole.ensures.ending planned q h)).1

pub returns-in-Ok-Whole-clause-valid : goal.returns-in-Ok-Whole-clause-valid
returns-in-Ok-Whole-clause-valid c = (subst (λ (e : Ending). IsEnding c.requires.plan.planned c.args.database.now c.requires.plan.query c.args.cap e) c.in-Ok-Whole.field-0-is (c.in-Ok-Whole.ensures.ending c.requires.plan.planned c.requires.plan.query c.requires.plan.is)).0

pub unreachable-requires : goal.unreachable-requires
unreachable-requires c = (subst (IsWanted Table) c.in-Ok-Parts.field-0-is c.in-Ok-Parts.ensures.wanted) refl

pub unreachable-requires-in-Ok-Nearest : goal.unreachable-requires-in-Ok-Nearest
unreachable-requires-in-Ok-Nearest c = let e : Table ≡ First = subst (IsWanted Table) c.in-Ok-Nearest.field-0-is c.in-Ok-Nearest.ensures.wanted in cc
