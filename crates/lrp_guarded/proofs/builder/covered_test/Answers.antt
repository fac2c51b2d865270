use Rattle.std.proofs.Common.{◌≡◌, ℕ, sym, ap, subst}
use Rattle.std.specs.Result.{IfOk}
use Rattle.lrp_core.specs.Cores.{core_of}
use Rattle.lrp_model.specs.Variables.{free}
use Rattle.lrp_model.specs.Steps.{Steps, formula_at}
use Rattle.lrp_plan_laws.specs.Projections.{PlanGround as Ground}
use Rattle.lrp_plan.specs.Drafts.{IsPlannedOperand}
use Rattle.lrp_guarded.specs.Making.{IsMaking}
use Rattle.lrp_guarded.specs.Building.{selected_test}
use Rattle.lrp_guarded.proofs.builder.covered_test.Goals as goal

pub returns-in-Check : goal.returns-in-Check
returns-in-Check c =
    subst (λ f. IfOk c.covered.result (λ found. (over : Ground) (K : ℕ) (steps : Steps) (i : ℕ) → IsMaking over K c.args.making.now steps → IsPlannedOperand over.structure.relations K steps i c.args.guard → found ≡ selected_test (free (formula_at steps i)) f))
    (sym (ap core_of c.in-Check.is)) c.covered.ensures
