-- One table more is looked at.
use Rattle.std.proofs.Common.{◌∙◌, Contains, List, length, subst, sym}
use Rattle.std.specs.List.{AllByRecursion}
use Rattle.lrp_plan_laws.proofs.Members.{all_by}
use Rattle.lrp_eval.specs.declared.known.PartTable.{PartTable}
use Rattle.lrp_model.specs.declared.plans.Step.{Step}
use Rattle.lrp_watch.specs.Keeping.{AreStillKeptWith, IsStillKept}
use Rattle.lrp_watch.proofs.KeptParts.{all_known, none_known}
use Rattle.lrp_watch.proofs.keeping.known_of.Goals as goal

pub returns-then-not-is_same_domain : goal.returns-then-not-is_same_domain
returns-then-not-is_same_domain c = λ db cap kept. none_known cap db c.args.plan.now _ c.new.ensures

pub loop-table-init : goal.loop-table-init
loop-table-init c = record {
  left = subst (AllByRecursion (Contains c.args.kept.tables)) (sym (c.into_iter-table-iterator.ensures.into_iter_gives.0 ∙ c.into_vec-table-items.ensures)) (all_by (Contains c.args.kept.tables) c.args.kept.tables (λ t h. h));
  known = subst (AllByRecursion (IsStillKept c.args.kept.tables c.args.kept.edited c.args.kept.plan.steps c.args.plan.now.steps)) (sym c.new-known.ensures) tt;
}

pub loop-table-preserved : goal.loop-table-preserved
loop-table-preserved c =
    let left = subst (AllByRecursion (Contains c.args.kept.tables)) c.in-Some.ensures.steps.0 c.loop-table.invariant.left in
    record {
      left = left.1;
      known = subst (λ (old : List Step). AreStillKeptWith c.args.kept.edited old c.args.plan.now.steps c.in-Some.table c.loop-table.known c.add_still.new.known) c.as_slice.ensures
          (subst (λ (new : List Step). AreStillKeptWith c.args.kept.edited c.as_slice.result.now new c.in-Some.table c.loop-table.known c.add_still.new.known) c.as_slice-in-loop-table.ensures c.in_ok-add_still.ensures) c.args.kept.tables left.0 c.loop-table.invariant.known;
    }

pub returns : goal.returns
returns c = λ db cap kept. all_known cap db c.args.kept c.args.plan.now c.loop-table.known (c.is_same_domain.ensures c.if-not-is_same_domain.false) c.loop-table.invariant.known kept
