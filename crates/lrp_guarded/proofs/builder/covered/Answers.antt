use Rattle.std.proofs.Common.{true, false, sym, ap, ◌∙◌, ◌&&◌}
use Rattle.lrp_core.specs.Cores.{test_of}
use Rattle.lrp_model.specs.Variables.{free, are_among, variables_of_test}
use Rattle.lrp_model.specs.Steps.{formula_at}
use Rattle.lrp_guarded.proofs.Guarding.{covered_is, found_by, none_by, and_no}
use Rattle.lrp_guarded.proofs.builder.covered.Goals.{else-is_test-via-then-is_test+else-covers, else-is_test-via-else-is_test}
use Rattle.lrp_guarded.proofs.builder.covered.Goals as goal

pub returns-then-covers : goal.returns-then-covers
returns-then-covers c = λ over K steps i m o.
    found_by (test_of c.args.test.now) c.in_ok-own.own _ c.in_ok-own.ensures
    (covered_is (test_of c.args.test.now) c.in_ok-own.own c.columns_of.result.now (free (formula_at steps i)) c.is_test.result c.covers.result c.in_ok-own.ensures c.is_test.ensures c.covers.ensures (c.columns_of.ensures over K steps i m o)
    ∙ ap (λ b. b && c.covers.result) c.if-is_test.true ∙ c.if-covers.true)

pub returns : goal.returns
returns c = λ over K steps i m o. none_by (test_of c.args.test.now) _ (elim c.else-is_test.branch [
  | else-is_test-via-then-is_test+else-covers w ↦
      covered_is (test_of c.args.test.now) c.in_ok-own.own w.columns_of.result.now (free (formula_at steps i)) c.is_test.result w.covers.result c.in_ok-own.ensures c.is_test.ensures w.covers.ensures (w.columns_of.ensures over K steps i m o)
      ∙ and_no c.is_test.result w.covers.result w.if-covers.false
  | else-is_test-via-else-is_test w ↦
      ap (λ x. x && are_among (variables_of_test (test_of c.args.test.now)) (free (formula_at steps i))) (sym c.is_test.ensures ∙ w.if-is_test.false)
])
