use Rattle.std.proofs.Common.{map}
use Rattle.lrp_core.specs.FreeVariables.{variable_of}
use Rattle.lrp_core.proofs.VariableLists.{said-step}
use Rattle.lrp_core.proofs.variables.add_terms.Goals as goal

pub loop-term-preserved : goal.loop-term-preserved
loop-term-preserved c =
    said-step c.args.terms.now c.loop-term.term-index c.term-item.result (map variable_of c.args.all.now) (map variable_of c.loop-term.all) (map variable_of c.add_term.new.all) c.loop-term-test.true c.term-item.is c.loop-term.invariant c.in_ok-add_term.ensures
