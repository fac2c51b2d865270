use Rattle.std.proofs.Common.{◌∙◌, map}
use Rattle.lrp_core.specs.FreeVariables.{variable_of}
use Rattle.lrp_guarded.proofs.Nears.{links_is}
use Rattle.lrp_guarded.proofs.choices.is_linked.Goals as goal

pub returns : goal.returns
returns c = c.some_links.ensures ∙ links_is (map variable_of c.args.taken.now) c.args.tests.now (map variable_of c.args.variables.now)
