use Rattle.std.proofs.Common.{◌∙◌, sym, ap}
use Rattle.lrp_core.specs.Cores.{cores_of}
use Rattle.lrp_core.specs.Junctions.{junction_of}
use Rattle.lrp_core.proofs.CoreViews.{core_of-And, core_of-Or}
use Rattle.lrp_core.proofs.junctions.Junction.of.Goals as goal

pub returns-in-And : goal.returns-in-And
returns-in-And c = core_of-And c.args.of ∙ ap (λ j. junction_of j (cores_of c.args.of.items)) (sym c.in-And.is)

pub returns-in-Or : goal.returns-in-Or
returns-in-Or c = core_of-Or c.args.of ∙ ap (λ j. junction_of j (cores_of c.args.of.items)) (sym c.in-Or.is)
