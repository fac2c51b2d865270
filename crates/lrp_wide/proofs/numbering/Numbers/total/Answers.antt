use Rattle.std.proofs.Common.{ap, ◌∙◌}
use Rattle.lrp_wide.specs.Counts.{stopped}
use Rattle.lrp_wide.specs.Inlining.{numbers_of}
use Rattle.lrp_wide.proofs.NumberOrder.{total-of}
use Rattle.lrp_wide.proofs.numbering.Numbers.total.Goals as goal

pub returns : goal.returns
returns c =
    let all = total-of c.self.inside.atoms.items c.self.inside.total c.self.invariant.sums in
    all ∙ ap (λ l. stopped (numbers_of l)) c.self.view_is
