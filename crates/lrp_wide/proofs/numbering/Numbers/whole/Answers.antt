use Rattle.std.proofs.Common.{◌≡◌, ◌<◌, ◌-◌, ◌^◌, ap, ◌∙◌, arith}
use Rattle.lrp_wide.specs.Counts.{stopped, stopped_counts}
use Rattle.lrp_wide.specs.Inlining.{numbers_of}
use Rattle.lrp_wide.proofs.NumberOrder.{total-of}
use Rattle.lrp_wide.proofs.NumberStops.{none-stopped}
use Rattle.lrp_wide.proofs.numbering.Numbers.whole.Goals as goal

pub returns : goal.returns
returns c = λ counted e.
    let all = total-of c.self.inside.atoms.items c.self.inside.total c.self.invariant.sums ∙ ap (λ l. stopped (numbers_of l)) (c.self.view_is ∙ e) in
    e ∙ none-stopped counted (omega (arith, all, c.in_ok-numbered.ensures.ok))
