-- The steps of both ends divide the period.
use Rattle.std.proofs.Common.{◌^◌, subst, sym}
use Rattle.lrp_spans.specs.Spans.{AreOpenAbove, AreOpenBelow}
use Rattle.lrp_spans.proofs.EndSteps.{open_residues, least_divides_period, with_both}
use Rattle.lrp_spans.proofs.periods.with_ends.Goals as goal

pub least_period-requires-clause-residues : goal.least_period-requires-clause-residues
least_period-requires-clause-residues c = open_residues (λ s. s.last) c.args.period c.args.spans.now c.deref.result.now c.requires.period_low c.requires.below (subst (AreOpenAbove c.args.spans.now) (sym c.deref.ensures.value) c.in_ok-above.ensures)

pub multiple-least-requires-clause-other : goal.multiple-least-requires-clause-other
multiple-least-requires-clause-other c = least_divides_period c.args.period c.deref.result.now c.least_period.result c.requires.period_low c.least_period.ensures

pub least_period-requires-2-clause-residues : goal.least_period-requires-2-clause-residues
least_period-requires-2-clause-residues c = open_residues (λ s. s.first) c.args.period c.args.spans.now c.deref-2.result.now c.requires.period_low c.requires.below (subst (AreOpenBelow c.args.spans.now) (sym c.deref-2.ensures.value) c.in_ok-below.ensures)

pub multiple-requires-clause-other : goal.multiple-requires-clause-other
multiple-requires-clause-other c = least_divides_period c.args.period c.deref-2.result.now c.least_period-2.result c.requires.period_low c.least_period-2.ensures

pub returns : goal.returns
returns c = with_both c.args.period (2 ^ 62) c.args.spans.now c.requires.period_low c.requires.spans.each c.requires.below c.deref.result.now c.deref-2.result.now
    (subst (AreOpenAbove c.args.spans.now) (sym c.deref.ensures.value) c.in_ok-above.ensures) (subst (AreOpenBelow c.args.spans.now) (sym c.deref-2.ensures.value) c.in_ok-below.ensures)
    c.least_period.result c.least_period-2.result c.args.least c.multiple-least.result c.multiple.result c.least_period.ensures c.least_period-2.ensures c.multiple-least.ensures.multiple c.multiple.ensures.multiple c.multiple.ensures.divides
