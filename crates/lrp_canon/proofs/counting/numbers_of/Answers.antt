-- One more span.
use Rattle.std.proofs.Common.{None, arith, ap, ◌∙◌}
use Rattle.std.specs.Prelude.{sum_by}
use Rattle.std.proofs.lemmas.List.{take_all}
use Rattle.std.proofs.lemmas.List.Elements.{Contains-get_or}
use Rattle.lrp_canon.specs.Counting.{capped_count, turns_of}
use Rattle.lrp_canon.proofs.Numbers.{counted_more}
use Rattle.lrp_canon.proofs.counting.numbers_of.Goals as goal

pub count_of-requires-clause-valid : goal.count_of-requires-clause-valid
count_of-requires-clause-valid c = c.requires.valid _ (Contains-get_or c.args.spans.now c.loop-span.span-index (record { residue = 0; first = None; last = None }) c.loop-span-test.true)

pub count_of-requires-clause-ends : goal.count_of-requires-clause-ends
count_of-requires-clause-ends c = c.requires.ends _ (Contains-get_or c.args.spans.now c.loop-span.span-index (record { residue = 0; first = None; last = None }) c.loop-span-test.true)

pub loop-span-preserved : goal.loop-span-preserved
loop-span-preserved c = counted_more c.args.spans.now c.loop-span.span-index (record { residue = 0; first = None; last = None }) c.loop-span.count c.count_of.result c.saturating_add-count.result c.loop-span-test.true c.loop-span.invariant c.count_of.ensures c.saturating_add-count.ensures

pub returns : goal.returns
returns c = c.loop-span.invariant ∙ ap (λ xs. capped_count (sum_by turns_of xs)) (take_all c.loop-span.span-index c.args.spans.now (omega (arith, c.loop-span-test.false)))
