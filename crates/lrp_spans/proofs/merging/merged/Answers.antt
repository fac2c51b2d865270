-- Spans whose residues ascend are merged already.
use Rattle.std.proofs.Common.{subst}
use Rattle.std.specs.Prelude.{AllPairs}
use Rattle.lrp_spans.specs.Spans.{HasLessResidue}
use Rattle.lrp_spans.proofs.MergeLaws.{merged_already}
use Rattle.lrp_spans.proofs.merging.merged.Goals as goal

pub returns-then-residues_ascend : goal.returns-then-residues_ascend
returns-then-residues_ascend c = merged_already c.args.spans.items (subst (AllPairs HasLessResidue) c.deref.ensures.value (c.residues_ascend.ensures c.if-residues_ascend.true))
