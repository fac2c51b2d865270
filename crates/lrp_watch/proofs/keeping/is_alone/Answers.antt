-- Neither of the two steps that it may read is one of the first.
use Rattle.lrp_watch.proofs.KeptParts.{alone_by}
use Rattle.lrp_watch.proofs.keeping.is_alone.Goals as goal

pub returns-then-is_after : goal.returns-then-is_after
returns-then-is_after c = λ e. alone_by c.args.edited.now c.args.before c.operands_of-first.result.0 c.operands_of-first.result.1 c.args.kind.now c.operands_of-first.ensures (c.is_scan_of.ensures c.if-is_scan_of.false) (c.is_after.ensures c.if-is_after.true) (c.is_after-then-is_after.ensures e)
