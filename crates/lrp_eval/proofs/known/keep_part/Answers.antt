-- The last table is that of the last step.
use Rattle.std.proofs.Common.{◌-◌, length, arith}
use Rattle.lrp_eval.proofs.KnownLaws.{got_last, last_known}
use Rattle.lrp_eval.proofs.known.keep_part.Goals as goal

pub returns : goal.returns
returns c = λ planned db q cap run old.
    c.in_ok-keep_copy.ensures planned db q cap (last_known planned db q cap (length c.args.tables.now - 1) c.args.part c.args.tables.now c.index-tables-place.result c.requires (omega (arith, c.if-count-eq0.false))
    (got_last c.args.tables.now (length c.args.tables.now - 1) c.index-tables-place.result (omega (arith, c.if-count-eq0.false)) c.index-tables-place.is) run) old
