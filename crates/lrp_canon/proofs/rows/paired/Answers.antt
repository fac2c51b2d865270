-- One more start, with the first stop after it.
use Rattle.std.proofs.Common.{None, arith, refl}
use Rattle.lrp_canon.proofs.PairLaws.{count_more, here_left, rows_end, rows_more, still_before}
use Rattle.lrp_canon.proofs.rows.paired.Goals as goal

pub passed-next-requires-clause-before : goal.passed-next-requires-clause-before
passed-next-requires-clause-before c = c.loop-start.invariant.before _ (here_left c.args.starts.now c.loop-start.start-index (record { residue = 0; number = None }) c.loop-start-test.true)

pub loop-start-preserved : goal.loop-start-preserved
loop-start-preserved c = record {
  place = c.passed-next.ensures.place;
  before = still_before c.args.stops.now c.args.starts.now c.loop-start.start-index c.passed-next.result (record { residue = 0; number = None }) c.loop-start-test.true c.requires.starts c.passed-next.ensures.before;
  count = count_more c.loop-start.made.items c.push.new.self.items _ c.loop-start.start-index c.loop-start.invariant.count c.in_ok-push.ensures.items;
  each = rows_more c.args.period c.args.stops.now c.args.starts.now c.loop-start.start-index (record { residue = 0; number = None }) c.loop-start.made.items c.push.new.self.items _ c.loop-start-test.true c.loop-start.invariant.count c.in_ok-push.ensures.items c.loop-start.invariant.each
      (record { residue = refl; least = refl; most = c.end_at.ensures });
}

pub returns : goal.returns
returns c = rows_end c.args.period c.args.stops.now c.args.starts.now c.loop-start.start-index c.loop-start.made.items (omega (arith, c.loop-start-test.false)) (omega (arith, c.loop-start.auto.start-index-end)) c.loop-start.invariant.count c.loop-start.invariant.each
