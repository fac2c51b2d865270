-- The operands of one step more are noted.
use Rattle.lrp_eval.proofs.FreeingLaws.{all_noted, more_noted, none_noted}
use Rattle.lrp_eval.proofs.freeing.last_readers.Goals as goal

pub loop-i-init : goal.loop-i-init
loop-i-init c = none_noted _ _

pub loop-i-preserved : goal.loop-i-preserved
loop-i-preserved c = more_noted c.args.steps.now c.loop-i.i c.operands_of-first.result.0 c.operands_of-first.result.1 c.index-steps-i.result c.loop-i.readers.items c.note.new.readers.items c.note-in-loop-i.new.readers.items c.loop-i-test.true c.index-steps-i.is
    c.operands_of-first.ensures c.loop-i.invariant c.note.ensures c.note-in-loop-i.ensures

pub returns : goal.returns
returns c = all_noted c.args.steps.now c.loop-i.i c.loop-i.readers.items c.loop-i-test.false c.loop-i.invariant
