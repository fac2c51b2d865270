use Rattle.std.proofs.Common.{[], ◌∷◌, arith}
use Rattle.lrp_parts.specs.Derivations.{HoldsIn}
use Rattle.lrp_keep.proofs.Taken.{none_below}
use Rattle.lrp_keep.proofs.Taking.{alike_still, one_slot, slots_done}
use Rattle.lrp_keep.proofs.unions.add_choices.Goals as goal

pub loop-slot-init : goal.loop-slot-init
loop-slot-init c = none_below c.args.choices.now c.args.out.now c.requires.valid

pub add_slot-requires : goal.add_slot-requires
add_slot-requires c = alike_still (HoldsIn (c.args.choices.now ∷ []) 0) c.args.out.now c.loop-slot.out c.loop-slot.invariant.valid c.loop-slot.invariant.shape c.loop-slot.invariant.period c.requires

pub loop-slot-preserved : goal.loop-slot-preserved
loop-slot-preserved c = one_slot c.args.choices.now c.loop-slot.slot c.args.out.now c.loop-slot.out c.add_slot.new.out c.loop-slot.invariant c.in_ok-add_slot.ensures

pub returns : goal.returns
returns c = slots_done c.args.choices.now c.loop-slot.slot c.slots-slot-end.result c.args.out.now c.loop-slot.out (omega (arith, c.loop-slot-test.false)) c.slots-slot-end.ensures c.loop-slot.invariant
