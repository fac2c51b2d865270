use Rattle.std.proofs.Common.{ap, sym, ◌∙◌}
use Rattle.std.specs.Prelude.{option_copied}
use Rattle.lrp_keep.proofs.Taking.{alike_slot, no_slot, taken_slot}
use Rattle.lrp_keep.proofs.unions.add_slot.Goals as goal

pub add_answers-requires : goal.add_answers-requires
add_answers-requires c = alike_slot c.args.choices.now c.args.slot c.in-Some.answers.now c.args.out.now (sym (ap option_copied c.in-Some.is) ∙ c.value.ensures) c.requires

pub returns-in-Some : goal.returns-in-Some
returns-in-Some c = taken_slot c.add_answers.result c.args.choices.now c.args.slot c.in-Some.answers.now c.args.out.now c.add_answers.new.out (sym (ap option_copied c.in-Some.is) ∙ c.value.ensures) c.add_answers.ensures

pub returns-in-None : goal.returns-in-None
returns-in-None c = no_slot c.args.choices.now c.args.slot c.args.out.now (sym (ap option_copied c.in-None.is) ∙ c.value.ensures)
