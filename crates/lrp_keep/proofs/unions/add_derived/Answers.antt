use Rattle.std.proofs.Common.{ap, sym, ◌∙◌}
use Rattle.std.specs.Prelude.{option_copied}
use Rattle.lrp_keep.proofs.Taking.{last_alike, last_taken, no_level}
use Rattle.lrp_keep.proofs.unions.add_derived.Goals as goal

pub add_choices-requires : goal.add_choices-requires
add_choices-requires c = last_alike c.args.derived.now.levels.items c.in-Some.choices.now c.args.out.now (sym (ap option_copied c.in-Some.is) ∙ c.choices.ensures) c.requires

pub returns-in-Some : goal.returns-in-Some
returns-in-Some c = last_taken c.add_choices.result c.args.derived.now.levels.items c.in-Some.choices.now c.args.out.now c.add_choices.new.out (sym (ap option_copied c.in-Some.is) ∙ c.choices.ensures) c.add_choices.ensures

pub returns-in-None : goal.returns-in-None
returns-in-None c = no_level c.args.derived.now.levels.items c.args.out.now (sym (ap option_copied c.in-None.is) ∙ c.choices.ensures) c.requires.valid
