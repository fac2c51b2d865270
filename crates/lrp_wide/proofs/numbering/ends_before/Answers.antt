use Rattle.std.proofs.Common.{ap, sym, ◌∙◌}
use Rattle.std.specs.Option.{option_copied}
use Rattle.lrp_wide.proofs.NumberOrder.{end-none, end-some}
use Rattle.lrp_wide.proofs.numbering.ends_before.Goals as goal

pub returns-in-Some : goal.returns-in-Some
returns-in-Some c =
    c.is_before.ensures ∙ sym (end-some c.args.atoms.now c.in-Some.last.now c.args.place (sym c.last.ensures.value ∙ ap option_copied c.in-Some.is))

pub returns-in-None : goal.returns-in-None
returns-in-None c = sym (end-none c.args.atoms.now c.args.place (sym c.last.ensures.value ∙ ap option_copied c.in-None.is))
