use Rattle.std.proofs.Common.{◌≡◌, ◌&&◌, ◌∙◌, map, sym, ap, refl, rules}
use Rattle.lrp_core.specs.FreeVariables.{variable_of}
use Rattle.lrp_plan.specs.Taking.{Splits}
use Rattle.lrp_plan.proofs.Takes.{takes_in}
use Rattle.lrp_plan.proofs.taking.Taking.take_in.Goals.{then-self, else-self}
use Rattle.lrp_plan.proofs.taking.Taking.take_in.Goals as goal

pub returns : goal.returns
returns c =
    let settled : c.if-self.settled ≡ (c.args.self.now.settled && c.in_ok-known.known) =
    elim c.if-self.branch [ then-self w ↦ w.settled-is ∙ sym (ap (λ b. b && c.in_ok-known.known) w.if-self.true) | else-self w ↦ w.settled-is ∙ w.if-self.false ∙ sym (ap (λ b. b && c.in_ok-known.known) w.if-self.false) ] in
    let split : Splits c.if-self.settled (map variable_of c.add_further.new.all) c.args.self.now.tests c.in_ok-carried.carried c.in_ok-carried.left = search rules in
    takes_in (map variable_of c.args.variables.now) c.args.self.now _ c.args.draft.now c.carry.new.draft c.in_ok-carried.carried c.if-self.settled (settled ∙ ap (λ b. c.args.self.now.settled && b) c.in_ok-known.ensures.known) c.in_ok-known.ensures.all split refl c.in_ok-carry.ensures
