use Rattle.std.proofs.Common.{◌≡◌, ◌<◌, ◌↔◌, ◌++◌, ◌∷◌, [], length, sym, ap, ◌∙◌, rules}
use Rattle.std.specs.Option.{IsSome}
use Rattle.lrp_plan.proofs.WaitingLaws.{takes_after, takes_left}
use Rattle.lrp_plan.specs.Waiting.{goes_first}
use Rattle.lrp_plan.proofs.waiting.take_first.Goals as goal

pub returns-then-goes_before-clause-taken : goal.returns-then-goes_before-clause-taken
returns-then-goes_before-clause-taken c = λ h.
    let is : c.loop-element.rest.items ≡ c.in-Some.element ∷ c.pop_front.new.self.items = search rules in
    takes_after (goes_first c.args.turn c.args.variables.now) _ c.loop-element.passed.items c.pop_front.new.self.items c.in-Some.element (sym c.loop-element.invariant.1 ∙ ap (λ xs. c.loop-element.passed.items ++ xs) is) (c.loop-element.invariant.0 h) (sym c.goes_before.ensures ∙ c.if-goes_before.true)

pub returns-clause-taken : goal.returns-clause-taken
returns-clause-taken c = λ h.
    let none : c.loop-element.rest.items ≡ [] = search rules in
    let gone : c.pop_front.new.self.items ≡ [] = search rules in
    let v : IsSome c.pop_front-2.result ↔ (0 < length c.loop-element.passed.items) = search rules in
    takes_left (goes_first c.args.turn c.args.variables.now) _ c.loop-element.passed.items c.loop-element.rest.items c.pop_front-2.new.self.items c.pop_front.new.self.items c.pop_front-2.result (sym c.loop-element.invariant.1) none gone c.pop_front-2.ensures.items v (c.loop-element.invariant.0 h)
