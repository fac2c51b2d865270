use Rattle.std.proofs.Common.{◌≡◌, ◌++◌, [], sym, subst, ◌∙◌, rules}
use Rattle.lrp_model.specs.Conjunctions.{first_or_0}
use Rattle.lrp_plan.proofs.WaitingLaws.{none_after, still_after, takes_next, takes_front, emptied}
use Rattle.lrp_plan.specs.Waiting.{FallAfter, goes_first}
use Rattle.lrp_plan.proofs.waiting.Waiting.take_next.Goals as goal
use Rattle.lrp_plan.proofs.waiting.Waiting.take_next.Goals.{then-not-is_same+in_ok-seen+in_ok-look_again, else-not-is_same}

pub returns : goal.returns
returns c =
    let e : c.if-not-is_same.self-inside.passed.items ++ c.if-not-is_same.self-inside.rest.items ≡ c.args.self.now =
    elim c.if-not-is_same.branch [ then-not-is_same+in_ok-seen+in_ok-look_again w ↦ search rules | else-not-is_same w ↦ search rules ] in
    let h : FallAfter c.args.turn c.args.variables.now c.if-not-is_same.self-inside.passed.items =
    elim c.if-not-is_same.branch [
      | then-not-is_same+in_ok-seen+in_ok-look_again w ↦ none_after c.args.turn c.args.variables.now _ (search rules)
      | else-not-is_same w ↦
          let stay : c.if-not-is_same.self-inside.passed.items ≡ c.self.inside.passed.items = search rules in
          let same = c.is_same.ensures w.if-not-is_same.false in
          subst (FallAfter c.args.turn c.args.variables.now) (sym stay) (still_after c.self.inside.turn c.args.turn c.self.inside.seen c.args.variables.now c.self.inside.passed.items same.0 (sym c.as_slice-2.ensures ∙ same.1 ∙ c.as_slice-3.ensures) c.self.invariant)
    ] in
    takes_next c.take_first.result c.args.turn c.as_slice-4.result.now c.args.variables.now c.args.self.now c.if-not-is_same.self-inside.passed.items c.if-not-is_same.self-inside.rest.items _ c.as_slice-4.ensures e h c.take_first.ensures.taken

pub returns-then-is_first_next : goal.returns-then-is_first_next
returns-then-is_first_next c =
    let none : c.self.inside.passed.items ≡ [] = emptied c.self.inside.passed.items (search rules) in
    takes_front (goes_first c.args.turn c.args.variables.now) c.args.self.now c.self.inside.passed.items c.self.inside.rest.items c.pop_front.new.self.items c.pop_front.result (search rules) none
    (subst (λ vs. first_or_0 (goes_first c.args.turn vs) c.self.inside.rest.items ≡ 0) c.as_slice.ensures (c.is_first_next.ensures c.if-is_first_next.true)) (search rules) (search rules)
