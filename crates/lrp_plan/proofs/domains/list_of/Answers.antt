use Rattle.std.proofs.Common.{◌≡◌, ◌++◌, ◌∷◌, [], ◌∙◌, rules}
use Rattle.std.specs.Map.Iter.{deref}
use Rattle.std.proofs.lemmas.Map.Iter.{rest_more, rest_all}
use Rattle.lrp_plan.proofs.Gathered.{copied_more, copied_all}
use Rattle.lrp_plan.proofs.domains.list_of.Goals as goal

pub loop-text-preserved : goal.loop-text-preserved
loop-text-preserved c =
    let pushed : c.push.new.self.items ≡ c.loop-text.list.items ++ c.in-Some.text.now ∷ [] = search rules in
    copied_more c.loop-text.list.items c.push.new.self.items _ _ _ c.in-Some.text.now c.loop-text.invariant (rest_more deref _ _ _ c.in-Some.text c.in-Some.is c.next.ensures.steps) pushed

pub returns : goal.returns
returns c = c.from_vec.ensures ∙ copied_all c.loop-text.list.items _ _ c.loop-text.invariant (rest_all deref _ _ _ c.in-None.is c.next.ensures.steps)
