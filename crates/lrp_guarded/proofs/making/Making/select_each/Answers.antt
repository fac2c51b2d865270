use Rattle.std.proofs.Common.{◌≡◌, List, [], ◌∷◌, map, refl, sym, ap, subst, ◌∙◌, rules}
use Rattle.std.proofs.lemmas.Iterator.Adapters.{YieldsList-from_vec}
use Rattle.std.proofs.lemmas.Iterator.Consumers.{YieldsList-end}
use Rattle.lrp_model.specs.declared.formulas.Test.{Test}
use Rattle.lrp_guarded.proofs.Steps.{SelectsEach, selects_none, selects_more}
use Rattle.lrp_guarded.proofs.making.Making.select_each.Goals as goal

pub loop-test-init : goal.loop-test-init
loop-test-init c = selects_none c.args.of c.args.self.now

pub loop-test-preserved : goal.loop-test-preserved
loop-test-preserved c = selects_more c.args.of c.loop-test.yielded c.in-Some.test c.args.self.now c.loop-test.self c.select.new.self c.loop-test.last c.loop-test.invariant c.in_ok-select.ensures

same_items : (ts : List Test) → map (λ t. t) ts ≡ ts
same_items [] = refl
same_items (t ∷ ts) = ap (λ us. t ∷ us) (same_items ts)

pub returns : goal.returns
returns c =
    let t = YieldsList-end (YieldsList-from_vec c.args.tests (search rules) (search rules)) c.loop-test.yielded c.loop-test.test-iterator c.loop-test.yielded_by c.next.result c.next.new.self c.in-None.is c.next.ensures.steps in
    let e : c.loop-test.yielded ≡ c.args.tests = sym (same_items c.loop-test.yielded) ∙ t.0 in
    subst (λ ts. SelectsEach c.args.of ts c.args.self.now c.loop-test.self c.loop-test.last) e c.loop-test.invariant
