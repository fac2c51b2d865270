use Rattle.std.proofs.Common.{◌≡◌, rules, subst}
use Rattle.std.specs.Result.{IfOk, OnOk}
use Rattle.lrp_model.specs.Formulas.{joined}
use Rattle.lrp_core.specs.Cores.{core_of, cores_of}
use Rattle.lrp_core.proofs.Joined.{elements-more}
use Rattle.lrp_core.proofs.Formed.{formed-And, formed-Or, formed-all, inner-And, inner-Or, no_elements, all_formed-more}
use Rattle.lrp_core.proofs.forming.+forming.Goals as goal

pub formed-returns-in-And : goal.formed-returns-in-And
formed-returns-in-And t c =
    subst (λ x. IfOk c.formed_conjunction.result (λ core. core_of core ≡ x)) (formed-And c.args.forming.polarity c.args.f.now c.in-And.of c.args.forming.named c.in-And.is) (rw c.deref-in-And.ensures.value at c.formed_conjunction.ensures)

pub formed-returns-in-Or : goal.formed-returns-in-Or
formed-returns-in-Or t c =
    subst (λ x. IfOk c.all_formed.result (λ core. core_of core ≡ x)) (formed-Or c.args.forming.polarity c.args.f.now c.in-Or.of c.args.forming.named c.in-Or.is) (rw (c.choice.ensures, c.deref-in-Or.ensures.value) at c.all_formed.ensures)

pub push_all-loop-f-init : goal.push_all-loop-f-init
push_all-loop-f-init t c = no_elements c.args.forming.polarity c.args.junction c.args.forming.named (cores_of c.args.all.now.items)

pub push_all-loop-f-preserved : goal.push_all-loop-f-preserved
push_all-loop-f-preserved t c =
    elements-more c.args.junction (cores_of c.args.all.now.items) (cores_of c.loop-f.all.items) _ _ _ _ c.loop-f.invariant c.in_ok-push_one.ensures
    (all_formed-more c.args.forming.polarity c.args.fs.now c.loop-f.f-index c.f-item.result c.args.forming.named c.loop-f-test.true c.f-item.is)

pub push_one-returns-in-And : goal.push_one-returns-in-And
push_one-returns-in-And t c =
    subst (λ x. OnOk c.push_all.result (cores_of c.push_all.new.all.items ≡ joined (cores_of c.args.all.now.items) x))
    (inner-And c.args.forming.polarity c.args.junction c.args.f.now c.in-And.of c.args.forming.named (search (rules, c.if-eq.true, c.eq.ensures)) (search (rules, c.if-eq-2.true, c.eq-then-eq.ensures)) c.in-And.is) (rw c.deref-in-And.ensures.value at c.push_all.ensures)

pub push_one-returns-in-Or : goal.push_one-returns-in-Or
push_one-returns-in-Or t c =
    subst (λ x. OnOk c.push_all-in-Or.result (cores_of c.push_all-in-Or.new.all.items ≡ joined (cores_of c.args.all.now.items) x))
    (inner-Or c.args.forming.polarity c.args.junction c.args.f.now c.in-Or.of c.args.forming.named (search (rules, c.if-eq-3.true, c.choice.ensures)) c.in-Or.is) (rw c.deref-in-Or.ensures.value at c.push_all-in-Or.ensures)
