use Rattle.std.proofs.Common.{◌≡◌, ◌∙◌, sym, ap, true, false}
use Rattle.lrp_model.specs.Formulas.{form_of}
use Rattle.lrp_model.specs.Core.{disjuncts}
use Rattle.lrp_kept.specs.KeptForm.{all_pass, is_disjunct}
use Rattle.lrp_kept.specs.Signs.{kept_signed}
use Rattle.lrp_model.proofs.Views.{implies_form}
use Rattle.lrp_kept.proofs.Elements.{alternatives-Or, alternatives-Implies, and_first, and_second}
use Rattle.lrp_kept.proofs.kept.+disjuncts.Goals as goal

pub are_disjuncts-returns-in-Or : goal.are_disjuncts-returns-in-Or
are_disjuncts-returns-in-Or t c =
    (rw c.deref-in-Or.ensures.value at c.each_are_disjuncts.ensures) ∙ alternatives-Or (is_disjunct c.args.columns.now) c.args.f.now c.in-Or.of c.args.holds c.if-holds.true c.in-Or.is

pub are_disjuncts-returns-then-are_disjuncts : goal.are_disjuncts-returns-then-are_disjuncts
are_disjuncts-returns-then-are_disjuncts t c =
    let p = is_disjunct c.args.columns.now in
    let e : c.are_disjuncts-in-Implies.result ≡ all_pass p (disjuncts (kept_signed false (form_of c.in-Implies.left.value))) = c.are_disjuncts-in-Implies.ensures ∙ ap (λ x. all_pass p (disjuncts (kept_signed false (form_of x)))) c.deref-in-Implies.ensures in
    let d : c.are_disjuncts-then-are_disjuncts.result ≡ all_pass p (disjuncts (kept_signed true (form_of c.in-Implies.right.value))) = c.are_disjuncts-then-are_disjuncts.ensures ∙ ap (λ x. all_pass p (disjuncts (kept_signed true (form_of x)))) c.deref-then-are_disjuncts.ensures in
    d ∙ and_second (all_pass p (disjuncts (kept_signed false (form_of c.in-Implies.left.value)))) (all_pass p (disjuncts (kept_signed true (form_of c.in-Implies.right.value)))) (sym e ∙ c.if-are_disjuncts.true)
    ∙ alternatives-Implies p (form_of c.in-Implies.left.value) (form_of c.in-Implies.right.value) (form_of c.args.f.now) (implies_form c.args.f.now c.in-Implies.left c.in-Implies.right c.in-Implies.is) c.args.holds c.if-holds-2.true

pub are_disjuncts-returns-else-are_disjuncts : goal.are_disjuncts-returns-else-are_disjuncts
are_disjuncts-returns-else-are_disjuncts t c =
    let p = is_disjunct c.args.columns.now in
    let e : c.are_disjuncts-in-Implies.result ≡ all_pass p (disjuncts (kept_signed false (form_of c.in-Implies.left.value))) = c.are_disjuncts-in-Implies.ensures ∙ ap (λ x. all_pass p (disjuncts (kept_signed false (form_of x)))) c.deref-in-Implies.ensures in
    e ∙ and_first (all_pass p (disjuncts (kept_signed false (form_of c.in-Implies.left.value)))) (all_pass p (disjuncts (kept_signed true (form_of c.in-Implies.right.value)))) (sym e ∙ c.if-are_disjuncts.false)
    ∙ alternatives-Implies p (form_of c.in-Implies.left.value) (form_of c.in-Implies.right.value) (form_of c.args.f.now) (implies_form c.args.f.now c.in-Implies.left c.in-Implies.right c.in-Implies.is) c.args.holds c.if-holds-2.true
