use Rattle.std.proofs.Common.{◌≡◌, ◌∙◌, sym, ap, Bool, true, false}
use Rattle.lrp_model.specs.Formulas.{Form, form_of}
use Rattle.lrp_model.specs.Core.{conjuncts}
use Rattle.lrp_kept.specs.Asked.{conjuncts_of}
use Rattle.lrp_kept.specs.KeptForm.{all_occur, all_pass, tested_variables}
use Rattle.lrp_kept.specs.Signs.{kept_signed}
use Rattle.lrp_model.proofs.Views.{implies_form}
use Rattle.lrp_kept.proofs.Elements.{all-And, all-Or, all-Implies, and_first, and_second}
use Rattle.lrp_kept.proofs.kept.+tests.Goals as goal

pub tests_occur-returns-in-And : goal.tests_occur-returns-in-And
tests_occur-returns-in-And t c =
    (rw c.deref-in-And.ensures.value at c.tests_of_each_occur.ensures) ∙ all-And (λ g. all_occur (conjuncts_of c.args.whole) (tested_variables g)) c.args.f.now c.in-And.of c.args.holds c.if-holds.true c.in-And.is

pub tests_occur-returns-in-Or : goal.tests_occur-returns-in-Or
tests_occur-returns-in-Or t c =
    (rw c.deref-in-Or.ensures.value at c.tests_of_each_occur-in-Or.ensures) ∙ all-Or (λ g. all_occur (conjuncts_of c.args.whole) (tested_variables g)) c.args.f.now c.in-Or.of c.args.holds c.if-not-holds.true c.in-Or.is

pub tests_occur-returns-then-tests_occur : goal.tests_occur-returns-then-tests_occur
tests_occur-returns-then-tests_occur t c =
    let p : Form → Bool = λ g. all_occur (conjuncts_of c.args.whole) (tested_variables g) in
    let e : c.tests_occur-in-Implies.result ≡ all_pass p (conjuncts (kept_signed true (form_of c.in-Implies.left.value))) = c.tests_occur-in-Implies.ensures ∙ ap (λ x. all_pass p (conjuncts (kept_signed true (form_of x)))) c.deref-in-Implies.ensures in
    let d : c.tests_occur-then-tests_occur.result ≡ all_pass p (conjuncts (kept_signed false (form_of c.in-Implies.right.value))) = c.tests_occur-then-tests_occur.ensures ∙ ap (λ x. all_pass p (conjuncts (kept_signed false (form_of x)))) c.deref-then-tests_occur.ensures in
    d ∙ and_second (all_pass p (conjuncts (kept_signed true (form_of c.in-Implies.left.value)))) (all_pass p (conjuncts (kept_signed false (form_of c.in-Implies.right.value)))) (sym e ∙ c.if-tests_occur.true)
    ∙ all-Implies p (form_of c.in-Implies.left.value) (form_of c.in-Implies.right.value) (form_of c.args.f.now) (implies_form c.args.f.now c.in-Implies.left c.in-Implies.right c.in-Implies.is) c.args.holds c.if-not-holds-2.true

pub tests_occur-returns-else-tests_occur : goal.tests_occur-returns-else-tests_occur
tests_occur-returns-else-tests_occur t c =
    let p : Form → Bool = λ g. all_occur (conjuncts_of c.args.whole) (tested_variables g) in
    let e : c.tests_occur-in-Implies.result ≡ all_pass p (conjuncts (kept_signed true (form_of c.in-Implies.left.value))) = c.tests_occur-in-Implies.ensures ∙ ap (λ x. all_pass p (conjuncts (kept_signed true (form_of x)))) c.deref-in-Implies.ensures in
    e ∙ and_first (all_pass p (conjuncts (kept_signed true (form_of c.in-Implies.left.value)))) (all_pass p (conjuncts (kept_signed false (form_of c.in-Implies.right.value)))) (sym e ∙ c.if-tests_occur.false)
    ∙ all-Implies p (form_of c.in-Implies.left.value) (form_of c.in-Implies.right.value) (form_of c.args.f.now) (implies_form c.args.f.now c.in-Implies.left c.in-Implies.right c.in-Implies.is) c.args.holds c.if-not-holds-2.true
