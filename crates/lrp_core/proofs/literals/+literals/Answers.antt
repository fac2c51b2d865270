use Rattle.std.proofs.Common.{subst, OnOk}
use Rattle.lrp_model.specs.Domains.{form_texts}
use Rattle.lrp_model.proofs.Views.{and_form, or_form}
use Rattle.lrp_core.specs.Literals.{AddsTexts}
use Rattle.lrp_core.proofs.Literal.{texts_more}
use Rattle.lrp_core.proofs.literals.+literals.Goals as goal

pub add_formula-returns-in-And : goal.add_formula-returns-in-And
add_formula-returns-in-And t c =
    subst (λ g. OnOk c.add_formulas.result (AddsTexts (form_texts g c.args.lookup.database.now c.args.binders.now.items) c.args.binders.now.items c.add_formulas.new.binders.items c.args.all.now.items c.add_formulas.new.all.items))
    (and_form c.args.f.now c.in-And.of c.deref-in-And.result.now c.in-And.is c.deref-in-And.ensures.value) c.add_formulas.ensures

pub add_formula-returns-in-Or : goal.add_formula-returns-in-Or
add_formula-returns-in-Or t c =
    subst (λ g. OnOk c.add_formulas-in-Or.result (AddsTexts (form_texts g c.args.lookup.database.now c.args.binders.now.items) c.args.binders.now.items c.add_formulas-in-Or.new.binders.items c.args.all.now.items c.add_formulas-in-Or.new.all.items))
    (or_form c.args.f.now c.in-Or.of c.deref-in-Or.result.now c.in-Or.is c.deref-in-Or.ensures.value) c.add_formulas-in-Or.ensures

pub add_formulas-loop-f-preserved : goal.add_formulas-loop-f-preserved
add_formulas-loop-f-preserved t c =
    texts_more c.args.lookup.database.now c.args.fs.now c.loop-f.f-index c.f-item.result c.args.binders.now.items c.loop-f.binders.items c.add_formula.new.binders.items c.args.all.now.items c.loop-f.all.items c.add_formula.new.all.items c.loop-f-test.true c.f-item.is c.loop-f.invariant c.in_ok-add_formula.ensures
