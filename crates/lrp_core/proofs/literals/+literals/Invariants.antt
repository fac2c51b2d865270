use Rattle.std.proofs.Common.{take}
use Rattle.lrp_model.specs.Formulas.{forms_of}
use Rattle.lrp_model.specs.Domains.{forms_texts}
use Rattle.lrp_core.specs.Literals.{AddsTexts}
use Rattle.lrp_core.proofs.literals.+literals.Given as goal

-- those of the formulas so far
abbrev pub invariant-add_formulas-loop-f : goal.invariant-add_formulas-loop-f
invariant-add_formulas-loop-f l = AddsTexts (forms_texts (forms_of (take l.f-index l.fs)) l.lookup.database.now l.fn.binders.items) l.fn.binders.items l.binders.items l.fn.all.items l.all.items
