use Rattle.std.proofs.Common.{◌∙◌, sym, ap, map}
use Rattle.lrp_model.specs.RawTerms.{said_term}
use Rattle.lrp_model.specs.Formulas.{atom}
use Rattle.lrp_model.specs.Variables.{bound_by}
use Rattle.lrp_kept.specs.Asked.{is_sought}
use Rattle.lrp_kept.proofs.Occurring.{among-terms}
use Rattle.lrp_kept.proofs.looking.is_atom_sought.Goals as goal

pub returns-in-AtomWith : goal.returns-in-AtomWith
returns-in-AtomWith c =
    λ relation. c.has_variable.ensures ∙ sym (among-terms c.args.terms.now (bound_by c.in-AtomWith.sort.now c.in-AtomWith.name.now)) ∙ sym (ap (λ s. is_sought s (atom relation (map said_term c.args.terms.now))) c.in-AtomWith.is)
