-- The relation, and then the terms.
use Rattle.lrp_lint.proofs.Mentioned.{atom_found}
use Rattle.lrp_lint.proofs.Walked.{then_ok}
use Rattle.lrp_lint.proofs.queries.add_atom.Goals as goal

pub returns : goal.returns
returns c =
    then_ok c.add_terms.result _ _ c.add_terms.ensures
    (atom_found c.args.catalog.now c.args.place c.args.name.now c.args.terms.now _ c.columns_of.result.now c.args.found.now.items c.add_relation.new.found.items c.add_terms.new.found.items c.relation-relation.ensures c.columns_of.ensures c.in_ok-add_relation.ensures)
