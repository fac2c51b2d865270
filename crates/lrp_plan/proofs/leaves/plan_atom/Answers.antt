use Rattle.std.proofs.Common.{map}
use Rattle.lrp_model.specs.RawTerms.{said_term}
use Rattle.lrp_plan.proofs.Planned.{atom_made}
use Rattle.lrp_plan.proofs.leaves.plan_atom.Goals as goal

pub returns : goal.returns
returns c =
    atom_made c.scan.result c.args.sources.now c.args.relation.now c.in_ok-relation.relation (map said_term c.args.terms.now) c.in_ok-terms.terms c.facts-facts.result c.args.draft.now c.scan.new.self c.in_ok-relation.ensures c.in_ok-terms.ensures c.facts-facts.ensures c.scan.ensures
