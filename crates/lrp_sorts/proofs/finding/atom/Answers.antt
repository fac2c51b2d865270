use Rattle.std.proofs.Common.{ap, sym, ◌∙◌, flat_map, option_map, length}
use Rattle.lrp_model.specs.Faults.{earliest}
use Rattle.lrp_model.specs.Rows.{relation_named}
use Rattle.lrp_model.specs.Sorting.{query_standing, term_faults, column_faults, atom_faults}
use Rattle.lrp_model.specs.Sooner.{sooner}
use Rattle.lrp_model.proofs.FirstFault.{first_of_both}
use Rattle.lrp_sorts.specs.Scopes.{binders}
use Rattle.lrp_sorts.specs.Terms.{atom_head_faults}
use Rattle.lrp_sorts.proofs.ColumnFaults.{atom_shows}
use Rattle.lrp_sorts.proofs.finding.atom.Goals as goal

pub returns : goal.returns
returns c =
    let bs = binders c.args.scope.now in
    let ts = c.args.formula.terms.now in
    let relation = option_map (λ r. r.now) c.relation-relation.result in
    let made = c.in_ok-fault.ensures in
    record {
      fault =
          c.sooner_of-2.ensures
          ∙ ap (sooner query_standing c.args.before.fault)
          (c.sooner_of-inside.ensures
          ∙ ap (λ f. sooner query_standing f c.sooner_of.result) made.fault
          ∙ ap (sooner query_standing (earliest query_standing (flat_map (term_faults bs) ts)))
          (c.sooner_of.ensures
          ∙ ap (λ f. sooner query_standing f c.in_ok-fault.field-0.misfit) c.relation_fault-own.ensures
          ∙ ap (sooner query_standing (earliest query_standing (atom_head_faults c.args.formula.place (length ts) relation))) (made.misfit ∙ ap (λ cs. earliest query_standing (column_faults bs ts cs)) c.columns_of.ensures)
          ∙ atom_shows bs c.args.formula.place ts relation
          ∙ ap (λ r. earliest query_standing (atom_faults bs c.args.formula.place ts r)) c.relation-relation.ensures)
          ∙ sym (first_of_both query_standing (flat_map (term_faults bs) ts) (atom_faults bs c.args.formula.place ts (relation_named c.args.catalog.now c.args.formula.relation.now))));
      free = made.free;
    }
