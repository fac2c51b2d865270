use Rattle.std.proofs.Common.{◌≡◌, ◌++◌, [], ◌∷◌, not, map, take, ap, sym, ◌∙◌}
use Rattle.lrp_model.specs.Faults.{earliest, fault_if}
use Rattle.lrp_model.specs.RawQueries.{raw_definition_of}
use Rattle.lrp_model.specs.Sorting.{query_fault, query_standing}
use Rattle.lrp_model.specs.declared.faults.QueryFault.{QueryFault}
use Rattle.lrp_model.specs.declared.faults.QueryKind.TheVariants.{Defined}
use Rattle.lrp_sorts.specs.Definitions.{Defined as DefinedBeside, is_taken, rowless}
use Rattle.lrp_wide.specs.WideSorting.{defined_relation}
use Rattle.lrp_wide.proofs.SortFiles.{denied_twice, name_more, one_relation}
use Rattle.lrp_wide.proofs.checking.definitions_of.Goals as goal

pub loop-definition-preserved : goal.loop-definition-preserved
loop-definition-preserved c =
    let db = c.args.db.now in
    let xs = c.args.written.now in
    let i = c.loop-definition.definition-index in
    let x = c.definition-item.result in
    let old = c.loop-definition.definitions in
    let more = c.in_ok-more in
    record {
      definitions =
          more.ensures.added
          ∙ ap (λ cs. record old { definitions = old.definitions ++ rowless x.name cs ∷ [] }) c.as_slice-columns.ensures
          ∙ ap (λ (d : DefinedBeside). record d { definitions = d.definitions ++ rowless x.name x.columns ∷ [] }) c.loop-definition.invariant.definitions
          ∙ ap (λ l. record { relations = db; definitions = l }) (one_relation xs i x c.loop-definition-test.true c.definition-item.is);
      fault =
          name_more db xs i x c.loop-definition.fault c.fault_where-own.result c.sooner_of-fault.result old c.loop-definition-test.true c.definition-item.is c.loop-definition.invariant.definitions
          c.loop-definition.invariant.fault
          (c.fault_where-own.ensures ∙ ap (λ b. earliest query_standing (fault_if b (query_fault Defined x.place))) (ap not more.ensures.new ∙ denied_twice (is_taken old x.name)))
          c.sooner_of-fault.ensures;
    }
