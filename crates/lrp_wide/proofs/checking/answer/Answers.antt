use Rattle.std.proofs.Common.{◌≡◌, ◌++◌, List, length, map, suc, Some, None, ap, subst, sym, ◌∙◌}
use Rattle.std.specs.List.{AllByRecursion}
use Rattle.lrp_model.specs.Faults.{earliest}
use Rattle.lrp_model.specs.RawQueries.{HasNoOperator, raw_definition_of, raw_file_of, raw_form_of, raw_question_of}
use Rattle.lrp_model.specs.Sorting.{query_standing}
use Rattle.lrp_model.proofs.FirstFault.{none_is_empty}
use Rattle.lrp_wide.specs.Chains.{AreChains}
use Rattle.lrp_wide.specs.Counts.{AreRowless}
use Rattle.lrp_wide.specs.Inlining.{expanded_file, plain_definition}
use Rattle.lrp_wide.specs.Inside.{HasPlainBody}
use Rattle.lrp_wide.specs.Sizes.{IsSizeOf}
use Rattle.lrp_wide.specs.WideSorting.{name_faults, own_faults, defined_relation, text_faults}
use Rattle.lrp_wide.proofs.SortAnswers.{definitions_long, numbers_long, own_first}
use Rattle.lrp_wide.proofs.SortOutcomes.{small_by_size}
use Rattle.lrp_wide.proofs.checking.answer.Goals as goal

pub plain_checked-requires-clause-rowless : goal.plain_checked-requires-clause-rowless
plain_checked-requires-clause-rowless c =
    ap (λ e. e.definitions) c.in_ok-definitions.ensures.definitions ∙ ap (λ xs. map defined_relation (map raw_definition_of xs)) c.as_slice.ensures.value

pub returns-in-Some-clause-refused : goal.returns-in-Some-clause-refused
returns-in-Some-clause-refused c =
    let d = c.in_ok-definitions.definitions in
    let db = c.args.db.now in
    let f = raw_file_of c.args.file in
    let same : d.relations ≡ db = ap (λ e. e.relations) c.in_ok-definitions.ensures.definitions in
    let names : c.in_ok-definitions.defined ≡ earliest query_standing (name_faults db f.definitions) =
    c.in_ok-definitions.ensures.fault ∙ ap (λ xs. earliest query_standing (name_faults db (map raw_definition_of xs))) c.as_slice.ensures.value in
    let texts : c.in_ok-plain.own ≡ earliest query_standing (text_faults db f) = c.in_ok-plain.ensures.fault ∙ ap (λ l. earliest query_standing (text_faults l f)) same in
    let size : IsSizeOf c.in_ok-found.found.size (expanded_file db f).body = subst (λ l. IsSizeOf c.in_ok-found.found.size (expanded_file l f).body) same c.in_ok-found.ensures.size in (
      small_by_size db f c.in_ok-found.found.size size c.in_ok-limited.ensures.small.0 c.in_ok-limited.ensures.small.1,
      sym (own_first db f c.in_ok-definitions.defined c.in_ok-plain.own c.sooner_of.result names texts c.sooner_of.ensures) ∙ c.in-Some.is,
    )

pub chains_of-requires : goal.chains_of-requires
chains_of-requires c =
    let d = c.in_ok-definitions.definitions in
    let f = raw_file_of c.args.file in
    let plain = c.in_ok-plain.plain.definitions.items in
    let rowless : AreRowless d f = ap (λ e. e.definitions) c.in_ok-definitions.ensures.definitions ∙ ap (λ xs. map defined_relation (map raw_definition_of xs)) c.as_slice.ensures.value in
    let tree : map raw_definition_of plain ≡ map plain_definition f.definitions = ap (λ g. g.definitions) c.in_ok-plain.ensures.tree in
    let texts : c.as_slice-bodies.result.now ≡ plain = c.as_slice-bodies.ensures.value ∙ ap (λ q. q.0.items) c.into_parts-texts.ensures in
    definitions_long d f plain rowless tree ∙ ap length (sym texts)

pub expand-requires-clause-plain : goal.expand-requires-clause-plain
expand-requires-clause-plain c = subst (λ q. HasNoOperator (raw_form_of q.1.body)) (sym c.into_parts-texts.ensures) c.in_ok-plain.ensures.query

pub expand-requires-clause-definitions : goal.expand-requires-clause-definitions
expand-requires-clause-definitions c =
    let d = c.in_ok-definitions.definitions in
    let f = raw_file_of c.args.file in
    let plain = c.in_ok-plain.plain.definitions.items in
    let rowless : AreRowless d f = ap (λ e. e.definitions) c.in_ok-definitions.ensures.definitions ∙ ap (λ xs. map defined_relation (map raw_definition_of xs)) c.as_slice.ensures.value in
    let tree : map raw_definition_of plain ≡ map plain_definition f.definitions = ap (λ g. g.definitions) c.in_ok-plain.ensures.tree in
    let texts : c.as_slice-bodies.result.now ≡ plain = c.as_slice-bodies.ensures.value ∙ ap (λ q. q.0.items) c.into_parts-texts.ensures in
    record {
      operators = subst (λ xs. AllByRecursion HasPlainBody xs) (sym texts) c.in_ok-plain.ensures.definitions;
      definitions = definitions_long d f plain rowless tree ∙ ap length (sym texts);
      each_chain = ap length c.as_slice-3.ensures.value ∙ c.in_ok-chains.ensures.length;
      chains = subst (AreChains d c.as_slice-bodies.result.now) (sym c.as_slice-3.ensures.value) c.in_ok-chains.ensures.chains;
      numbers = ap length (c.as_slice-2.ensures.value ∙ c.in_ok-found.ensures.numbers) ∙ numbers_long d.relations f plain tree ∙ ap (λ xs. suc (length xs)) (sym texts);
    }

pub returns-clause-query : goal.returns-clause-query
returns-clause-query c =
    let d = c.in_ok-definitions.definitions in
    let f = raw_file_of c.args.file in
    let plain = c.in_ok-plain.plain.definitions.items in
    let same : d.relations ≡ c.args.db.now = ap (λ e. e.relations) c.in_ok-definitions.ensures.definitions in
    let rowless : AreRowless d f = ap (λ e. e.definitions) c.in_ok-definitions.ensures.definitions ∙ ap (λ xs. map defined_relation (map raw_definition_of xs)) c.as_slice.ensures.value in
    let tree : map raw_definition_of plain ≡ map plain_definition f.definitions = ap (λ g. g.definitions) c.in_ok-plain.ensures.tree in
    let texts : c.as_slice-bodies.result.now ≡ plain = c.as_slice-bodies.ensures.value ∙ ap (λ q. q.0.items) c.into_parts-texts.ensures in
    c.in_ok-expand.ensures f
    (record { names = rowless; plain = ap (map raw_definition_of) texts ∙ tree; numbers = c.as_slice-2.ensures.value ∙ c.in_ok-found.ensures.numbers })
    (ap (λ q. raw_question_of q.1) c.into_parts-texts.ensures ∙ ap (λ g. g.query) c.in_ok-plain.ensures.tree)
    ∙ ap (λ l. expanded_file l f) same

pub returns-clause-sorted : goal.returns-clause-sorted
returns-clause-sorted c =
    let d = c.in_ok-definitions.definitions in
    let db = c.args.db.now in
    let f = raw_file_of c.args.file in
    let same : d.relations ≡ db = ap (λ e. e.relations) c.in_ok-definitions.ensures.definitions in
    let names : c.in_ok-definitions.defined ≡ earliest query_standing (name_faults db f.definitions) =
    c.in_ok-definitions.ensures.fault ∙ ap (λ xs. earliest query_standing (name_faults db (map raw_definition_of xs))) c.as_slice.ensures.value in
    let texts : c.in_ok-plain.own ≡ earliest query_standing (text_faults db f) = c.in_ok-plain.ensures.fault ∙ ap (λ l. earliest query_standing (text_faults l f)) same in
    none_is_empty query_standing (own_faults db f) (sym (own_first db f c.in_ok-definitions.defined c.in_ok-plain.own c.sooner_of.result names texts c.sooner_of.ensures) ∙ c.in_default.is)
