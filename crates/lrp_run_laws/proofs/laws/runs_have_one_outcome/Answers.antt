use Rattle.lrp_run_laws.proofs.Complete.{each_placed, each_texts, plain_placed, plain_texts, tense_placed, tense_texts, wide_texts}
use Rattle.lrp_run_laws.proofs.One.{each_fault, plain_faults, runs_alike, tense_faults, wide_faults}
use Rattle.lrp_run_laws.proofs.laws.runs_have_one_outcome.Goals as goal

pub returns : goal.returns
returns c = runs_alike (record {
  databases = record { one = c.texts_are_of_one_database.ensures; faultless = c.databases_have_no_fault.ensures };
  database_fault = c.databases_have_one_fault.ensures;
  queries = each_texts (plain_texts c.texts_are_of_one_query.ensures c.queries_have_no_fault.ensures c.well_sorted_queries_have_no_fault.ensures)
      (tense_texts c.texts_are_one_query.ensures.one c.tense_queries_have_no_fault.ensures c.well_sorted_queries_have_no_fault.ensures)
      (λ civil. wide_texts c.texts_are_of_one_file.ensures c.files_have_no_fault.ensures civil);
  query_fault = each_fault (plain_faults c.texts_are_of_one_query.ensures c.queries_have_no_fault.ensures c.queries_have_one_fault.ensures)
      (tense_faults c.texts_are_one_query.ensures.one c.tense_queries_have_no_fault.ensures c.tense_queries_have_one_fault.ensures)
      (λ civil. wide_faults c.texts_are_of_one_file.ensures c.files_have_no_fault.ensures c.files_have_one_fault.ensures civil);
  placed = each_placed (plain_placed c.texts_are_of_one_query.ensures c.queries_have_no_fault.ensures c.well_sorted_queries_have_no_fault.ensures)
      (tense_placed c.texts_are_one_query.ensures.one c.tense_queries_have_no_fault.ensures c.well_sorted_queries_have_no_fault.ensures);
  report = c.findings_are_one.ensures;
  edits = record { one = c.edits_are_one.ensures; faultless = c.edits_have_no_fault.ensures };
  edits_fault = c.edits_have_one_fault.ensures;
  token = c.tokens_spell_one_tuple.ensures;
  page = c.pages_are_unique.ensures;
  rank = c.ranks_differ.ensures;
  tuples = c.tuples_are_times_and_texts.ensures;
  cells = c.counts_are_unique.ensures.cells;
  count = c.counts_are_unique.ensures.answers;
  size = λ db q from to size other. c.sizes_are_unique.ensures db db q q from to size other (λ t. (λ h. h, λ h. h));
  ranges = λ db q from to limit ranges other more further. c.ranges_are_unique.ensures db db q q from to limit ranges other more further (λ x. (λ h. h, λ h. h));
  rows = c.row_counts_are_unique.ensures;
  text = c.answer_texts_are_unique.ensures;
})
