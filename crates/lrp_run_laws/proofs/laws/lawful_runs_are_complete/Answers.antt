use Rattle.lrp_run_laws.proofs.Complete.{complete_run, each_placed, each_texts, plain_placed, plain_texts, tense_placed, tense_texts, wide_texts}
use Rattle.lrp_run_laws.proofs.laws.lawful_runs_are_complete.Goals as goal

pub returns : goal.returns
returns c = complete_run (record { one = c.texts_are_of_one_database.ensures; faultless = c.databases_have_no_fault.ensures })
    (each_texts (plain_texts c.texts_are_of_one_query.ensures c.queries_have_no_fault.ensures c.well_sorted_queries_have_no_fault.ensures)
    (tense_texts c.texts_are_one_query.ensures.one c.tense_queries_have_no_fault.ensures c.well_sorted_queries_have_no_fault.ensures)
    (λ civil. wide_texts c.texts_are_of_one_file.ensures c.files_have_no_fault.ensures civil))
    (each_placed (plain_placed c.texts_are_of_one_query.ensures c.queries_have_no_fault.ensures c.well_sorted_queries_have_no_fault.ensures)
    (tense_placed c.texts_are_one_query.ensures.one c.tense_queries_have_no_fault.ensures c.well_sorted_queries_have_no_fault.ensures))
    (record { one = c.edits_are_one.ensures; faultless = c.edits_have_no_fault.ensures }) c.tokens_spell_one_tuple.ensures c.row_counts_are_unique.ensures
