use Rattle.lrp_run_laws.proofs.Adding.{added_up}
use Rattle.lrp_run_laws.proofs.Complete.{each_texts, plain_texts, tense_texts, wide_texts}
use Rattle.lrp_run_laws.proofs.laws.numbers_add_up.Goals as goal

pub returns : goal.returns
returns c =
    added_up (record { one = c.texts_are_of_one_database.ensures; faultless = c.databases_have_no_fault.ensures })
    (each_texts (plain_texts c.texts_are_of_one_query.ensures c.queries_have_no_fault.ensures c.well_sorted_queries_have_no_fault.ensures)
    (tense_texts c.texts_are_one_query.ensures.one c.tense_queries_have_no_fault.ensures c.well_sorted_queries_have_no_fault.ensures)
    (λ civil. wide_texts c.texts_are_of_one_file.ensures c.files_have_no_fault.ensures civil))
    (λ db q from to size other. c.sizes_are_unique.ensures db db q q from to size other (λ t. (λ h. h, λ h. h))) c.sizes_add.ensures
