use Rattle.lrp_run_laws.proofs.Canonical.{own_answers}
use Rattle.lrp_run_laws.proofs.Complete.{each_texts, plain_texts, tense_texts, wide_texts}
use Rattle.lrp_run_laws.proofs.Told.{told_alike}
use Rattle.lrp_run_laws.proofs.laws.equal_answers_equal_bytes.Goals as goal

pub returns : goal.returns
returns c =
    let alike = told_alike (record { one = c.texts_are_of_one_database.ensures; faultless = c.databases_have_no_fault.ensures })
    (each_texts (plain_texts c.texts_are_of_one_query.ensures c.queries_have_no_fault.ensures c.well_sorted_queries_have_no_fault.ensures)
    (tense_texts c.texts_are_one_query.ensures.one c.tense_queries_have_no_fault.ensures c.well_sorted_queries_have_no_fault.ensures)
    (λ civil. wide_texts c.texts_are_of_one_file.ensures c.files_have_no_fault.ensures civil))
    c.answer_texts_are_unique.ensures in
    record { answers = alike; plans = λ run other called db q h k. alike run other called db db q q h k (own_answers db q) }
