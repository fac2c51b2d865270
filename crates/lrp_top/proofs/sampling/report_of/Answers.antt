-- The page of the first day has all of its answers.
use Rattle.std.proofs.Common.{refl}
use Rattle.lrp_sample.specs.Plans.{sample_steps}
use Rattle.lrp_sample.specs.Trees.{sample_question, sample_relations}
use Rattle.lrp_outputs.specs.declared.report.Report.{Report}
use Rattle.lrp_top.proofs.SampleLemmas.{told_sample}
use Rattle.lrp_top.proofs.sampling.report_of.Goals as goal

pub returns : goal.returns
returns c =
    let report : Report = record { rows = c.args.size; cells = c.len-cells.result; first = c.least_of.result; window = c.len.result } in
    λ seed most is. told_sample seed c.args.size most c.args.answer c.in_ok-found.found.spots c.in_ok-found.found.more report c.sample_has_few_answers.ensures c.whole_pages_count_answers.ensures
    (c.sample_texts_are_read.ensures.database seed c.args.size) c.sample_texts_are_read.ensures.query (c.sample_query_is_well_sorted.ensures.sorted seed c.args.size) c.sample_query_is_well_sorted.ensures.plain
    c.requires.size is c.in_ok-found.ensures.page (c.least_of.ensures.first (sample_steps seed c.args.size) (sample_relations seed c.args.size) sample_question most is) refl c.len-cells.ensures c.len.ensures
