-- The bytes of the program's outputs.
use Rattle.std.specs.Prelude.{ℕ, Bool, List, ◌++◌, flat_map, map, option_map, Option, Some, None, Result, Ok, Err, codes}
use Rattle.lrp_model.specs.Printed.{database_bytes}
use Rattle.lrp_model.specs.PrintedPlans.{plan_bytes}
use Rattle.lrp_model.specs.Rows.{Tuple}
use Rattle.lrp_model.specs.declared.tuples.Spot.{Spot}
use Rattle.lrp_answers.specs.declared.answer.Answer.{Answer}
use Rattle.lrp_answer_text.specs.AnswerText.{named_answer_text}
use Rattle.lrp_answer_text.specs.Lines.{is_json}
use Rattle.lrp_lint.specs.Reports.{report_text}
use Rattle.lrp_outputs.specs.First.{first_line, least_line}
use Rattle.lrp_outputs.specs.Spots.{answer_tuple}
use Rattle.lrp_outputs.specs.Outcomes.{Outcome}
use Rattle.lrp_outputs.specs.SampleLines.{sample_lines}
use Rattle.lrp_outputs.specs.PageLines.{listed_bytes}
use Rattle.lrp_outputs.specs.RangeLines.{count_line, ranges_bytes}
use Rattle.lrp_outputs.specs.declared.output.Output.{Output}
use Rattle.lrp_outputs.specs.declared.output.Output.TheVariants as output
use Rattle.lrp_outputs.specs.declared.refusal.Refusal.{Refusal}
use Rattle.lrp_outputs.specs.declared.leasts.LeastAnswers.{LeastAnswers}
use Rattle.lrp_outputs.specs.declared.page.Page.{Page}
use Rattle.lrp_outputs.specs.declared.ranges.RangeLines.{RangeLines}
use Rattle.lrp_outputs.specs.declared.report.Report.{Report}
use Rattle.lrp_outputs.specs.declared.witness.Witness.{Witness}

-- `Nonempty` and the line of a spot, or `Empty` without one; the flag says whether times are shown as dates
abbrev pub spot_text : Bool → Answer → Option Spot → List ℕ
spot_text dates a None = codes "Empty\n"
spot_text dates a (Some spot) = codes "Nonempty\n" ++ least_line dates (answer_tuple a spot)

abbrev pub witness_text : Witness → List ℕ
witness_text w = spot_text w.dates w.answer w.least

-- the tuple of the least answer
abbrev pub least_of : Witness → Option Tuple
least_of w = option_map (answer_tuple w.answer) w.least

-- what is told of the sample
abbrev pub sample_text : Report → List ℕ
sample_text report = sample_lines report.rows report.cells (least_of report.first) report.window

-- the lines of the page's spots, and the line after them
abbrev pub page_text : Page → List ℕ
page_text page = listed_bytes page.civil (is_json page.form) page.files (map (answer_tuple page.answer) page.spots) page.more

-- the lines of the ranges, and the line after them
abbrev pub ranges_text : RangeLines → List ℕ
ranges_text lines = ranges_bytes lines.civil lines.json lines.found.ranges lines.found.more

-- the lines of the least answers
abbrev pub least_answers_text : LeastAnswers → List ℕ
least_answers_text l = flat_map (λ least. first_line (option_map (answer_tuple l.answer) least)) l.spots

-- of each output
abbrev pub output_text : Output → List ℕ
output_text (output.Relations relations) = database_bytes relations
output_text (output.Plan p) = plan_bytes p.plan
output_text (output.Answer whole) = named_answer_text whole.name whole.answer
output_text (output.Witness w) = witness_text w
output_text (output.Page page) = page_text page
output_text (output.Count number) = count_line number
output_text (output.Ranges lines) = ranges_text lines
output_text (output.LeastAnswers leasts) = least_answers_text leasts
output_text (output.Lint lint) = report_text lint
output_text (output.Sample report) = sample_text report

-- what the run ends with
abbrev pub told : Result Output Refusal → Outcome
told (Ok it) = Ok (output_text it)
told (Err refusal) = Err refusal
