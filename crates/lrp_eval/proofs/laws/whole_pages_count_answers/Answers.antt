use Rattle.lrp_eval.proofs.AnswerCounts.{page_counts}
use Rattle.lrp_eval.proofs.laws.whole_pages_count_answers.Goals as goal

pub returns : goal.returns
returns c = page_counts
