use Rattle.lrp_kept.proofs.Derived.{body_from, body_to}
use Rattle.lrp_kept.proofs.laws.kept_queries_are_choices.Goals as goal

pub returns-clause-to : goal.returns-clause-to
returns-clause-to c = λ q M env k h none. body_to q M env k h none

pub returns-clause-from : goal.returns-clause-from
returns-clause-from c = λ q M env k d. body_from q M env k d
