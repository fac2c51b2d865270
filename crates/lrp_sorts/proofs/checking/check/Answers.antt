use Rattle.std.proofs.Common.{◌≡◌, reverse, ap, sym, subst, ◌∙◌}
use Rattle.lrp_model.specs.Checked.{plain}
use Rattle.lrp_model.specs.Core.{HasElements}
use Rattle.lrp_model.specs.Formulas.{form_of}
use Rattle.lrp_model.specs.RawQueries.{raw_form_of, raw_question_of}
use Rattle.lrp_model.specs.Sorting.{query_standing, query_faults}
use Rattle.lrp_model.proofs.FirstFault.{none_is_empty}
use Rattle.lrp_model.specs.TestPoints.{points}
use Rattle.lrp_sorts.proofs.Carries.{members_stay, points_stay}
use Rattle.lrp_sorts.proofs.checking.check.Goals as goal

pub returns-in-Ok-sorted_query-clause-sorted : goal.returns-in-Ok-sorted_query-clause-sorted
returns-in-Ok-sorted_query-clause-sorted c = none_is_empty query_standing (query_faults c.args.db.now (raw_question_of c.args.raw)) (sym c.in-Ok.ensures ∙ c.in_default.is)

pub returns-in-Ok-sorted_query-clause-members : goal.returns-in-Ok-sorted_query-clause-members
returns-in-Ok-sorted_query-clause-members c = λ h.
    let same : form_of c.in-Ok-sorted_query.query.body ≡ plain (raw_form_of c.args.raw.body) (reverse c.args.raw.head) = ap (λ q. q.body) c.in-Ok-sorted_query.ensures.query in
    subst HasElements (sym same) (members_stay (raw_form_of c.args.raw.body) (reverse c.args.raw.head) h)

pub returns-in-Ok-sorted_query-clause-points : goal.returns-in-Ok-sorted_query-clause-points
returns-in-Ok-sorted_query-clause-points c =
    let same : form_of c.in-Ok-sorted_query.query.body ≡ plain (raw_form_of c.args.raw.body) (reverse c.args.raw.head) = ap (λ q. q.body) c.in-Ok-sorted_query.ensures.query in
    ap points same ∙ points_stay (raw_form_of c.args.raw.body) (reverse c.args.raw.head)
