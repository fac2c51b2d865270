use Rattle.std.proofs.Common.{◌≡◌, [], ap, sym, subst, ◌∙◌}
use Rattle.lrp_model.specs.RawQueries.{raw_form_of, raw_question_of}
use Rattle.lrp_tense.specs.Expanding.{expanded_question, operators, operator_number}
use Rattle.lrp_tense.specs.Laws.{KeepsMeaning}
use Rattle.lrp_tense.proofs.NoOperators.{none_in}
use Rattle.lrp_tense.proofs.Law.{kept_meaning}
use Rattle.lrp_tense.proofs.Positions.{expanded_query}
use Rattle.lrp_tense.proofs.expansion.expand.Goals as goal

pub returns : goal.returns
returns c =
    let q = raw_question_of c.args.query.now in
    let tree : raw_question_of (record { head = c.in_ok-head.head; body = c.into_inner-body.result }) ≡ expanded_question q =
    expanded_query c.args.query.now _ c.in_ok-head.ensures (ap raw_form_of c.into_inner-body.ensures ∙ c.in_ok-made.ensures.tree) in
    record { tree = tree; plain = none_in c.into_inner-body.result (raw_form_of c.args.query.now.body) (operator_number (operators (raw_form_of c.args.query.now.body))) [] (ap raw_form_of c.into_inner-body.ensures ∙ c.in_ok-made.ensures.tree); meaning = subst (KeepsMeaning q) (sym tree) (kept_meaning q c.requires c.in_ok-made.ensures.few) }
