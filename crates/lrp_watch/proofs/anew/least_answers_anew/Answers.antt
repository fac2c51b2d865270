-- The lines of the least answers are told.
use Rattle.lrp_model.specs.Formulas.{question_of}
use Rattle.lrp_watch.proofs.KnownTexts.{all_read}
use Rattle.lrp_watch.proofs.TellingAnew.{few_columns_of, known_anew, told_anew}
use Rattle.lrp_watch.proofs.anew.least_answers_anew.Goals as goal

pub no_answers-requires : goal.no_answers-requires
no_answers-requires c = few_columns_of c.args.database.now c.args.query.now c.requires.query

pub spots-requires-clause-texts : goal.spots-requires-clause-texts
spots-requires-clause-texts c = all_read c.in_ok-domain.domain c.args.database.now (question_of c.args.query.now) c.args.edits.now c.in_ok-domain.ensures c.relations.ensures.kept.each

pub invariant_of-result : goal.invariant_of-result
invariant_of-result c = record { known = known_anew c.args.query.now c.in_ok-domain.domain c.in_ok-answer.answer c.in_ok-answer.ensures c.args.anew.planning c.args.anew.cap c.args.edits.now c.args.database.now c.in_ok-spots.spots c.in_ok-spots.ensures.done }

pub returns-clause-told : goal.returns-clause-told
returns-clause-told c = told_anew c.args.query.now c.in_ok-domain.domain c.in_ok-answer.answer c.in_ok-answer.ensures c.args.anew.planning c.args.anew.cap c.args.edits.now c.args.database.now c.in_ok-spots.spots c.in_ok-spots.ensures.done
