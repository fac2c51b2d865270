-- The spot stands for the least answer, by its numbers in the other domain.
use Rattle.lrp_model.specs.Formulas.{question_of}
use Rattle.lrp_watch.proofs.Renewals.{none_over, some_over}
use Rattle.lrp_watch.proofs.anew.Renewed.least.Goals as goal

pub renumbered-requires-clause-known : goal.renumbered-requires-clause-known
renumbered-requires-clause-known c = c.spots_stand_for_tuples.ensures.known c.args.answer.now.store.shape c.args.answer.now.domain c.in-Some.spot c.in-Some.ensures.some.tuple c.in-Some.ensures.some.stands

pub renumbered-requires-clause-size : goal.renumbered-requires-clause-size
renumbered-requires-clause-size c = c.in-Some.ensures.some.stands.texts_padded.size

pub returns-in-Some : goal.returns-in-Some
returns-in-Some c = λ db is.
    some_over db (question_of c.args.self.now.query.now) c.args.self.now.domain.now c.args.answer.now is.head is.answers c.spots_stand_for_tuples.ensures.tuple c.in-Some.spot c.renumbered.result c.in-Some.ensures.some c.renumbered.ensures

pub returns-in-None : goal.returns-in-None
returns-in-None c = λ db is. none_over db (question_of c.args.self.now.query.now) c.args.self.now.domain.now c.args.answer.now is.head is.answers c.in-None.ensures.none
