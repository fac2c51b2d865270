-- The first tuple of the store is the least answer.
use Rattle.lrp_answers.proofs.AnswerFirst.{no_answer, least_answer}
use Rattle.lrp_answers.proofs.answer.Answer.least.Goals as goal

pub returns-clause-none : goal.returns-clause-none
returns-clause-none c = no_answer c.args.self.now.head.columns c.args.self.now.domain c.args.self.now.store c.first.ensures.valid c.len.ensures.ascending c.args.self.now.numbered c.args.self.now.times_are c.args.self.now.columns_are c.first.result c.first.ensures.none

pub returns-clause-some : goal.returns-clause-some
returns-clause-some c = least_answer c.args.self.now.head.columns c.args.self.now.domain c.args.self.now.store c.first.ensures.valid c.len.ensures.ascending c.args.self.now.numbered c.args.self.now.times_are c.args.self.now.columns_are c.first.result c.first.ensures.some c.first.ensures.first
