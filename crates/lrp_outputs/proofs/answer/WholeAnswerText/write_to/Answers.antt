-- The zones have room, and the text is that of the relation's name.
use Rattle.std.proofs.Common.{ap}
use Rattle.lrp_answer_text.specs.AnswerText.{named_answer_text}
use Rattle.lrp_print.proofs.Lines.{written_as}
use Rattle.lrp_outputs.proofs.RoomLemmas.{room}
use Rattle.lrp_outputs.proofs.answer.WholeAnswerText.write_to.Goals as goal

pub write_answer-requires : goal.write_answer-requires
write_answer-requires g c = record { room = room c.args.self.now.answer.store c.args.self.now.room }

pub returns-clause-text : goal.returns-clause-text
returns-clause-text g c = written_as _ _ _ _ c.write_answer.result (ap (λ name. named_answer_text name c.args.self.now.answer) c.as_bytes.ensures) c.write_answer.ensures.text
