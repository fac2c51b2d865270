-- No step has too many cells, and then the rows are counted and made.
use Rattle.std.proofs.Common.{Ok, Err, refl}
use Rattle.lrp_top.proofs.serving.canonical_answer.Goals as goal

pub returns-in-Ok : goal.returns-in-Ok
returns-in-Ok c = record { due = record { first = Ok tt; is = c.in-Ok.ensures.counted; next = c.canonical_text.ensures.due } }

pub returns-in-Err : goal.returns-in-Err
returns-in-Err c = record { due = record { first = Err c.in-Err.refusal; is = c.in-Err.ensures.counted; next = refl } }
