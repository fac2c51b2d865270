use Rattle.lrp_civil.proofs.PaceLemmas.{digits_utf8}
use Rattle.lrp_civil.proofs.values.written.Goals as goal

pub returns-in-Err : goal.returns-in-Err
returns-in-Err c = absurd (c.in-Err.ensures.cases.0 (digits_utf8 c.args.digits.now c.requires.digits))
