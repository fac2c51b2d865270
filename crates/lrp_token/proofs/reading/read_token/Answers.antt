-- What the answer tells, and what follows from it.
use Rattle.std.proofs.Common.{Ok, Err}
use Rattle.std.specs.Prelude.{IsTrue}
use Rattle.lrp_token.specs.Reading.{HasCounts}
use Rattle.lrp_token.specs.declared.resume.TokenFault.TheVariants.{Shape}
use Rattle.lrp_token.proofs.Telling.{of_other, of_token, told_err}
use Rattle.lrp_token.proofs.reading.read_token.Goals as goal

pub returns-in_err-resume-clause-tells : goal.returns-in_err-resume-clause-tells
returns-in_err-resume-clause-tells c = told_err c.args.text.now c.args.shape c.from_residual.result c.in_err-resume.field-0.0 c.from_residual.ensures.1 c.in_err-resume.ensures

pub returns-in_err-resume-clause-token : goal.returns-in_err-resume-clause-token
returns-in_err-resume-clause-token c digest times texts token counts =
    of_token c.args.text.now c.args.shape digest times texts token c.from_residual.result (told_err c.args.text.now c.args.shape c.from_residual.result c.in_err-resume.field-0.0 c.from_residual.ensures.1 c.in_err-resume.ensures) counts

pub returns-in_err-resume-clause-other : goal.returns-in_err-resume-clause-other
returns-in_err-resume-clause-other c digest times texts token other =
    of_other c.args.text.now c.args.shape digest times texts token c.from_residual.result (told_err c.args.text.now c.args.shape c.from_residual.result c.in_err-resume.field-0.0 c.from_residual.ensures.1 c.in_err-resume.ensures) other

pub returns-then-has_counts-clause-token : goal.returns-then-has_counts-clause-token
returns-then-has_counts-clause-token c digest times texts token counts =
    of_token c.args.text.now c.args.shape digest times texts token (Ok c.in_ok-resume.resume) (c.in_ok-resume.ensures, c.has_counts.ensures.0 c.if-has_counts.true) counts

pub returns-then-has_counts-clause-other : goal.returns-then-has_counts-clause-other
returns-then-has_counts-clause-other c digest times texts token other =
    of_other c.args.text.now c.args.shape digest times texts token (Ok c.in_ok-resume.resume) (c.in_ok-resume.ensures, c.has_counts.ensures.0 c.if-has_counts.true) other

pub returns-else-has_counts-clause-token : goal.returns-else-has_counts-clause-token
returns-else-has_counts-clause-token c digest times texts token counts =
    let resume = c.in_ok-resume.resume in
    let other : HasCounts c.args.shape resume.tuple.times resume.tuple.texts → ⊥ = λ k. let yes : IsTrue c.has_counts.result = c.has_counts.ensures.1 k in cc (yes, c.if-has_counts.false) in
    of_token c.args.text.now c.args.shape digest times texts token (Err Shape) (record { digest = resume.digest; times = resume.tuple.times; texts = resume.tuple.texts; token = c.in_ok-resume.ensures; other = other }) counts
