use Rattle.std.proofs.Common.{[], refl}
use Rattle.std.proofs.lemmas.Result.{err_from_is_err_and}
use Rattle.lrp_text.specs.Parsers.{until_from}
use Rattle.lrp_text.specs.Taking.{is_end, expect_end}
use Rattle.lrp_edits.specs.EditRules.{edit, edits}
use Rattle.lrp_text.proofs.Turns.{lifts}
use Rattle.lrp_edits.proofs.reading.read_edits_to_end.Goals as goal

pub returns-in_err-kept : goal.returns-in_err-kept
unfolding edits
returns-in_err-kept c = λ n lt.
    let p = err_from_is_err_and c.from_residual.result c.from_residual.ensures.1 in
    rw (p.1, p.2) (lifts (until_from (edit n) is_end n [] c.args.tokens.now) (edits n c.args.tokens.now) c.read_all.new.tokens c.in_err-kept.field-0.0 (λ j e. rw e refl) (c.in_err-kept.ensures n lt))

pub returns-in_err-expect_end : goal.returns-in_err-expect_end
unfolding edits
returns-in_err-expect_end c = λ n lt.
    let p = err_from_is_err_and c.from_residual-in_err-expect_end.result c.from_residual-in_err-expect_end.ensures.1 in
    let read = (c.in_ok-kept.ensures n lt).read in
    rw (p.1, p.2) (lifts (expect_end c.read_all.new.tokens) (edits n c.args.tokens.now) c.read_all.new.tokens c.in_err-expect_end.field-0.0 (λ j e. rw (read, e) refl) c.in_err-expect_end.ensures.value)

pub returns : goal.returns
unfolding edits
returns c = λ n lt.
    let all = c.in_ok-kept.ensures n lt in
    record { value = all.value; read = rw (all.read, c.in_ok-expect_end.ensures.value) refl; stands = all.stands }
