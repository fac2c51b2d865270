use Rattle.std.proofs.Common.{◌-◌, ◌∙◌, ap, sym, get_or, take, length, arith}
use Rattle.std.specs.Char.{is_ascii_digit}
use Rattle.std.specs.List.{list_all}
use Rattle.lrp_text.proofs.Runs.{after_shorter}
use Rattle.lrp_calendar.proofs.PartLemmas.{none_is}
use Rattle.lrp_civil.proofs.PaceLemmas.{digits_are, no_digits, no_large, no_zero, number_found, run_digits}
use Rattle.lrp_civil.proofs.values.number_at.Goals as goal

pub slice_bounds-digits-count : goal.slice_bounds-digits-count
slice_bounds-digits-count c =
    let is = ap length c.after_digits-rest.ensures in
    let short = after_shorter is_ascii_digit c.args.bytes.now in
    omega (arith, is, short)

pub written-requires-clause-digits : goal.written-requires-clause-digits
written-requires-clause-digits c = ap (list_all is_ascii_digit) (digits_are c.args.bytes.now c.after_digits-rest.result.now c.after_digits-rest.ensures) ∙ run_digits c.args.bytes.now

pub returns-in_err-first : goal.returns-in_err-first
returns-in_err-first c =
    none_is _ _ c.from_residual.result c.from_residual.ensures
    (no_digits c.args.bytes.now _ (digits_are c.args.bytes.now c.after_digits-rest.result.now c.after_digits-rest.ensures) c.in_err-first.ensures.cases)

pub returns-then-first-eq48 : goal.returns-then-first-eq48
returns-then-first-eq48 c =
    no_zero c.args.bytes.now _ (digits_are c.args.bytes.now c.after_digits-rest.result.now c.after_digits-rest.ensures)
    (ap (λ digits. get_or digits 0 0) c.in_ok-first.ensures.cases.0 ∙ c.if-first-eq48.true)

pub returns-in_err-written : goal.returns-in_err-written
returns-in_err-written c =
    none_is _ _ c.from_residual-in_err-written.result c.from_residual-in_err-written.ensures
    (no_large c.args.bytes.now _ (digits_are c.args.bytes.now c.after_digits-rest.result.now c.after_digits-rest.ensures) c.in_err-written.ensures)

pub returns : goal.returns
returns c =
    let digits = take (length c.args.bytes.now - length c.after_digits-rest.result.now) c.args.bytes.now in
    let whole = c.in_ok-first.ensures.cases.0 in
    let size = ap length whole in
    number_found c.args.bytes.now digits c.after_digits-rest.result.now c.in_ok-written.field-0 (digits_are c.args.bytes.now c.after_digits-rest.result.now c.after_digits-rest.ensures) c.after_digits-rest.ensures
    (omega (arith, size)) (λ zero. c.if-first-eq48.false (sym (ap (λ ds. get_or ds 0 0) whole) ∙ zero)) c.in_ok-written.ensures.0 c.in_ok-written.ensures.1
