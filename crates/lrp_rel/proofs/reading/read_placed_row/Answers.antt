use Rattle.std.proofs.lemmas.Result.{err_from_is_err_and}
use Rattle.std.proofs.Common.{ℕ, suc, length, refl, arith}
use Rattle.lrp_text.specs.Taking.{located}
use Rattle.lrp_rel.specs.Rules.{row}
use Rattle.lrp_text.proofs.Turns.{lifts}
use Rattle.lrp_rel.proofs.RowRules.{row_sound}
use Rattle.lrp_rel.proofs.reading.read_placed_row.Goals as goal

pub returns-in_err-item-clause-value : goal.returns-in_err-item-clause-value
returns-in_err-item-clause-value c = λ n lt.
    let p = err_from_is_err_and c.from_residual.result c.from_residual.ensures.1 in
    rw (p.1, p.2) (lifts (row n c.args.tokens.now) (located (row n) c.args.tokens.now) c.read_row.new.tokens c.in_err-item.field-0.0 (λ j e. rw (c.place-place.ensures, e) refl) (c.in_err-item.ensures.value n lt))

pub returns-clause-fits : goal.returns-clause-fits
returns-clause-fits c =
    let ts = c.args.tokens.now in
    let n : ℕ = suc (length ts) in
    (row_sound n ts (c.in_ok-item.item, c.read_row.new.tokens) (c.in_ok-item.ensures.value n (omega arith))).1
