use Rattle.std.proofs.Common.{◌<◌, length, arith, refl}
use Rattle.std.proofs.lemmas.Result.{err_from_is_err_and}
use Rattle.lrp_text.specs.Taking.{located}
use Rattle.lrp_text.proofs.Turns.{lifts}
use Rattle.lrp_rel.specs.Rules.{row}
use Rattle.lrp_edits.specs.EditRules.{edit}
use Rattle.lrp_edits.proofs.reading.read_edit.Goals as goal

pub returns-in_err-row-clause-value : goal.returns-in_err-row-clause-value
unfolding edit
returns-in_err-row-clause-value c = λ n lt.
    let p = err_from_is_err_and c.from_residual-in_err-row.result c.from_residual-in_err-row.ensures.1 in
    let fewer : length c.read_label.new.tokens < n = omega (arith, c.in_ok-add.ensures.fewer, c.in_ok-relation.ensures.fewer, lt) in
    rw (p.1, p.2) (lifts (located (row n) c.read_label.new.tokens) (edit n c.args.tokens.now) c.read_placed_row.new.tokens c.in_err-row.field-0.0
    (λ j e. rw (c.in_ok-add.ensures.value, c.in_ok-relation.ensures.value, e) refl) (c.in_err-row.ensures.value n fewer))
