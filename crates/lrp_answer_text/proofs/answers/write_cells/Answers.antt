use Rattle.std.proofs.Common.{◌∙◌, ap, subst, arith}
use Rattle.std.specs.List.{flat_map}
use Rattle.std.proofs.lemmas.Result.{err_from_is_err_and}
use Rattle.lrp_io.specs.Bytes.{appended}
use Rattle.lrp_io.proofs.PieceLemmas.{written_err}
use Rattle.lrp_model.specs.Printed.{row_line}
use Rattle.lrp_print.proofs.Lines.{front_as}
use Rattle.lrp_store.specs.Reading.{entries_of}
use Rattle.lrp_answer_text.specs.AnswerText.{answer_rows}
use Rattle.lrp_answer_text.proofs.Rows.{AreDone, entry_lines, entry_at, next_at, none_done, one_done, front_done, all_done, all_lines}
use Rattle.lrp_answer_text.proofs.answers.write_cells.Goals as goal

pub loop-cell-init : goal.loop-cell-init
loop-cell-init g c =
    let answer = c.args.answer.now in
    record {
      so_far = none_done (entry_lines answer.head.columns answer.domain answer.store) (entries_of answer.store) c.into_iter-cell-iterator.result (g.S.Sink.written c.args.out.now) (c.into_iter-cell-iterator.ensures.into_iter_gives ∙ c.entries-cell-items.ensures.value);
      later = omega arith;
    }

pub write_cell-requires-clause-zones : goal.write_cell-requires-clause-zones
write_cell-requires-clause-zones g c =
    let written = g.S.Sink.written in
    let answer = c.args.answer.now in
    let f = entry_lines answer.head.columns answer.domain answer.store in
    let all = entries_of answer.store in
    let place = next_at f all (c.in-Some.cell, c.in-Some.zones) c.next.new.self (written c.args.out.now) (written c.loop-cell.out) (written c.loop-cell.out) (subst (λ left. AreDone f all left (written c.args.out.now) (written c.loop-cell.out)) c.in-Some.ensures.steps c.loop-cell.invariant.so_far) in
    entry_at answer.store c.in-Some.cell c.in-Some.zones place.0 place.1

pub loop-cell-preserved : goal.loop-cell-preserved
loop-cell-preserved g c =
    let written = g.S.Sink.written in
    let answer = c.args.answer.now in
    let f = entry_lines answer.head.columns answer.domain answer.store in
    let all = entries_of answer.store in
    record {
      so_far = one_done f all (c.in-Some.cell, c.in-Some.zones) c.next.new.self (written c.args.out.now) (written c.loop-cell.out) (written c.write_cell.new.out) (subst (λ left. AreDone f all left (written c.args.out.now) (written c.loop-cell.out)) c.in-Some.ensures.steps c.loop-cell.invariant.so_far) c.in_ok-write_cell.ensures.text;
      later = omega (arith, c.loop-cell.invariant.later, c.write_cell.ensures.cause.later);
    }

pub returns-in_err-write_cell-clause-text : goal.returns-in_err-write_cell-clause-text
returns-in_err-write_cell-clause-text g c =
    let written = g.S.Sink.written in
    let answer = c.args.answer.now in
    let columns = answer.head.columns in
    let f = entry_lines columns answer.domain answer.store in
    let all = entries_of answer.store in
    let p = err_from_is_err_and c.from_residual.result c.from_residual.ensures.1 in
    written_err _ _ (flat_map (row_line columns) (answer_rows columns answer.domain answer.store)) _ p.0 p.1
    (front_as _ _ _ _ (all_lines columns answer.domain answer.store)
    (front_done f all (c.in-Some.cell, c.in-Some.zones) c.next.new.self (written c.args.out.now) (written c.loop-cell.out) (written c.write_cell.new.out) (subst (λ left. AreDone f all left (written c.args.out.now) (written c.loop-cell.out)) c.in-Some.ensures.steps c.loop-cell.invariant.so_far) c.in_err-write_cell.ensures.text))

pub returns-clause-text : goal.returns-clause-text
returns-clause-text g c =
    let written = g.S.Sink.written in
    let answer = c.args.answer.now in
    let columns = answer.head.columns in
    all_done (entry_lines columns answer.domain answer.store) (entries_of answer.store) _ (written c.args.out.now) (written c.loop-cell.out) c.in-None.ensures.steps.0 c.loop-cell.invariant.so_far ∙ ap (appended (written c.args.out.now)) (all_lines columns answer.domain answer.store)
