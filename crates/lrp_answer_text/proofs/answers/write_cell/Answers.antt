use Rattle.std.proofs.Common.{◌∙◌, ap, subst, arith}
use Rattle.std.specs.List.{flat_map}
use Rattle.std.proofs.lemmas.Result.{err_from_is_err_and}
use Rattle.lrp_io.specs.Bytes.{appended}
use Rattle.lrp_io.proofs.PieceLemmas.{written_err}
use Rattle.lrp_model.specs.Printed.{row_line}
use Rattle.lrp_print.proofs.Lines.{front_as}
use Rattle.lrp_store.specs.Stores.{zones_at}
use Rattle.lrp_answers.proofs.Cells.{read_known}
use Rattle.lrp_answer_text.specs.AnswerText.{cell_rows}
use Rattle.lrp_answer_text.proofs.Rows.{AreDone, zone_line, zone_lines, next_at, none_done, one_done, front_done, all_done, room_at}
use Rattle.lrp_answer_text.proofs.answers.write_cell.Goals as goal

pub loop-zone-init : goal.loop-zone-init
loop-zone-init g c =
    let answer = c.args.answer.now in
    let cell = c.args.cell.now in
    record {
      so_far = none_done (zone_line answer.head.columns answer.domain answer.store cell) (zones_at answer.store cell) c.into_iter-zone-iterator.result (g.S.Sink.written c.args.out.now) (c.into_iter-zone-iterator.ensures.into_iter_gives ∙ c.requires.zones);
      later = omega arith;
    }

pub write_row-requires-clause-room : goal.write_row-requires-clause-room
write_row-requires-clause-room g c =
    let written = g.S.Sink.written in
    let answer = c.args.answer.now in
    let f = zone_line answer.head.columns answer.domain answer.store c.args.cell.now in
    let all = zones_at answer.store c.args.cell.now in
    let place = next_at f all c.in-Some.zone c.next.new.self (written c.args.out.now) (written c.loop-zone.out) (written c.loop-zone.out) (subst (λ left. AreDone f all left (written c.args.out.now) (written c.loop-zone.out)) c.in-Some.ensures.steps c.loop-zone.invariant.so_far) in
    room_at answer.store c.args.cell.now place.0 c.in-Some.zone c.requires.room place.1

pub write_row-requires-clause-known : goal.write_row-requires-clause-known
write_row-requires-clause-known g c =
    let written = g.S.Sink.written in
    let answer = c.args.answer.now in
    let f = zone_line answer.head.columns answer.domain answer.store c.args.cell.now in
    let all = zones_at answer.store c.args.cell.now in
    let place = next_at f all c.in-Some.zone c.next.new.self (written c.args.out.now) (written c.loop-zone.out) (written c.loop-zone.out) (subst (λ left. AreDone f all left (written c.args.out.now) (written c.loop-zone.out)) c.in-Some.ensures.steps c.loop-zone.invariant.so_far) in
    read_known answer.store c.args.cell.now place.0 c.in-Some.zone place.1 answer.domain answer.numbered

pub loop-zone-preserved : goal.loop-zone-preserved
loop-zone-preserved g c =
    let written = g.S.Sink.written in
    let answer = c.args.answer.now in
    let f = zone_line answer.head.columns answer.domain answer.store c.args.cell.now in
    let all = zones_at answer.store c.args.cell.now in
    record {
      so_far = one_done f all c.in-Some.zone c.next.new.self (written c.args.out.now) (written c.loop-zone.out) (written c.write_row.new.out) (subst (λ left. AreDone f all left (written c.args.out.now) (written c.loop-zone.out)) c.in-Some.ensures.steps c.loop-zone.invariant.so_far) c.in_ok-write_row.ensures.text;
      later = omega (arith, c.loop-zone.invariant.later, c.write_row.ensures.cause.later);
    }

pub returns-in_err-write_row-clause-text : goal.returns-in_err-write_row-clause-text
returns-in_err-write_row-clause-text g c =
    let written = g.S.Sink.written in
    let answer = c.args.answer.now in
    let columns = answer.head.columns in
    let cell = c.args.cell.now in
    let f = zone_line columns answer.domain answer.store cell in
    let all = zones_at answer.store cell in
    let p = err_from_is_err_and c.from_residual.result c.from_residual.ensures.1 in
    written_err _ _ (flat_map (row_line columns) (cell_rows columns answer.domain answer.store cell)) _ p.0 p.1
    (front_as _ _ _ _ (zone_lines columns answer.domain answer.store cell)
    (front_done f all c.in-Some.zone c.next.new.self (written c.args.out.now) (written c.loop-zone.out) (written c.write_row.new.out) (subst (λ left. AreDone f all left (written c.args.out.now) (written c.loop-zone.out)) c.in-Some.ensures.steps c.loop-zone.invariant.so_far) c.in_err-write_row.ensures.text))

pub returns-clause-text : goal.returns-clause-text
returns-clause-text g c =
    let written = g.S.Sink.written in
    let answer = c.args.answer.now in
    let columns = answer.head.columns in
    let cell = c.args.cell.now in
    all_done (zone_line columns answer.domain answer.store cell) (zones_at answer.store cell) _ (written c.args.out.now) (written c.loop-zone.out) c.in-None.ensures.steps.0 c.loop-zone.invariant.so_far ∙ ap (appended (written c.args.out.now)) (zone_lines columns answer.domain answer.store cell)
