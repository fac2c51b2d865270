use Rattle.std.proofs.Common.{◌≡◌, ◌+◌, ◌^◌, ◌++◌, ◌∙◌, ap, subst, sym, arith}
use Rattle.std.specs.List.{flat_map, range_with_len}
use Rattle.lrp_theory.specs.Entries.{entry, IsSmallClosure}
use Rattle.lrp_answer_text.specs.AnswerText.{bounds_in, bounds_in_row}
use Rattle.lrp_answer_text.proofs.AnswerLines.{range_more}
use Rattle.lrp_answer_text.proofs.Shortest.{closed_entries, room_small}
use Rattle.lrp_answer_text.proofs.closures.bounds_of_all.Goals as goal

pub push_row-requires-clause-small : goal.push_row-requires-clause-small
push_row-requires-clause-small c =
    let m = c.closed-closed.result in
    subst (λ n. IsSmallClosure (n + 1) (2 ^ 62) m.cells) (sym (c.columns.ensures.value ∙ c.closed-closed.ensures.integers.columns))
    (room_small c.args.zone.now c.requires.room.0 m c.requires.room.1 c.closed-closed.ensures.closed c.closed-closed.ensures.integers)

pub loop-row-preserved : goal.loop-row-preserved
loop-row-preserved c =
    let table = entry c.closed-closed.result.cells in
    let nodes = c.columns.result + 1 in
    record {
      bounds = c.push_row.ensures.bounds ∙ ap (λ bs. bs ++ bounds_in_row nodes table c.loop-row.row) c.loop-row.invariant.bounds ∙ sym (range_more (bounds_in_row nodes table) c.loop-row.row);
      few = omega (arith, c.loop-row.invariant.few, c.push_row.ensures.few, c.columns.ensures.high);
      small = c.push_row.ensures.small c.loop-row.invariant.small;
    }

pub returns-clause-bounds : goal.returns-clause-bounds
returns-clause-bounds c =
    let m = c.closed-closed.result in
    let nodes = c.columns.result + 1 in
    let all : c.loop-row.row ≡ nodes = omega (arith, c.loop-row.auto.row-end, c.loop-row-test.false) in
    subst (λ n. c.loop-row.bounds ≡ flat_map (bounds_in_row nodes (entry m.cells)) (range_with_len 0 n)) all c.loop-row.invariant.bounds
    ∙ ap (λ n. bounds_in (n + 1) (entry m.cells)) (c.columns.ensures.value ∙ c.closed-closed.ensures.integers.columns)
    ∙ closed_entries c.args.zone.now c.requires.valid m c.closed-closed.ensures.closed c.closed-closed.ensures.integers
