-- Row after row.
use Rattle.std.proofs.Common.{◌||◌, ◌≡◌, ◌≤◌, ◌∙◌, ap, sym, arith, length, take, take_all}
use Rattle.std.specs.List.{flat_map, list_any}
use Rattle.lrp_model.specs.Domains.{row_texts}
use Rattle.lrp_model.specs.declared.relations.Row.{Row}
use Rattle.lrp_lint.specs.Known.{has}
use Rattle.lrp_lint.specs.Mentions.{is_entry}
use Rattle.lrp_lint.proofs.TextSets.{nothing_added, one_more_of}
use Rattle.lrp_lint.proofs.known.add_relation.Goals as goal

pub loop-row-init : goal.loop-row-init
loop-row-init c = λ s t. nothing_added (has c.args.texts.now s t)

pub loop-row-preserved : goal.loop-row-preserved
loop-row-preserved c = λ s t.
    one_more_of s t (λ (row : Row). row_texts c.as_slice-columns.result.now row.values) c.as_slice-rows.result.now c.loop-row.row-index c.row-item.result (has c.args.texts.now s t) (has c.loop-row.texts s t) (has c.add_row.new.texts s t) c.loop-row-test.true c.row-item.is (c.loop-row.invariant s t)
    (c.in_ok-add_row.ensures s t ∙ ap (λ vs. has c.loop-row.texts s t || list_any (is_entry s t) (row_texts c.as_slice-columns.result.now vs)) c.as_slice.ensures)

pub returns : goal.returns
returns c = λ s t.
    let all : length c.as_slice-rows.result.now ≤ c.loop-row.row-index = omega (arith, c.loop-row-test.false) in
    c.loop-row.invariant s t
    ∙ ap (λ rows. has c.args.texts.now s t || list_any (is_entry s t) (flat_map (λ (row : Row). row_texts c.as_slice-columns.result.now row.values) rows)) (take_all c.loop-row.row-index c.as_slice-rows.result.now all ∙ c.as_slice-rows.ensures)
    ∙ ap (λ cs. has c.args.texts.now s t || list_any (is_entry s t) (flat_map (λ (row : Row). row_texts cs row.values) c.args.relation.now.rows)) c.as_slice-columns.ensures
