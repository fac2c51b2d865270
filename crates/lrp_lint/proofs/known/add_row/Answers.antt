-- Value after value.
use Rattle.std.proofs.Common.{◌||◌, ◌∙◌, ap, sym, [], arith, length, ◌≤◌, take}
use Rattle.std.specs.List.{list_any}
use Rattle.lrp_lint.specs.Known.{has}
use Rattle.lrp_lint.specs.Mentions.{is_entry}
use Rattle.lrp_lint.proofs.TextSets.{no_values_added, value_more}
use Rattle.lrp_lint.proofs.known.add_row.Goals as goal

pub loop-i-init : goal.loop-i-init
loop-i-init c = λ s t. no_values_added s t c.args.columns.now (has c.args.texts.now s t)

pub loop-i-preserved : goal.loop-i-preserved
loop-i-preserved c = λ s t.
    value_more s t c.args.columns.now c.args.values.now c.loop-i.i c.index-values-i.result (has c.args.texts.now s t) (has c.loop-i.texts s t) (has c.add_at.new.texts s t) c.loop-i-test.true c.index-values-i.is (c.loop-i.invariant s t) (c.in_ok-add_at.ensures s t)
