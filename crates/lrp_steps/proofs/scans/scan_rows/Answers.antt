-- Row after row is added.
use Rattle.std.proofs.Common.{Err, refl, sym, ap, subst, ◌∙◌}
use Rattle.std.specs.Prelude.{All}
use Rattle.lrp_steps.specs.Rows.{IsAskedText}
use Rattle.lrp_steps.proofs.Scanned.{few_times, few_texts, times_among, texts_among, names_differ, scanning_none, row_reads, row_fits, row_passed, row_added, row_refused, scanning_more, scan_many, scan_table, scan_few, scan_high, made_times, made_texts}
use Rattle.lrp_steps.proofs.Conditioned.{matched_none, matched_some}
use Rattle.lrp_steps.proofs.ReadRows.{row_never}
use Rattle.lrp_steps.proofs.Steps.{farther}
use Rattle.lrp_steps.proofs.scans.scan_rows.Goals as goal

pub store_over-out-requires-clause-times : goal.store_over-out-requires-clause-times
store_over-out-requires-clause-times c =
    few_times c.args.setting.now.domain.now c.len-size.ensures.ascending c.args.relation.now c.args.terms.now c.args.period c.requires.low c.requires.high c.requires c.requires.reach c.in_ok-vars.vars.times c.in_ok-vars.vars.texts c.in_ok-vars.ensures.times c.in_ok-vars.ensures.texts c.args.setting.now.cap _ refl

pub store_over-out-requires-clause-texts : goal.store_over-out-requires-clause-texts
store_over-out-requires-clause-texts c =
    few_texts c.args.setting.now.domain.now c.len-size.ensures.ascending c.args.relation.now c.args.terms.now c.args.period c.requires.low c.requires.high c.requires c.requires.reach c.in_ok-vars.vars.times c.in_ok-vars.vars.texts c.in_ok-vars.ensures.times c.in_ok-vars.ensures.texts c.args.setting.now.cap _ refl

pub loop-row-init : goal.loop-row-init
loop-row-init c =
    scanning_none c.args.setting.now.domain.now c.len-size.ensures.ascending c.args.relation.now c.args.terms.now c.args.period c.requires.low c.requires.high c.requires c.requires.reach c.in_ok-vars.vars.times c.in_ok-vars.vars.texts c.in_ok-vars.ensures.times c.in_ok-vars.ensures.texts c.args.setting.now.cap c.store_over-out.result c.store_over-out.ensures.made c.store_over-out.ensures.valid

pub pattern_of_row-requires-clause-few_times : goal.pattern_of_row-requires-clause-few_times
pattern_of_row-requires-clause-few_times c =
    few_times c.args.setting.now.domain.now c.len-size.ensures.ascending c.args.relation.now c.args.terms.now c.args.period c.requires.low c.requires.high c.requires c.requires.reach c.in_ok-vars.vars.times c.in_ok-vars.vars.texts c.in_ok-vars.ensures.times c.in_ok-vars.ensures.texts c.args.setting.now.cap c.store_over-out.result c.store_over-out.ensures.made

pub pattern_of_row-requires-clause-few_texts : goal.pattern_of_row-requires-clause-few_texts
pattern_of_row-requires-clause-few_texts c =
    few_texts c.args.setting.now.domain.now c.len-size.ensures.ascending c.args.relation.now c.args.terms.now c.args.period c.requires.low c.requires.high c.requires c.requires.reach c.in_ok-vars.vars.times c.in_ok-vars.vars.texts c.in_ok-vars.ensures.times c.in_ok-vars.ensures.texts c.args.setting.now.cap c.store_over-out.result c.store_over-out.ensures.made

pub pattern_of_row-requires-clause-times : goal.pattern_of_row-requires-clause-times
pattern_of_row-requires-clause-times c =
    times_among c.args.setting.now.domain.now c.len-size.ensures.ascending c.args.relation.now c.args.terms.now c.args.period c.requires.low c.requires.high c.requires c.requires.reach c.in_ok-vars.vars.times c.in_ok-vars.vars.texts c.in_ok-vars.ensures.times c.in_ok-vars.ensures.texts c.args.setting.now.cap c.store_over-out.result c.store_over-out.ensures.made

pub pattern_of_row-requires-clause-texts : goal.pattern_of_row-requires-clause-texts
pattern_of_row-requires-clause-texts c =
    texts_among c.args.setting.now.domain.now c.len-size.ensures.ascending c.args.relation.now c.args.terms.now c.args.period c.requires.low c.requires.high c.requires c.requires.reach c.in_ok-vars.vars.times c.in_ok-vars.vars.texts c.in_ok-vars.ensures.times c.in_ok-vars.ensures.texts c.args.setting.now.cap c.store_over-out.result c.store_over-out.ensures.made

pub pattern_of_row-requires-clause-row : goal.pattern_of_row-requires-clause-row
pattern_of_row-requires-clause-row c =
    row_reads c.args.setting.now.domain.now c.len-size.ensures.ascending c.args.relation.now c.args.terms.now c.args.period c.requires.low c.requires.high c.requires c.requires.reach c.in_ok-vars.vars.times c.in_ok-vars.vars.texts c.in_ok-vars.ensures.times c.in_ok-vars.ensures.texts c.args.setting.now.cap c.store_over-out.result c.store_over-out.ensures.made _ c.as_slice-row-items.ensures c.loop-row.row-index c.row-item.result c.loop-row-test.true c.row-item.is

pub add_pattern-requires : goal.add_pattern-requires
add_pattern-requires c =
    let w = matched_some _ _ _ _ c.in-Some.is c.in_ok-pattern.ensures in
    row_fits c.args.setting.now.domain.now c.len-size.ensures.ascending c.args.relation.now c.args.terms.now c.args.period c.requires.low c.requires.high c.requires c.requires.reach c.in_ok-vars.vars.times c.in_ok-vars.vars.texts c.in_ok-vars.ensures.times c.in_ok-vars.ensures.texts c.args.setting.now.cap c.store_over-out.result c.store_over-out.ensures.made _ c.as_slice-row-items.ensures c.loop-row.row-index c.row-item.result c.loop-row-test.true c.row-item.is c.loop-row.out c.loop-row.invariant c.in-Some.pattern w c.len-size.result c.len-size.ensures.count

pub loop-row-preserved : goal.loop-row-preserved
loop-row-preserved c =
    let w = matched_some _ _ _ _ c.in-Some.is c.in_ok-pattern.ensures in
    scanning_more c.args.setting.now.domain.now c.len-size.ensures.ascending c.args.relation.now c.args.terms.now c.args.period c.requires.low c.requires.high c.requires c.requires.reach c.in_ok-vars.vars.times c.in_ok-vars.vars.texts c.in_ok-vars.ensures.times c.in_ok-vars.ensures.texts c.args.setting.now.cap c.store_over-out.result c.store_over-out.ensures.made _ c.as_slice-row-items.ensures c.loop-row.row-index c.row-item.result c.loop-row-test.true c.row-item.is c.loop-row.out c.loop-row.invariant c.add_pattern.new.out (row_added c.args.setting.now.domain.now c.len-size.ensures.ascending c.args.relation.now c.args.terms.now c.args.period c.requires.low c.requires.high c.requires c.requires.reach c.in_ok-vars.vars.times c.in_ok-vars.vars.texts c.in_ok-vars.ensures.times c.in_ok-vars.ensures.texts c.args.setting.now.cap c.store_over-out.result c.store_over-out.ensures.made _ c.as_slice-row-items.ensures c.loop-row.row-index c.row-item.result c.loop-row-test.true c.row-item.is c.loop-row.out c.loop-row.invariant c.in-Some.pattern w c.len-size.result c.len-size.ensures.count c.add_pattern.new.out c.in-Ok.ensures.ok)

pub loop-row-preserved-in_default : goal.loop-row-preserved-in_default
loop-row-preserved-in_default c =
    scanning_more c.args.setting.now.domain.now c.len-size.ensures.ascending c.args.relation.now c.args.terms.now c.args.period c.requires.low c.requires.high c.requires c.requires.reach c.in_ok-vars.vars.times c.in_ok-vars.vars.texts c.in_ok-vars.ensures.times c.in_ok-vars.ensures.texts c.args.setting.now.cap c.store_over-out.result c.store_over-out.ensures.made _ c.as_slice-row-items.ensures c.loop-row.row-index c.row-item.result c.loop-row-test.true c.row-item.is c.loop-row.out c.loop-row.invariant c.loop-row.out (row_passed c.args.setting.now.domain.now c.len-size.ensures.ascending c.args.relation.now c.args.terms.now c.args.period c.requires.low c.requires.high c.requires c.requires.reach c.in_ok-vars.vars.times c.in_ok-vars.vars.texts c.in_ok-vars.ensures.times c.in_ok-vars.ensures.texts c.args.setting.now.cap c.store_over-out.result c.store_over-out.ensures.made _ c.as_slice-row-items.ensures c.loop-row.row-index c.row-item.result c.loop-row-test.true c.row-item.is c.loop-row.out c.loop-row.invariant (matched_none _ _ _ c.in_default.is c.in_ok-pattern.ensures))

pub loop-row-preserved-then-has_another : goal.loop-row-preserved-then-has_another
loop-row-preserved-then-has_another c =
    scanning_more c.args.setting.now.domain.now c.len-size.ensures.ascending c.args.relation.now c.args.terms.now c.args.period c.requires.low c.requires.high c.requires c.requires.reach c.in_ok-vars.vars.times c.in_ok-vars.vars.texts c.in_ok-vars.ensures.times c.in_ok-vars.ensures.texts c.args.setting.now.cap c.store_over-out.result c.store_over-out.ensures.made _ c.as_slice-row-items.ensures c.loop-row.row-index c.row-item.result c.loop-row-test.true c.row-item.is c.loop-row.out c.loop-row.invariant c.loop-row.out (row_passed c.args.setting.now.domain.now c.len-size.ensures.ascending c.args.relation.now c.args.terms.now c.args.period c.requires.low c.requires.high c.requires c.requires.reach c.in_ok-vars.vars.times c.in_ok-vars.vars.texts c.in_ok-vars.ensures.times c.in_ok-vars.ensures.texts c.args.setting.now.cap c.store_over-out.result c.store_over-out.ensures.made _ c.as_slice-row-items.ensures c.loop-row.row-index c.row-item.result c.loop-row-test.true c.row-item.is c.loop-row.out c.loop-row.invariant (row_never c.args.setting.now.domain.now c.in_ok-vars.vars.times c.in_ok-vars.vars.texts c.args.terms.now c.row-item.result (c.has_another.ensures c.if-has_another.true c.args.terms.now (subst (All (IsAskedText c.args.terms.now)) (sym c.as_slice.ensures.value) c.in_ok-asked.ensures))))

pub returns-in-Err-TooManyCells : goal.returns-in-Err-TooManyCells
returns-in-Err-TooManyCells c =
    let w = matched_some _ _ _ _ c.in-Some.is c.in_ok-pattern.ensures in
    record {
      table = tt;
      reach = tt;
      few = tt;
      many = λ e. scan_many c.args.setting.now.domain.now c.len-size.ensures.ascending c.args.relation.now c.args.terms.now c.args.period c.requires.low c.requires.high c.requires c.requires.reach c.in_ok-vars.vars.times c.in_ok-vars.vars.texts c.in_ok-vars.ensures.times c.in_ok-vars.ensures.texts c.args.setting.now.cap c.store_over-out.result c.store_over-out.ensures.made _ c.as_slice-row-items.ensures c.loop-row.row-index c.row-item.result c.loop-row-test.true c.row-item.is c.loop-row.out c.loop-row.invariant c.add_pattern.new.out (row_refused c.args.setting.now.domain.now c.len-size.ensures.ascending c.args.relation.now c.args.terms.now c.args.period c.requires.low c.requires.high c.requires c.requires.reach c.in_ok-vars.vars.times c.in_ok-vars.vars.texts c.in_ok-vars.ensures.times c.in_ok-vars.ensures.texts c.args.setting.now.cap c.store_over-out.result c.store_over-out.ensures.made _ c.as_slice-row-items.ensures c.loop-row.row-index c.row-item.result c.loop-row-test.true c.row-item.is c.loop-row.out c.loop-row.invariant c.in-Some.pattern w c.len-size.result c.len-size.ensures.count c.add_pattern.new.out (c.add_pattern.ensures.too_many (c.in-Err-TooManyCells.is ∙ ap Err c.in-Err-TooManyCells.field-0-is)));
    }

pub invariant_of-result : goal.invariant_of-result
invariant_of-result c =
    record {
      times_named = made_times c.args.setting.now.domain.now c.len-size.ensures.ascending c.args.relation.now c.args.terms.now c.args.period c.requires.low c.requires.high c.requires c.requires.reach c.in_ok-vars.vars.times c.in_ok-vars.vars.texts c.in_ok-vars.ensures.times c.in_ok-vars.ensures.texts c.args.setting.now.cap c.store_over-out.result c.store_over-out.ensures.made _ c.as_slice-row-items.ensures c.loop-row.row-index c.loop-row-test.false c.loop-row.out c.loop-row.invariant;
      texts_named = made_texts c.args.setting.now.domain.now c.len-size.ensures.ascending c.args.relation.now c.args.terms.now c.args.period c.requires.low c.requires.high c.requires c.requires.reach c.in_ok-vars.vars.times c.in_ok-vars.vars.texts c.in_ok-vars.ensures.times c.in_ok-vars.ensures.texts c.args.setting.now.cap c.store_over-out.result c.store_over-out.ensures.made _ c.as_slice-row-items.ensures c.loop-row.row-index c.loop-row-test.false c.loop-row.out c.loop-row.invariant;
      names_differ = names_differ c.args.setting.now.domain.now c.len-size.ensures.ascending c.args.relation.now c.args.terms.now c.args.period c.requires.low c.requires.high c.requires c.requires.reach c.in_ok-vars.vars.times c.in_ok-vars.vars.texts c.in_ok-vars.ensures.times c.in_ok-vars.ensures.texts c.args.setting.now.cap c.store_over-out.result c.store_over-out.ensures.made;
    }

pub returns : goal.returns
returns c =
    record {
      table = scan_table c.args.setting.now.domain.now c.len-size.ensures.ascending c.args.relation.now c.args.terms.now c.args.period c.requires.low c.requires.high c.requires c.requires.reach c.in_ok-vars.vars.times c.in_ok-vars.vars.texts c.in_ok-vars.ensures.times c.in_ok-vars.ensures.texts c.args.setting.now.cap c.store_over-out.result c.store_over-out.ensures.made _ c.as_slice-row-items.ensures c.loop-row.row-index c.loop-row-test.false c.loop-row.out c.loop-row.invariant _ refl refl refl;
      reach = λ high h. farther _ _ high h (scan_high c.args.setting.now.domain.now c.len-size.ensures.ascending c.args.relation.now c.args.terms.now c.args.period c.requires.low c.requires.high c.requires c.requires.reach c.in_ok-vars.vars.times c.in_ok-vars.vars.texts c.in_ok-vars.ensures.times c.in_ok-vars.ensures.texts c.args.setting.now.cap c.store_over-out.result c.store_over-out.ensures.made _ c.as_slice-row-items.ensures c.loop-row.row-index c.loop-row-test.false c.loop-row.out c.loop-row.invariant);
      few = scan_few c.args.setting.now.domain.now c.len-size.ensures.ascending c.args.relation.now c.args.terms.now c.args.period c.requires.low c.requires.high c.requires c.requires.reach c.in_ok-vars.vars.times c.in_ok-vars.vars.texts c.in_ok-vars.ensures.times c.in_ok-vars.ensures.texts c.args.setting.now.cap c.store_over-out.result c.store_over-out.ensures.made _ c.as_slice-row-items.ensures c.loop-row.row-index c.loop-row-test.false c.loop-row.out c.loop-row.invariant;
      many = λ e. cc;
    }
