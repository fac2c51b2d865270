use Rattle.std.proofs.Common.{[], sym, subst, arith, refl}
use Rattle.std.specs.Option.{option_map}
use Rattle.lrp_limits.specs.Multiples.{IsLeastWithinLimit, IsPeriodOf}
use Rattle.lrp_limits.specs.Facts.{most_of_row}
use Rattle.lrp_model.specs.Periods.{row_periods}
use Rattle.lrp_limits.proofs.Greatest.{flat_map_step, greatest_step}
use Rattle.lrp_limits.proofs.Keeping.{least_of_none}
use Rattle.lrp_limits.proofs.facts.facts_of.Goals as goal

pub loop-row-init : goal.loop-row-init
loop-row-init c = record { period = subst (IsLeastWithinLimit []) (sym c.one.ensures) least_of_none; bound = refl }

pub loop-row-preserved : goal.loop-row-preserved
loop-row-preserved c =
    let e = greatest_step most_of_row c.args.rows.now c.loop-row.row-index c.row-item.result c.loop-row-test.true c.row-item.is in
    record {
      period = subst (λ ks. IsPeriodOf ks (option_map (λ p. p.number) c.with_row-period.result)) (sym (flat_map_step row_periods c.args.rows.now c.loop-row.row-index c.row-item.result c.loop-row-test.true c.row-item.is)) (c.with_row-period.ensures.keeps _ c.loop-row.invariant.period);
      bound = omega (arith, e, c.bound_of.ensures, c.max-bound.ensures, c.loop-row.invariant.bound);
    }
