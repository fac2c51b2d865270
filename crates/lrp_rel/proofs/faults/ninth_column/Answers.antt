-- One column more.
use Rattle.std.proofs.Common.{◌∙◌, ◌+◌, ap, drop, arith}
use Rattle.lrp_model.specs.Faults.{earliest, ninth}
use Rattle.lrp_model.specs.DatabaseFaults.{database_standing, database_fault}
use Rattle.lrp_model.specs.declared.faults.DbKind.TheVariants.{Wide}
use Rattle.lrp_rel.proofs.FaultWalks.{after, walk_said}
use Rattle.lrp_rel.proofs.faults.ninth_column.Goals as goal

pub loop-column-preserved : goal.loop-column-preserved
loop-column-preserved c =
    let columns = c.args.columns.now in
    let i = c.loop-column.column-index in
    let column = c.column-item.result in
    let counts = c.loop-column.counts in
    let more = c.counted-found.result.1 in
    record {
      found = walk_said c.loop-column.best c.sooner_of-best.result c.counted-found.result.0
          (earliest database_standing (ninth (database_fault Wide) counts.times counts.texts (drop i columns))) (earliest database_standing (ninth (database_fault Wide) more.times more.texts (drop (i + 1) columns))) _
          c.loop-column.invariant.found
          (ap (λ l. earliest database_standing (ninth (database_fault Wide) counts.times counts.texts l)) (after columns i column c.loop-column-test.true c.column-item.is) ∙ c.counted-found.ensures.found (drop (i + 1) columns))
          c.sooner_of-best.ensures;
      size = omega (arith, c.counted-found.ensures.size, c.loop-column.invariant.size);
    }
