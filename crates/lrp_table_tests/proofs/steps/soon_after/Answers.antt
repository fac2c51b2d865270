-- A selection by a small test.
use Rattle.std.proofs.Common.{subst, sym}
use Rattle.std.specs.Prelude.{pos}
use Rattle.lrp_tables.specs.Steps.{CanSelect}
use Rattle.lrp_table_tests.proofs.SoonLemmas.{can_select, selected_reach}
use Rattle.lrp_table_tests.proofs.steps.soon_after.Goals as goal

pub select-requires : goal.select-requires
select-requires g c = subst (CanSelect (pos 4) c.args.table.now) (sym c.within_two-test.ensures) (can_select c.args.table.now c.requires)

pub returns : goal.returns
returns g c = selected_reach _ _ _ _ _ _ c.requires c.within_two-test.ensures c.select.ensures c.expect.ensures
