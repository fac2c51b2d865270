-- The even times are a table of period 2.
use Rattle.std.proofs.Common.{subst, sym}
use Rattle.std.specs.Prelude.{pos}
use Rattle.lrp_tables.specs.Steps.{CanScan}
use Rattle.lrp_table_tests.specs.Evens.{evens}
use Rattle.lrp_table_tests.proofs.EvenLemmas.{can_scan, scanned_is, scanned_numbered}
use Rattle.lrp_table_tests.proofs.texts.even.Goals as goal

pub scan-requires : goal.scan-requires
scan-requires g c =
    subst (λ r. CanScan c.args.setting.now.domain.now (pos 2) r c.terms-terms.result) (sym c.even_times.ensures)
    (subst (λ l. CanScan c.args.setting.now.domain.now (pos 2) evens l) (sym c.terms-terms.ensures) (can_scan c.args.setting.now.domain.now))

pub returns : goal.returns
returns g c = record {
  times = scanned_is _ _ _ _ _ _ c.even_times.ensures c.terms-terms.ensures c.scan.ensures c.expect.ensures;
  numbered = scanned_numbered _ _ _ _ _ _ c.even_times.ensures c.terms-terms.ensures c.scan.ensures c.expect.ensures;
}
