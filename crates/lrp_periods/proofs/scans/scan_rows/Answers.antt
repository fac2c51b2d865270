-- The rows as a relation of their own.
use Rattle.std.proofs.Common.{sym, subst}
use Rattle.lrp_tables.specs.Steps.{CanScan}
use Rattle.lrp_periods.proofs.PeriodLaws.{own_word}
use Rattle.lrp_periods.proofs.ScanParts.{can_scan_rows, scanned_rows}
use Rattle.lrp_periods.proofs.scans.scan_rows.Goals as goal

pub scan-requires : goal.scan-requires
scan-requires c = subst (λ p. CanScan c.args.setting.now.domain.now p c.in_ok-relation.relation c.args.source.now.terms.now) (sym (own_word c.requires.source_is.period_is c.requires.own_is)) (can_scan_rows c.requires c.in_ok-relation.relation c.in_ok-relation.ensures.columns c.in_ok-relation.ensures.rows)

pub returns : goal.returns
returns c = scanned_rows c.requires (own_word c.requires.source_is.period_is c.requires.own_is) c.in_ok-relation.ensures.rows c.small.result c.in_ok-made.ensures.table c.small.ensures.same c.small.ensures.valid c.small.ensures.reach
