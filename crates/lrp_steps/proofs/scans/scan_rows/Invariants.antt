-- The tuples of the rows that are after were added.
use Rattle.std.proofs.Common.{drop}
use Rattle.lrp_model.specs.Reach.{scan_reach}
use Rattle.lrp_steps.proofs.Scanned.{IsScanning}
use Rattle.lrp_steps.proofs.scans.scan_rows.Given as goal

abbrev pub invariant-loop-row : goal.invariant-loop-row
invariant-loop-row l = IsScanning l.setting.domain.now l.vars.times l.vars.texts l.terms l.relation.rows (drop l.row-index l.relation.rows) l.setting.cap (scan_reach l.relation.rows l.terms l.initial.out.period) l.initial.out l.out
