-- The rows are the texts, and the term is the variable.
use Rattle.std.proofs.Common.{List, sym, subst}
use Rattle.std.specs.Prelude.{pos}
use Rattle.lrp_model.specs.declared.formulas.Term.{Term}
use Rattle.lrp_tables.specs.Steps.{CanScan, IsScanResult}
use Rattle.lrp_eval.proofs.ScanLaws.{can_scan_texts, sort_ran}
use Rattle.lrp_eval.proofs.sorting.sort_step.Goals as goal

pub scan-requires : goal.scan-requires
scan-requires c = subst (λ (ts : List Term). CanScan c.args.setting.now.domain.now (pos 1) c.in_ok-relation.relation ts) (sym c.in_ok-terms.ensures)
    (can_scan_texts c.requires.is _ c.in_ok-relation.relation c.in_ok-relation.ensures.columns c.in_ok-relation.ensures.rows)

pub returns : goal.returns
returns c = λ planned db q tables sort period n. sort_ran n _ c.in_ok-relation.relation c.in_ok-relation.ensures.columns c.in_ok-relation.ensures.rows c.scan.result
    (subst (λ (ts : List Term). IsScanResult c.args.setting.now.cap c.args.setting.now.domain.now (pos 1) c.in_ok-relation.relation ts c.scan.result) c.in_ok-terms.ensures c.scan.ensures)
