-- Sorted findings, each once.
use Rattle.std.proofs.Common.{subst, sym}
use Rattle.std.proofs.lemmas.List.Filters.{dedup_is}
use Rattle.lrp_lint.specs.Listed.{AreEachOnce, row_order}
use Rattle.lrp_lint.specs.contracts.flaws.RowFindingOrd.TheImpl.Laws as laws
use Rattle.lrp_lint.proofs.Ordered.{in_order, rows_exact}
use Rattle.lrp_lint.proofs.listed.rows_in_order.Goals as goal

pub returns : goal.returns
returns c =
    subst (AreEachOnce row_order c.args.found.items) (sym c.from_vec.ensures)
    (in_order row_order laws.total-law rows_exact c.args.found.items c.sort_unstable.new.self.items c.dedup.new.self.items _ c.sort_unstable.ensures.permutation c.sort_unstable.ensures.sorted (dedup_is _ _ _ c.dedup.ensures.filtered) laws.matches_eq-law)
