-- Each kind of step by its call: the tables that it reads are those of earlier steps.
use Rattle.std.proofs.Common.{sym, subst, ◌∙◌, ap}
use Rattle.std.specs.Option.{option_copied}
use Rattle.lrp_tables.specs.Steps.{CanExtend, IsExtendResult}
use Rattle.lrp_eval.proofs.DropLaws.{drop_data_run, drop_time_reach, drop_time_run}
use Rattle.lrp_eval.proofs.HeadLaws.{can_extend, head_ran}
use Rattle.lrp_eval.proofs.JoinLaws.{can_join, join_ran}
use Rattle.lrp_eval.proofs.MinusLaws.{can_complement, can_minus, complement_ran, minus_ran}
use Rattle.lrp_eval.proofs.Nexts.{as_kind, within}
use Rattle.lrp_eval.proofs.Reading.{earlier, worded}
use Rattle.lrp_eval.proofs.ScanLaws.{can_scan, scan_ran, some_relation}
use Rattle.lrp_eval.proofs.SelectLaws.{can_select, can_test, leaf_ran, select_ran}
use Rattle.lrp_eval.proofs.UnionLaws.{can_unite, union_ran}
use Rattle.lrp_eval.proofs.running.run_step.Goals as goal

-- ---- atoms

pub unreachable-requires : goal.unreachable-requires
unreachable-requires c = some_relation (as_kind _ c.requires.next.3 c.in-Scan.is) (sym c.relation.ensures.named ∙ ap (λ o. option_copied o) c.in-None.is)

pub scan-requires : goal.scan-requires
scan-requires c = can_scan (worded (as_kind _ c.requires.next.3 c.in-Scan.is)) (sym c.in-Some.ensures.named) c.in-Some.ensures.kept

pub returns-in-Some : goal.returns-in-Some
returns-in-Some c = λ planned q e n. scan_ran (worded (as_kind _ n c.in-Scan.is)) (sym c.in-Some.ensures.named) c.in-Some.ensures.kept c.scan.result c.scan.ensures

-- ---- tests alone, and the texts of sorts

pub leaf-requires : goal.leaf-requires
leaf-requires c = can_test (as_kind _ c.requires.next.3 c.in-Leaf.is)

pub returns-in-Leaf : goal.returns-in-Leaf
returns-in-Leaf c = λ planned q e n. leaf_ran (as_kind _ n c.in-Leaf.is) c.leaf.result c.leaf.ensures

pub sort_step-requires : goal.sort_step-requires
sort_step-requires c = record { planned = c.requires.next.0; database = c.args.database.now; query = c.requires.next.1; tables = c.args.tables.now; sort = _; period = c.args.step.now.period; is = as_kind _ c.requires.next.3 c.in-Sort.is }

pub returns-in-Sort : goal.returns-in-Sort
returns-in-Sort c = λ planned q e n. c.sort_step.ensures planned c.args.database.now q c.args.tables.now _ c.args.step.now.period (as_kind _ n c.in-Sort.is)

-- ---- joins

pub operand-left-requires-clause-low : goal.operand-left-requires-clause-low
operand-left-requires-clause-low c = (earlier (as_kind _ c.requires.next.3 c.in-Join.is)).0.0

pub operand-left-requires-clause-high : goal.operand-left-requires-clause-high
operand-left-requires-clause-high c = let n = as_kind _ c.requires.next.3 c.in-Join.is in within n _ (earlier n).0

pub operand-right-requires-clause-low : goal.operand-right-requires-clause-low
operand-right-requires-clause-low c = (earlier (as_kind _ c.requires.next.3 c.in-Join.is)).1.0.0

pub operand-right-requires-clause-high : goal.operand-right-requires-clause-high
operand-right-requires-clause-high c = let n = as_kind _ c.requires.next.3 c.in-Join.is in within n _ (earlier n).1.0

pub join-requires : goal.join-requires
join-requires c = can_join (worded (as_kind _ c.requires.next.3 c.in-Join.is)) c.operand-left.ensures c.operand-right.ensures

pub returns-in-Join : goal.returns-in-Join
returns-in-Join c = λ planned q e n. join_ran (worded (as_kind _ n c.in-Join.is)) c.operand-left.ensures c.operand-right.ensures c.join.result c.join.ensures

-- ---- selections

pub operand-requires-clause-low : goal.operand-requires-clause-low
operand-requires-clause-low c = (earlier (as_kind _ c.requires.next.3 c.in-Select.is)).0.0

pub operand-requires-clause-high : goal.operand-requires-clause-high
operand-requires-clause-high c = let n = as_kind _ c.requires.next.3 c.in-Select.is in within n _ (earlier n).0

pub select-requires : goal.select-requires
select-requires c = can_select (worded (as_kind _ c.requires.next.3 c.in-Select.is)) c.operand.ensures

pub returns-in-Select : goal.returns-in-Select
returns-in-Select c = λ planned q e n. select_ran (worded (as_kind _ n c.in-Select.is)) c.operand.ensures c.select.result c.select.ensures

-- ---- unions

pub operand-left-requires-in-Union-clause-low : goal.operand-left-requires-in-Union-clause-low
operand-left-requires-in-Union-clause-low c = (earlier (as_kind _ c.requires.next.3 c.in-Union.is)).0.0

pub operand-left-requires-in-Union-clause-high : goal.operand-left-requires-in-Union-clause-high
operand-left-requires-in-Union-clause-high c = let n = as_kind _ c.requires.next.3 c.in-Union.is in within n _ (earlier n).0

pub operand-right-requires-in-Union-clause-low : goal.operand-right-requires-in-Union-clause-low
operand-right-requires-in-Union-clause-low c = (earlier (as_kind _ c.requires.next.3 c.in-Union.is)).1.0.0

pub operand-right-requires-in-Union-clause-high : goal.operand-right-requires-in-Union-clause-high
operand-right-requires-in-Union-clause-high c = let n = as_kind _ c.requires.next.3 c.in-Union.is in within n _ (earlier n).1.0

pub union-requires : goal.union-requires
union-requires c = can_unite (worded (as_kind _ c.requires.next.3 c.in-Union.is)) c.operand-left-in-Union.ensures c.operand-right-in-Union.ensures

pub returns-in-Union : goal.returns-in-Union
returns-in-Union c = λ planned q e n. union_ran (worded (as_kind _ n c.in-Union.is)) c.operand-left-in-Union.ensures c.operand-right-in-Union.ensures c.union.result c.union.ensures

-- ---- differences

pub operand-left-requires-in-Minus-clause-low : goal.operand-left-requires-in-Minus-clause-low
operand-left-requires-in-Minus-clause-low c = (earlier (as_kind _ c.requires.next.3 c.in-Minus.is)).0.0

pub operand-left-requires-in-Minus-clause-high : goal.operand-left-requires-in-Minus-clause-high
operand-left-requires-in-Minus-clause-high c = let n = as_kind _ c.requires.next.3 c.in-Minus.is in within n _ (earlier n).0

pub operand-right-requires-in-Minus-clause-low : goal.operand-right-requires-in-Minus-clause-low
operand-right-requires-in-Minus-clause-low c = (earlier (as_kind _ c.requires.next.3 c.in-Minus.is)).1.0.0

pub operand-right-requires-in-Minus-clause-high : goal.operand-right-requires-in-Minus-clause-high
operand-right-requires-in-Minus-clause-high c = let n = as_kind _ c.requires.next.3 c.in-Minus.is in within n _ (earlier n).1.0

pub minus-requires : goal.minus-requires
minus-requires c = can_minus (worded (as_kind _ c.requires.next.3 c.in-Minus.is)) c.operand-left-in-Minus.ensures c.operand-right-in-Minus.ensures

pub returns-in-Minus : goal.returns-in-Minus
returns-in-Minus c = λ planned q e n. minus_ran (worded (as_kind _ n c.in-Minus.is)) c.operand-left-in-Minus.ensures c.operand-right-in-Minus.ensures c.minus.result c.minus.ensures.difference

-- ---- complements

pub operand-requires-in-Complement-clause-low : goal.operand-requires-in-Complement-clause-low
operand-requires-in-Complement-clause-low c = (earlier (as_kind _ c.requires.next.3 c.in-Complement.is)).0.0

pub operand-requires-in-Complement-clause-high : goal.operand-requires-in-Complement-clause-high
operand-requires-in-Complement-clause-high c = let n = as_kind _ c.requires.next.3 c.in-Complement.is in within n _ (earlier n).0

pub complement-requires : goal.complement-requires
complement-requires c = can_complement (as_kind _ c.requires.next.3 c.in-Complement.is) c.operand-in-Complement.ensures

pub returns-in-Complement : goal.returns-in-Complement
returns-in-Complement c = λ planned q e n. complement_ran (as_kind _ n c.in-Complement.is) c.operand-in-Complement.ensures c.complement.result c.complement.ensures.complement

-- ---- columns that go

pub operand-requires-in-DropTime-clause-low : goal.operand-requires-in-DropTime-clause-low
operand-requires-in-DropTime-clause-low c = (earlier (as_kind _ c.requires.next.3 c.in-DropTime.is)).0.0

pub operand-requires-in-DropTime-clause-high : goal.operand-requires-in-DropTime-clause-high
operand-requires-in-DropTime-clause-high c = let n = as_kind _ c.requires.next.3 c.in-DropTime.is in within n _ (earlier n).0

pub drop_time-requires : goal.drop_time-requires
drop_time-requires c = record { reach = drop_time_reach (as_kind _ c.requires.next.3 c.in-DropTime.is) c.operand-in-DropTime.ensures }

pub returns-in_ok-drop_time-in-DropTime : goal.returns-in_ok-drop_time-in-DropTime
returns-in_ok-drop_time-in-DropTime c = λ planned q e n. let made = c.in_ok-drop_time-in-DropTime.ensures in record { table = drop_time_run (as_kind _ n c.in-DropTime.is) c.operand-in-DropTime.ensures made.valid made.dropped; many = λ x. cc }

pub operand-requires-in-DropData-clause-low : goal.operand-requires-in-DropData-clause-low
operand-requires-in-DropData-clause-low c = (earlier (as_kind _ c.requires.next.3 c.in-DropData.is)).0.0

pub operand-requires-in-DropData-clause-high : goal.operand-requires-in-DropData-clause-high
operand-requires-in-DropData-clause-high c = let n = as_kind _ c.requires.next.3 c.in-DropData.is in within n _ (earlier n).0

pub returns-in_ok-drop_data-in-DropData : goal.returns-in_ok-drop_data-in-DropData
returns-in_ok-drop_data-in-DropData c = λ planned q e n. let made = c.in_ok-drop_data-in-DropData.ensures in record { table = drop_data_run (as_kind _ n c.in-DropData.is) c.operand-in-DropData.ensures made.valid made.dropped; many = λ x. cc }

-- ---- the step `head`

pub operand-requires-in-Extend-clause-low : goal.operand-requires-in-Extend-clause-low
operand-requires-in-Extend-clause-low c = (earlier (as_kind _ c.requires.next.3 c.in-Extend.is)).0.0

pub operand-requires-in-Extend-clause-high : goal.operand-requires-in-Extend-clause-high
operand-requires-in-Extend-clause-high c = let n = as_kind _ c.requires.next.3 c.in-Extend.is in within n _ (earlier n).0

pub extend-requires : goal.extend-requires
extend-requires c = subst (λ cs. CanExtend c.args.setting.now.domain.now cs c.operand-in-Extend.result.now) (sym c.requires.next.2) (can_extend (as_kind _ c.requires.next.3 c.in-Extend.is) c.operand-in-Extend.ensures)

pub returns-in-Extend : goal.returns-in-Extend
returns-in-Extend c = λ planned q e n. head_ran (as_kind _ n c.in-Extend.is) c.operand-in-Extend.ensures c.extend.result
    (subst (λ cs. IsExtendResult c.args.setting.now.cap c.args.setting.now.domain.now cs c.operand-in-Extend.result.now c.extend.result) e c.extend.ensures)
