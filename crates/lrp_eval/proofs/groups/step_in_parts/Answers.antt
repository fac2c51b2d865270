-- Each kind of step by its operation on parts.
use Rattle.std.proofs.Common.{arith, refl, sym}
use Rattle.lrp_eval.proofs.GroupLaws.{also_ok}
use Rattle.lrp_eval.proofs.GroupSteps.{complement_asks, complement_makes, drop_data_asks, drop_data_makes, drop_time_asks, drop_time_makes, join_asks, join_makes, leaf_asks, leaf_makes, minus_asks, minus_makes, operand_high, operand_low, scan_asks, scan_makes, select_asks, select_makes, sort_asks, sort_makes, union_asks, union_makes}
use Rattle.lrp_eval.proofs.groups.step_in_parts.Goals as goal

-- ---- steps that read no other

pub scan_in_parts-requires : goal.scan_in_parts-requires
scan_in_parts-requires c = scan_asks c.requires.group c.requires.made c.requires.step _ _ c.in-Scan.is _ (sym c.in-Some.ensures.named) c.in-Some.ensures.kept

pub returns-in-Some : goal.returns-in-Some
returns-in-Some c = also_ok _ _ c.scan_in_parts.result (scan_makes c.requires.group c.requires.made c.requires.step _ _ c.in-Scan.is _ (sym c.in-Some.ensures.named) c.in-Some.ensures.kept) c.scan_in_parts.ensures

pub leaf-requires : goal.leaf-requires
leaf-requires c = leaf_asks c.requires.group c.requires.made c.requires.step _ c.in-Leaf.is

pub returns-in-Leaf : goal.returns-in-Leaf
returns-in-Leaf c = also_ok _ _ c.alone.result (leaf_makes c.requires.group c.requires.made c.requires.step _ c.in-Leaf.is c.leaf.result c.leaf.ensures) c.alone.ensures

pub sort_step-requires : goal.sort_step-requires
sort_step-requires c = sort_asks c.requires.group c.requires.made c.requires.step _ _ _ c.in-Sort.is

pub returns-in-Sort : goal.returns-in-Sort
returns-in-Sort c = also_ok _ _ c.alone-in-Sort.result (sort_makes c.requires.group c.requires.made c.requires.step _ _ _ c.in-Sort.is c.sort_step.result c.sort_step.ensures) c.alone-in-Sort.ensures

-- ---- joins

pub parts_of-requires-clause-low : goal.parts_of-requires-clause-low
parts_of-requires-clause-low c = operand_low c.requires.group c.requires.made c.requires.step _ c.in-Join.is _ (0, omega arith, refl)

pub parts_of-requires-clause-high : goal.parts_of-requires-clause-high
parts_of-requires-clause-high c = operand_high c.requires.group c.requires.made c.requires.step _ c.in-Join.is _ (0, omega arith, refl)

pub parts_of-requires-in-Join-clause-low : goal.parts_of-requires-in-Join-clause-low
parts_of-requires-in-Join-clause-low c = operand_low c.requires.group c.requires.made c.requires.step _ c.in-Join.is _ (1, omega arith, refl)

pub parts_of-requires-in-Join-clause-high : goal.parts_of-requires-in-Join-clause-high
parts_of-requires-in-Join-clause-high c = operand_high c.requires.group c.requires.made c.requires.step _ c.in-Join.is _ (1, omega arith, refl)

pub join_in_parts-requires : goal.join_in_parts-requires
join_in_parts-requires c = join_asks c.requires.group c.requires.made c.requires.step c.in_ok-left-in-Join.ensures c.in_ok-right-in-Join.ensures _ c.in-Join.is

pub returns-in_ok-right-in-Join : goal.returns-in_ok-right-in-Join
returns-in_ok-right-in-Join c = also_ok _ _ c.join_in_parts.result (join_makes c.requires.group c.requires.made c.requires.step c.in_ok-left-in-Join.ensures c.in_ok-right-in-Join.ensures _ c.in-Join.is) c.join_in_parts.ensures

-- ---- unions

pub parts_of-requires-in-Union-clause-low : goal.parts_of-requires-in-Union-clause-low
parts_of-requires-in-Union-clause-low c = operand_low c.requires.group c.requires.made c.requires.step _ c.in-Union.is _ (0, omega arith, refl)

pub parts_of-requires-in-Union-clause-high : goal.parts_of-requires-in-Union-clause-high
parts_of-requires-in-Union-clause-high c = operand_high c.requires.group c.requires.made c.requires.step _ c.in-Union.is _ (0, omega arith, refl)

pub parts_of-requires-in-Union-2-clause-low : goal.parts_of-requires-in-Union-2-clause-low
parts_of-requires-in-Union-2-clause-low c = operand_low c.requires.group c.requires.made c.requires.step _ c.in-Union.is _ (1, omega arith, refl)

pub parts_of-requires-in-Union-2-clause-high : goal.parts_of-requires-in-Union-2-clause-high
parts_of-requires-in-Union-2-clause-high c = operand_high c.requires.group c.requires.made c.requires.step _ c.in-Union.is _ (1, omega arith, refl)

pub union_in_parts-requires : goal.union_in_parts-requires
union_in_parts-requires c = union_asks c.requires.group c.requires.made c.requires.step c.in_ok-left-in-Union.ensures c.in_ok-right-in-Union.ensures c.in-Union.is

pub returns-in_ok-right-in-Union : goal.returns-in_ok-right-in-Union
returns-in_ok-right-in-Union c = also_ok _ _ c.union_in_parts.result (union_makes c.requires.group c.requires.made c.requires.step c.in_ok-left-in-Union.ensures c.in_ok-right-in-Union.ensures c.in-Union.is) c.union_in_parts.ensures

-- ---- differences

pub parts_of-requires-in-Minus-clause-low : goal.parts_of-requires-in-Minus-clause-low
parts_of-requires-in-Minus-clause-low c = operand_low c.requires.group c.requires.made c.requires.step _ c.in-Minus.is _ (0, omega arith, refl)

pub parts_of-requires-in-Minus-clause-high : goal.parts_of-requires-in-Minus-clause-high
parts_of-requires-in-Minus-clause-high c = operand_high c.requires.group c.requires.made c.requires.step _ c.in-Minus.is _ (0, omega arith, refl)

pub parts_of-requires-in-Minus-2-clause-low : goal.parts_of-requires-in-Minus-2-clause-low
parts_of-requires-in-Minus-2-clause-low c = operand_low c.requires.group c.requires.made c.requires.step _ c.in-Minus.is _ (1, omega arith, refl)

pub parts_of-requires-in-Minus-2-clause-high : goal.parts_of-requires-in-Minus-2-clause-high
parts_of-requires-in-Minus-2-clause-high c = operand_high c.requires.group c.requires.made c.requires.step _ c.in-Minus.is _ (1, omega arith, refl)

pub minus_in_parts-requires : goal.minus_in_parts-requires
minus_in_parts-requires c = minus_asks c.requires.group c.requires.made c.requires.step c.in_ok-left-in-Minus.ensures c.in_ok-right-in-Minus.ensures c.in-Minus.is

pub returns-in_ok-right-in-Minus : goal.returns-in_ok-right-in-Minus
returns-in_ok-right-in-Minus c = also_ok _ _ c.minus_in_parts.result (minus_makes c.requires.group c.requires.made c.requires.step c.in_ok-left-in-Minus.ensures c.in_ok-right-in-Minus.ensures c.in-Minus.is) c.minus_in_parts.ensures

-- ---- selections

pub parts_of-requires-in-Select-clause-low : goal.parts_of-requires-in-Select-clause-low
parts_of-requires-in-Select-clause-low c = operand_low c.requires.group c.requires.made c.requires.step _ c.in-Select.is _ (0, omega arith, refl)

pub parts_of-requires-in-Select-clause-high : goal.parts_of-requires-in-Select-clause-high
parts_of-requires-in-Select-clause-high c = operand_high c.requires.group c.requires.made c.requires.step _ c.in-Select.is _ (0, omega arith, refl)

pub select_in_parts-requires : goal.select_in_parts-requires
select_in_parts-requires c = select_asks c.requires.group c.requires.made c.requires.step c.in_ok-parts_of-in-Select.ensures _ c.in-Select.is

pub returns-in_ok-parts_of-in-Select : goal.returns-in_ok-parts_of-in-Select
returns-in_ok-parts_of-in-Select c = also_ok _ _ c.select_in_parts.result (select_makes c.requires.group c.requires.made c.requires.step c.in_ok-parts_of-in-Select.ensures _ c.in-Select.is) c.select_in_parts.ensures

-- ---- complements

pub parts_of-requires-in-Complement-clause-low : goal.parts_of-requires-in-Complement-clause-low
parts_of-requires-in-Complement-clause-low c = operand_low c.requires.group c.requires.made c.requires.step _ c.in-Complement.is _ (0, omega arith, refl)

pub parts_of-requires-in-Complement-clause-high : goal.parts_of-requires-in-Complement-clause-high
parts_of-requires-in-Complement-clause-high c = operand_high c.requires.group c.requires.made c.requires.step _ c.in-Complement.is _ (0, omega arith, refl)

pub complement_in_parts-requires : goal.complement_in_parts-requires
complement_in_parts-requires c = complement_asks c.requires.group c.requires.made c.requires.step c.in_ok-parts_of-in-Complement.ensures c.in-Complement.is

pub returns-in_ok-parts_of-in-Complement : goal.returns-in_ok-parts_of-in-Complement
returns-in_ok-parts_of-in-Complement c = also_ok _ _ c.complement_in_parts.result (complement_makes c.requires.group c.requires.made c.requires.step c.in_ok-parts_of-in-Complement.ensures c.in-Complement.is) c.complement_in_parts.ensures

-- ---- columns that go

pub parts_of-requires-in-DropTime-clause-low : goal.parts_of-requires-in-DropTime-clause-low
parts_of-requires-in-DropTime-clause-low c = operand_low c.requires.group c.requires.made c.requires.step _ c.in-DropTime.is _ (0, omega arith, refl)

pub parts_of-requires-in-DropTime-clause-high : goal.parts_of-requires-in-DropTime-clause-high
parts_of-requires-in-DropTime-clause-high c = operand_high c.requires.group c.requires.made c.requires.step _ c.in-DropTime.is _ (0, omega arith, refl)

pub drop_time_in_parts-requires : goal.drop_time_in_parts-requires
drop_time_in_parts-requires c = drop_time_asks c.requires.group c.requires.made c.requires.step c.in_ok-parts_of-in-DropTime.ensures _ c.in-DropTime.is

pub returns-in_ok-parts_of-in-DropTime : goal.returns-in_ok-parts_of-in-DropTime
returns-in_ok-parts_of-in-DropTime c = also_ok _ _ c.drop_time_in_parts.result (drop_time_makes c.requires.group c.requires.made c.requires.step c.in_ok-parts_of-in-DropTime.ensures _ c.in-DropTime.is) c.drop_time_in_parts.ensures

pub parts_of-requires-in-DropData-clause-low : goal.parts_of-requires-in-DropData-clause-low
parts_of-requires-in-DropData-clause-low c = operand_low c.requires.group c.requires.made c.requires.step _ c.in-DropData.is _ (0, omega arith, refl)

pub parts_of-requires-in-DropData-clause-high : goal.parts_of-requires-in-DropData-clause-high
parts_of-requires-in-DropData-clause-high c = operand_high c.requires.group c.requires.made c.requires.step _ c.in-DropData.is _ (0, omega arith, refl)

pub drop_data_in_parts-requires : goal.drop_data_in_parts-requires
drop_data_in_parts-requires c = drop_data_asks c.requires.group c.requires.made c.requires.step c.in_ok-parts_of-in-DropData.ensures _ c.in-DropData.is

pub returns-in_ok-parts_of-in-DropData : goal.returns-in_ok-parts_of-in-DropData
returns-in_ok-parts_of-in-DropData c = also_ok _ _ c.drop_data_in_parts.result (drop_data_makes c.requires.group c.requires.made c.requires.step c.in_ok-parts_of-in-DropData.ensures _ c.in-DropData.is) c.drop_data_in_parts.ensures
