use Rattle.std.proofs.Common.{◌≡◌, cond, None}
use Rattle.std.specs.List.{list_any}
use Rattle.std.specs.List.Sorted.{IsStrictlySortedBy}
use Rattle.std.specs.Ordering.{eq_by_cmp}
use Rattle.std.specs.FinMap as finite
use Rattle.lrp_model.specs.declared.tuples.Cell.{Cell}
use Rattle.lrp_slots.specs.Lists.{cell_cmp}
use Rattle.lrp_slots.proofs.slots.Slots.copy.Given as goal

-- the copy has what the cells that are left do not have
abbrev pub invariant-loop-cell : goal.invariant-loop-cell
invariant-loop-cell g l = record {
  ascending : IsStrictlySortedBy cell_cmp l.cell-iterator;
  copied : (q : Cell) → finite.get l.made.lists q ≡ cond (list_any (eq_by_cmp cell_cmp q) l.cell-iterator) None (finite.get l.self.lists q);
}
