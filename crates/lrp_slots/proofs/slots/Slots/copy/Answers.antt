use Rattle.std.proofs.Common.{◌∙◌, None, cond, ap, sym, subst}
use Rattle.std.specs.List.{list_any}
use Rattle.std.specs.List.Sorted.{IsStrictlySortedBy}
use Rattle.std.specs.Ordering.{eq_by_cmp}
use Rattle.std.specs.FinMap as finite
use Rattle.lrp_slots.specs.Lists.{cell_cmp, append_all}
use Rattle.lrp_slots.proofs.Copying.{keys_ascend, rest_ascends, nothing_copied, one_more_copied, all_copied}
use Rattle.lrp_slots.proofs.slots.Slots.copy.Goals as goal

pub loop-cell-init : goal.loop-cell-init
loop-cell-init g c =
    let cells = c.into_iter-cell-iterator.ensures.into_iter_gives ∙ c.cells-cell-items.ensures.cells in
    record {
      ascending = subst (IsStrictlySortedBy cell_cmp) (sym cells) (keys_ascend c.args.self.now.lists);
      copied = λ q.
          ap (λ m. finite.get m q) (c.in_ok-reserve.ensures.lists ∙ c.new-made.ensures.lists) ∙ nothing_copied c.args.self.now.lists q
          ∙ ap (λ ks. cond (list_any (eq_by_cmp cell_cmp q) ks) None (finite.get c.args.self.now.lists q)) (sym cells);
    }

pub loop-cell-preserved : goal.loop-cell-preserved
loop-cell-preserved g c =
    let ascends = subst (IsStrictlySortedBy cell_cmp) c.in-Some.ensures.steps c.loop-cell.invariant.ascending in
    record {
      ascending = rest_ascends c.in-Some.cell c.next.new.self ascends;
      copied = one_more_copied c.args.self.now.lists c.loop-cell.made.lists c.append_copies.new.made.lists c.in-Some.cell c.next.new.self
          (c.in_ok-append_copies.ensures ∙ ap (append_all c.loop-cell.made.lists c.in-Some.cell) c.iter.ensures)
          (c.cells-cell-items.ensures.filled c.in-Some.cell) ascends
          (λ q. c.loop-cell.invariant.copied q ∙ ap (λ ks. cond (list_any (eq_by_cmp cell_cmp q) ks) None (finite.get c.args.self.now.lists q)) c.in-Some.ensures.steps);
    }

pub returns : goal.returns
returns g c = all_copied c.args.self.now.lists c.loop-cell.made.lists c.loop-cell.cell-iterator c.in-None.ensures.steps.0 c.loop-cell.invariant.copied
