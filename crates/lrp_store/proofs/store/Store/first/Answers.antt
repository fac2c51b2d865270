-- Cell after cell, no tuple is before what was found.
use Rattle.std.proofs.Common.{◌⊎◌, inr, ap, subst, sym, Contains}
use Rattle.lrp_store.specs.Stores.{IsStore}
use Rattle.lrp_store.proofs.Aligning.{key_of}
use Rattle.lrp_store.specs.Least.{IsNotAfter}
use Rattle.lrp_store.proofs.EntriesRead.{cells_of, lists_found, lists_cells, first_found, rest_found}
use Rattle.lrp_store.proofs.StoreFirst.{cells_more, store_done, done_none, done_some}
use Rattle.lrp_store.proofs.store.Store.first.Goals as goal

pub loop-cell-init : goal.loop-cell-init
loop-cell-init c = record {
  found = tt;
  lists = lists_found _ c.args.self.now c.self.view_is c.lists-cell-items.result c.into_iter-cell-iterator.result c.into_iter-cell-iterator.ensures.into_iter_gives c.lists-cell-items.ensures.found;
  after = λ xs ns h. inr (subst (λ l. Contains l h.cell) (sym (lists_cells _ c.args.self.now c.self.view_is c.lists-cell-items.result c.into_iter-cell-iterator.result c.into_iter-cell-iterator.ensures.into_iter_gives c.lists-cell-items.ensures.entries)) (key_of c.args.self.now xs ns h));
}

pub first_of_cell-found-requires-clause-tables : goal.first_of_cell-found-requires-clause-tables
first_of_cell-found-requires-clause-tables c = first_found c.args.self.now c.in-Some.cell c.in-Some.tables c.next.new.self c.loop-cell.cell-iterator c.in-Some.ensures.steps c.loop-cell.invariant.lists

pub loop-cell-preserved : goal.loop-cell-preserved
loop-cell-preserved c = record {
  found = c.first_of_cell-found.ensures.found;
  lists = rest_found c.args.self.now c.in-Some.cell c.in-Some.tables c.next.new.self c.loop-cell.cell-iterator c.in-Some.ensures.steps c.loop-cell.invariant.lists;
  after = cells_more c.args.self.now (subst IsStore c.self.view_is c.self.invariant.valid) c.in-Some.cell (cells_of c.next.new.self) (cells_of c.loop-cell.cell-iterator) (ap cells_of c.in-Some.ensures.steps) c.loop-cell.found _ c.first_of_cell-found.ensures.kept c.first_of_cell-found.ensures.cell c.loop-cell.invariant.after;
}

pub returns-clause-none : goal.returns-clause-none
returns-clause-none c = done_none c.args.self.now c.loop-cell.found (store_done c.args.self.now (subst IsStore c.self.view_is c.self.invariant.valid) c.loop-cell.found (λ xs ns h. subst (λ l. IsNotAfter c.args.self.now c.loop-cell.found xs ns ⊎ Contains (cells_of l) h.cell) c.in-None.ensures.steps.0 (c.loop-cell.invariant.after xs ns h)))

pub returns-clause-first : goal.returns-clause-first
returns-clause-first c = done_some c.args.self.now c.loop-cell.found (store_done c.args.self.now (subst IsStore c.self.view_is c.self.invariant.valid) c.loop-cell.found (λ xs ns h. subst (λ l. IsNotAfter c.args.self.now c.loop-cell.found xs ns ⊎ Contains (cells_of l) h.cell) c.in-None.ensures.steps.0 (c.loop-cell.invariant.after xs ns h)))
