-- The cells that a store remembers as held whole. No public clause cites this module.
use Rattle.std.specs.Prelude.{◌≡◌, List, Some, None, Option, ℤ, replicate, Contains, slice_get}
use Rattle.std.specs.FinMap as finite
use Rattle.lrp_model.specs.declared.tuples.Cell.{Cell}
use Rattle.lrp_slots.specs.Lists.{cell_cmp, list_at}
use Rattle.lrp_store.specs.Stores.{StoreView, IsStore}

-- the list of each of the cells begins with the table that has no bound
abbrev pub BeginUnbounded : finite.FinMap cell_cmp (List (List (Option ℤ))) → List Cell → Type 0
BeginUnbounded tables cells = (cell : Cell) → Contains cells cell → slice_get (list_at tables cell) 0 ≡ Some (replicate 81 None)

-- a store remembers only cells that it holds whole
pub record IsRemembering (s : StoreView) (cells : List Cell) : Type 0 where
  pub valid : IsStore s
  pub whole : BeginUnbounded s.tables cells
