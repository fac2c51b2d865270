-- The cells of entries under keys that stand for cells. No public clause cites this module.
use Rattle.std.specs.Prelude.{List, map}
use Rattle.lrp_model.specs.declared.tuples.Cell.{Cell}
use Rattle.lrp_slots.specs.declared.chains.Chain.{Chain}

-- the cells of keys, with their chains
abbrev pub entries_by : {K : Type 0} → (K → Cell) → List (K × Chain) → List (Cell × Chain)
entries_by cell_of entries = map (λ e. (cell_of e.0, e.1)) entries
