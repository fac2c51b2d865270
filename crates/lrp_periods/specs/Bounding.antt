-- How many cells tables inhabit at a period.
use Rattle.std.specs.Prelude.{ℕ, pos, List}
use Rattle.lrp_model.specs.Texts.{Ascends, Text}
use Rattle.lrp_store.specs.Tables.{AreNumbered}
use Rattle.lrp_tables.specs.declared.table.Table.{Table}
use Rattle.lrp_tables.specs.Caps.{InhabitsMoreThan}
use Rattle.lrp_tables.specs.Tables.{HasAssignment}
use Rattle.lrp_periods.specs.Parts.{AreParts, HasSome, part_times, part_texts}

-- the table's assignments inhabit no more than cap cells of the period, by each domain whose texts its numbers are
abbrev pub TableHasFewCells : ℕ → ℕ → Table → Type 0
TableHasFewCells cap period table = (domain : List Text) → Ascends domain → AreNumbered domain table.store → InhabitsMoreThan cap domain period table.vars.times table.vars.texts (HasAssignment table domain) → ⊥

-- the assignments of the parts do
abbrev pub HaveFewCells : ℕ → ℕ → List Table → Type 0
HaveFewCells cap period parts = (domain : List Text) → Ascends domain → AreParts domain (pos period) parts → InhabitsMoreThan cap domain period (part_times parts) (part_texts parts) (HasSome domain parts) → ⊥
