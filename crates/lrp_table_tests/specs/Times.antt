-- Tables of times.
use Rattle.std.specs.Prelude.{◌≡◌, ℕ, List, [], codes, pos}
use Rattle.lrp_model.specs.Texts.{Identifier}
use Rattle.lrp_model.specs.declared.formulas.Op.TheVariants.{Le}
use Rattle.lrp_model.specs.declared.formulas.Test.{Test}
use Rattle.lrp_model.specs.declared.formulas.Test.TheVariants.{Compare}
use Rattle.lrp_model.specs.declared.formulas.TimeTerm.TheVariants.{Var as time_var}
use Rattle.lrp_store.specs.Stores.{HasReach}
use Rattle.lrp_tables.specs.declared.table.Table.{Table}

-- a table of these times and of no text, in cells of this period, whose zones reach no farther than a number
pub record IsOfTimes (names : List Identifier) (k high : ℕ) (table : Table) : Type 0 where
  pub times : table.vars.times ≡ names
  pub texts : table.vars.texts ≡ []
  pub period : table.store.period ≡ k
  pub reach : HasReach table.store high

-- `y` is at most 2 after `x`
abbrev pub soon : Test
soon = Compare (time_var (codes "y") (pos 0)) Le (time_var (codes "x") (pos 2))
