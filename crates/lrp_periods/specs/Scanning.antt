-- Rows in groups by their periods.
use Rattle.std.specs.Prelude.{◌⊎◌, ℤ, List, Contains}
use Rattle.lrp_model.specs.Texts.{Text}
use Rattle.lrp_model.specs.Satisfaction.{Assignment}
use Rattle.lrp_model.specs.declared.relations.Row.{Row}
use Rattle.lrp_tables.specs.Steps.{CanScan}
use Rattle.lrp_tables.specs.Tables.{IsScanned}
use Rattle.lrp_periods.specs.Parts.{IsSmallPeriod}
use Rattle.lrp_periods.specs.Periods.{IsOwnPeriod, IsRowPeriod}
use Rattle.lrp_periods.specs.declared.scans.SplitRows.{SplitRows}
use Rattle.lrp_periods.specs.declared.scans.Source.{Source}

-- rows of this period and others
pub record IsSplitBy (whole own : ℤ) (rows : List Row) (made : SplitRows) : Type 0 where
  pub same : (row : Row) → Contains made.same row → Contains rows row × IsRowPeriod whole row own
  pub others : (row : Row) → Contains made.others row → Contains rows row
  pub all : (row : Row) → Contains rows row → Contains made.same row ⊎ Contains made.others row

-- the relation and the terms can be scanned in the step's period
pub record CanScanSource (domain : List Text) (source : Source) : Type 0 where
  pub period_is : IsSmallPeriod source.period
  pub scan : CanScan domain source.period source.relation.now source.terms.now

-- rows of the relation, all of a period that divides the step's
pub record CanScanRows (domain : List Text) (source : Source) (rows : List Row) (own : ℤ) : Type 0 where
  pub source_is : CanScanSource domain source
  pub own_is : IsOwnPeriod source.period own
  pub among : (row : Row) → Contains rows row → Contains source.relation.now.rows row
  pub periods : (row : Row) → Contains rows row → IsRowPeriod source.period row own

-- some row of these has the values of the terms as a member
abbrev pub IsScannedIn : List Text → Source → List Row → Assignment → Type 0
IsScannedIn domain source rows = IsScanned domain (record source.relation.now { rows = rows }) source.terms.now
