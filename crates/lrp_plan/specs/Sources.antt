-- What the planner reads of a database and a query, against the structure that they make.
use Rattle.std.specs.Prelude.{◌≡◌, List, [], ◌++◌, Option, Some, None}
use Rattle.std.specs.Str.{bytes_eq}
use Rattle.std.specs.HashMap.{get}
use Rattle.lrp_model.specs.Texts.{Identifier, in_order}
use Rattle.lrp_model.specs.Rows.{rows_of}
use Rattle.lrp_model.specs.Satisfaction.{Structure}
use Rattle.lrp_model.specs.Domains.{database_texts}
use Rattle.lrp_model.specs.declared.relations.Row.{Row}
use Rattle.lrp_model.specs.declared.relations.Sort.{Sort}
use Rattle.lrp_database.specs.Once.{texts_with}
use Rattle.lrp_limits.specs.declared.facts.Facts.{Facts}
use Rattle.lrp_plan.specs.declared.sources.Sources.{Sources}
use Rattle.lrp_plan.specs.Domains.{AreDomains}
use Rattle.lrp_limits.specs.Facts.{AreFacts}

-- the facts of rows, or no rows where there are no facts
abbrev pub AreFactsOf : List Row → Option Facts → Type 0
AreFactsOf rows (Some facts) = AreFacts rows facts
AreFactsOf rows None = rows ≡ []

-- the relations' facts, and the texts of each sort, as they are and as they were gathered
pub record AreSources (M : Structure) (sources : Sources) : Type 0 where
  pub facts_are : (name : Identifier) → AreFactsOf (rows_of M.relations name) (get bytes_eq sources.facts name)
  pub domains_are : AreDomains (database_texts sources.database.now) sources.texts.items sources.domains
  pub texts_are : (s : Sort) → M.domain s ≡ in_order (texts_with s (database_texts sources.database.now ++ sources.texts.items))
