-- What the expansion of a file answers.
use Rattle.std.specs.Prelude.{◌≡◌, ◌<◌, ◌≤◌, List, Result, Ok, Err}
use Rattle.std.specs.List.{AllByRecursion}
use Rattle.lrp_model.specs.RawQueries.{RawFileView, RawDefinitionView, RawQuestion, raw_question_of}
use Rattle.lrp_model.specs.Satisfaction.{Either}
use Rattle.lrp_model.specs.declared.raw.RawQuery.{RawQuery}
use Rattle.lrp_model.specs.declared.relations.Relation.{Relation}
use Rattle.lrp_tense.specs.Expanding.{IsExpandable}
use Rattle.lrp_wide.specs.Limits.{HasTooMany, IsSmallFile, IsTooDeep, most_depth, most_formulas}
use Rattle.lrp_wide.specs.Stars.{NamesNoStar}
use Rattle.lrp_wide.specs.WideSorting.{IsOwnFault, query_of}
use Rattle.lrp_wide.specs.declared.checking.WideRead.{WideRead}
use Rattle.lrp_wide.specs.declared.checking.WideRead.TheVariants.{Fault, Formulas, Depth, Memory}
use Rattle.lrp_wide.specs.declared.measures.Size.{Size}

-- the operators of each of its texts can be written out
abbrev pub IsExpandableDefinition : RawDefinitionView → Type 0
IsExpandableDefinition d = IsExpandable (query_of d)

-- and no variable is named as a `*`
pub record IsExpandableFile (f : RawFileView) : Type 0 where
  pub definitions : AllByRecursion IsExpandableDefinition f.definitions
  pub query : IsExpandable f.query
  pub stars : NamesNoStar f

-- why a file is refused: a limit, a fault of its own texts, or want of memory
abbrev pub IsFileRefused : List Relation → RawFileView → WideRead → Type 0
IsFileRefused db f (Fault told) = IsSmallFile db f × IsOwnFault db f told
IsFileRefused db f Formulas = HasTooMany db f
IsFileRefused db f Depth = IsTooDeep db f
IsFileRefused db f Memory = Unit {0}

-- a size is refused for its formulas, or else for its depth
abbrev pub IsAboveLimit : Size → WideRead → Type 0
IsAboveLimit size Formulas = most_formulas < size.formulas
IsAboveLimit size Depth = (size.formulas ≤ most_formulas) × (most_depth < size.depth)
IsAboveLimit size _ = ⊥

-- this query, unless memory ran out
abbrev pub IsWrittenOrMemory : RawQuestion → Result RawQuery WideRead → Type 0
IsWrittenOrMemory q (Ok made) = raw_question_of made ≡ q
IsWrittenOrMemory q (Err read) = read ≡ Memory

-- this refusal, unless memory ran out
abbrev pub IsRefusedOrMemory : WideRead → Result RawQuery WideRead → Type 0
IsRefusedOrMemory Memory result = Unit {0}
IsRefusedOrMemory why (Ok made) = ⊥
IsRefusedOrMemory why (Err read) = Either (read ≡ why) (read ≡ Memory)
