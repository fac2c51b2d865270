-- What is known of each variable of a tuple, looked at alone.
use Rattle.std.specs.Prelude.{◌≡◌, ◌+◌, ◌<◌, ℕ, ℤ, List, map, length, slice_index, Option}
use Rattle.lrp_theory.specs.Entries.{node}
use Rattle.lrp_model.specs.Rows.{IsInRow}
use Rattle.lrp_model.specs.Satisfaction.{Assignment, term_value}
use Rattle.lrp_model.specs.Texts.{Text}
use Rattle.lrp_model.specs.declared.formulas.Term.{Term}
use Rattle.lrp_model.specs.declared.relations.Row.{Row}
use Rattle.lrp_store.specs.Tables.{AreTexts}
use Rattle.lrp_tables.specs.declared.table.Vars.{Vars}
use Rattle.lrp_systems.specs.Parts.{InPart}
use Rattle.lrp_steps.specs.Patterns.{part_of, AreKnown, MatchesPattern}
use Rattle.lrp_steps.specs.declared.pattern.Placed.{Placed}
use Rattle.lrp_steps.specs.declared.pattern.Pattern.{Pattern}
use Rattle.lrp_kept.specs.Spans.{AreInSpans}
use Rattle.lrp_kept.specs.declared.spans.ColumnSpan.{ColumnSpan}
use Rattle.lrp_kept.specs.declared.outlines.Outline.{Outline}

-- the integers are in the spans, and the texts are as known, each by its place
pub record IsInOutline (o : Outline) (xs : ℕ → ℤ) (ns : List ℕ) : Type 0 where
  pub times : AreInSpans o.times xs
  pub texts : AreKnown o.texts ns

-- both lists have a place for each variable
pub record IsFull (o : Outline) : Type 0 where
  pub times : length o.times ≡ 8
  pub texts : length o.texts ≡ 8

-- the integers begin with these times, and the numbers with those
pub record Continues (xs : List ℤ) (ns : List ℕ) (times texts : ℕ) (more : ℕ → ℤ) (further : List ℕ) : Type 0 where
  pub integers : (i : ℕ) → i < times → more i ≡ node xs (i + 1)
  pub numbers : (i : ℕ) → i < texts → slice_index further i ≡ slice_index ns i

-- what begins with a tuple of so many times and texts that is as the pattern asks is in the outline
pub record IsOutlineOf (pattern : Pattern) (times texts : ℕ) (o : Outline) : Type 0 where
  pub full : IsFull o
  pub is : (xs : List ℤ) (ns : List ℕ) (more : ℕ → ℤ) (further : List ℕ) → MatchesPattern pattern xs ns → Continues xs ns times texts more further → IsInOutline o more further

-- what begins with the values of the variables, where those of the terms are a member of the row, is in the outline
pub record IsOutlineFor (domain : List Text) (vars : Vars) (terms : List Term) (row : Row) (o : Outline) : Type 0 where
  pub full : IsFull o
  pub is : (env : Assignment) (ns : List ℕ) (more : ℕ → ℤ) (further : List ℕ) → AreTexts domain ns (map env.texts vars.texts) → IsInRow row (map (term_value env) terms) → Continues (map env.times vars.times) ns (length vars.times) (length vars.texts) more further → IsInOutline o more further

-- what is in the spans, and in the zone at its places among the first ones, is in the new spans
pub record AreNarrowed (old : List ColumnSpan) (placed : Placed) (count : ℕ) (new : List ColumnSpan) : Type 0 where
  pub size : length new ≡ 8
  pub is : (xs : List ℤ) (more : ℕ → ℤ) → ((i : ℕ) → i < count → more i ≡ node xs (i + 1)) → InPart (part_of placed) xs → AreInSpans old more → AreInSpans new more

-- what begins with the first so many numbers, where they are as known, is as the new ones are known
pub record AreFirstKnown (known : List (Option ℕ)) (count : ℕ) (new : List (Option ℕ)) : Type 0 where
  pub size : length new ≡ 8
  pub is : (ns further : List ℕ) → AreKnown known ns → ((i : ℕ) → i < count → slice_index further i ≡ slice_index ns i) → AreKnown new further
