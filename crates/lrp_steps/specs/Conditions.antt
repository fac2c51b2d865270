-- Patterns with one condition more.
use Rattle.std.specs.Prelude.{◌≡◌, ◌⊎◌, ℕ, ◌+◌, ◌-◌, ◌≤◌, ◌^◌, ◌==◌, if◌then◌else◌, ◌≤ℤ◌, ◌-ℤ◌, pos, nat_abs, List, [], ◌∷◌, ◌++◌, map, length, All, Some, slice_get}
use Rattle.std.specs.List.{AllByRecursion}
use Rattle.lrp_theory.specs.Divides.{Divides}
use Rattle.lrp_model.specs.Texts.{Text, Identifier}
use Rattle.lrp_model.specs.Reach.{term_offset}
use Rattle.lrp_model.specs.Satisfaction.{Assignment, Passes}
use Rattle.lrp_model.specs.declared.formulas.Test.{Test}
use Rattle.lrp_model.specs.declared.formulas.Test.TheVariants.{Compare, Member, Equal}
use Rattle.lrp_store.specs.Tables.{AreTexts}
use Rattle.lrp_systems.specs.Parts.{PartView, Fits, system_reach}
use Rattle.lrp_tables.specs.Calls.{test_period, tests_reach}
use Rattle.lrp_tables.specs.Columns.{times_of_test, texts_of_test}
use Rattle.lrp_tables.specs.Tables.{AreNamesAmong}
use Rattle.lrp_steps.specs.declared.pattern.Pattern.{Pattern}
use Rattle.lrp_steps.specs.declared.pair.TextPair.{TextPair}
use Rattle.lrp_steps.specs.Patterns.{parts_of, MatchesPattern, IsKnownToo, IsNotKnown}

-- new asks what old asks, and that the times at places are a tuple of a zone
pub record IsWithZone (old : Pattern) (part : PartView) (new : Pattern) : Type 0 where
  pub zones : parts_of new ≡ parts_of old ++ part ∷ []
  pub texts : new.texts ≡ old.texts
  pub equal : new.equal ≡ old.equal

-- the reach of a zone of this period when it is brought to the period k
abbrev pub brought : ℕ → ℕ → ℕ → ℕ
brought k period reach = if period == k then reach else reach + (k - 1)

-- the greatest magnitude of a bound in the zone of a test: that of a point has none
abbrev pub condition_reach : Test → ℕ
condition_reach (Compare left op right) = 1 + nat_abs (term_offset left -ℤ term_offset right)
condition_reach (Member term point) = 0
condition_reach (Equal left right) = 0

-- new asks what old asks, and that the test passes; its zones can be brought to a multiple of the test's period
pub record IsWithTest (domain : List Text) (times texts : List Identifier) (test : Test) (old new : Pattern) : Type 0 where
  pub size : length new.texts ≡ 8
  pub to : (env : Assignment) (ns : List ℕ) → AreTexts domain ns (map env.texts texts) → MatchesPattern new (map env.times times) ns → MatchesPattern old (map env.times times) ns × Passes env test
  pub from : (env : Assignment) (ns : List ℕ) → AreTexts domain ns (map env.texts texts) → MatchesPattern old (map env.times times) ns → Passes env test → MatchesPattern new (map env.times times) ns
  pub fits : (k : ℕ) → Divides (test_period test) (pos k) → (nat_abs (test_period test) ≡ k) ⊎ (condition_reach test + k ≤ 2 ^ 62) → All (Fits (length times) k) (parts_of old) → All (Fits (length times) k) (parts_of new)
  pub reach : (k high : ℕ) → brought k (nat_abs (test_period test)) (condition_reach test) ≤ high → system_reach k (parts_of old) ≤ high → system_reach k (parts_of new) ≤ high

-- nothing that the pattern asks for passes the test
pub record HasNoTest (domain : List Text) (times texts : List Identifier) (test : Test) (old : Pattern) : Type 0 where
  pub none : (env : Assignment) (ns : List ℕ) → AreTexts domain ns (map env.texts texts) → MatchesPattern old (map env.times times) ns → Passes env test → ⊥

-- a test of variables of these names, whose period is at least 1
pub record CanBeAsked (times texts : List Identifier) (test : Test) : Type 0 where
  pub times_known : AreNamesAmong (times_of_test test) times
  pub texts_known : AreNamesAmong (texts_of_test test) texts
  pub low : pos 1 ≤ℤ test_period test

-- the pattern asks that each of the tests passes; its zones can be brought to a multiple of the tests' periods
pub record IsWithTests (domain : List Text) (times texts : List Identifier) (tests : List Test) (new : Pattern) : Type 0 where
  pub size : length new.texts ≡ 8
  pub to : (env : Assignment) (ns : List ℕ) → AreTexts domain ns (map env.texts texts) → MatchesPattern new (map env.times times) ns → AllByRecursion (Passes env) tests
  pub from : (env : Assignment) (ns : List ℕ) → AreTexts domain ns (map env.texts texts) → AllByRecursion (Passes env) tests → MatchesPattern new (map env.times times) ns
  pub fits : (k : ℕ) → AllByRecursion (λ test. Divides (test_period test) (pos k)) tests → tests_reach tests + k ≤ 2 ^ 62 → All (Fits (length times) k) (parts_of new)
  pub reach : (k high : ℕ) → tests_reach tests + k ≤ high → system_reach k (parts_of new) ≤ high

-- no assignment passes all of the tests
pub record HasNoTests (domain : List Text) (times texts : List Identifier) (tests : List Test) : Type 0 where
  pub none : (env : Assignment) (ns : List ℕ) → AreTexts domain ns (map env.texts texts) → AllByRecursion (Passes env) tests → ⊥

-- new asks what old asks, and that two data columns, counted from 1, have one text
pub record IsWithPair (old : Pattern) (left right : ℕ) (new : Pattern) : Type 0 where
  pub zones : new.zones ≡ old.zones
  pub texts : new.texts ≡ old.texts
  pub pair : TextPair
  pub left_is : pair.left ≡ left - 1
  pub right_is : pair.right ≡ right - 1
  pub equal : new.equal ≡ old.equal ++ pair ∷ []

-- new asks what old asks, and that a data column, counted from 1, has a text
pub record IsWithText (domain : List Text) (old : Pattern) (column : ℕ) (text : Text) (new : Pattern) : Type 0 where
  pub number : ℕ
  pub is : slice_get domain number ≡ Some text
  pub zones : new.zones ≡ old.zones
  pub known : IsKnownToo old.texts (column - 1) number new.texts
  pub equal : new.equal ≡ old.equal

-- the text is none of the domain, or the column has another one
pub record HasNoText (domain : List Text) (old : Pattern) (column : ℕ) (text : Text) : Type 0 where
  pub none : (number : ℕ) → slice_get domain number ≡ Some text → IsNotKnown old.texts (column - 1) number
