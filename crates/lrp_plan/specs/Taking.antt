-- How what an `and` of the program has taken in follows the rules of an `and`.
use Rattle.std.specs.Prelude.{◌≡◌, ℕ, Bool, true, false, cond, ◌&&◌, List, [], ◌∷◌, ◌++◌, length, Option, Some, None, map, filter, not}
use Rattle.std.specs.List.{AllByRecursion}
use Rattle.lrp_core.specs.FreeVariables.{variable_of}
use Rattle.lrp_model.specs.Formulas.{Form}
use Rattle.lrp_model.specs.Variables.{Variable, free, is_among, are_among, variables_of_test}
use Rattle.lrp_model.specs.Satisfaction.{Structure}
use Rattle.lrp_model.specs.Steps.{Steps, Rule, join, minus, complement}
use Rattle.lrp_model.specs.Conjunctions.{Taken, State, select_each, take_in, take_test}
use Rattle.lrp_model.specs.declared.formulas.Test.{Test}
use Rattle.lrp_model.specs.declared.relations.Relation.{Relation}
use Rattle.lrp_plan.specs.declared.drafts.PlannedOperand.{PlannedOperand}
use Rattle.lrp_plan.specs.declared.drafts.Draft.{Draft}
use Rattle.lrp_plan.specs.declared.elements.Kind.{Kind}
use Rattle.lrp_plan.specs.declared.elements.Kind.TheVariants.{Positive, Negation}
use Rattle.lrp_plan.specs.declared.taking.Taking.{Taking}
use Rattle.lrp_plan.specs.Drafts.{IsPlannedOperand, IsDraft, AreTests}

-- whether all variables of the test are among these
abbrev pub covers : List Variable → Test → Bool
covers vs t = are_among (variables_of_test t) vs

-- none of the tests is covered by these variables
abbrev pub AreUncovered : List Variable → List Test → Type 0
AreUncovered vs ts = AllByRecursion (λ t. covers vs t ≡ false) ts

-- the same variables, whatever their order
pub record HaveSame (vs ws : List Variable) : Type 0 where
  pub each : (v : Variable) → is_among vs v ≡ is_among ws v

-- the result so far, if there is one
abbrev pub IsSoFar : List Relation → ℕ → Steps → Option PlannedOperand → Taken → Type 0
IsSoFar db K steps None taken = taken.some ≡ false
IsSoFar db K steps (Some o) taken = (taken.some ≡ true) × IsPlannedOperand db K steps taken.result o

-- what was taken in, and the tests that remain, none of which is covered where they are settled
pub record IsTaking (db : List Relation) (K : ℕ) (steps : Steps) (taking : Taking) (taken : Taken) (remaining : List Test) : Type 0 where
  pub result : IsSoFar db K steps taking.result taken
  pub variables : HaveSame (map variable_of taking.variables) taken.variables
  pub remain : taking.tests ≡ remaining
  pub tests : AreTests taking.tests
  pub settled : taking.settled ≡ true → AreUncovered (map variable_of taking.variables) taking.tests

-- the steps and what was taken in are those of a state
pub record IsTakenState (db : List Relation) (K : ℕ) (draft : Draft) (taking : Taking) (state : State) : Type 0 where
  pub made : IsDraft db K draft state.steps
  pub took : IsTaking db K state.steps taking state.taken state.tests

-- the steps once an element is taken in, with the tests that it carries
abbrev pub carrying : Taken → List Test → Rule
carrying taken tests M steps = cond taken.some (join taken.result tests M steps) (select_each tests M steps)

-- these tests were carried
pub record Carries (result : Option PlannedOperand) (tests : List Test) (before after : Draft) : Type 0 where
  pub follows : (M : Structure) (K : ℕ) (steps : Steps) (taken : Taken) → AreTests tests → IsDraft M.relations K before steps → IsSoFar M.relations K steps result taken → IsDraft M.relations K after (carrying taken tests M steps)

-- the tests that these variables cover were split from the others, where it is true that settled ones are not covered
pub record Splits (settled : Bool) (vs : List Variable) (tests carried left : List Test) : Type 0 where
  pub carries : (settled ≡ true → AreUncovered vs tests) → carried ≡ filter (covers vs) tests
  pub leaves : (settled ≡ true → AreUncovered vs tests) → left ≡ filter (λ t. not (covers vs t)) tests

-- an element of these variables was taken in, whose steps had just been made
pub record TakesIn (vs : List Variable) (old new : Taking) (before after : Draft) : Type 0 where
  pub follows : (M : Structure) (K : ℕ) (f : Form) (steps : Steps) (state : State) → HaveSame vs (free f) → IsDraft M.relations K before steps → IsTaking M.relations K steps old state.taken state.tests
      → IsTakenState M.relations K after new (take_in M f steps state)

-- a test was made and taken in, the first that remained
pub record TakesTest (t : Test) (old new : Taking) (before after : Draft) : Type 0 where
  pub follows : (M : Structure) (K : ℕ) (state : State) (ts : List Test) → IsDraft M.relations K before state.steps → IsTaking M.relations K state.steps old state.taken ts → AreTests (t ∷ [])
      → IsTakenState M.relations K after new (take_test M (t ∷ ts) (record state { tests = t ∷ ts }))

-- the steps once a negation's formula, whose steps were just made, is taken off, whether covered or not
abbrev pub taking_off : Taken → Bool → Rule
taking_off taken covered M steps = cond (taken.some && covered) (minus taken.result M steps) (cond taken.some (join taken.result [] M (complement M steps)) (complement M steps))

-- the last step was taken off
pub record Subtracts (result : Option PlannedOperand) (covered : Bool) (before after : Draft) : Type 0 where
  pub follows : (M : Structure) (K : ℕ) (steps : Steps) (taken : Taken) → IsDraft M.relations K before steps → IsSoFar M.relations K steps result taken → IsDraft M.relations K after (taking_off taken covered M steps)

-- the steps after a negation, and what is then taken in
abbrev pub after_negation : Taken → Form → Rule
after_negation taken f = taking_off taken (are_among (free f) taken.variables)

abbrev pub taken_with : Taken → Form → Steps → Taken
taken_with taken f after = record { some = true; result = length after; variables = taken.variables ++ free f }

-- a negation's formula of these variables was taken off
pub record TakesOff (vs : List Variable) (old new : Taking) (before after : Draft) : Type 0 where
  pub follows : (M : Structure) (K : ℕ) (f : Form) (steps : Steps) (taken : Taken) (tests : List Test) → HaveSame vs (free f) → IsDraft M.relations K before steps → IsTaking M.relations K steps old taken tests
      → IsDraft M.relations K after (after_negation taken f M steps) × IsTaking M.relations K (after_negation taken f M steps) new (taken_with taken f (after_negation taken f M steps)) tests

-- an element of a kind was taken in or taken off
abbrev pub TakesElement : Kind → List Variable → Taking → Taking → Draft → Draft → Type 0
TakesElement Positive vs old new before after = TakesIn vs old new before after
TakesElement Negation vs old new before after = TakesOff vs old new before after

-- the first of the tests that remain was taken out, if there is one
abbrev pub NextTest : Taking → Taking → Option Test → Type 0
NextTest old new None = (old.tests ≡ []) × (new ≡ old)
NextTest old new (Some t) = (old.tests ≡ t ∷ new.tests) × (new.result ≡ old.result) × (new.variables ≡ old.variables) × (new.settled ≡ old.settled)
