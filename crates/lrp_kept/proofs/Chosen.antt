-- What satisfies the elements of a disjunct: some choice, one row for each of the atoms.
use Rattle.std.proofs.Common.{◌≡◌, false, List, [], ◌∷◌, Contains}
use Rattle.std.specs.List.{AllZip}
use Rattle.lrp_model.specs.Core.{conjuncts}
use Rattle.lrp_model.specs.Rows.{rows_of}
use Rattle.lrp_model.specs.Formulas.{Form, Forms, atom, test, sorted, negation, conjunction, disjunction, implication, exists, forall, no_forms, form}
use Rattle.lrp_model.specs.Satisfaction.{Structure, Assignment, Satisfies, SatisfiesAll, with_value}
use Rattle.lrp_model.specs.declared.relations.Row.{Row}
use Rattle.lrp_plan_laws.specs.Atoms.{atoms_each}
use Rattle.lrp_kept.specs.Choices.{ChosenWithValues, IsChosenBy, Matches}
use Rattle.lrp_kept.specs.KeptForm.{kept_elements, is_neither, some_passes}

module _ (M : Structure) (env : Assignment) where
  pub chosen_to : (fs : Forms) → some_passes is_neither fs ≡ false → SatisfiesAll fs M env → IsChosenBy M.relations fs env
  chosen_to no_forms e h = record { rows = []; held = tt; is = record { rows_match = tt; tests_pass = tt } }
  chosen_to (form (atom name terms) fs) e h = let r = chosen_to fs e h.1 in record { rows = h.0.0 ∷ r.rows; held = (h.0.1, r.held); is = record { rows_match = (h.0.2, r.is.rows_match); tests_pass = r.is.tests_pass } }
  chosen_to (form (test t) fs) e h = let r = chosen_to fs e h.1 in record { rows = r.rows; held = r.held; is = record { rows_match = r.is.rows_match; tests_pass = (h.0, r.is.tests_pass) } }
  chosen_to (form (sorted s v) fs) e h = cc
  chosen_to (form (negation f) fs) e h = cc
  chosen_to (form (conjunction gs) fs) e h = cc
  chosen_to (form (disjunction gs) fs) e h = cc
  chosen_to (form (implication f g) fs) e h = cc
  chosen_to (form (exists v s f) fs) e h = cc
  chosen_to (form (forall v s f) fs) e h = cc

  pub chosen_from : (fs : Forms) → some_passes is_neither fs ≡ false → IsChosenBy M.relations fs env → SatisfiesAll fs M env
  chosen_from no_forms e c = tt
  chosen_from (form (atom name terms) fs) e c = by (λ d. chosen_from fs e d) c.rows c.held c.is.rows_match
    where
      by : (IsChosenBy M.relations fs env → SatisfiesAll fs M env) → (rows : List Row) → AllZip (λ a row. Contains (rows_of M.relations a.name) row) (record { name = name; terms = terms } ∷ atoms_each fs) rows → AllZip (Matches env) (record { name = name; terms = terms } ∷ atoms_each fs) rows → SatisfiesAll (form (atom name terms) fs) M env
      by rest [] held m = absurd held
      by rest (row ∷ rows) held m = ((row, held.0, m.0), rest (record { rows = rows; held = held.1; is = record { rows_match = m.1; tests_pass = c.is.tests_pass } }))
  chosen_from (form (test t) fs) e c = (c.is.tests_pass.0, chosen_from fs e (record { rows = c.rows; held = c.held; is = record { rows_match = c.is.rows_match; tests_pass = c.is.tests_pass.1 } }))
  chosen_from (form (sorted s v) fs) e c = cc
  chosen_from (form (negation f) fs) e c = cc
  chosen_from (form (conjunction gs) fs) e c = cc
  chosen_from (form (disjunction gs) fs) e c = cc
  chosen_from (form (implication f g) fs) e c = cc
  chosen_from (form (exists v s f) fs) e c = cc
  chosen_from (form (forall v s f) fs) e c = cc

-- ---- after the quantifiers

module _ (M : Structure) where
  all_of : (f : Form) (env : Assignment) → Satisfies f M env → SatisfiesAll (conjuncts f) M env
  all_of (atom name terms) env h = (h, tt)
  all_of (test t) env h = (h, tt)
  all_of (sorted s v) env h = (h, tt)
  all_of (negation f) env h = (h, tt)
  all_of (conjunction fs) env h = h
  all_of (disjunction fs) env h = (h, tt)
  all_of (implication f g) env h = (h, tt)
  all_of (exists v s f) env h = (h, tt)
  all_of (forall v s f) env h = (h, tt)

  of_all : (f : Form) (env : Assignment) → SatisfiesAll (conjuncts f) M env → Satisfies f M env
  of_all (atom name terms) env h = h.0
  of_all (test t) env h = h.0
  of_all (sorted s v) env h = h.0
  of_all (negation f) env h = h.0
  of_all (conjunction fs) env h = h
  of_all (disjunction fs) env h = h.0
  of_all (implication f g) env h = h.0
  of_all (exists v s f) env h = h.0
  of_all (forall v s f) env h = h.0

  abbrev HasLiterals : Form → Type 0
  HasLiterals f = some_passes is_neither (kept_elements f) ≡ false

  -- what satisfies a disjunct is not without a choice
  pub disjunct_to : (f : Form) (env : Assignment) → HasLiterals f → Satisfies f M env → (ChosenWithValues f M env → ⊥) → ⊥
  disjunct_to (exists v s f) env e h none = h (λ d x. disjunct_to f (with_value v d env) e x.1 (λ c. none (d, x.0, c)))
  disjunct_to (atom name terms) env e h none = none (chosen_to M env (kept_elements (atom name terms)) e (all_of (atom name terms) env h))
  disjunct_to (test t) env e h none = none (chosen_to M env (kept_elements (test t)) e (all_of (test t) env h))
  disjunct_to (sorted s v) env e h none = cc
  disjunct_to (negation f) env e h none = cc
  disjunct_to (conjunction fs) env e h none = none (chosen_to M env fs e h)
  disjunct_to (disjunction fs) env e h none = cc
  disjunct_to (implication f g) env e h none = cc
  disjunct_to (forall v s f) env e h none = cc

  -- and each choice satisfies it
  pub disjunct_from : (f : Form) (env : Assignment) → HasLiterals f → ChosenWithValues f M env → Satisfies f M env
  disjunct_from (exists v s f) env e c = λ none. none c.0 (c.1, disjunct_from f (with_value v c.0 env) e c.2)
  disjunct_from (atom name terms) env e c = of_all (atom name terms) env (chosen_from M env (kept_elements (atom name terms)) e c)
  disjunct_from (test t) env e c = of_all (test t) env (chosen_from M env (kept_elements (test t)) e c)
  disjunct_from (sorted s v) env e c = cc
  disjunct_from (negation f) env e c = cc
  disjunct_from (conjunction fs) env e c = chosen_from M env fs e c
  disjunct_from (disjunction fs) env e c = cc
  disjunct_from (implication f g) env e c = cc
  disjunct_from (forall v s f) env e c = cc
