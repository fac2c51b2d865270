-- What satisfies the body of a query in kept form: some choice for some disjunct.
use Rattle.std.proofs.Common.{◌≡◌, ◌<◌, zero, suc, Bool, true, false, List, [], ◌∷◌, Contains, refl, arith, subst}
use Rattle.std.specs.Prelude.{not, ◌&&◌}
use Rattle.lrp_model.specs.Formulas.{Form, Forms, Question, atom, test, sorted, negation, conjunction, disjunction, implication, exists, forall, no_forms, form}
use Rattle.lrp_model.specs.Core.{disjuncts, positive}
use Rattle.lrp_model.specs.Satisfaction.{Structure, Assignment, Satisfies, SatisfiesSome}
use Rattle.lrp_model.specs.declared.relations.Column.{Column}
use Rattle.lrp_plan_laws.proofs.CoreLaws.{keeps}
use Rattle.lrp_model.proofs.Decided.{contains_first, contains_later}
use Rattle.lrp_kept.specs.Choices.{as_list, ChosenWithValues, IsDerived}
use Rattle.lrp_kept.specs.KeptForm.{all_pass, kept_elements, is_disjunct, is_kept, is_neither, query_disjuncts, some_passes}
use Rattle.lrp_kept.proofs.Chosen.{disjunct_to, disjunct_from}
use Rattle.lrp_plan_laws.proofs.PlanLaws.{and_first}

and_right : (a b : Bool) → (a && b) ≡ true → b ≡ true
and_right true b e = e
and_right false b e = cc

-- a disjunct has atoms and tests alone
literals : (columns : List Column) (f : Form) → is_disjunct columns f ≡ true → some_passes is_neither (kept_elements f) ≡ false
literals columns f e = by (some_passes is_neither (kept_elements f)) _ _ _ _ e
  where
    by : (b x y u v : Bool) → ((not b && x && y) && u && v) ≡ true → b ≡ false
    by true x y u v e = cc
    by false x y u v e = refl

module _ (M : Structure) (env : Assignment) (columns : List Column) where
  pub some_to : (fs : Forms) → all_pass (is_disjunct columns) fs ≡ true → SatisfiesSome fs M env → (IsDerived M fs env → ⊥) → ⊥
  some_to no_forms e h none = h
  some_to (form f fs) e h none =
      h (λ s. disjunct_to M f env (literals columns f (and_first (is_disjunct columns f) (all_pass (is_disjunct columns) fs) e)) s (λ c. none (record { disjunct = f; listed = contains_first f (as_list fs); chosen = c })))
      (λ r. some_to fs (and_right (is_disjunct columns f) (all_pass (is_disjunct columns) fs) e) r (λ d. none (record { disjunct = d.disjunct; listed = contains_later f d.disjunct (as_list fs) d.listed; chosen = d.chosen })))

  some_from : (fs : Forms) (f : Form) → Contains (as_list fs) f → all_pass (is_disjunct columns) fs ≡ true → ChosenWithValues f M env → SatisfiesSome fs M env
  some_from no_forms f (i, low, is) e c = absurd (let l : i < 0 = low in omega (arith, l))
  some_from (form g fs) f (zero, low, is) e c = λ one others. one (disjunct_from M g env (literals columns g (and_first (is_disjunct columns g) (all_pass (is_disjunct columns) fs) e)) (subst (λ x. ChosenWithValues x M env) (let s : f ≡ g = cc in s) c))
  some_from (form g fs) f (suc i, low, is) e c = λ one others. others (some_from fs f (i, omega (arith, low), is) (and_right (is_disjunct columns g) (all_pass (is_disjunct columns) fs) e) c)

  -- a formula as one of its disjuncts
  as_some : (g : Form) → Satisfies g M env → SatisfiesSome (disjuncts g) M env
  as_some (disjunction fs) h = h
  as_some (atom name terms) h = λ one others. one h
  as_some (test t) h = λ one others. one h
  as_some (sorted s v) h = λ one others. one h
  as_some (negation f) h = λ one others. one h
  as_some (conjunction fs) h = λ one others. one h
  as_some (implication f g) h = λ one others. one h
  as_some (exists v s f) h = λ one others. one h
  as_some (forall v s f) h = λ one others. one h

  -- one that is no `or`
  alone : (g : Form) → all_pass (is_disjunct columns) (form g no_forms) ≡ true → IsDerived M (form g no_forms) env → Satisfies g M env
  alone g e d = by d.disjunct d.listed d.chosen
    where
      by : (f : Form) → Contains (g ∷ []) f → ChosenWithValues f M env → Satisfies g M env
      by f (zero, low, is) c = disjunct_from M g env (literals columns g (and_first (is_disjunct columns g) true e)) (subst (λ x. ChosenWithValues x M env) (let s : f ≡ g = cc in s) c)
      by f (suc i, low, is) c = absurd (omega (arith, low))

  of_some : (g : Form) → all_pass (is_disjunct columns) (disjuncts g) ≡ true → IsDerived M (disjuncts g) env → Satisfies g M env
  of_some (disjunction fs) e d = some_from fs d.disjunct d.listed e d.chosen
  of_some (atom name terms) e d = alone (atom name terms) e d
  of_some (test t) e d = alone (test t) e d
  of_some (sorted s v) e d = alone (sorted s v) e d
  of_some (negation f) e d = alone (negation f) e d
  of_some (conjunction fs) e d = alone (conjunction fs) e d
  of_some (implication f g) e d = alone (implication f g) e d
  of_some (exists v s f) e d = alone (exists v s f) e d
  of_some (forall v s f) e d = alone (forall v s f) e d

-- what satisfies the body is not without a choice
pub body_to : (q : Question) (M : Structure) (env : Assignment) → is_kept q ≡ true → Satisfies q.body M env → (IsDerived M (query_disjuncts q) env → ⊥) → ⊥
body_to q M env k h none = some_to M env q.head (query_disjuncts q) k (as_some M env q.head (positive q.body false) ((keeps q.body false M env).1 h)) none

-- and each choice satisfies it
pub body_from : (q : Question) (M : Structure) (env : Assignment) → is_kept q ≡ true → IsDerived M (query_disjuncts q) env → Satisfies q.body M env
body_from q M env k d = (keeps q.body false M env).0 (of_some M env q.head (positive q.body false) k d)
