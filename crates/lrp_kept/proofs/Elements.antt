-- Elements of conjunctions and disjunctions: those of inner ones stand in their places.
use Rattle.std.proofs.Common.{◌≡◌, Bool, true, false, List, [], ◌∷◌, Vec, Global, refl, ap, sym, ◌∙◌}
use Rattle.std.specs.Prelude.{◌&&◌, ◌||◌}
use Rattle.std.specs.List.{list_any, list_all}
use Rattle.lrp_model.specs.Formulas.{Form, Forms, form_of, forms_of, implication, no_forms, form, joined}
use Rattle.lrp_model.specs.Core.{positive, negative, positives, negatives, conjuncts, disjuncts, all_conjuncts, all_disjuncts}
use Rattle.lrp_model.specs.declared.raw.RawFormula.{RawFormula}
use Rattle.lrp_model.specs.declared.raw.RawKind.{And as all_formulas, Or as some_formula}
use Rattle.lrp_model.proofs.Views.{and_form, or_form}
use Rattle.lrp_kept.specs.KeptForm.{all_pass, some_passes}
use Rattle.lrp_kept.specs.Signs.{kept_signed}

or_assoc : (a b c : Bool) → (a || (b || c)) ≡ ((a || b) || c)
or_assoc true b c = refl
or_assoc false b c = refl

and_assoc : (a b c : Bool) → (a && (b && c)) ≡ ((a && b) && c)
and_assoc true b c = refl
and_assoc false b c = refl

-- one of two lists has an element that passes
pub some-joined : (p : Form → Bool) (fs gs : Forms) → some_passes p (joined fs gs) ≡ (some_passes p fs || some_passes p gs)
some-joined p no_forms gs = refl
some-joined p (form f fs) gs = ap (λ b. p f || b) (some-joined p fs gs) ∙ or_assoc (p f) (some_passes p fs) (some_passes p gs)

-- the elements of both pass
pub all-joined : (p : Form → Bool) (fs gs : Forms) → all_pass p (joined fs gs) ≡ (all_pass p fs && all_pass p gs)
all-joined p no_forms gs = refl
all-joined p (form f fs) gs = ap (λ b. p f && b) (all-joined p fs gs) ∙ and_assoc (p f) (all_pass p fs) (all_pass p gs)

-- some element of a conjunction of formulas is one of some of them
pub some-positives : (p : Form → Bool) (fs : List RawFormula) → some_passes p (all_conjuncts (positives (forms_of fs) false)) ≡ list_any (λ f. some_passes p (conjuncts (positive (form_of f) false))) fs
some-positives p [] = refl
some-positives p (f ∷ fs) = some-joined p (conjuncts (positive (form_of f) false)) (all_conjuncts (positives (forms_of fs) false)) ∙ ap (λ b. some_passes p (conjuncts (positive (form_of f) false)) || b) (some-positives p fs)

pub some-negatives : (p : Form → Bool) (fs : List RawFormula) → some_passes p (all_conjuncts (negatives (forms_of fs) false)) ≡ list_any (λ f. some_passes p (conjuncts (negative (form_of f) false))) fs
some-negatives p [] = refl
some-negatives p (f ∷ fs) = some-joined p (conjuncts (negative (form_of f) false)) (all_conjuncts (negatives (forms_of fs) false)) ∙ ap (λ b. some_passes p (conjuncts (negative (form_of f) false)) || b) (some-negatives p fs)

-- all elements of a conjunction of formulas pass where those of each do
pub all-positives : (p : Form → Bool) (fs : List RawFormula) → all_pass p (all_conjuncts (positives (forms_of fs) false)) ≡ list_all (λ f. all_pass p (conjuncts (positive (form_of f) false))) fs
all-positives p [] = refl
all-positives p (f ∷ fs) = all-joined p (conjuncts (positive (form_of f) false)) (all_conjuncts (positives (forms_of fs) false)) ∙ ap (λ b. all_pass p (conjuncts (positive (form_of f) false)) && b) (all-positives p fs)

pub all-negatives : (p : Form → Bool) (fs : List RawFormula) → all_pass p (all_conjuncts (negatives (forms_of fs) false)) ≡ list_all (λ f. all_pass p (conjuncts (negative (form_of f) false))) fs
all-negatives p [] = refl
all-negatives p (f ∷ fs) = all-joined p (conjuncts (negative (form_of f) false)) (all_conjuncts (negatives (forms_of fs) false)) ∙ ap (λ b. all_pass p (conjuncts (negative (form_of f) false)) && b) (all-negatives p fs)

-- the same of a disjunction
pub all-alternatives : (p : Form → Bool) (fs : List RawFormula) → all_pass p (all_disjuncts (positives (forms_of fs) false)) ≡ list_all (λ f. all_pass p (disjuncts (positive (form_of f) false))) fs
all-alternatives p [] = refl
all-alternatives p (f ∷ fs) = all-joined p (disjuncts (positive (form_of f) false)) (all_disjuncts (positives (forms_of fs) false)) ∙ ap (λ b. all_pass p (disjuncts (positive (form_of f) false)) && b) (all-alternatives p fs)

-- ---- the arms of a walk

module _ (p : Form → Bool) (f : RawFormula) (v : Vec RawFormula Global) where
  -- an `and` that holds, and an `or` that is denied
  pub some-And : (holds : Bool) → holds ≡ true → f.kind ≡ all_formulas v → list_any (λ g. some_passes p (conjuncts (kept_signed holds (form_of g)))) v.items ≡ some_passes p (conjuncts (kept_signed holds (form_of f)))
  some-And true e is = sym (ap (λ x. some_passes p (conjuncts (positive x false))) (sym (and_form f v v.items is refl)) ∙ some-positives p v.items)
  some-And false e is = cc

  pub some-Or : (holds : Bool) → holds ≡ false → f.kind ≡ some_formula v → list_any (λ g. some_passes p (conjuncts (kept_signed holds (form_of g)))) v.items ≡ some_passes p (conjuncts (kept_signed holds (form_of f)))
  some-Or true e is = cc
  some-Or false e is = sym (ap (λ x. some_passes p (conjuncts (negative x false))) (sym (or_form f v v.items is refl)) ∙ some-negatives p v.items)

  pub all-And : (holds : Bool) → holds ≡ true → f.kind ≡ all_formulas v → list_all (λ g. all_pass p (conjuncts (kept_signed holds (form_of g)))) v.items ≡ all_pass p (conjuncts (kept_signed holds (form_of f)))
  all-And true e is = sym (ap (λ x. all_pass p (conjuncts (positive x false))) (sym (and_form f v v.items is refl)) ∙ all-positives p v.items)
  all-And false e is = cc

  pub all-Or : (holds : Bool) → holds ≡ false → f.kind ≡ some_formula v → list_all (λ g. all_pass p (conjuncts (kept_signed holds (form_of g)))) v.items ≡ all_pass p (conjuncts (kept_signed holds (form_of f)))
  all-Or true e is = cc
  all-Or false e is = sym (ap (λ x. all_pass p (conjuncts (negative x false))) (sym (or_form f v v.items is refl)) ∙ all-negatives p v.items)

  -- an `or` that holds, as alternatives
  pub alternatives-Or : (holds : Bool) → holds ≡ true → f.kind ≡ some_formula v → list_all (λ g. all_pass p (disjuncts (kept_signed true (form_of g)))) v.items ≡ all_pass p (disjuncts (kept_signed holds (form_of f)))
  alternatives-Or true e is = sym (ap (λ x. all_pass p (disjuncts (positive x false))) (sym (or_form f v v.items is refl)) ∙ all-alternatives p v.items)
  alternatives-Or false e is = cc

or_none : (a : Bool) → (a || false) ≡ a
or_none true = refl
or_none false = refl

and_all : (a : Bool) → (a && true) ≡ a
and_all true = refl
and_all false = refl

module _ (p : Form → Bool) (l r g : Form) (is : g ≡ implication l r) where
  -- an implication that is denied: the one holds, and the other does not
  pub some-Implies : (holds : Bool) → holds ≡ false → (some_passes p (conjuncts (kept_signed true l)) || some_passes p (conjuncts (kept_signed false r))) ≡ some_passes p (conjuncts (kept_signed holds g))
  some-Implies true e = cc
  some-Implies false e =
      sym (ap (λ x. some_passes p (conjuncts (negative x false))) is ∙ some-joined p (conjuncts (positive l false)) (joined (conjuncts (negative r false)) no_forms)
      ∙ ap (λ b. some_passes p (conjuncts (positive l false)) || b) (some-joined p (conjuncts (negative r false)) no_forms ∙ or_none (some_passes p (conjuncts (negative r false)))))

  pub all-Implies : (holds : Bool) → holds ≡ false → (all_pass p (conjuncts (kept_signed true l)) && all_pass p (conjuncts (kept_signed false r))) ≡ all_pass p (conjuncts (kept_signed holds g))
  all-Implies true e = cc
  all-Implies false e =
      sym (ap (λ x. all_pass p (conjuncts (negative x false))) is ∙ all-joined p (conjuncts (positive l false)) (joined (conjuncts (negative r false)) no_forms)
      ∙ ap (λ b. all_pass p (conjuncts (positive l false)) && b) (all-joined p (conjuncts (negative r false)) no_forms ∙ and_all (all_pass p (conjuncts (negative r false)))))

  -- one that holds: the one does not, or the other does
  pub alternatives-Implies : (holds : Bool) → holds ≡ true → (all_pass p (disjuncts (kept_signed false l)) && all_pass p (disjuncts (kept_signed true r))) ≡ all_pass p (disjuncts (kept_signed holds g))
  alternatives-Implies false e = cc
  alternatives-Implies true e =
      sym (ap (λ x. all_pass p (disjuncts (positive x false))) is ∙ all-joined p (disjuncts (negative l false)) (joined (disjuncts (positive r false)) no_forms)
      ∙ ap (λ b. all_pass p (disjuncts (negative l false)) && b) (all-joined p (disjuncts (positive r false)) no_forms ∙ and_all (all_pass p (disjuncts (positive r false)))))

-- what a test of the first gives
pub or_first : (a b : Bool) → a ≡ true → a ≡ (a || b)
or_first true b e = refl
or_first false b e = cc

pub or_second : (a b : Bool) → a ≡ false → b ≡ (a || b)
or_second true b e = cc
or_second false b e = refl

pub and_first : (a b : Bool) → a ≡ false → a ≡ (a && b)
and_first true b e = cc
and_first false b e = refl

pub and_second : (a b : Bool) → a ≡ true → b ≡ (a && b)
and_second true b e = refl
and_second false b e = cc
