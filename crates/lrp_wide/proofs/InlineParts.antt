-- Formulas that a use puts together.
use Rattle.std.proofs.Common.{◌≡◌, ◌<◌, List, [], ◌∷◌, ◌++◌, length, map, refl, ap, sym, ◌∙◌, arith}
use Rattle.lrp_model.specs.RawQueries.{RawForm, RawForms, raw_form_of, raw_forms_of, raw, no_raws, raw_and, raw_compare, raw_exists}
use Rattle.lrp_model.specs.Texts.{Identifier}
use Rattle.lrp_model.specs.declared.formulas.Op.TheVariants.{Eq}
use Rattle.lrp_model.specs.declared.raw.RawColumn.{RawColumn}
use Rattle.lrp_model.specs.declared.raw.RawFormula.{RawFormula}
use Rattle.lrp_model.specs.declared.tokens.Place.{Place}
use Rattle.lrp_tense.specs.Expanding.{name_term}
use Rattle.lrp_wide.specs.Inlining.{Passed, itself, equal, compared_columns, compared_form, some_each, with_comparisons}
use Rattle.lrp_wide.specs.Inside.{comparisons_of}
use Rattle.lrp_wide.specs.Settings.{and_after, forms_then}

-- one `exists` more, the innermost
pub some_each-more : (p : Place) (cs : List RawColumn) (c : RawColumn) (f : RawForm) → some_each p (cs ++ c ∷ []) f ≡ some_each p cs (raw_exists p c f)
some_each-more p [] c f = refl
some_each-more p (d ∷ cs) c f = ap (raw_exists p d) (some_each-more p cs c f)

-- a formula after others
pub forms_then-is : (gs : List RawFormula) (f : RawFormula) → raw_forms_of (gs ++ f ∷ []) ≡ forms_then gs (raw_form_of f)
forms_then-is [] f = refl
forms_then-is (g ∷ gs) f = ap (raw (raw_form_of g)) (forms_then-is gs f)

-- it is in one `and` with them
pub pushed-is : (p : Place) (gs all : List RawFormula) (f : RawFormula) (g : RawForm) → 0 < length gs → all ≡ gs ++ f ∷ [] → raw_form_of f ≡ g → raw_and p (raw_forms_of all) ≡ and_after p gs g
pushed-is p [] all f g lt e h = absurd (omega (arith, lt))
pushed-is p (x ∷ gs) all f g lt e h = ap (λ l. raw_and p (raw_forms_of l)) e ∙ ap (raw_and p) (forms_then-is (x ∷ gs) f) ∙ ap (λ y. raw_and p (forms_then (x ∷ gs) y)) h

forms_before : List RawForm → RawForm → RawForms
forms_before [] f = raw f no_raws
forms_before (g ∷ gs) f = raw g (forms_before gs f)

and_of : Place → List RawForm → RawForm → RawForm
and_of p [] f = f
and_of p (g ∷ gs) f = raw_and p (forms_before (g ∷ gs) f)

then_before : (gs : List RawFormula) (f : RawForm) → forms_then gs f ≡ forms_before (map raw_form_of gs) f
unfolding forms_before
then_before [] f = refl
then_before (g ∷ gs) f = ap (raw (raw_form_of g)) (then_before gs f)

after_of : (p : Place) (gs : List RawFormula) (f : RawForm) → and_after p gs f ≡ and_of p (map raw_form_of gs) f
unfolding and_of
after_of p [] f = refl
after_of p (g ∷ gs) f = ap (raw_and p) (then_before (g ∷ gs) f)

before_compared : (p : Place) (ps : List Passed) (f : RawForm) → forms_before (comparisons_of p ps) f ≡ with_comparisons p ps f
unfolding forms_before
before_compared p [] f = refl
before_compared p (itself c n ∷ ps) f = before_compared p ps f
before_compared p (equal b c t ∷ ps) f = ap (raw (raw_compare p (name_term p b.name) Eq t)) (before_compared p ps f)

past_itself : (p : Place) (cs : List RawColumn) (c n : Identifier) (ps : List Passed) (f : RawForm) → compared_form p cs (itself c n ∷ ps) f ≡ compared_form p cs ps f
past_itself p [] c n ps f = refl
past_itself p (d ∷ cs) c n ps f = refl

compared_of : (p : Place) (ps : List Passed) (f : RawForm) → some_each p (compared_columns ps) (and_of p (comparisons_of p ps) f) ≡ compared_form p (compared_columns ps) ps f
unfolding and_of forms_before
compared_of p [] f = refl
compared_of p (itself c n ∷ ps) f = compared_of p ps f ∙ sym (past_itself p (compared_columns ps) c n ps f)
compared_of p (equal b c t ∷ ps) f = ap (λ fs. some_each p (b ∷ compared_columns ps) (raw_and p (raw (raw_compare p (name_term p b.name) Eq t) fs))) (before_compared p ps f)

-- the formula after its comparisons, under an `exists` for each column that is compared
pub compared-is : (p : Place) (ps : List Passed) (gs : List RawFormula) (f : RawForm) → map raw_form_of gs ≡ comparisons_of p ps
    → some_each p (compared_columns ps) (and_after p gs f) ≡ compared_form p (compared_columns ps) ps f
compared-is p ps gs f e = ap (some_each p (compared_columns ps)) (after_of p gs f ∙ ap (λ fs. and_of p fs f) e) ∙ compared_of p ps f
