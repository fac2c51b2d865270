-- Core forms of formulas and of their negations.
use Rattle.std.proofs.Common.{◌≡◌, ℕ, ◌+◌, ◌<◌, Bool, List, [], ◌∷◌, ◌++◌, Vec, Global, refl, ap, sym, ◌∙◌, length, take, get_or}
use Rattle.std.proofs.lemmas.List.{take_more}
use Rattle.lrp_model.specs.Formulas.{Form, Forms, form_of, forms_of, conjunction, negation, no_forms, form, joined}
use Rattle.lrp_model.specs.Core.{positive, negative, positives, conjuncts, disjuncts, and_list}
use Rattle.lrp_model.specs.declared.raw.RawFormula.{RawFormula}
use Rattle.lrp_model.specs.declared.raw.RawKind.{And as all_formulas, Or as some_formula}
use Rattle.lrp_model.proofs.Views.{forms_of-append, and_form, or_form}
use Rattle.lrp_core.specs.Junctions.{elements, all_elements, joined_elements}
use Rattle.lrp_core.specs.Polarities.{with_polarity, formed, all_formed, choice}
use Rattle.lrp_core.specs.declared.junctions.Junction.{Junction}
use Rattle.lrp_core.specs.declared.junctions.Junction.TheVariants.{And, Or}
use Rattle.lrp_core.specs.declared.polarities.Polarity.{Polarity}
use Rattle.lrp_core.specs.declared.polarities.Polarity.TheVariants.{Positive, Negative}
use Rattle.lrp_core.proofs.CoreViews.{joined_none}

-- of an `and`
pub formed-all : (p : Polarity) (fs : Forms) (named : Bool) (all : Form) → all ≡ and_list (positives fs named) → with_polarity p all ≡ formed p (conjunction fs) named
formed-all Positive fs named all whole = whole
formed-all Negative fs named all whole = ap negation whole

pub formed-And : (p : Polarity) (f : RawFormula) (v : Vec RawFormula Global) (named : Bool) → f.kind ≡ all_formulas v → formed p (conjunction (forms_of v.items)) named ≡ formed p (form_of f) named
formed-And p f v named is = ap (λ g. formed p g named) (and_form f v v.items is refl)

-- of an `or`
pub formed-Or : (p : Polarity) (f : RawFormula) (v : Vec RawFormula Global) (named : Bool) → f.kind ≡ some_formula v → joined_elements (choice p) (all_formed p (forms_of v.items) named) ≡ formed p (form_of f) named
formed-Or Positive f v named is = ap (λ g. positive g named) (or_form f v v.items is refl)
formed-Or Negative f v named is = ap (λ g. negative g named) (or_form f v v.items is refl)

-- an inner list gives its elements where its formulas are joined in the same way
pub inner-And : (p : Polarity) (j : Junction) (f : RawFormula) (v : Vec RawFormula Global) (named : Bool) → p ≡ Positive → j ≡ And → f.kind ≡ all_formulas v → all_elements j (all_formed p (forms_of v.items) named) ≡ elements j (formed p (form_of f) named)
inner-And Positive And f v named _ _ is = ap (λ g. conjuncts (positive g named)) (and_form f v v.items is refl)
inner-And Positive Or f v named _ same is = cc
inner-And Negative j f v named same _ is = cc

pub inner-Or : (p : Polarity) (j : Junction) (f : RawFormula) (v : Vec RawFormula Global) (named : Bool) → j ≡ choice p → f.kind ≡ some_formula v → all_elements j (all_formed p (forms_of v.items) named) ≡ elements j (formed p (form_of f) named)
inner-Or Positive Or f v named _ is = ap (λ g. disjuncts (positive g named)) (or_form f v v.items is refl)
inner-Or Negative And f v named _ is = ap (λ g. conjuncts (negative g named)) (or_form f v v.items is refl)
inner-Or Positive And f v named same is = cc
inner-Or Negative Or f v named same is = cc

-- no formula has no elements
pub no_elements : (p : Polarity) (j : Junction) (named : Bool) (start : Forms) → start ≡ joined start (all_elements j (all_formed p no_forms named))
no_elements Positive And named start = sym (joined_none start)
no_elements Positive Or named start = sym (joined_none start)
no_elements Negative And named start = sym (joined_none start)
no_elements Negative Or named start = sym (joined_none start)

-- the core forms of two lists, one after the other
all_formed-joined : (p : Polarity) (fs gs : Forms) (named : Bool) → all_formed p (joined fs gs) named ≡ joined (all_formed p fs named) (all_formed p gs named)
all_formed-joined Positive no_forms gs named = refl
all_formed-joined Positive (form f fs) gs named = ap (form (positive f named)) (all_formed-joined Positive fs gs named)
all_formed-joined Negative no_forms gs named = refl
all_formed-joined Negative (form f fs) gs named = ap (form (negative f named)) (all_formed-joined Negative fs gs named)

-- that of one formula
all_formed-one : (p : Polarity) (f : Form) (named : Bool) → all_formed p (form f no_forms) named ≡ form (formed p f named) no_forms
all_formed-one Positive f named = refl
all_formed-one Negative f named = refl

-- the formulas before the next place are those before this one, and this one
forms_of-take : (fs : List RawFormula) (i : ℕ) (f : RawFormula) → i < length fs → f ≡ get_or fs i f → forms_of (take (i + 1) fs) ≡ joined (forms_of (take i fs)) (form (form_of f) no_forms)
forms_of-take fs i f lt is = ap forms_of (take_more fs i f lt ∙ ap (λ x. take i fs ++ x ∷ []) (sym is)) ∙ forms_of-append (take i fs) (f ∷ [])

-- one core form more
pub all_formed-more : (p : Polarity) (fs : List RawFormula) (i : ℕ) (f : RawFormula) (named : Bool) → i < length fs → f ≡ get_or fs i f → all_formed p (forms_of (take (i + 1) fs)) named ≡ joined (all_formed p (forms_of (take i fs)) named) (form (formed p (form_of f) named) no_forms)
all_formed-more p fs i f named lt is = ap (λ x. all_formed p x named) (forms_of-take fs i f lt is) ∙ all_formed-joined p (forms_of (take i fs)) (form (form_of f) no_forms) named ∙ ap (joined (all_formed p (forms_of (take i fs)) named)) (all_formed-one p (form_of f) named)
