-- The raw formulas of nodes, and of those whose members stand in a vector.
use Rattle.std.proofs.Common.{◌≡◌, ℕ, ℤ, ◌+◌, ◌<◌, List, [], ◌∷◌, ◌++◌, Vec, Box, Global, refl, ap, sym, ◌∙◌, rules, length, take, get_or}
use Rattle.std.proofs.lemmas.List.{take_more}
use Rattle.lrp_model.specs.RawQueries.{RawForms, raw_kind, raw_form_of, raw_forms_of, row_raws, raw_not, raw_and, raw_or, raw_implies, raw_group, raw_exists, raw_forall, raw_ranged, raw_paired, operator_at, no_raws, raw}
use Rattle.lrp_model.specs.declared.tokens.Place.{Place}
use Rattle.lrp_model.specs.Texts.{Identifier}
use Rattle.lrp_model.specs.declared.raw.RawColumn.{RawColumn}
use Rattle.lrp_model.specs.declared.raw.Ranged.{Ranged}
use Rattle.lrp_model.specs.declared.raw.Paired.{Paired}
use Rattle.lrp_model.specs.declared.raw.RawFormula.{RawFormula}
use Rattle.lrp_model.specs.declared.raw.RawKind.{Not, And, Or, Implies, Group, Exists, Forall, Ranged as RangedKind, Paired as PairedKind, the_lemmas, Row_of-RawFormula, end_of-RawFormula, more_of-RawFormula, items-the_row-RawFormula}

-- the first list and then the second
joined_raws : RawForms → RawForms → RawForms
joined_raws no_raws gs = gs
joined_raws (raw f fs) gs = raw f (joined_raws fs gs)

pub row_raws-items : (n : _) (k : Row_of-RawFormula n) → row_raws k ≡ raw_forms_of (items-the_row-RawFormula n k)
row_raws-items _ end_of-RawFormula = refl
row_raws-items _ (more_of-RawFormula k p rest) = ap (raw (raw_kind k p)) (row_raws-items _ rest)

pub raw_kind-And : (v : Vec RawFormula Global) (p : Place) → raw_kind (And v) p ≡ raw_and p (raw_forms_of v.items)
raw_kind-And v p = search (rules, the_lemmas, row_raws-items)

pub raw_kind-Or : (v : Vec RawFormula Global) (p : Place) → raw_kind (Or v) p ≡ raw_or p (raw_forms_of v.items)
raw_kind-Or v p = search (rules, the_lemmas, row_raws-items)

raws_of-append : (fs gs : List RawFormula) → raw_forms_of (fs ++ gs) ≡ joined_raws (raw_forms_of fs) (raw_forms_of gs)
unfolding joined_raws
raws_of-append [] gs = refl
raws_of-append (f ∷ fs) gs = ap (raw (raw_form_of f)) (raws_of-append fs gs)

one_more : (fs : List RawFormula) (i : ℕ) (f : RawFormula) → i < length fs → f ≡ get_or fs i f → raw_forms_of (take (i + 1) fs) ≡ joined_raws (raw_forms_of (take i fs)) (raw (raw_form_of f) no_raws)
one_more fs i f lt is = ap raw_forms_of (take_more fs i f lt ∙ ap (λ x. take i fs ++ x ∷ []) (sym is)) ∙ raws_of-append (take i fs) (f ∷ [])

pub raws-step : (fs gs hs : List RawFormula) (i : ℕ) (f g : RawFormula) → i < length fs → f ≡ get_or fs i f → hs ≡ gs ++ g ∷ [] → raw_forms_of gs ≡ raw_forms_of (take i fs) → raw_form_of g ≡ raw_form_of f → raw_forms_of hs ≡ raw_forms_of (take (i + 1) fs)
raws-step fs gs hs i f g lt is e h k = ap raw_forms_of e ∙ raws_of-append gs (g ∷ []) ∙ (rw (h, k) (sym (one_more fs i f lt is)))

pub raw_and_form : (f : RawFormula) (v : Vec RawFormula Global) (fs : List RawFormula) → f.kind ≡ And v → fs ≡ v.items → raw_and f.place (raw_forms_of fs) ≡ raw_form_of f
raw_and_form f v fs e h = sym (ap (λ k. raw_kind k f.place) e ∙ raw_kind-And v f.place ∙ ap (λ xs. raw_and f.place (raw_forms_of xs)) (sym h))

pub raw_or_form : (f : RawFormula) (v : Vec RawFormula Global) (fs : List RawFormula) → f.kind ≡ Or v → fs ≡ v.items → raw_or f.place (raw_forms_of fs) ≡ raw_form_of f
raw_or_form f v fs e h = sym (ap (λ k. raw_kind k f.place) e ∙ raw_kind-Or v f.place ∙ ap (λ xs. raw_or f.place (raw_forms_of xs)) (sym h))

-- ---- nodes of the tree in memory

-- a `not`
pub raw_kind-Not : (b : Box RawFormula Global) (p : Place) → raw_kind (Not b) p ≡ raw_not p (raw_form_of b.value)
raw_kind-Not b p = search (rules, the_lemmas)

-- a formula in parentheses
pub raw_kind-Group : (b : Box RawFormula Global) (p : Place) → raw_kind (Group b) p ≡ raw_group p (raw_form_of b.value)
raw_kind-Group b p = search (rules, the_lemmas)

-- an operator with an interval
pub raw_kind-Ranged : (word : Ranged) (n : Identifier) (at : Place) (from to : ℤ) (b : Box RawFormula Global) (p : Place) → raw_kind (RangedKind word n at from to b) p ≡ raw_ranged word (operator_at p n at) from to (raw_form_of b.value)
raw_kind-Ranged word n at from to b p = search (rules, the_lemmas)

-- one over two formulas
pub raw_kind-Paired : (word : Paired) (n : Identifier) (at : Place) (b d : Box RawFormula Global) (p : Place) → raw_kind (PairedKind word n at b d) p ≡ raw_paired word (operator_at p n at) (raw_form_of b.value) (raw_form_of d.value)
raw_kind-Paired word n at b d p = search (rules, the_lemmas)

-- an `implies`
pub raw_kind-Implies : (b d : Box RawFormula Global) (p : Place) → raw_kind (Implies b d) p ≡ raw_implies p (raw_form_of b.value) (raw_form_of d.value)
raw_kind-Implies b d p = search (rules, the_lemmas)

-- an `exists`
pub raw_kind-Exists : (c : RawColumn) (b : Box RawFormula Global) (p : Place) → raw_kind (Exists c b) p ≡ raw_exists p c (raw_form_of b.value)
raw_kind-Exists c b p = search (rules, the_lemmas)

-- a `forall`
pub raw_kind-Forall : (c : RawColumn) (b : Box RawFormula Global) (p : Place) → raw_kind (Forall c b) p ≡ raw_forall p c (raw_form_of b.value)
raw_kind-Forall c b p = search (rules, the_lemmas)
