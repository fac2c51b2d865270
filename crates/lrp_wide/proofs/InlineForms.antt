-- Several formulas, one after another.
use Rattle.std.proofs.Common.{◌≡◌, ◌+◌, ◌<◌, ℕ, List, [], ◌∷◌, ◌++◌, length, take, get_or, refl, ap, ap₂, sym, ◌∙◌, append_assoc, append-nil}
use Rattle.std.proofs.lemmas.List.{take_more}
use Rattle.lrp_model.specs.RawQueries.{RawForm, RawForms, raw_form_of, raw_forms_of, raw, no_raws}
use Rattle.lrp_model.specs.declared.raw.RawFormula.{RawFormula}
use Rattle.lrp_model.specs.declared.relations.Relation.{Relation}
use Rattle.lrp_wide.specs.Counts.{kept_each, kept_in, stopped_counts}
use Rattle.lrp_wide.proofs.NumberStops.{stopped-append}
use Rattle.lrp_wide.specs.Inlining.{Counted, Known, UseSetting, counted_each, counted_in, inlined, inlined_each}

so_far : (fs : List RawFormula) (i : ℕ) (f : RawFormula) → i < length fs → f ≡ get_or fs i f → take (i + 1) fs ≡ take i fs ++ f ∷ []
so_far fs i f lt is = take_more fs i f lt ∙ ap (λ x. take i fs ++ x ∷ []) (sym is)

module _ (db : List Relation) (ks : List Known) where
  -- ---- numbers

  counted_append : (fs gs : List RawFormula) → counted_each db ks (raw_forms_of (fs ++ gs)) ≡ counted_each db ks (raw_forms_of fs) ++ counted_each db ks (raw_forms_of gs)
  counted_append [] gs = refl
  counted_append (f ∷ fs) gs =
      ap (λ l. counted_in db ks (raw_form_of f) ++ l) (counted_append fs gs)
      ∙ sym (append_assoc (counted_in db ks (raw_form_of f)) (counted_each db ks (raw_forms_of fs)) (counted_each db ks (raw_forms_of gs)))

  -- the atoms of the formulas so far, and of one more
  pub counted-more : (fs : List RawFormula) (i : ℕ) (f : RawFormula) (old now new : List Counted) → i < length fs → f ≡ get_or fs i f
      → now ≡ old ++ kept_each db ks (raw_forms_of (take i fs)) → new ≡ now ++ kept_in db ks (raw_form_of f) → new ≡ old ++ kept_each db ks (raw_forms_of (take (i + 1) fs))
  counted-more fs i f old now new lt is e h =
      let one : counted_each db ks (raw_forms_of (take (i + 1) fs)) ≡ counted_each db ks (raw_forms_of (take i fs)) ++ counted_in db ks (raw_form_of f) =
      ap (λ l. counted_each db ks (raw_forms_of l)) (so_far fs i f lt is) ∙ counted_append (take i fs) (f ∷ []) ∙ ap (λ l. counted_each db ks (raw_forms_of (take i fs)) ++ l) (append-nil (counted_in db ks (raw_form_of f))) in
      let kept : kept_each db ks (raw_forms_of (take (i + 1) fs)) ≡ kept_each db ks (raw_forms_of (take i fs)) ++ kept_in db ks (raw_form_of f) =
      ap stopped_counts one ∙ stopped-append (counted_each db ks (raw_forms_of (take i fs))) (counted_in db ks (raw_form_of f)) in
      h ∙ ap (λ l. l ++ kept_in db ks (raw_form_of f)) e ∙ append_assoc old (kept_each db ks (raw_forms_of (take i fs))) (kept_in db ks (raw_form_of f)) ∙ ap (λ l. old ++ l) (sym kept)

  -- ---- formulas

  raws_joined : RawForms → RawForms → RawForms
  raws_joined no_raws gs = gs
  raws_joined (raw f fs) gs = raw f (raws_joined fs gs)

  raws_append : (fs gs : List RawFormula) → raw_forms_of (fs ++ gs) ≡ raws_joined (raw_forms_of fs) (raw_forms_of gs)
  unfolding raws_joined
  raws_append [] gs = refl
  raws_append (f ∷ fs) gs = ap (raw (raw_form_of f)) (raws_append fs gs)

  inlined_append : (fs gs : List RawFormula) (s : UseSetting) → inlined_each db ks (raw_forms_of (fs ++ gs)) s ≡ raws_joined (inlined_each db ks (raw_forms_of fs) s) (inlined_each db ks (raw_forms_of gs) s)
  unfolding raws_joined
  inlined_append [] gs s = refl
  inlined_append (f ∷ fs) gs s = ap (raw (inlined db ks (raw_form_of f) s)) (inlined_append fs gs s)

  -- the formulas so far, and one more
  pub inlined-more : (fs gs hs : List RawFormula) (i : ℕ) (f g : RawFormula) (s : UseSetting) → i < length fs → f ≡ get_or fs i f → hs ≡ gs ++ g ∷ []
      → raw_forms_of gs ≡ inlined_each db ks (raw_forms_of (take i fs)) s → raw_form_of g ≡ inlined db ks (raw_form_of f) s → raw_forms_of hs ≡ inlined_each db ks (raw_forms_of (take (i + 1) fs)) s
  inlined-more fs gs hs i f g s lt is e h k =
      ap raw_forms_of e ∙ raws_append gs (g ∷ []) ∙ ap₂ (λ x y. raws_joined x (raw y no_raws)) h k
      ∙ sym (ap (λ l. inlined_each db ks (raw_forms_of l) s) (so_far fs i f lt is) ∙ inlined_append (take i fs) (f ∷ []) s)
