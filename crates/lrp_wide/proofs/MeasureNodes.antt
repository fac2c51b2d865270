-- The sizes of formulas from those of their members.
use Rattle.std.proofs.Common.{◌≡◌, ◌+◌, ℕ, ℤ, max, List, [], ◌∷◌, ◌++◌, Option, Some, None, map, refl, ap, sym, ◌∙◌, arith, subst}
use Rattle.lrp_query.specs.Lawful.{formulas_in, formulas_of}
use Rattle.lrp_model.specs.Texts.{Identifier}
use Rattle.lrp_model.specs.Rows.{columns_in, relation_named}
use Rattle.lrp_model.specs.RawQueries.{RawForm, RawForms, Operator, raw_form_of, raw_forms_of, raw_atom, raw_compare, raw_member, raw_not, raw_and, raw_or, raw_implies, raw_group, raw_exists, raw_forall, raw_ranged, raw_paired, no_raws, raw}
use Rattle.lrp_model.specs.declared.tokens.Place.{Place}
use Rattle.lrp_model.specs.declared.formulas.Op.{Op}
use Rattle.lrp_model.specs.declared.raw.RawColumn.{RawColumn}
use Rattle.lrp_model.specs.declared.raw.RawFormula.{RawFormula}
use Rattle.lrp_model.specs.declared.raw.RawTerm.{RawTerm}
use Rattle.lrp_model.specs.declared.raw.Ranged.{Ranged}
use Rattle.lrp_model.specs.declared.raw.Ranged.TheVariants.{Once, Always}
use Rattle.lrp_model.specs.declared.raw.Paired.{Paired}
use Rattle.lrp_model.specs.declared.raw.Paired.TheVariants.{Since, Until}
use Rattle.lrp_model.specs.declared.relations.Relation.{Relation}
use Rattle.lrp_model.specs.declared.relations.RowPoint.{RowPoint}
use Rattle.lrp_tense.specs.Expanding.{Naming, between_of, expanded, expanded_each, form_of_pair, form_of_range, moment_of, present_name, renamed, renamed_to}
use Rattle.lrp_wide.specs.Inlining.{Known, UseSetting, inlined_atom, inlined, inlined_each, meant_by, star_total, use_form}
use Rattle.lrp_wide.specs.Limits.{depth_of, depth_of_each}
use Rattle.lrp_wide.specs.Stars.{BindNoStar, BindsNoStar}
use Rattle.lrp_wide.specs.Sizes.{AreTermsCounted, IsKnownSize, IsSize, IsSizeIn, IsSizeInEach, IsSizeOf, KeepsStar, compared_total, counted_formulas}
use Rattle.lrp_wide.specs.declared.measures.Size.{Size}
use Rattle.lrp_wide.specs.declared.measures.Terms.{Terms}
use Rattle.lrp_wide.proofs.MeasureForms.{starred_depth, starred_formulas}
use Rattle.lrp_wide.proofs.MeasureNumbers.{Grows, Joins, sized}
use Rattle.lrp_wide.proofs.MeasureStars.{between_differs, compared_kept, keeps_new, keeps_own, moment_differs, stars_kept}

module _ (db : List Relation) (ks : List Known) where
  pub in_compare : (made : Size) (p : Place) (l : RawTerm) (op : Op) (r : RawTerm) → IsSize made 1 1 → IsSizeIn db ks made (raw_compare p l op r)
  in_compare made p l op r h = λ number names s k b. h

  pub in_member : (made : Size) (p : Place) (t : RawTerm) (point : RowPoint) → IsSize made 1 1 → IsSizeIn db ks made (raw_member p t point)
  in_member made p t point h = λ number names s k b. h

  pub in_not : (inner made : Size) (p : Place) (f : RawForm) → IsSizeIn db ks inner f → Grows inner 1 made → IsSizeIn db ks made (raw_not p f)
  in_not inner made p f h u = λ number names s k b. u _ _ (h number names s k b)

  pub in_group : (inner made : Size) (p : Place) (f : RawForm) → IsSizeIn db ks inner f → Grows inner 1 made → IsSizeIn db ks made (raw_group p f)
  in_group inner made p f h u = λ number names s k b. u _ _ (h number names s k b)

  pub in_and : (inner made : Size) (p : Place) (fs : RawForms) → IsSizeInEach db ks inner fs → Grows inner 1 made → IsSizeIn db ks made (raw_and p fs)
  in_and inner made p fs h u = λ number names s k b. u _ _ (h number names s k b)

  pub in_or : (inner made : Size) (p : Place) (fs : RawForms) → IsSizeInEach db ks inner fs → Grows inner 1 made → IsSizeIn db ks made (raw_or p fs)
  in_or inner made p fs h u = λ number names s k b. u _ _ (h number names s k b)

  pub in_exists : (inner made : Size) (p : Place) (c : RawColumn) (f : RawForm) → IsSizeIn db ks inner f → Grows inner 1 made → IsSizeIn db ks made (raw_exists p c f)
  in_exists inner made p c f h u = λ number names s k b. u _ _ (h number (renamed_to c.name c.name ∷ names) s (keeps_own names c.name k) b.1)

  pub in_forall : (inner made : Size) (p : Place) (c : RawColumn) (f : RawForm) → IsSizeIn db ks inner f → Grows inner 1 made → IsSizeIn db ks made (raw_forall p c f)
  in_forall inner made p c f h u = λ number names s k b. u _ _ (h number (renamed_to c.name c.name ∷ names) s (keeps_own names c.name k) b.1)

  pub in_implies : (left right two made : Size) (p : Place) (f g : RawForm) → IsSizeIn db ks left f → IsSizeIn db ks right g → Joins left right two → Grows two 1 made → IsSizeIn db ks made (raw_implies p f g)
  in_implies left right two made p f g h i j u = λ number names s k b. u _ _ (j _ _ _ _ (h number names s k b.0) (i number names s k b.1))

  -- what an operator stands for is as large in a setting as it is there
  range_here : (word : Ranged) (o : Operator) (x v : Identifier) (from to : ℤ) (f : RawForm) (s : UseSetting) (size : Size)
      → IsSizeOf size (form_of_range word o x v from to (inlined db ks f s)) → IsSizeOf size (inlined db ks (form_of_range word o x v from to f) s)
  range_here Once o x v from to f s size h = h
  range_here Always o x v from to f s size h = h

  pair_here : (word : Paired) (o : Operator) (x y v : Identifier) (f g : RawForm) (s : UseSetting) (size : Size)
      → IsSizeOf size (form_of_pair word o x y v (inlined db ks f s) (inlined db ks g s)) → IsSizeOf size (inlined db ks (form_of_pair word o x y v f g) s)
  pair_here Since o x y v f g s size h = h
  pair_here Until o x y v f g s size h = h

  pub in_range : (inner made : Size) (word : Ranged) (o : Operator) (from to : ℤ) (f : RawForm) → IsSizeIn db ks inner f
      → ((o : Operator) (x v : Identifier) (from to : ℤ) (f : RawForm) → IsSizeOf inner f → IsSizeOf made (form_of_range word o x v from to f)) → IsSizeIn db ks made (raw_ranged word o from to f)
  in_range inner made word o from to f h u = λ number names s k b.
      let within : Naming = renamed_to o.name (moment_of number o) ∷ names in
      let kept : KeepsStar within = keeps_new names o.name (moment_of number o) b.0 (moment_differs number o) k in
      range_here word o (moment_of number o) (present_name names o.name) from to (expanded f number within) s made
      (u o (moment_of number o) (present_name names o.name) from to (inlined db ks (expanded f number within) s) (h number within s kept b.1))

  pub in_pair : (between end made : Size) (word : Paired) (o : Operator) (f g : RawForm) → IsSizeIn db ks between f → IsSizeIn db ks end g
      → ((o : Operator) (x y v : Identifier) (f g : RawForm) → IsSizeOf between f → IsSizeOf end g → IsSizeOf made (form_of_pair word o x y v f g)) → IsSizeIn db ks made (raw_paired word o f g)
  in_pair between end made word o f g h i u = λ number names s k b.
      let inner : Naming = renamed_to o.name (between_of number o) ∷ names in
      let outer : Naming = renamed_to o.name (moment_of number o) ∷ names in
      let kept : KeepsStar inner = keeps_new names o.name (between_of number o) b.0 (between_differs number o) k in
      let also : KeepsStar outer = keeps_new names o.name (moment_of number o) b.0 (moment_differs number o) k in
      pair_here word o (moment_of number o) (between_of number o) (present_name names o.name) (expanded f number inner) (expanded g number outer) s made
      (u o (moment_of number o) (between_of number o) (present_name names o.name) (inlined db ks (expanded f number inner) s) (inlined db ks (expanded g number outer) s)
      (h number inner s kept b.1.0) (i number outer s also b.1.1))

  -- ---- atoms

  -- one of a relation, or of a name that has no meaning
  pub in_atom : (leaf made : Size) (stars : ℕ) (p : Place) (n : Identifier) (ts : List RawTerm) → meant_by db ks n ≡ None → stars ≡ star_total (columns_in (relation_named db n)) ts
      → IsSize leaf 1 1 → Grows leaf stars made → IsSizeIn db ks made (raw_atom p n ts)
  in_atom leaf made stars p n ts none found one u = λ number names s k b.
      let cs = columns_in (relation_named db n) in
      let us = map (renamed names) ts in
      let same : stars ≡ star_total cs us = found ∙ sym (stars_kept names cs ts k) in
      subst (λ d. IsSizeOf made (inlined_atom s (s.place p) (s.number p) n cs us d)) (sym none)
      (sized made (1 + stars) _ (1 + stars) _ (ap (λ m. 1 + m) same ∙ sym (starred_formulas s (s.place p) (s.number p) n cs us)) (ap (λ m. 1 + m) same ∙ sym (starred_depth s (s.place p) (s.number p) n cs us)) (u 1 1 one))

  -- one of a definition
  pub in_use : (inner made : Size) (terms : Terms) (p : Place) (n : Identifier) (ts : List RawTerm) (d : Known) → meant_by db ks n ≡ Some d → AreTermsCounted terms d.columns ts → IsKnownSize d inner
      → ((d : Known) (ts : List RawTerm) → AreTermsCounted terms d.columns ts → IsKnownSize d inner → (s : UseSetting) (p : Place) (k : ℕ) → IsSizeOf made (use_form s p k d ts)) → IsSizeIn db ks made (raw_atom p n ts)
  in_use inner made terms p n ts d some found known u = λ number names s k b.
      let us = map (renamed names) ts in
      let here : AreTermsCounted terms d.columns us = record { stars = found.stars ∙ sym (stars_kept names d.columns ts k); compared = found.compared ∙ sym (compared_kept names d.columns ts) } in
      subst (λ m. IsSizeOf made (inlined_atom s (s.place p) (s.number p) n (columns_in (relation_named db n)) us m)) (sym some) (u d us here known s (s.place p) (s.number p))

  -- ---- several

  pub in_none : (made : Size) → IsSize made 0 0 → IsSizeInEach db ks made no_raws
  in_none made h = λ number names s k b. h

  more_formulas : (fs : List RawFormula) (g : RawFormula) (number : Place → ℕ) (names : Naming) (s : UseSetting)
      → formulas_of (inlined_each db ks (expanded_each (raw_forms_of fs) number names) s) + formulas_in (inlined db ks (expanded (raw_form_of g) number names) s)
      ≡ formulas_of (inlined_each db ks (expanded_each (raw_forms_of (fs ++ g ∷ [])) number names) s)
  more_formulas [] g number names s = omega arith
  more_formulas (f ∷ fs) g number names s = omega (arith, more_formulas fs g number names s)

  more_depth : (fs : List RawFormula) (g : RawFormula) (number : Place → ℕ) (names : Naming) (s : UseSetting)
      → max (depth_of_each (inlined_each db ks (expanded_each (raw_forms_of fs) number names) s)) (depth_of (inlined db ks (expanded (raw_form_of g) number names) s))
      ≡ depth_of_each (inlined_each db ks (expanded_each (raw_forms_of (fs ++ g ∷ [])) number names) s)
  more_depth [] g number names s = omega arith
  more_depth (f ∷ fs) g number names s = omega (arith, more_depth fs g number names s)

  pub in_more : (one other made : Size) (fs : List RawFormula) (g : RawFormula) → IsSizeInEach db ks one (raw_forms_of fs) → IsSizeIn db ks other (raw_form_of g) → Joins one other made
      → IsSizeInEach db ks made (raw_forms_of (fs ++ g ∷ []))
  in_more one other made fs g h i j = λ number names s k b.
      let both = starless fs g b in
      sized made _ _ _ _ (more_formulas fs g number names s) (more_depth fs g number names s) (j _ _ _ _ (h number names s k both.0) (i number names s k both.1))
    where
      starless : (fs : List RawFormula) (g : RawFormula) → BindNoStar (raw_forms_of (fs ++ g ∷ [])) → BindNoStar (raw_forms_of fs) × BindsNoStar (raw_form_of g)
      starless [] g b = (tt, b.0)
      starless (f ∷ fs) g b = let rest = starless fs g b.1 in ((b.0, rest.0), rest.1)
