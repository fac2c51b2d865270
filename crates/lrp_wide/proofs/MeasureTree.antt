-- The sizes of formulas as they are kept.
use Rattle.std.proofs.Common.{◌≡◌, ◌<◌, ◌+◌, ℕ, ℤ, List, [], ◌∷◌, ◌++◌, Vec, Box, Global, length, take, get_or, refl, ap, sym, ◌∙◌, subst}
use Rattle.std.proofs.lemmas.List.{take_more}
use Rattle.lrp_model.specs.Texts.{Identifier}
use Rattle.lrp_model.specs.RawQueries.{Operator, RawForm, operator_at, raw_and, raw_atom, raw_compare, raw_exists, raw_forall, raw_form_of, raw_forms_of, raw_group, raw_implies, raw_kind, raw_member, raw_not, raw_or, raw_paired, raw_ranged}
use Rattle.lrp_model.specs.declared.tokens.Place.{Place}
use Rattle.lrp_model.specs.declared.formulas.Op.{Op}
use Rattle.lrp_model.specs.declared.raw.RawColumn.{RawColumn}
use Rattle.lrp_model.specs.declared.raw.RawFormula.{RawFormula}
use Rattle.lrp_model.specs.declared.raw.RawKind.{Atom, Compare, Member, Not, And, Or, Implies, Group, Exists, Forall, Ranged as RangedKind, Paired as PairedKind}
use Rattle.lrp_model.specs.declared.raw.RawTerm.{RawTerm}
use Rattle.lrp_model.specs.declared.raw.Ranged.{Ranged}
use Rattle.lrp_model.specs.declared.raw.Paired.{Paired}
use Rattle.lrp_model.specs.declared.relations.Relation.{Relation}
use Rattle.lrp_model.specs.declared.relations.RowPoint.{RowPoint}
use Rattle.lrp_model.proofs.RawViews.{raw_kind-And, raw_kind-Exists, raw_kind-Forall, raw_kind-Group, raw_kind-Implies, raw_kind-Not, raw_kind-Or, raw_kind-Paired, raw_kind-Ranged}
use Rattle.lrp_tense.specs.Expanding.{form_of_pair, form_of_range}
use Rattle.lrp_wide.specs.Inlining.{Known}
use Rattle.lrp_wide.specs.Sizes.{IsSize, IsSizeIn, IsSizeInEach, IsSizeOf}
use Rattle.lrp_wide.specs.declared.measures.Size.{Size}
use Rattle.lrp_wide.proofs.MeasureNumbers.{Grows, Joins}
use Rattle.lrp_wide.proofs.MeasureNodes.{in_and, in_compare, in_exists, in_forall, in_group, in_implies, in_member, in_more, in_not, in_or, in_pair, in_range}

module _ (db : List Relation) (ks : List Known) (made : Size) where
  -- another spelling of the formula
  moved : (f g : RawForm) → f ≡ g → IsSizeIn db ks made g → IsSizeIn db ks made f
  moved f g e h = subst (λ x. IsSizeIn db ks made x) (sym e) h

  pub atom_at : (f : RawFormula) (n : Identifier) (ts us : List RawTerm) → f.kind ≡ Atom n ts → us ≡ ts → IsSizeIn db ks made (raw_atom f.place n us) → IsSizeIn db ks made (raw_form_of f)
  atom_at f n ts us is same h = moved (raw_form_of f) (raw_atom f.place n us) (ap (λ k. raw_kind k f.place) is ∙ ap (raw_atom f.place n) (sym same)) h

  pub compare_size : (f : RawFormula) (l : RawTerm) (op : Op) (r : RawTerm) → f.kind ≡ Compare op l r → IsSize made 1 1 → IsSizeIn db ks made (raw_form_of f)
  compare_size f l op r is h = moved (raw_form_of f) (raw_compare f.place l op r) (ap (λ k. raw_kind k f.place) is) (in_compare db ks made f.place l op r h)

  pub member_size : (f : RawFormula) (t : RawTerm) (point : RowPoint) → f.kind ≡ Member t point → IsSize made 1 1 → IsSizeIn db ks made (raw_form_of f)
  member_size f t point is h = moved (raw_form_of f) (raw_member f.place t point) (ap (λ k. raw_kind k f.place) is) (in_member db ks made f.place t point h)

  pub not_size : (f g : RawFormula) (b : Box RawFormula Global) (inner : Size) → f.kind ≡ Not b → g ≡ b.value → IsSizeIn db ks inner (raw_form_of g) → Grows inner 1 made → IsSizeIn db ks made (raw_form_of f)
  not_size f g b inner is same h u =
      moved (raw_form_of f) (raw_not f.place (raw_form_of g)) (ap (λ k. raw_kind k f.place) is ∙ raw_kind-Not b f.place ∙ ap (λ x. raw_not f.place (raw_form_of x)) (sym same)) (in_not db ks inner made f.place (raw_form_of g) h u)

  pub group_size : (f g : RawFormula) (b : Box RawFormula Global) (inner : Size) → f.kind ≡ Group b → g ≡ b.value → IsSizeIn db ks inner (raw_form_of g) → Grows inner 1 made → IsSizeIn db ks made (raw_form_of f)
  group_size f g b inner is same h u =
      moved (raw_form_of f) (raw_group f.place (raw_form_of g)) (ap (λ k. raw_kind k f.place) is ∙ raw_kind-Group b f.place ∙ ap (λ x. raw_group f.place (raw_form_of x)) (sym same)) (in_group db ks inner made f.place (raw_form_of g) h u)

  pub exists_size : (f g : RawFormula) (c : RawColumn) (b : Box RawFormula Global) (inner : Size) → f.kind ≡ Exists c b → g ≡ b.value → IsSizeIn db ks inner (raw_form_of g) → Grows inner 1 made → IsSizeIn db ks made (raw_form_of f)
  exists_size f g c b inner is same h u =
      moved (raw_form_of f) (raw_exists f.place c (raw_form_of g)) (ap (λ k. raw_kind k f.place) is ∙ raw_kind-Exists c b f.place ∙ ap (λ x. raw_exists f.place c (raw_form_of x)) (sym same)) (in_exists db ks inner made f.place c (raw_form_of g) h u)

  pub forall_size : (f g : RawFormula) (c : RawColumn) (b : Box RawFormula Global) (inner : Size) → f.kind ≡ Forall c b → g ≡ b.value → IsSizeIn db ks inner (raw_form_of g) → Grows inner 1 made → IsSizeIn db ks made (raw_form_of f)
  forall_size f g c b inner is same h u =
      moved (raw_form_of f) (raw_forall f.place c (raw_form_of g)) (ap (λ k. raw_kind k f.place) is ∙ raw_kind-Forall c b f.place ∙ ap (λ x. raw_forall f.place c (raw_form_of x)) (sym same)) (in_forall db ks inner made f.place c (raw_form_of g) h u)

  pub and_size : (f : RawFormula) (gs : List RawFormula) (v : Vec RawFormula Global) (inner : Size) → f.kind ≡ And v → gs ≡ v.items → IsSizeInEach db ks inner (raw_forms_of gs) → Grows inner 1 made → IsSizeIn db ks made (raw_form_of f)
  and_size f gs v inner is same h u =
      moved (raw_form_of f) (raw_and f.place (raw_forms_of gs)) (ap (λ k. raw_kind k f.place) is ∙ raw_kind-And v f.place ∙ ap (λ x. raw_and f.place (raw_forms_of x)) (sym same)) (in_and db ks inner made f.place (raw_forms_of gs) h u)

  pub or_size : (f : RawFormula) (gs : List RawFormula) (v : Vec RawFormula Global) (inner : Size) → f.kind ≡ Or v → gs ≡ v.items → IsSizeInEach db ks inner (raw_forms_of gs) → Grows inner 1 made → IsSizeIn db ks made (raw_form_of f)
  or_size f gs v inner is same h u =
      moved (raw_form_of f) (raw_or f.place (raw_forms_of gs)) (ap (λ k. raw_kind k f.place) is ∙ raw_kind-Or v f.place ∙ ap (λ x. raw_or f.place (raw_forms_of x)) (sym same)) (in_or db ks inner made f.place (raw_forms_of gs) h u)

  pub implies_size : (f g j : RawFormula) (b d : Box RawFormula Global) (left right two : Size) → f.kind ≡ Implies b d → g ≡ b.value → j ≡ d.value → IsSizeIn db ks left (raw_form_of g) → IsSizeIn db ks right (raw_form_of j)
      → Joins left right two → Grows two 1 made → IsSizeIn db ks made (raw_form_of f)
  implies_size f g j b d left right two is same also h i both u =
      moved (raw_form_of f) (raw_implies f.place (raw_form_of g) (raw_form_of j))
      (ap (λ k. raw_kind k f.place) is ∙ raw_kind-Implies b d f.place ∙ ap (λ x. raw_implies f.place (raw_form_of x) (raw_form_of d.value)) (sym same) ∙ ap (λ x. raw_implies f.place (raw_form_of g) (raw_form_of x)) (sym also))
      (in_implies db ks left right two made f.place (raw_form_of g) (raw_form_of j) h i both u)

  pub range_at : (f g : RawFormula) (word : Ranged) (n : Identifier) (at : Place) (from to : ℤ) (b : Box RawFormula Global) (inner : Size) → f.kind ≡ RangedKind word n at from to b → g ≡ b.value
      → IsSizeIn db ks inner (raw_form_of g) → ((o : Operator) (x v : Identifier) (from to : ℤ) (f : RawForm) → IsSizeOf inner f → IsSizeOf made (form_of_range word o x v from to f)) → IsSizeIn db ks made (raw_form_of f)
  range_at f g word n at from to b inner is same h u =
      moved (raw_form_of f) (raw_ranged word (operator_at f.place n at) from to (raw_form_of g))
      (ap (λ k. raw_kind k f.place) is ∙ raw_kind-Ranged word n at from to b f.place ∙ ap (λ x. raw_ranged word (operator_at f.place n at) from to (raw_form_of x)) (sym same))
      (in_range db ks inner made word (operator_at f.place n at) from to (raw_form_of g) h u)

  pub pair_at : (f g j : RawFormula) (word : Paired) (n : Identifier) (at : Place) (b d : Box RawFormula Global) (between end : Size) → f.kind ≡ PairedKind word n at b d → g ≡ b.value → j ≡ d.value
      → IsSizeIn db ks between (raw_form_of g) → IsSizeIn db ks end (raw_form_of j)
      → ((o : Operator) (x y v : Identifier) (f g : RawForm) → IsSizeOf between f → IsSizeOf end g → IsSizeOf made (form_of_pair word o x y v f g)) → IsSizeIn db ks made (raw_form_of f)
  pair_at f g j word n at b d between end is same also h i u =
      moved (raw_form_of f) (raw_paired word (operator_at f.place n at) (raw_form_of g) (raw_form_of j))
      (ap (λ k. raw_kind k f.place) is ∙ raw_kind-Paired word n at b d f.place ∙ ap (λ x. raw_paired word (operator_at f.place n at) (raw_form_of x) (raw_form_of d.value)) (sym same)
      ∙ ap (λ x. raw_paired word (operator_at f.place n at) (raw_form_of g) (raw_form_of x)) (sym also))
      (in_pair db ks between end made word (operator_at f.place n at) (raw_form_of g) (raw_form_of j) h i u)

  -- one member more
  pub each_more : (fs : List RawFormula) (i : ℕ) (f : RawFormula) (one other : Size) → i < length fs → f ≡ get_or fs i f → IsSizeInEach db ks one (raw_forms_of (take i fs)) → IsSizeIn db ks other (raw_form_of f) → Joins one other made
      → IsSizeInEach db ks made (raw_forms_of (take (i + 1) fs))
  each_more fs i f one other lt is h k j =
      subst (λ x. IsSizeInEach db ks made (raw_forms_of x)) (sym (take_more fs i f lt ∙ ap (λ x. take i fs ++ x ∷ []) (sym is))) (in_more db ks one other made (take i fs) f h k j)
