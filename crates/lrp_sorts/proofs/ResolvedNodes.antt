-- What nodes are once the sorts of the names in their members are resolved.
use Rattle.std.proofs.Common.{◌≡◌, ℕ, ℤ, ◌+◌, ◌<◌, ◌≤◌, arith, List, [], ◌∷◌, ◌++◌, Box, Vec, Global, map, refl, ap, ap₂, sym, ◌∙◌, length, take, drop, get_or, set}
use Rattle.std.proofs.lemmas.List.{map-set, take_all, drop_all, append-nil, length-map, get_or-map}
use Rattle.std.proofs.lemmas.List.Edits.{map_over_more}
use Rattle.lrp_model.specs.Texts.{Identifier}
use Rattle.lrp_model.specs.Checked.{resolved, resolved_each}
use Rattle.lrp_model.specs.Sorting.{Binders}
use Rattle.lrp_model.specs.RawQueries.{RawForm, RawForms, raw_kind, raw_form_of, raw_forms_of, raw_not, raw_and, raw_or, raw_implies, raw_group, raw_exists, raw_forall, raw_ranged, raw_paired, operator_at, no_raws, raw}
use Rattle.lrp_model.specs.declared.tokens.Place.{Place}
use Rattle.lrp_model.specs.declared.raw.RawColumn.{RawColumn}
use Rattle.lrp_model.specs.declared.raw.RawFormula.{RawFormula}
use Rattle.lrp_model.specs.declared.raw.RawKind.{RawKind, Not, And, Or, Implies, Group, Exists, Forall, Ranged as RangedKind, Paired as PairedKind}
use Rattle.lrp_model.specs.declared.raw.Ranged.{Ranged}
use Rattle.lrp_model.specs.declared.raw.Paired.{Paired}
use Rattle.lrp_model.proofs.RawViews.{raw_kind-And, raw_kind-Or, raw_kind-Not, raw_kind-Group, raw_kind-Ranged, raw_kind-Paired, raw_kind-Implies, raw_kind-Exists, raw_kind-Forall}

-- ---- lists of formulas

abbrev listed : List RawForm → RawForms
listed [] = no_raws
listed (f ∷ fs) = raw f (listed fs)

listed_is : (fs : List RawFormula) → listed (map raw_form_of fs) ≡ raw_forms_of fs
listed_is [] = refl
listed_is (f ∷ fs) = ap (raw (raw_form_of f)) (listed_is fs)

listed_resolved : (bs : Binders) (fs : List RawForm) → listed (map (λ f. resolved f bs) fs) ≡ resolved_each (listed fs) bs
listed_resolved bs [] = refl
listed_resolved bs (f ∷ fs) = ap (raw (resolved f bs)) (listed_resolved bs fs)

-- the formulas up to this one are resolved, and the others are as they were
abbrev pub ResolvedTo : Binders → List RawFormula → ℕ → List RawFormula → Type 0
ResolvedTo bs fs i gs = map raw_form_of gs ≡ map (λ f. resolved f bs) (take i (map raw_form_of fs)) ++ drop i (map raw_form_of fs)

pub resolved_more : (bs : Binders) (fs gs : List RawFormula) (i : ℕ) (f g : RawFormula) → i < length fs → length gs ≡ length fs → ResolvedTo bs fs i gs → f ≡ get_or gs i f → raw_form_of g ≡ resolved (raw_form_of f) bs → ResolvedTo bs fs (i + 1) (set gs i g)
resolved_more bs fs gs i f g lt size h is k =
    let short : i < length (map raw_form_of fs) = rw (length-map fs raw_form_of) lt in
    let there : i < length gs = rw size lt in
    let seen : raw_form_of f ≡ get_or (map raw_form_of gs) i (raw_form_of f) = ap raw_form_of is ∙ sym (get_or-map raw_form_of gs i f (raw_form_of f) there) in
    map-set raw_form_of gs i g ∙ ap (λ x. set (map raw_form_of gs) i x) k
    ∙ map_over_more (λ x. resolved x bs) (map raw_form_of fs) (map raw_form_of gs) i (raw_form_of f) short h seen

pub resolved_all : (bs : Binders) (fs gs : List RawFormula) → ResolvedTo bs fs (length fs) gs → raw_forms_of gs ≡ resolved_each (raw_forms_of fs) bs
resolved_all bs fs gs h =
    let all : List RawForm = map raw_form_of fs in
    let size : length (map raw_form_of fs) ≡ length fs = length-map fs raw_form_of in
    let few : length (map raw_form_of fs) ≤ length fs = omega (arith, size) in
    let whole : map raw_form_of gs ≡ map (λ f. resolved f bs) (map raw_form_of fs) =
    h ∙ ap₂ (λ a b. map (λ f. resolved f bs) a ++ b) (take_all (length fs) all few) (drop_all (length fs) all few) ∙ append-nil (map (λ f. resolved f bs) all) in
    sym (listed_is gs) ∙ ap listed whole ∙ listed_resolved bs (map raw_form_of fs) ∙ ap (λ x. resolved_each x bs) (listed_is fs)

-- ---- nodes

-- what the formula is by its kind
by_kind : (f : RawFormula) (k : RawKind) (g : RawForm) → f.kind ≡ k → raw_kind k f.place ≡ g → raw_form_of f ≡ g
by_kind f k g e h = ap (λ x. raw_kind x f.place) e ∙ h

module _ (bs : Binders) (f : RawFormula) where
  pub not_resolved : (b d : Box RawFormula Global) → f.kind ≡ Not b → raw_form_of d.value ≡ resolved (raw_form_of b.value) bs → raw_kind (Not d) f.place ≡ resolved (raw_form_of f) bs
  not_resolved b d e h =
      raw_kind-Not d f.place ∙ ap (raw_not f.place) h
      ∙ ap (λ g. resolved g bs) (sym (by_kind f (Not b) (raw_not f.place (raw_form_of b.value)) e (raw_kind-Not b f.place)))

  pub group_resolved : (b d : Box RawFormula Global) → f.kind ≡ Group b → raw_form_of d.value ≡ resolved (raw_form_of b.value) bs → raw_kind (Group d) f.place ≡ resolved (raw_form_of f) bs
  group_resolved b d e h =
      raw_kind-Group d f.place ∙ ap (raw_group f.place) h
      ∙ ap (λ g. resolved g bs) (sym (by_kind f (Group b) (raw_group f.place (raw_form_of b.value)) e (raw_kind-Group b f.place)))

  pub ranged_resolved : (word : Ranged) (n : Identifier) (at : Place) (from to : ℤ) (b d : Box RawFormula Global) → f.kind ≡ RangedKind word n at from to b → raw_form_of d.value ≡ resolved (raw_form_of b.value) bs → raw_kind (RangedKind word n at from to d) f.place ≡ resolved (raw_form_of f) bs
  ranged_resolved word n at from to b d e h =
      raw_kind-Ranged word n at from to d f.place ∙ ap (raw_ranged word (operator_at f.place n at) from to) h
      ∙ ap (λ g. resolved g bs) (sym (by_kind f (RangedKind word n at from to b) (raw_ranged word (operator_at f.place n at) from to (raw_form_of b.value)) e (raw_kind-Ranged word n at from to b f.place)))

  pub and_resolved : (v w : Vec RawFormula Global) → f.kind ≡ And v → raw_forms_of w.items ≡ resolved_each (raw_forms_of v.items) bs → raw_kind (And w) f.place ≡ resolved (raw_form_of f) bs
  and_resolved v w e h =
      raw_kind-And w f.place ∙ ap (raw_and f.place) h
      ∙ ap (λ g. resolved g bs) (sym (by_kind f (And v) (raw_and f.place (raw_forms_of v.items)) e (raw_kind-And v f.place)))

  pub or_resolved : (v w : Vec RawFormula Global) → f.kind ≡ Or v → raw_forms_of w.items ≡ resolved_each (raw_forms_of v.items) bs → raw_kind (Or w) f.place ≡ resolved (raw_form_of f) bs
  or_resolved v w e h =
      raw_kind-Or w f.place ∙ ap (raw_or f.place) h
      ∙ ap (λ g. resolved g bs) (sym (by_kind f (Or v) (raw_or f.place (raw_forms_of v.items)) e (raw_kind-Or v f.place)))

  pub implies_resolved : (a b c d : Box RawFormula Global) → f.kind ≡ Implies a b → raw_form_of c.value ≡ resolved (raw_form_of a.value) bs → raw_form_of d.value ≡ resolved (raw_form_of b.value) bs → raw_kind (Implies c d) f.place ≡ resolved (raw_form_of f) bs
  implies_resolved a b c d e h k =
      raw_kind-Implies c d f.place ∙ ap₂ (raw_implies f.place) h k
      ∙ ap (λ g. resolved g bs) (sym (by_kind f (Implies a b) (raw_implies f.place (raw_form_of a.value) (raw_form_of b.value)) e (raw_kind-Implies a b f.place)))

  pub paired_resolved : (word : Paired) (n : Identifier) (at : Place) (a b c d : Box RawFormula Global) → f.kind ≡ PairedKind word n at a b → raw_form_of c.value ≡ resolved (raw_form_of a.value) bs → raw_form_of d.value ≡ resolved (raw_form_of b.value) bs → raw_kind (PairedKind word n at c d) f.place ≡ resolved (raw_form_of f) bs
  paired_resolved word n at a b c d e h k =
      raw_kind-Paired word n at c d f.place ∙ ap₂ (raw_paired word (operator_at f.place n at)) h k
      ∙ ap (λ g. resolved g bs) (sym (by_kind f (PairedKind word n at a b) (raw_paired word (operator_at f.place n at) (raw_form_of a.value) (raw_form_of b.value)) e (raw_kind-Paired word n at a b f.place)))

  pub exists_resolved : (c : RawColumn) (b d : Box RawFormula Global) → f.kind ≡ Exists c b → raw_form_of d.value ≡ resolved (raw_form_of b.value) (c ∷ bs) → raw_kind (Exists c d) f.place ≡ resolved (raw_form_of f) bs
  exists_resolved c b d e h =
      raw_kind-Exists c d f.place ∙ ap (raw_exists f.place c) h
      ∙ ap (λ g. resolved g bs) (sym (by_kind f (Exists c b) (raw_exists f.place c (raw_form_of b.value)) e (raw_kind-Exists c b f.place)))

  pub forall_resolved : (c : RawColumn) (b d : Box RawFormula Global) → f.kind ≡ Forall c b → raw_form_of d.value ≡ resolved (raw_form_of b.value) (c ∷ bs) → raw_kind (Forall c d) f.place ≡ resolved (raw_form_of f) bs
  forall_resolved c b d e h =
      raw_kind-Forall c d f.place ∙ ap (raw_forall f.place c) h
      ∙ ap (λ g. resolved g bs) (sym (by_kind f (Forall c b) (raw_forall f.place c (raw_form_of b.value)) e (raw_kind-Forall c b f.place)))
