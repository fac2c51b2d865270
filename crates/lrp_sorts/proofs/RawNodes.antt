-- What the nodes of a raw formula show, from what their members show.
use Rattle.std.proofs.Common.{◌≡◌, ℕ, ℤ, List, [], ◌∷◌, ◌++◌, Option, Result, Ok, Err, IfOk, OnOk, Box, Vec, Global, refl, ap, sym, subst, ◌∙◌, ◌+◌, ◌<◌, length, take, get_or, append_assoc}
use Rattle.std.proofs.lemmas.List.{take_more, append-nil}
use Rattle.lrp_model.specs.Texts.{Identifier, without}
use Rattle.lrp_model.specs.Faults.{earliest, fault_if}
use Rattle.lrp_model.specs.RawQueries.{raw_kind, raw_form_of, raw_forms_of}
use Rattle.lrp_model.specs.Sorting.{Binders, query_standing, query_fault, too_many, free_names, free_names_each, form_faults, forms_faults, widened, place_of, binder_faults}
use Rattle.lrp_model.specs.declared.tokens.Place.{Place}
use Rattle.lrp_model.specs.declared.relations.Relation.{Relation}
use Rattle.lrp_model.specs.declared.faults.QueryFault.{QueryFault}
use Rattle.lrp_model.specs.declared.faults.QueryKind.TheVariants.{Wide}
use Rattle.lrp_model.specs.declared.raw.RawColumn.{RawColumn}
use Rattle.lrp_model.specs.declared.raw.RawFormula.{RawFormula}
use Rattle.lrp_model.specs.declared.raw.RawKind.{RawKind, Atom, Compare, Member, Not, Group, And, Or, Implies, Exists, Forall, Ranged as RangedKind, Paired as PairedKind, Not', And', Or', Implies', Group', Exists', Forall', Ranged', Paired'}
use Rattle.lrp_model.specs.declared.raw.Ranged.{Ranged}
use Rattle.lrp_model.specs.declared.raw.Paired.{Paired}
use Rattle.lrp_model.proofs.RawViews.{raw_kind-And, raw_kind-Or, raw_kind-Not, raw_kind-Group, raw_kind-Ranged, raw_kind-Paired, raw_kind-Implies, raw_kind-Exists, raw_kind-Forall}
use Rattle.lrp_model.specs.Sooner.{sooner}
use Rattle.lrp_model.proofs.FirstFault.{first_of_both}
use Rattle.lrp_sorts.specs.declared.finding.Finding.{Finding}
use Rattle.lrp_sorts.specs.Scopes.{Around, binders}
use Rattle.lrp_sorts.specs.Widths.{IsTally, IsTallied}
use Rattle.lrp_sorts.specs.declared.width.Tally.{Tally}

-- a formula has the place that it is kept with
pub place_kept : (k : RawKind) (p : Place) → place_of (raw_kind k p) ≡ p
place_kept (Atom n ts) p = refl
place_kept (Compare l op r) p = refl
place_kept (Member t point) p = refl
place_kept (Not' m k q) p = refl
place_kept (And' shape all) p = refl
place_kept (Or' shape all) p = refl
place_kept (Implies' m k q n j r) p = refl
place_kept (Group' m k q) p = refl
place_kept (Exists' c m k q) p = refl
place_kept (Forall' c m k q) p = refl
place_kept (Ranged' word n at from to m k q) p = refl
place_kept (Paired' word n at m k q l j r) p = refl

-- ---- results

-- another spelling of the fault, and of the names
pub fault_then : {E : Type 0} (r : Result Finding E) (a b : Option QueryFault) → a ≡ b → IfOk r (λ made. made.fault ≡ a) → IfOk r (λ made. made.fault ≡ b)
fault_then (Ok x) a b e h = h ∙ e
fault_then (Err x) a b e h = h

-- the same of names
pub free_then : {E : Type 0} (around : Around) (r : Result Finding E) (a b : List Identifier) → a ≡ b → IfOk r (λ made. IsTallied around a made.free) → IfOk r (λ made. IsTallied around b made.free)
free_then around (Ok x) a b e h = subst (λ ns. IsTallied around ns x.free) e h
free_then around (Err x) a b e h = h

-- the same of a tally that is there
pub counted_then : (around : Around) (a b : List Identifier) (t u : Tally) → a ≡ b → u ≡ t → IsTallied around a t → IsTallied around b u
counted_then around a b t u e d h = subst (λ ns. IsTallied around ns u) e (subst (λ v. IsTallied around a v) (sym d) h)

-- a tally within this many quantifiers, which are those of the scope
pub tally_at : (around : Around) (q : ℕ) (names : List Identifier) (t : Tally) → q ≡ length around.quantifiers → IsTally (binders around) q names t → IsTallied around names t
tally_at around q names t e h = subst (λ n. IsTally (binders around) n names t) e h

-- the same the other way round
pub at_tally : (around : Around) (q : ℕ) (names : List Identifier) (t : Tally) → q ≡ length around.quantifiers → IsTallied around names t → IsTally (binders around) q names t
at_tally around q names t e h = subst (λ n. IsTally (binders around) n names t) (sym e) h

-- ---- widths

module _ (db : List Relation) (bs : Binders) where
  -- the fault of a formula with its width
  pub width_shows : (extra : List Identifier) (g : RawFormula) (names : List Identifier) (inside : Option QueryFault)
      → names ≡ free_names (raw_form_of g) → inside ≡ earliest query_standing (form_faults (raw_form_of g) db bs)
      → sooner query_standing (earliest query_standing (fault_if (too_many bs (extra ++ names)) (query_fault Wide g.place))) inside ≡ earliest query_standing (widened bs extra (raw_form_of g) (form_faults (raw_form_of g) db bs))
  width_shows extra g names inside e h =
      ap (λ ns. sooner query_standing (earliest query_standing (fault_if (too_many bs (extra ++ ns)) (query_fault Wide g.place))) inside) e
      ∙ ap (λ p. sooner query_standing (earliest query_standing (fault_if (too_many bs (extra ++ free_names (raw_form_of g))) (query_fault Wide p))) inside) (sym (place_kept g.kind g.place))
      ∙ ap (sooner query_standing (earliest query_standing (fault_if (too_many bs (extra ++ free_names (raw_form_of g))) (query_fault Wide (place_of (raw_form_of g)))))) h
      ∙ sym (first_of_both query_standing (fault_if (too_many bs (extra ++ free_names (raw_form_of g))) (query_fault Wide (place_of (raw_form_of g)))) (form_faults (raw_form_of g) db bs))

  -- ---- the faults of nodes

  -- those of a `not`
  pub not_faults : (f : RawFormula) (b : Box RawFormula Global) → f.kind ≡ Not b
      → earliest query_standing (widened bs [] (raw_form_of b.value) (form_faults (raw_form_of b.value) db bs)) ≡ earliest query_standing (form_faults (raw_form_of f) db bs)
  not_faults f b e = ap (λ g. earliest query_standing (form_faults g db bs)) (sym (ap (λ k. raw_kind k f.place) e ∙ raw_kind-Not b f.place))

  -- of a formula in parentheses
  pub group_faults : (f : RawFormula) (b : Box RawFormula Global) → f.kind ≡ Group b
      → earliest query_standing (widened bs [] (raw_form_of b.value) (form_faults (raw_form_of b.value) db bs)) ≡ earliest query_standing (form_faults (raw_form_of f) db bs)
  group_faults f b e = ap (λ g. earliest query_standing (form_faults g db bs)) (sym (ap (λ k. raw_kind k f.place) e ∙ raw_kind-Group b f.place))

  -- of an operator, which are those of its last formula
  pub ranged_faults : (f : RawFormula) (word : Ranged) (n : Identifier) (at : Place) (from to : ℤ) (b : Box RawFormula Global) → f.kind ≡ RangedKind word n at from to b
      → earliest query_standing (widened bs [] (raw_form_of b.value) (form_faults (raw_form_of b.value) db bs)) ≡ earliest query_standing (form_faults (raw_form_of f) db bs)
  ranged_faults f word n at from to b e = ap (λ g. earliest query_standing (form_faults g db bs)) (sym (ap (λ k. raw_kind k f.place) e ∙ raw_kind-Ranged word n at from to b f.place))

  pub paired_faults : (f : RawFormula) (word : Paired) (n : Identifier) (at : Place) (b d : Box RawFormula Global) → f.kind ≡ PairedKind word n at b d
      → earliest query_standing (widened bs [] (raw_form_of d.value) (form_faults (raw_form_of d.value) db bs)) ≡ earliest query_standing (form_faults (raw_form_of f) db bs)
  paired_faults f word n at b d e = ap (λ g. earliest query_standing (form_faults g db bs)) (sym (ap (λ k. raw_kind k f.place) e ∙ raw_kind-Paired word n at b d f.place))

  -- of an `and`
  pub and_faults : (f : RawFormula) (v : Vec RawFormula Global) → f.kind ≡ And v → earliest query_standing (forms_faults (raw_forms_of v.items) db bs) ≡ earliest query_standing (form_faults (raw_form_of f) db bs)
  and_faults f v e = ap (λ g. earliest query_standing (form_faults g db bs)) (sym (ap (λ k. raw_kind k f.place) e ∙ raw_kind-And v f.place))

  -- of an `or`
  pub or_faults : (f : RawFormula) (v : Vec RawFormula Global) → f.kind ≡ Or v → earliest query_standing (forms_faults (raw_forms_of v.items) db bs) ≡ earliest query_standing (form_faults (raw_form_of f) db bs)
  or_faults f v e = ap (λ g. earliest query_standing (form_faults g db bs)) (sym (ap (λ k. raw_kind k f.place) e ∙ raw_kind-Or v f.place))

  -- of an `implies`
  pub implies_faults : (f : RawFormula) (b d : Box RawFormula Global) → f.kind ≡ Implies b d
      → sooner query_standing (earliest query_standing (widened bs [] (raw_form_of b.value) (form_faults (raw_form_of b.value) db bs))) (earliest query_standing (widened bs [] (raw_form_of d.value) (form_faults (raw_form_of d.value) db bs)))
      ≡ earliest query_standing (form_faults (raw_form_of f) db bs)
  implies_faults f b d e =
      sym (first_of_both query_standing (widened bs [] (raw_form_of b.value) (form_faults (raw_form_of b.value) db bs)) (widened bs [] (raw_form_of d.value) (form_faults (raw_form_of d.value) db bs)))
      ∙ ap (λ g. earliest query_standing (form_faults g db bs)) (sym (ap (λ k. raw_kind k f.place) e ∙ raw_kind-Implies b d f.place))

  -- of an `exists`
  pub exists_faults : (f : RawFormula) (c : RawColumn) (b : Box RawFormula Global) → f.kind ≡ Exists c b
      → sooner query_standing (earliest query_standing (binder_faults db bs c)) (earliest query_standing (widened (c ∷ bs) (c.name ∷ []) (raw_form_of b.value) (form_faults (raw_form_of b.value) db (c ∷ bs))))
      ≡ earliest query_standing (form_faults (raw_form_of f) db bs)
  exists_faults f c b e =
      sym (first_of_both query_standing (binder_faults db bs c) (widened (c ∷ bs) (c.name ∷ []) (raw_form_of b.value) (form_faults (raw_form_of b.value) db (c ∷ bs))))
      ∙ ap (λ g. earliest query_standing (form_faults g db bs)) (sym (ap (λ k. raw_kind k f.place) e ∙ raw_kind-Exists c b f.place))

  -- of a `forall`
  pub forall_faults : (f : RawFormula) (c : RawColumn) (b : Box RawFormula Global) → f.kind ≡ Forall c b
      → sooner query_standing (earliest query_standing (binder_faults db bs c)) (earliest query_standing (widened (c ∷ bs) (c.name ∷ []) (raw_form_of b.value) (form_faults (raw_form_of b.value) db (c ∷ bs))))
      ≡ earliest query_standing (form_faults (raw_form_of f) db bs)
  forall_faults f c b e =
      sym (first_of_both query_standing (binder_faults db bs c) (widened (c ∷ bs) (c.name ∷ []) (raw_form_of b.value) (form_faults (raw_form_of b.value) db (c ∷ bs))))
      ∙ ap (λ g. earliest query_standing (form_faults g db bs)) (sym (ap (λ k. raw_kind k f.place) e ∙ raw_kind-Forall c b f.place))

-- ---- the names of nodes

-- those of a `not`
pub not_names : (f : RawFormula) (b : Box RawFormula Global) → f.kind ≡ Not b → free_names (raw_form_of b.value) ≡ free_names (raw_form_of f)
not_names f b e = ap free_names (sym (ap (λ k. raw_kind k f.place) e ∙ raw_kind-Not b f.place))

-- of a formula in parentheses
pub group_names : (f : RawFormula) (b : Box RawFormula Global) → f.kind ≡ Group b → free_names (raw_form_of b.value) ≡ free_names (raw_form_of f)
group_names f b e = ap free_names (sym (ap (λ k. raw_kind k f.place) e ∙ raw_kind-Group b f.place))

-- of an operator
pub ranged_names : (f : RawFormula) (word : Ranged) (n : Identifier) (at : Place) (from to : ℤ) (b : Box RawFormula Global) → f.kind ≡ RangedKind word n at from to b → free_names (raw_form_of b.value) ≡ free_names (raw_form_of f)
ranged_names f word n at from to b e = ap free_names (sym (ap (λ k. raw_kind k f.place) e ∙ raw_kind-Ranged word n at from to b f.place))

pub paired_names : (f : RawFormula) (word : Paired) (n : Identifier) (at : Place) (b d : Box RawFormula Global) → f.kind ≡ PairedKind word n at b d → free_names (raw_form_of d.value) ≡ free_names (raw_form_of f)
paired_names f word n at b d e = ap free_names (sym (ap (λ k. raw_kind k f.place) e ∙ raw_kind-Paired word n at b d f.place))

-- of an `and`
pub and_names : (f : RawFormula) (v : Vec RawFormula Global) → f.kind ≡ And v → free_names_each (raw_forms_of v.items) ≡ free_names (raw_form_of f)
and_names f v e = ap free_names (sym (ap (λ k. raw_kind k f.place) e ∙ raw_kind-And v f.place))

-- of an `or`
pub or_names : (f : RawFormula) (v : Vec RawFormula Global) → f.kind ≡ Or v → free_names_each (raw_forms_of v.items) ≡ free_names (raw_form_of f)
or_names f v e = ap free_names (sym (ap (λ k. raw_kind k f.place) e ∙ raw_kind-Or v f.place))

-- of an `implies`
pub implies_names : (f : RawFormula) (b d : Box RawFormula Global) → f.kind ≡ Implies b d → free_names (raw_form_of b.value) ++ free_names (raw_form_of d.value) ≡ free_names (raw_form_of f)
implies_names f b d e = ap free_names (sym (ap (λ k. raw_kind k f.place) e ∙ raw_kind-Implies b d f.place))

-- of an `exists`
pub exists_names : (f : RawFormula) (c : RawColumn) (b : Box RawFormula Global) → f.kind ≡ Exists c b → without c.name (free_names (raw_form_of b.value)) ≡ free_names (raw_form_of f)
exists_names f c b e = ap free_names (sym (ap (λ k. raw_kind k f.place) e ∙ raw_kind-Exists c b f.place))

-- of a `forall`
pub forall_names : (f : RawFormula) (c : RawColumn) (b : Box RawFormula Global) → f.kind ≡ Forall c b → without c.name (free_names (raw_form_of b.value)) ≡ free_names (raw_form_of f)
forall_names f c b e = ap free_names (sym (ap (λ k. raw_kind k f.place) e ∙ raw_kind-Forall c b f.place))

-- ---- what the walk has at a node

-- what follows from what an Ok says
pub then_ok : {A E : Type 0} (r : Result A E) (P Q : Type 0) → OnOk r P → (P → Q) → OnOk r Q
then_ok (Ok x) P Q h f = f h
then_ok (Err x) P Q h f = h

-- the same of its value
pub if_ok_then : {A E : Type 0} (r : Result A E) (P Q : A → Type 0) → IfOk r P → ((x : A) → P x → Q x) → IfOk r Q
if_ok_then (Ok x) P Q h f = f x h
if_ok_then (Err x) P Q h f = h

module _ (db : List Relation) where
  -- a member's fault with its width, the member being read through references
  pub shown : (around after : Around) (extra : List Identifier) (v g h : RawFormula) (inside : Option QueryFault)
      → after ≡ around → g ≡ v → h ≡ v → inside ≡ earliest query_standing (form_faults (raw_form_of g) db (binders around))
      → sooner query_standing (earliest query_standing (fault_if (too_many (binders after) (extra ++ free_names (raw_form_of g))) (query_fault Wide h.place))) inside
      ≡ earliest query_standing (widened (binders around) extra (raw_form_of v) (form_faults (raw_form_of v) db (binders around)))
  shown around after extra v g h inside a e k f =
      ap (λ x. sooner query_standing (earliest query_standing (fault_if (too_many (binders x) (extra ++ free_names (raw_form_of g))) (query_fault Wide h.place))) inside) a
      ∙ ap (λ x. sooner query_standing (earliest query_standing (fault_if (too_many (binders around) (extra ++ free_names (raw_form_of g))) (query_fault Wide x.place))) inside) k
      ∙ width_shows db (binders around) extra v (free_names (raw_form_of g)) inside (ap (λ x. free_names (raw_form_of x)) e) (f ∙ ap (λ x. earliest query_standing (form_faults (raw_form_of x) db (binders around))) e)

  -- the same one quantifier further in, with the faults of the quantifier's binder
  pub shown_bound : (around within after : Around) (c : RawColumn) (own : Option QueryFault) (v g h : RawFormula) (inside : Option QueryFault)
      → within ≡ record around { quantifiers = c ∷ around.quantifiers } → after ≡ within → own ≡ earliest query_standing (binder_faults db (binders around) c)
      → g ≡ v → h ≡ v → inside ≡ earliest query_standing (form_faults (raw_form_of g) db (binders within))
      → sooner query_standing own (sooner query_standing (earliest query_standing (fault_if (too_many (binders after) (c.name ∷ free_names (raw_form_of g))) (query_fault Wide h.place))) inside)
      ≡ sooner query_standing (earliest query_standing (binder_faults db (binders around) c)) (earliest query_standing (widened (c ∷ binders around) (c.name ∷ []) (raw_form_of v) (form_faults (raw_form_of v) db (c ∷ binders around))))
  shown_bound around within after c own v g h inside w a o e k f =
      ap (λ x. sooner query_standing x (sooner query_standing (earliest query_standing (fault_if (too_many (binders after) (c.name ∷ free_names (raw_form_of g))) (query_fault Wide h.place))) inside)) o
      ∙ ap (sooner query_standing (earliest query_standing (binder_faults db (binders around) c))) (shown within after (c.name ∷ []) v g h inside a e k f)
      ∙ ap (λ x. sooner query_standing (earliest query_standing (binder_faults db (binders around) c)) (earliest query_standing (widened (binders x) (c.name ∷ []) (raw_form_of v) (form_faults (raw_form_of v) db (binders x))))) w

-- ---- the members of a list, one after the other

-- the faults of two lists of members
forms_faults-append : (db : List Relation) (bs : Binders) (fs gs : List RawFormula) → forms_faults (raw_forms_of (fs ++ gs)) db bs ≡ forms_faults (raw_forms_of fs) db bs ++ forms_faults (raw_forms_of gs) db bs
forms_faults-append db bs [] gs = refl
forms_faults-append db bs (f ∷ fs) gs =
    let own = widened bs [] (raw_form_of f) (form_faults (raw_form_of f) db bs) in
    ap (λ l. own ++ l) (forms_faults-append db bs fs gs) ∙ sym (append_assoc own (forms_faults (raw_forms_of fs) db bs) (forms_faults (raw_forms_of gs) db bs))

-- the names of two lists of members
names_each-append : (fs gs : List RawFormula) → free_names_each (raw_forms_of (fs ++ gs)) ≡ free_names_each (raw_forms_of fs) ++ free_names_each (raw_forms_of gs)
names_each-append [] gs = refl
names_each-append (f ∷ fs) gs = ap (λ l. free_names (raw_form_of f) ++ l) (names_each-append fs gs) ∙ sym (append_assoc (free_names (raw_form_of f)) (free_names_each (raw_forms_of fs)) (free_names_each (raw_forms_of gs)))

-- one member more
pub one_member_faults : (db : List Relation) (bs : Binders) (fs : List RawFormula) (i : ℕ) (f : RawFormula) → i < length fs → f ≡ get_or fs i f
    → sooner query_standing (earliest query_standing (forms_faults (raw_forms_of (take i fs)) db bs)) (earliest query_standing (widened bs [] (raw_form_of f) (form_faults (raw_form_of f) db bs))) ≡ earliest query_standing (forms_faults (raw_forms_of (take (i + 1) fs)) db bs)
one_member_faults db bs fs i f lt is =
    let own = widened bs [] (raw_form_of f) (form_faults (raw_form_of f) db bs) in
    sym (first_of_both query_standing (forms_faults (raw_forms_of (take i fs)) db bs) own)
    ∙ ap (λ l. earliest query_standing (forms_faults (raw_forms_of (take i fs)) db bs ++ l)) (sym (append-nil own))
    ∙ ap (earliest query_standing) (sym (forms_faults-append db bs (take i fs) (f ∷ [])))
    ∙ ap (λ x. earliest query_standing (forms_faults (raw_forms_of (take i fs ++ x ∷ [])) db bs)) is
    ∙ ap (λ l. earliest query_standing (forms_faults (raw_forms_of l) db bs)) (sym (take_more fs i f lt))

-- the same of names
pub one_member_names : (fs : List RawFormula) (i : ℕ) (f : RawFormula) → i < length fs → f ≡ get_or fs i f
    → free_names_each (raw_forms_of (take i fs)) ++ free_names (raw_form_of f) ≡ free_names_each (raw_forms_of (take (i + 1) fs))
one_member_names fs i f lt is =
    ap (λ l. free_names_each (raw_forms_of (take i fs)) ++ l) (sym (append-nil (free_names (raw_form_of f))))
    ∙ sym (names_each-append (take i fs) (f ∷ []))
    ∙ ap (λ x. free_names_each (raw_forms_of (take i fs ++ x ∷ []))) is
    ∙ ap (λ l. free_names_each (raw_forms_of l)) (sym (take_more fs i f lt))
