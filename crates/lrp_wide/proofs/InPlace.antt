-- A formula of the query's own text, written out where it stands.
use Rattle.std.proofs.Common.{◌≡◌, ◌+◌, ◌<◌, ◌≤◌, ℕ, Option, Some, None, List, [], ◌∷◌, ◌++◌, Box, Vec, Global, map, length, take, drop, get_or, set, refl, ap, ap₂, subst, sym, ◌∙◌, arith}
use Rattle.std.specs.List.{AllByRecursion}
use Rattle.std.proofs.lemmas.List.{map-set, take_all, drop_all, append-nil, length-map, get_or-map}
use Rattle.std.proofs.lemmas.List.Edits.{map_over_more}
use Rattle.lrp_model.specs.RawQueries.{RawFileView, RawForm, RawForms, raw_form_of, raw_forms_of, raw_atom, raw_compare, raw_member, raw_not, raw_and, raw_or, raw_implies, raw_group, raw_exists, raw_forall, no_raws, raw}
use Rattle.lrp_model.specs.Rows.{columns_in, relation_named}
use Rattle.lrp_model.specs.Texts.{Identifier}
use Rattle.lrp_model.specs.declared.formulas.Op.{Op}
use Rattle.lrp_model.specs.declared.raw.RawColumn.{RawColumn}
use Rattle.lrp_model.specs.declared.raw.RawFormula.{RawFormula}
use Rattle.lrp_model.specs.declared.raw.RawKind.{And, Atom, Compare, Exists, Forall, Group, Implies, Member, Not, Or}
use Rattle.lrp_model.specs.declared.raw.RawTerm.{RawTerm}
use Rattle.lrp_model.specs.declared.relations.Column.{Column}
use Rattle.lrp_model.specs.declared.relations.Relation.{Relation}
use Rattle.lrp_model.specs.declared.relations.RowPoint.{RowPoint}
use Rattle.lrp_model.specs.declared.tokens.Place.{Place}
use Rattle.lrp_wide.specs.Inlining.{Known, UseSetting, inlined_atom, meant_by, own_setting, set_column, set_term, some_each}
use Rattle.lrp_wide.specs.Inside.{AreWrittenIn, IsAround, IsMeant, IsUsed, IsWrittenIn, each_inlined_here, inlined_here, known_by, met_form}
use Rattle.lrp_wide.specs.Narrow.{HasNoStar}
use Rattle.lrp_wide.specs.Settings.{name_under, number_under, place_in, setting_of}
use Rattle.lrp_wide.specs.declared.atoms.Met.{Met}
use Rattle.lrp_wide.specs.declared.inlining.Named.{Named}
use Rattle.lrp_wide.specs.declared.inlining.Scene.{Scene}
use Rattle.lrp_wide.specs.declared.uses.Use.{Use}
use Rattle.lrp_wide.proofs.InlineAtoms.{atom-used}
use Rattle.lrp_wide.proofs.InlineNodes.{atom_node, compare_node, member_node}
use Rattle.lrp_wide.proofs.InlineSteps.{and_step, atom_step, compare_step, exists_step, forall_step, group_step, implies_step, member_step, not_step, or_step}
use Rattle.lrp_wide.proofs.NarrowTexts.{no_columns, no_terms, own_term}

-- ---- several formulas

abbrev listed : List RawForm → RawForms
listed [] = no_raws
listed (f ∷ fs) = raw f (listed fs)

listed_is : (fs : List RawFormula) → listed (map raw_form_of fs) ≡ raw_forms_of fs
listed_is [] = refl
listed_is (f ∷ fs) = ap (raw (raw_form_of f)) (listed_is fs)

listed_inlined : (s : Scene) (file : RawFileView) (fs : List RawForm) → listed (map (inlined_here s file) fs) ≡ each_inlined_here s file (listed fs)
listed_inlined s file [] = refl
listed_inlined s file (f ∷ fs) = ap (raw (inlined_here s file f)) (listed_inlined s file fs)

-- those up to this one are written out, and the others are as they were
abbrev pub AreWrittenTo : Scene → List RawFormula → ℕ → List RawFormula → Type 0
AreWrittenTo s fs i gs = (file : RawFileView) → IsAround s file → map raw_form_of gs ≡ map (inlined_here s file) (take i (map raw_form_of fs)) ++ drop i (map raw_form_of fs)

pub written_more : (s : Scene) (fs gs : List RawFormula) (i : ℕ) (f g : RawFormula) → i < length fs → length gs ≡ length fs → AreWrittenTo s fs i gs → f ≡ get_or gs i f → IsWrittenIn s (raw_form_of f) (raw_form_of g) → AreWrittenTo s fs (i + 1) (set gs i g)
written_more s fs gs i f g lt size h is k = λ file around.
    let short : i < length (map raw_form_of fs) = rw (length-map fs raw_form_of) lt in
    let there : i < length gs = rw size lt in
    let seen : raw_form_of f ≡ get_or (map raw_form_of gs) i (raw_form_of f) = ap raw_form_of is ∙ sym (get_or-map raw_form_of gs i f (raw_form_of f) there) in
    map-set raw_form_of gs i g ∙ ap (λ x. set (map raw_form_of gs) i x) (k.is file around)
    ∙ map_over_more (inlined_here s file) (map raw_form_of fs) (map raw_form_of gs) i (raw_form_of f) short (h file around) seen

pub written_all : (s : Scene) (fs gs : List RawFormula) → AreWrittenTo s fs (length fs) gs → AreWrittenIn s (raw_forms_of fs) (raw_forms_of gs)
written_all s fs gs h = record {
  are = λ file around.
      let all : List RawForm = map raw_form_of fs in
      let size : length (map raw_form_of fs) ≡ length fs = length-map fs raw_form_of in
      let few : length (map raw_form_of fs) ≤ length fs = omega (arith, size) in
      let whole : map raw_form_of gs ≡ map (inlined_here s file) (map raw_form_of fs) =
      h file around ∙ ap₂ (λ a b. map (inlined_here s file) a ++ b) (take_all (length fs) all few) (drop_all (length fs) all few) ∙ append-nil (map (inlined_here s file) all) in
      sym (listed_is gs) ∙ ap listed whole ∙ listed_inlined s file (map raw_form_of fs) ∙ ap (each_inlined_here s file) (listed_is fs);
}

-- ---- nodes

module _ (s : Scene) (own : s.setting.used ≡ None) where
  own_place : (p : Place) → p ≡ (setting_of s.setting).place p
  own_place p = sym (ap (λ u. place_in u p) own)

  own_is : setting_of s.setting ≡ own_setting (number_under s.setting.first s.setting.numbers)
  own_is =
      let as_setting : Option Use → UseSetting = λ u. record { name = name_under u; place = place_in u; number = number_under s.setting.first s.setting.numbers } in
      ap as_setting own

  term_stays : (t : RawTerm) → t ≡ set_term (setting_of s.setting) t
  term_stays t = sym (ap (λ u. set_term u t) own_is ∙ own_term [] (number_under s.setting.first s.setting.numbers) t)

  terms_stay : (ts : List RawTerm) → ts ≡ map (set_term (setting_of s.setting)) ts
  terms_stay [] = refl
  terms_stay (t ∷ ts) = ap₂ (λ x xs. x ∷ xs) (term_stays t) (terms_stay ts)

  column_stays : (c : RawColumn) → c ≡ set_column (setting_of s.setting) c
  column_stays c = sym (ap (λ u. set_column u c) own_is)

  module _ (f : RawFormula) where
    pub not_written : (b : Box RawFormula Global) (x : RawForm) → f.kind ≡ Not b → IsWrittenIn s (raw_form_of b.value) x → IsWrittenIn s (raw_form_of f) (raw_not f.place x)
    not_written b x e h = record { is = λ file around. not_step s f file f.place (own_place f.place) (raw_not f.place x) b.value b e refl (ap (raw_not f.place) (h.is file around)) }

    pub group_written : (b : Box RawFormula Global) (x : RawForm) → f.kind ≡ Group b → IsWrittenIn s (raw_form_of b.value) x → IsWrittenIn s (raw_form_of f) (raw_group f.place x)
    group_written b x e h = record { is = λ file around. group_step s f file f.place (own_place f.place) (raw_group f.place x) b.value b e refl (ap (raw_group f.place) (h.is file around)) }

    pub exists_written : (c : RawColumn) (b : Box RawFormula Global) (x : RawForm) → f.kind ≡ Exists c b → IsWrittenIn s (raw_form_of b.value) x → IsWrittenIn s (raw_form_of f) (raw_exists f.place c x)
    exists_written c b x e h = record {
      is = λ file around. exists_step s f file f.place (own_place f.place) (raw_exists f.place c x) c b.value b e refl (ap₂ (raw_exists f.place) (column_stays c) (h.is file around));
    }

    pub forall_written : (c : RawColumn) (b : Box RawFormula Global) (x : RawForm) → f.kind ≡ Forall c b → IsWrittenIn s (raw_form_of b.value) x → IsWrittenIn s (raw_form_of f) (raw_forall f.place c x)
    forall_written c b x e h = record {
      is = λ file around. forall_step s f file f.place (own_place f.place) (raw_forall f.place c x) c b.value b e refl (ap₂ (raw_forall f.place) (column_stays c) (h.is file around));
    }

    pub and_written : (v : Vec RawFormula Global) (xs : RawForms) → f.kind ≡ And v → AreWrittenIn s (raw_forms_of v.items) xs → IsWrittenIn s (raw_form_of f) (raw_and f.place xs)
    and_written v xs e h = record { is = λ file around. and_step s f file f.place (own_place f.place) (raw_and f.place xs) v.items v e refl (ap (raw_and f.place) (h.are file around)) }

    pub or_written : (v : Vec RawFormula Global) (xs : RawForms) → f.kind ≡ Or v → AreWrittenIn s (raw_forms_of v.items) xs → IsWrittenIn s (raw_form_of f) (raw_or f.place xs)
    or_written v xs e h = record { is = λ file around. or_step s f file f.place (own_place f.place) (raw_or f.place xs) v.items v e refl (ap (raw_or f.place) (h.are file around)) }

    pub implies_written : (a b : Box RawFormula Global) (x y : RawForm) → f.kind ≡ Implies a b → IsWrittenIn s (raw_form_of a.value) x → IsWrittenIn s (raw_form_of b.value) y → IsWrittenIn s (raw_form_of f) (raw_implies f.place x y)
    implies_written a b x y e h k = record {
      is = λ file around. implies_step s f file f.place (own_place f.place) (raw_implies f.place x y) a.value b.value a b e refl refl (ap₂ (raw_implies f.place) (h.is file around) (k.is file around));
    }

  pub compare_stays : (f : RawFormula) (op : Op) (l r : RawTerm) → f.kind ≡ Compare op l r → IsWrittenIn s (raw_form_of f) (raw_form_of f)
  compare_stays f op l r e = record {
    is = λ file around. compare_step s f file f.place (own_place f.place) (raw_form_of f) op l r e (compare_node f op l r e ∙ ap₂ (λ x y. raw_compare f.place x op y) (term_stays l) (term_stays r));
  }

  pub member_stays : (f : RawFormula) (t : RawTerm) (point : RowPoint) → f.kind ≡ Member t point → IsWrittenIn s (raw_form_of f) (raw_form_of f)
  member_stays f t point e = record {
    is = λ file around. member_step s f file f.place (own_place f.place) (raw_form_of f) t point e (member_node f t point e ∙ ap (λ x. raw_member f.place x point) (term_stays t));
  }

  -- an atom of a relation without a `*`
  pub atom_stays : (f : RawFormula) (n : Identifier) (ts : List RawTerm) → f.kind ≡ Atom n ts → AllByRecursion HasNoStar ts → ((file : RawFileView) → IsAround s file → meant_by s.catalog.now (known_by s file) n ≡ None)
      → IsWrittenIn s (raw_form_of f) (raw_form_of f)
  atom_stays f n ts e none alone = record {
    is = λ file around.
        let db : List Relation = s.catalog.now in
        let cs : List Column = columns_in (relation_named db n) in
        let u : UseSetting = setting_of s.setting in
        let atom : List RawTerm → RawForm = λ l. raw_atom f.place n l in
        let form : Option Known → RawForm = inlined_atom u f.place (u.number f.place) n cs ts in
        atom_step s f file f.place (own_place f.place) (raw_form_of f) n ts ts f.place (u.number f.place) e refl refl refl
        (atom_node f n ts e ∙ ap atom (terms_stay ts) ∙ sym (ap₂ (λ x y. some_each f.place x (raw_atom f.place n y)) (no_columns f.place (u.number f.place) cs ts none) (no_terms u f.place (u.number f.place) cs ts none))
        ∙ sym (ap form (alone file around)));
  }

  -- an atom of the own text as it is met
  module _ (f : RawFormula) (n : Identifier) (ts : List RawTerm) (e : f.kind ≡ Atom n ts) (met : Met) (at : met.place ≡ f.place) (named : met.name.now ≡ n) (given : met.terms.now ≡ ts)
      (number : met.number ≡ (setting_of s.setting).number f.place) (made : RawForm) where
    met_written : ((file : RawFileView) → IsAround s file → made ≡ met_form s file met) → IsWrittenIn s (raw_form_of f) made
    met_written h = record {
      is = λ file around.
          let db : List Relation = s.catalog.now in
          let form : Identifier → RawForm = λ m. inlined_atom (setting_of s.setting) met.place met.number m (columns_in (relation_named db m)) met.terms.now (meant_by db (known_by s file) m) in
          atom_step s f file f.place (own_place f.place) made n ts met.terms.now met.place met.number e at number given (h file around ∙ ap form named);
    }

    -- a use of a definition
    pub use_written : (d : Named) → IsMeant s n (Some d) → ((file : RawFileView) → IsAround s file → IsUsed s file met d.number made) → IsWrittenIn s (raw_form_of f) made
    use_written d meant h =
        let m : IsMeant s met.name.now (Some d) = subst (λ x. IsMeant s x (Some d)) (sym named) meant in
        met_written (λ file around. atom-used s d file met made m.named around (m.meaning file around) (h file around))

    -- an atom of a relation
    pub star_written : IsMeant s n None → made ≡ inlined_atom (setting_of s.setting) met.place met.number met.name.now (columns_in (relation_named s.catalog.now met.name.now)) met.terms.now None → IsWrittenIn s (raw_form_of f) made
    star_written meant h =
        let m : IsMeant s met.name.now None = subst (λ x. IsMeant s x None) (sym named) meant in
        let cs : List Column = columns_in (relation_named s.catalog.now met.name.now) in
        met_written (λ file around. h ∙ ap (inlined_atom (setting_of s.setting) met.place met.number met.name.now cs met.terms.now) (sym (m.meaning file around)))
