-- An atom has a term for each column of its relation.
use Rattle.std.proofs.Common.{◌≡◌, false, List, length, Contains, Option, Some, None, sym, ap, subst, ◌∙◌}
use Rattle.std.specs.Prelude.{slice_get, MatchOption}
use Rattle.slab.specs.Slab.{get}
use Rattle.lrp_model.specs.Formulas.{Form, Question}
use Rattle.lrp_model.specs.Rows.{relation_named}
use Rattle.lrp_model.specs.Texts.{AreDistinct}
use Rattle.lrp_model.specs.declared.relations.Column.{Column}
use Rattle.lrp_model.specs.declared.relations.Relation.{Relation}
use Rattle.lrp_plan_laws.specs.Atoms.{Atom, atoms, atoms_each}
use Rattle.lrp_plan_laws.proofs.Members.{all_of}
use Rattle.lrp_kept.specs.Choices.{listed_disjuncts}
use Rattle.lrp_kept.specs.Disjuncts.{AreDisjunctsOf, IsAtomOf, IsDisjunctOf}
use Rattle.lrp_kept.specs.Held.{names_of, held_relation, relations_of}
use Rattle.lrp_kept.specs.KeptForm.{kept_elements, is_neither, some_passes}
use Rattle.lrp_kept.specs.SortedForms.{IsSortedAtom, IsSortedForm, binders_at}
use Rattle.lrp_kept.specs.declared.disjuncts.Disjunct.{Disjunct}
use Rattle.lrp_kept.specs.declared.disjuncts.JoinedAtom.{JoinedAtom}
use Rattle.lrp_kept.specs.declared.rows.HeldRelation.{HeldRelation}
use Rattle.lrp_kept.specs.declared.rows.HeldRows.{HeldRows}
use Rattle.lrp_kept.proofs.DisjunctAtoms.{IsSorted, atoms_are, sorted_atoms, sorted_elements}
use Rattle.lrp_parts.proofs.KeyedRows.{found_at}
use Rattle.lrp_keep.proofs.Lists.{at_mapped, zip_of}
use Rattle.lrp_holdings.proofs.Chained.{some_is}

sorted_count : (bs : List Column) (a : Atom) (o : Option Relation) (r : Relation) → MatchOption o ⊥ (IsSortedAtom bs a.terms) → o ≡ Some r → length a.terms ≡ length r.columns
sorted_count bs a None r h e = absurd h
sorted_count bs a (Some s) r h e = h.count ∙ ap (λ (x : Relation). length x.columns) (some_is s r e)

module _ (db : List Relation) (f : Form) (bs : List Column) (sorted : IsSortedForm f db bs) (literal : some_passes is_neither (kept_elements f) ≡ false) where
  -- an atom of the formula
  pub atom_count : (a : Atom) (r : Relation) → Contains (atoms f) a → relation_named db a.name ≡ Some r → length a.terms ≡ length r.columns
  atom_count a r c e =
      let all = sorted_atoms (kept_elements f) db (binders_at f bs) literal (sorted_elements f db bs sorted) in
      sorted_count (binders_at f bs) a (relation_named db a.name) r (all_of (IsSorted db (binders_at f bs)) (atoms_each (kept_elements f)) a all (subst (λ l. Contains l a) (atoms_are f) c)) e

-- an atom of a disjunct of the query
pub joined_count : (rows : HeldRows) (q : Question) (ds : List Disjunct) (bs : List Column) → AreDisjunctsOf (names_of rows) q ds → AreDistinct (names_of rows) → ((f : Form) → Contains (listed_disjuncts q) f → IsSortedForm f (relations_of (get rows.sources) rows.relations.items) bs)
    → ((f : Form) → Contains (listed_disjuncts q) f → some_passes is_neither (kept_elements f) ≡ false) → (d : Disjunct) (a : JoinedAtom) (h : HeldRelation) → Contains ds d → Contains d.atoms.items a → slice_get rows.relations.items a.relation ≡ Some h → length a.terms ≡ length h.columns
joined_count rows q ds bs are distinct sorted literal d a h listed own at =
    let z = zip_of (IsDisjunctOf (names_of rows)) (listed_disjuncts q) ds d are.each listed in
    let w = zip_of (IsAtomOf (names_of rows)) (atoms z.0) d.atoms.items a z.2.atoms_are own in
    let m = at_mapped (λ (r : HeldRelation). r.name) rows.relations.items a.relation w.0.name w.2.name in
    let same : m.0 ≡ h = some_is m.0 h (sym m.1 ∙ at) in
    let named : h.name ≡ w.0.name = ap (λ (r : HeldRelation). r.name) (sym same) ∙ m.2 in
    let found = found_at (get rows.sources) rows.relations.items a.relation h distinct at in
    ap length w.2.terms ∙ atom_count (relations_of (get rows.sources) rows.relations.items) z.0 bs (sorted z.0 z.1) (literal z.0 z.1) w.0 (held_relation (get rows.sources) h) w.1 (ap (relation_named (relations_of (get rows.sources) rows.relations.items)) (sym named) ∙ found)
