-- Relations by name and by number: what calls ask of a keeper.
use Rattle.std.proofs.Common.{◌≡◌, ℕ, true, false, Bool, List, [], ◌∷◌, map, Contains, Option, Some, None, refl, sym, ap, subst, ◌∙◌, bytes_eq}
use Rattle.std.specs.Prelude.{if◌then◌else◌, reverse, slice_get, MatchOption}
use Rattle.std.specs.List.{AllByRecursion}
use Rattle.std.specs.Cmp.Lexicographic.{bytes_decides}
use Rattle.slab.specs.Slab.{get}
use Rattle.lrp_model.specs.DatabaseMeaning.{column_of}
use Rattle.lrp_model.specs.Formulas.{Question}
use Rattle.lrp_model.specs.Rows.{relation_named}
use Rattle.lrp_model.specs.Texts.{Identifier, Text}
use Rattle.lrp_model.specs.declared.relations.Column.{Column}
use Rattle.lrp_model.specs.declared.relations.Relation.{Relation}
use Rattle.lrp_model.specs.declared.relations.Row.{Row}
use Rattle.lrp_model.proofs.Decided.{contains_first, contains_later}
use Rattle.lrp_plan_laws.specs.Atoms.{Atom, atoms, atoms_each}
use Rattle.lrp_plan_laws.proofs.Members.{all_by, all_of}
use Rattle.lrp_kept.specs.Choices.{listed_disjuncts}
use Rattle.lrp_kept.specs.Drafts.{CanBeJoinedUp}
use Rattle.lrp_kept.specs.Held.{names_of, held_relation}
use Rattle.lrp_kept.specs.KeptForm.{kept_elements}
use Rattle.lrp_kept.specs.SortedForms.{IsSortedAtom, IsSortedForm, binders_at}
use Rattle.lrp_kept.specs.declared.rows.HeldRelation.{HeldRelation}
use Rattle.lrp_kept.proofs.DisjunctAtoms.{IsSorted, atoms_are, sorted_atoms, sorted_elements}
use Rattle.lrp_kept.proofs.SortedForms.{disjuncts_sorted}
use Rattle.lrp_keep.specs.Keeps.{CanBeAdded, CanBeHeld, CanBeKept}
use Rattle.lrp_keep.specs.States.{CanBeAddedAt, IsKeeper, keeper_view}
use Rattle.lrp_keep.specs.declared.kept_query.KeptQuery.{KeptQuery}
use Rattle.lrp_keep.specs.declared.states.State.{State}
use Rattle.lrp_keep.proofs.Adding.{names_in}
use Rattle.lrp_keep.proofs.KeptParts.{conjunctive_of, literal_in}
use Rattle.lrp_keep.proofs.Lists.{at_mapped, one_place}
use Rattle.lrp_store.proofs.Held.{Contains-from_get}
use Rattle.lrp_tables.proofs.Joining.{place_in}
use Rattle.lrp_steps.proofs.Steps.{mapped_get}

-- the name of a relation that is found is one of the names
pub found_name : (db : List Relation) (name : Identifier) (r : Relation) → relation_named db name ≡ Some r → Contains (map (λ (r : Relation). r.name) db) name
found_name [] name r e = cc
found_name (x ∷ db) name r e = by (bytes_eq x.name name) refl e (λ f. found_name db name r f)
  where
    by : (b : Bool) → bytes_eq x.name name ≡ b → (if b then Some x else relation_named db name) ≡ Some r → (relation_named db name ≡ Some r → Contains (map (λ (r : Relation). r.name) db) name) → Contains (x.name ∷ map (λ (r : Relation). r.name) db) name
    by true t f rest = subst (λ n. Contains (x.name ∷ map (λ (r : Relation). r.name) db) n) ((bytes_decides x.name name).0 t) (contains_first x.name (map (λ (r : Relation). r.name) db))
    by false t f rest = contains_later x.name name (map (λ (r : Relation). r.name) db) (rest f)

sorted_name : (db : List Relation) (bs : List Column) (a : Atom) (o : Option Relation) → relation_named db a.name ≡ o → MatchOption o ⊥ (IsSortedAtom bs a.terms) → Contains (map (λ (r : Relation). r.name) db) a.name
sorted_name db bs a None e h = absurd h
sorted_name db bs a (Some r) e h = found_name db a.name r e

-- the disjuncts of a query that can be kept name relations of its database
pub can_join : (db : List Relation) (q : Question) (domain : List Text) (names : List Identifier) → CanBeKept q db domain → names ≡ map (λ (r : Relation). r.name) db → AllByRecursion (CanBeJoinedUp names) (listed_disjuncts q)
can_join db q domain names can same = all_by (CanBeJoinedUp names) (listed_disjuncts q) (λ f c.
    let bs = map column_of (reverse can.query.raw.head) in
    let whole = conjunctive_of q can.kept f c in
    let sorted : IsSortedForm f db bs = disjuncts_sorted db can.query.raw can.query.sorted f (subst (λ p. Contains (listed_disjuncts p) f) can.query.is c) in
    let each = sorted_atoms (kept_elements f) db (binders_at f bs) (literal_in f whole) (sorted_elements f db bs sorted) in
    record {
      conjunctive = whole;
      named = all_by (λ a. Contains names a.name) (atoms f) (λ a i. subst (λ ns. Contains ns a.name) (sym same)
          (sorted_name db (binders_at f bs) a (relation_named db a.name) refl (all_of (IsSorted db (binders_at f bs)) (atoms_each (kept_elements f)) a each (subst (λ l. Contains l a) (atoms_are f) i))));
    })

-- ---- a relation of a keeper

pub known_name : (of : KeptQuery) (s : State) (name : Identifier) (row : Row) → CanBeAdded (keeper_view of s) name row → Contains (names_of s.rows) name
known_name of s name row can =
    let p = place_in (keeper_view of s).relations can.relation can.is.listed in
    let at = mapped_get (λ (r : Relation). r.name) (keeper_view of s).relations p.0 can.relation p.1 in
    subst (λ n. Contains (names_of s.rows) n) can.is.named (subst (λ ns. Contains ns can.relation.name) (names_in (get s.rows.sources) s.rows.relations.items) (Contains-from_get (map (λ (r : Relation). r.name) (keeper_view of s).relations) p.0 can.relation.name at))

-- the relation of the number has the name
pub held_named : (s : State) (number : ℕ) (name : Identifier) → slice_get (names_of s.rows) number ≡ Some name → (h : HeldRelation) × (slice_get s.rows.relations.items number ≡ Some h) × (h.name ≡ name)
held_named s number name at = at_mapped (λ (h : HeldRelation). h.name) s.rows.relations.items number name at

pub can_be_added_at : (of : KeptQuery) (s : State) (number : ℕ) (name : Identifier) (row : Row) → IsKeeper of s → CanBeAdded (keeper_view of s) name row → slice_get (names_of s.rows) number ≡ Some name → CanBeAddedAt of s number row
can_be_added_at of s number name row keeper can at =
    let p = place_in (keeper_view of s).relations can.relation can.is.listed in
    let m = at_mapped (held_relation (get s.rows.sources)) s.rows.relations.items p.0 can.relation p.1 in
    let same : m.0.name ≡ name = ap (λ (r : Relation). r.name) m.2 ∙ can.is.named in
    let here : p.0 ≡ number = one_place (names_of s.rows) p.0 number name keeper.keeping.distinct (mapped_get (λ (h : HeldRelation). h.name) s.rows.relations.items p.0 m.0 m.1 ∙ ap (λ n. Some n) same) at in
    record {
      held = m.0;
      at = ap (slice_get s.rows.relations.items) (sym here) ∙ m.1;
      row_fits = subst (λ cs. CanBeHeld of.domain cs row) (sym (ap (λ (r : Relation). r.columns) m.2)) can.row_fits;
    }
