-- A database one of whose relations has other rows: the same columns, and no further constants than those of the rows.
use Rattle.std.proofs.Common.{◌≡◌, ◌<◌, Bool, true, false, List, [], ◌∷◌, ◌++◌, map, flat_map, option_map, Contains, Option, Some, None, inl, inr, refl, sym, ap, ap₂, subst, ◌∙◌, bytes_eq, arith}
use Rattle.std.specs.Prelude.{if◌then◌else◌}
use Rattle.std.specs.List.{AllByRecursion, AllZip}
use Rattle.std.specs.Cmp.Lexicographic.{bytes_decides}
use Rattle.lrp_model.specs.Domains.{all_texts, constants, database_texts, form_texts, forms_texts, row_texts, term_texts}
use Rattle.lrp_model.specs.Formulas.{Form, Forms, Question, atom, test, sorted, negation, conjunction, disjunction, implication, exists, forall, no_forms, form}
use Rattle.lrp_model.specs.Rows.{columns_in, relation_named}
use Rattle.lrp_model.specs.Texts.{Identifier, Text}
use Rattle.lrp_model.specs.declared.relations.Column.{Column}
use Rattle.lrp_model.specs.declared.relations.Relation.{Relation}
use Rattle.lrp_model.specs.declared.relations.Row.{Row}
use Rattle.lrp_model.specs.declared.relations.Sort.{Sort}
use Rattle.lrp_model.specs.declared.relations.Value.{Value}
use Rattle.lrp_model.specs.declared.relations.Value.TheVariants.{Point, Const}
use Rattle.lrp_model.proofs.Decided.{cons_cases, contains_first, contains_later}
use Rattle.lrp_model.proofs.DomainLaws.{contains_in_order}
use Rattle.lrp_model.proofs.Logic.{all_append}
use Rattle.lrp_plan_laws.proofs.CoreLaws.{own_name}
use Rattle.lrp_plan_laws.proofs.Members.{all_by, all_of, in_one, in_right}
use Rattle.lrp_kept.specs.SortedForms.{HaveColumnsOf}
use Rattle.lrp_keep.specs.Keeps.{CanBeHeld, CanStandAlone}
use Rattle.lrp_keep.specs.Replaced.{replaced, with_rows}

-- ---- the relation of a name

module _ (rows : List Row) (name : Identifier) where
  abbrev changed : Relation → Relation
  changed r = with_rows rows name r

  pub keeps_name : (r : Relation) → (changed r).name ≡ r.name
  keeps_name r = by (bytes_eq r.name name)
    where
      by : (b : Bool) → (if b then record { name = r.name; columns = r.columns; rows = rows } else r).name ≡ r.name
      by true = refl
      by false = refl

  pub keeps_columns : (r : Relation) → (changed r).columns ≡ r.columns
  keeps_columns r = by (bytes_eq r.name name)
    where
      by : (b : Bool) → (if b then record { name = r.name; columns = r.columns; rows = rows } else r).columns ≡ r.columns
      by true = refl
      by false = refl

  pub changed_rows : (r : Relation) → r.name ≡ name → (changed r).rows ≡ rows
  changed_rows r e = by (bytes_eq r.name name) (ap (λ n. bytes_eq r.name n) (sym e) ∙ own_name r.name)
    where
      by : (b : Bool) → b ≡ true → (if b then record { name = r.name; columns = r.columns; rows = rows } else r).rows ≡ rows
      by true t = refl
      by false t = cc

  pub found_changed : (db : List Relation) (n : Identifier) → relation_named (replaced db name rows) n ≡ option_map changed (relation_named db n)
  found_changed [] n = refl
  found_changed (r ∷ db) n = subst (λ m. (if bytes_eq m n then Some (changed r) else relation_named (replaced db name rows) n) ≡ option_map changed (if bytes_eq r.name n then Some r else relation_named db n)) (sym (keeps_name r)) (by (bytes_eq r.name n) (found_changed db n))
    where
      by : (b : Bool) → relation_named (replaced db name rows) n ≡ option_map changed (relation_named db n) → (if b then Some (changed r) else relation_named (replaced db name rows) n) ≡ option_map changed (if b then Some r else relation_named db n)
      by true e = refl
      by false e = e

  pub columns_stay : (db : List Relation) (n : Identifier) → columns_in (relation_named (replaced db name rows) n) ≡ columns_in (relation_named db n)
  columns_stay db n = ap columns_in (found_changed db n) ∙ by (relation_named db n)
    where
      by : (o : Option Relation) → columns_in (option_map changed o) ≡ columns_in o
      by None = refl
      by (Some r) = keeps_columns r

  pub have_still : (db other : List Relation) → HaveColumnsOf db other → HaveColumnsOf db (replaced other name rows)
  have_still db other have = record {
    each = λ n r e.
        let s = have.each n r e in
        (changed s.0, found_changed other n ∙ ap (option_map changed) s.1, keeps_columns s.0 ∙ s.2);
  }

  -- each relation has rows that can be held in it
  pub all_fit : (domain : List Text) (db : List Relation) → AllByRecursion (λ (r : Relation). AllByRecursion (CanBeHeld domain r.columns) r.rows) db → ((r : Relation) → Contains db r → r.name ≡ name → AllByRecursion (CanBeHeld domain r.columns) rows)
      → AllByRecursion (λ (r : Relation). AllByRecursion (CanBeHeld domain r.columns) r.rows) (replaced db name rows)
  all_fit domain [] h own = tt
  all_fit domain (r ∷ db) h own = (by (bytes_eq r.name name) refl, all_fit domain db h.1 (λ s c e. own s (contains_later r s db c) e))
    where
      by : (b : Bool) → bytes_eq r.name name ≡ b → AllByRecursion (CanBeHeld domain (if b then record { name = r.name; columns = r.columns; rows = rows } else r).columns) (if b then record { name = r.name; columns = r.columns; rows = rows } else r).rows
      by true e = own r (contains_first r db) ((bytes_decides r.name name).0 e)
      by false e = h.0

-- ---- texts of a query

module _ (db other : List Relation) (same : (n : Identifier) → columns_in (relation_named other n) ≡ columns_in (relation_named db n)) where
  mutual
    pub same_texts : (f : Form) (bs : List Column) → form_texts f other bs ≡ form_texts f db bs
    same_texts (atom name terms) bs = ap (λ cs. term_texts cs terms) (same name)
    same_texts (test t) bs = refl
    same_texts (sorted s v) bs = refl
    same_texts (negation f) bs = same_texts f bs
    same_texts (conjunction fs) bs = same_each fs bs
    same_texts (disjunction fs) bs = same_each fs bs
    same_texts (implication f g) bs = ap₂ (λ a b. a ++ b) (same_texts f bs) (same_texts g bs)
    same_texts (exists v s f) bs = same_texts f (record { name = v; sort = s } ∷ bs)
    same_texts (forall v s f) bs = same_texts f (record { name = v; sort = s } ∷ bs)

    same_each : (fs : Forms) (bs : List Column) → forms_texts fs other bs ≡ forms_texts fs db bs
    same_each no_forms bs = refl
    same_each (form f fs) bs = ap₂ (λ a b. a ++ b) (same_texts f bs) (same_each fs bs)

  -- ---- constants

  known_texts : (domain : List Text) (cs : List Column) (vs : List Value) → AllZip (CanStandAlone domain) cs vs → AllByRecursion (λ (entry : Sort × Text). Contains domain entry.1) (row_texts cs vs)
  known_texts domain [] [] h = tt
  known_texts domain [] (v ∷ vs) h = absurd h
  known_texts domain (c ∷ cs) [] h = absurd h
  known_texts domain (c ∷ cs) (Point at ∷ vs) h = known_texts domain cs vs h.1
  known_texts domain (c ∷ cs) (Const t ∷ vs) h = (h.0.1, known_texts domain cs vs h.1)

  known_rows : (domain : List Text) (cs : List Column) (rows : List Row) → AllByRecursion (CanBeHeld domain cs) rows → AllByRecursion (λ (entry : Sort × Text). Contains domain entry.1) (flat_map (λ row. row_texts cs row.values) rows)
  known_rows domain cs [] h = tt
  known_rows domain cs (row ∷ rows) h = (all_append (λ (entry : Sort × Text). Contains domain entry.1) (row_texts cs row.values) (flat_map (λ row. row_texts cs row.values) rows)).1 (known_texts domain cs row.values h.0.values, known_rows domain cs rows h.1)

  known_database : (domain : List Text) (all : List Relation) → AllByRecursion (λ (r : Relation). AllByRecursion (CanBeHeld domain r.columns) r.rows) all → AllByRecursion (λ (entry : Sort × Text). Contains domain entry.1) (database_texts all)
  known_database domain [] h = tt
  known_database domain (r ∷ all) h = (all_append (λ (entry : Sort × Text). Contains domain entry.1) (flat_map (λ row. row_texts r.columns row.values) r.rows) (database_texts all)).1 (known_rows domain r.columns r.rows h.0, known_database domain all h.1)

  entry_of : (es : List (Sort × Text)) (t : Text) → Contains (map (λ entry. entry.1) es) t → (e : Sort × Text) × Contains es e × (e.1 ≡ t)
  entry_of [] t c = absurd (let l : c.0 < 0 = c.1 in omega (arith, l))
  entry_of (e ∷ es) t c = elim (cons_cases e.1 t (map (λ entry. entry.1) es) c) [
    | inl s ↦ (e, contains_first e es, s)
    | inr d ↦ let r = entry_of es t d in (r.0, contains_later e r.0 es r.1, r.2)
  ]

  of_entry : (es : List (Sort × Text)) (e : Sort × Text) → Contains es e → Contains (map (λ entry. entry.1) es) e.1
  of_entry [] e c = absurd (let l : c.0 < 0 = c.1 in omega (arith, l))
  of_entry (d ∷ es) e c = elim (cons_cases d e es c) [
    | inl s ↦ subst (λ (x : Sort × Text). Contains (d.1 ∷ map (λ entry. entry.1) es) x.1) s (contains_first d.1 (map (λ entry. entry.1) es))
    | inr k ↦ contains_later d.1 e.1 (map (λ entry. entry.1) es) (of_entry es e k)
  ]

  -- where the rows have known texts, and the other database's constants are known
  pub known_still : (q : Question) (domain : List Text) → AllByRecursion (λ (r : Relation). AllByRecursion (CanBeHeld domain r.columns) r.rows) other → AllByRecursion (Contains domain) (constants db q) → AllByRecursion (Contains domain) (constants other q)
  known_still q domain fits known = all_by (Contains domain) (constants other q) (λ t c.
      let e = entry_of (all_texts other q) t ((contains_in_order (map (λ entry. entry.1) (all_texts other q)) t).0 c) in
      subst (λ x. Contains domain x) e.2 (elim (in_one (database_texts other) (form_texts q.body other q.head) e.0 e.1) [
        | inl d ↦ all_of (λ (entry : Sort × Text). Contains domain entry.1) (database_texts other) e.0 (known_database domain other fits) d
        | inr f ↦ all_of (Contains domain) (constants db q) e.0.1 known
            ((contains_in_order (map (λ entry. entry.1) (all_texts db q)) e.0.1).1 (of_entry (all_texts db q) e.0 (in_right (database_texts db) (form_texts q.body db q.head) e.0 (subst (λ l. Contains l e.0) (same_texts q.body q.head) f))))
      ]))
