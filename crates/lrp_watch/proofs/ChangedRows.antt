-- An edit changes the rows of one relation alone.
use Rattle.std.proofs.Common.{◌≡◌, ◌≢◌, inl, inr, Bool, true, false, cond, List, [], ◌∷◌, ◌++◌, ℕ, Option, Some, None, refl, sym, ap, subst, ◌∙◌}
use Rattle.std.specs.Prelude.{if◌then◌else◌}
use Rattle.std.specs.Str.{bytes_eq}
use Rattle.std.specs.Cmp.Lexicographic.{bytes_decides}
use Rattle.lrp_model.specs.Rows.{relation_named, rows_in, rows_of}
use Rattle.lrp_model.specs.Texts.{Identifier}
use Rattle.lrp_model.specs.declared.relations.Relation.{Relation}
use Rattle.lrp_model.specs.declared.relations.Row.{Row}
use Rattle.lrp_edits.specs.declared.edits.Edit.{Edit}
use Rattle.lrp_keep.specs.Replaced.{replaced, with_rows}
use Rattle.lrp_watch.specs.Edited.{IsEdited, IsEditedBy}
use Rattle.lrp_watch.specs.Keeping.{IsChangedAt, IsKeptBefore, IsKeptOver}
use Rattle.lrp_watch.specs.declared.keeping.Kept.{Kept}
use Rattle.lrp_watch.proofs.Goings.{name_still}

-- the relation of another name is as it was
rows_other : (rows : List Row) (name other : Identifier) → other ≢ name → (db : List Relation) → rows_of (replaced db name rows) other ≡ rows_of db other
rows_other rows name other d [] = refl
rows_other rows name other d (r ∷ rs) =
    ap (λ (m : Identifier). rows_in (cond (bytes_eq m other) (Some (with_rows rows name r)) (relation_named (replaced rs name rows) other))) (name_still rows name r) ∙ by (bytes_eq r.name other) refl (rows_other rows name other d rs)
  where
    mine : (b : Bool) → bytes_eq r.name name ≡ b → r.name ≡ other → (if b then record { name = r.name; columns = r.columns; rows = rows } else r) ≡ r
    mine true e same = absurd (d (sym same ∙ (bytes_decides r.name name).0 e))
    mine false e same = refl

    by : (b : Bool) → bytes_eq r.name other ≡ b → rows_in (relation_named (replaced rs name rows) other) ≡ rows_in (relation_named rs other) → rows_in (cond b (Some (with_rows rows name r)) (relation_named (replaced rs name rows) other)) ≡ rows_in (cond b (Some r) (relation_named rs other))
    by true e rest = ap (λ (x : Relation). x.rows) (mine (bytes_eq r.name name) refl ((bytes_decides r.name other).0 e))
    by false e rest = rest

by_row : (add : Bool) (name : Identifier) (row : Row) (db new : List Relation) → IsEditedBy add name row db new → IsChangedAt name db new
by_row true name row db new is other d = ap (λ dbs. rows_of dbs other) is ∙ rows_other (rows_of db name ++ row ∷ []) name other d db
by_row false name row db new (inl is) other d = ap (λ dbs. rows_of dbs other) is.is ∙ rows_other is.rows name other d db
by_row false name row db new (inr is) other d = ap (λ dbs. rows_of dbs other) is.1

pub changed_by : (e : Edit) (db new : List Relation) → IsEdited e db new → IsChangedAt e.relation db new
changed_by e db new is = by_row e.add e.relation e.row db new is

-- what was kept for an edit is of the relations that it was made of
pub kept_next : (cap : ℕ) (e : Edit) (db new : List Relation) (next : Option Edit) (kept : Option Kept) → IsKeptOver cap db next kept → next ≡ Some e → IsEdited e db new → IsKeptBefore cap new kept
kept_next cap e db new next None h at is = tt
kept_next cap e db new next (Some k) h at is =
    let f : Some h.1.0 ≡ Some e = sym h.1.1 ∙ at in
    let g : h.1.0 ≡ e = cc in
    record { old = db; known = h.0; changed = subst (λ name. IsChangedAt name db new) (sym (h.1.2 ∙ ap (λ (x : Edit). x.relation) g)) (changed_by e db new is) }
