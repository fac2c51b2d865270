-- What is so of what is kept, whatever edits are made of it.
use Rattle.std.proofs.Common.{◌≡◌, inl, inr, ℕ, ◌+◌, ◌*◌, ◌^◌, ◌≤◌, Bool, true, false, cond, List, [], ◌∷◌, ◌++◌, length, map, flat_map, refl, sym, ap, ap₂, subst, ◌∙◌}
use Rattle.std.specs.Str.{bytes_eq}
use Rattle.std.specs.List.{AllByRecursion}
use Rattle.lrp_model.specs.Formulas.{Form, Question, question_of}
use Rattle.lrp_model.specs.Sorts.{time_count}
use Rattle.lrp_model.specs.Rows.{rows_of}
use Rattle.lrp_model.specs.Reach.{greatest, term_magnitudes, test_reach}
use Rattle.lrp_model.specs.Texts.{Identifier, Text}
use Rattle.lrp_model.specs.declared.relations.Column.{Column}
use Rattle.lrp_model.specs.declared.relations.Relation.{Relation}
use Rattle.lrp_model.specs.declared.relations.Row.{Row}
use Rattle.lrp_plan_laws.specs.Atoms.{Atom, atoms}
use Rattle.lrp_edits.specs.declared.edits.Edit.{Edit}
use Rattle.lrp_kept.specs.Choices.{disjunct_tests, listed_disjuncts}
use Rattle.lrp_kept.specs.KeptForm.{is_kept}
use Rattle.lrp_kept.specs.Limits.{atom_reach, disjunct_reach, most_of, scaled_kept_reach, time_quantifiers, number_beside}
use Rattle.lrp_model.specs.Core.{HasElements}
use Rattle.lrp_keep.specs.Keeps.{CanBeHeld, IsRelationOf, KeepView, scaled_reach_of}
use Rattle.lrp_keep.specs.Replaced.{replaced, with_rows}
use Rattle.lrp_watch.specs.Edits.{IsEditMade, IsMadeBy}
use Rattle.lrp_watch.specs.LeastAnswers.{CanBeMade, CanGoOn}
use Rattle.lrp_cutting.proofs.Lists.{in_map}

-- ---- relations of which one has other rows

pub name_still : (rows : List Row) (name : Identifier) (r : Relation) → (with_rows rows name r).name ≡ r.name
name_still rows name r = by (bytes_eq r.name name)
  where
    by : (b : Bool) → (cond b (record { name = r.name; columns = r.columns; rows = rows }) r).name ≡ r.name
    by true = refl
    by false = refl

pub columns_still : (rows : List Row) (name : Identifier) (r : Relation) → (with_rows rows name r).columns ≡ r.columns
columns_still rows name r = by (bytes_eq r.name name)
  where
    by : (b : Bool) → (cond b (record { name = r.name; columns = r.columns; rows = rows }) r).columns ≡ r.columns
    by true = refl
    by false = refl

-- a relation is still there, with its columns
abbrev IsStill : List Relation → Identifier → Relation → Type 0
IsStill db name r = (s : Relation) × IsRelationOf db name s × (s.columns ≡ r.columns)

held_still : (db : List Relation) (rows : List Row) (changed name : Identifier) (r : Relation) → IsRelationOf db name r → IsStill (replaced db changed rows) name r
held_still db rows changed name r is = (
  with_rows rows changed r,
  record { listed = in_map (with_rows rows changed) db r is.listed; named = name_still rows changed r ∙ is.named },
  columns_still rows changed r,
)

-- ---- what is kept

-- the same query and the same constants, and relations of the same names and columns
pub record IsKin (old new : KeepView) : Type 0 where
  pub query : new.query ≡ old.query
  pub domain : new.domain ≡ old.domain
  pub held : (name : Identifier) (r : Relation) → IsRelationOf old.relations name r → IsStill new.relations name r

kin_self : (k : KeepView) → IsKin k k
kin_self k = record { query = refl; domain = refl; held = λ name r is. (r, is, refl) }

pub kin_then : (k l m : KeepView) → IsKin k l → IsKin l m → IsKin k m
kin_then k l m a b = record {
  query = b.query ∙ a.query;
  domain = b.domain ∙ a.domain;
  held = λ name r is. let s = a.held name r is in let t = b.held name s.0 s.1 in (t.0, t.1, t.2 ∙ s.2);
}

kin_by : (add : Bool) (name : Identifier) (row : Row) (old new : KeepView) → IsMadeBy add name row old new → IsKin old new
kin_by true name row old new is =
    subst (IsKin old) (sym is.0) (record { query = refl; domain = refl; held = held_still old.relations (rows_of old.relations name ++ row ∷ []) name })
kin_by false name row old new (inl is) =
    subst (IsKin old) (sym is.is) (record { query = refl; domain = refl; held = held_still old.relations is.rows name })
kin_by false name row old new (inr is) = subst (IsKin old) (sym is.1) (kin_self old)

pub kin_of : (e : Edit) (old new : KeepView) → IsEditMade e old new → IsKin old new
kin_of e old new is = kin_by e.add e.relation e.row old new is

can_still : (old new : KeepView) (e : Edit) → IsKin old new → CanBeMade old e → CanBeMade new e
can_still old new e kin can =
    let s = kin.held e.relation can.relation can.is in
    record {
      relation = s.0;
      is = s.1;
      row_fits = subst (λ (d : List Text). CanBeHeld d s.0.columns e.row) (sym kin.domain) (subst (λ (cs : List Column). CanBeHeld old.domain cs e.row) (sym s.2) can.row_fits);
    }

all_still : (old new : KeepView) (es : List Edit) → IsKin old new → AllByRecursion (CanBeMade old) es → AllByRecursion (CanBeMade new) es
all_still old new [] kin h = tt
all_still old new (e ∷ es) kin h = (can_still old new e kin h.0, all_still old new es kin h.1)

pub goes_on : (e : Edit) (old new : KeepView) (es : List Edit) → IsEditMade e old new → CanGoOn old es → CanGoOn new es
goes_on e old new es is on = record { can = all_still old new es (kin_of e old new is) on.can }
