-- The sketches of a row, one after another.
use Rattle.std.proofs.Common.{◌≡◌, ◌<◌, ℕ, List, [], ◌∷◌, ◌++◌, length, get_or, Contains, Some, inl, inr, subst, sym, arith}
use Rattle.std.specs.Prelude.{slice_get}
use Rattle.std.proofs.lemmas.List.Elements.{Contains-push_cases}
use Rattle.std.proofs.lemmas.Option.{get_or_from_slice_get, slice_get_within}
use Rattle.lrp_model.specs.Texts.{Text}
use Rattle.lrp_model.specs.declared.relations.Row.{Row}
use Rattle.lrp_kept.specs.declared.disjuncts.Disjunct.{Disjunct}
use Rattle.lrp_kept.specs.declared.rows.Sketch.{Sketch}
use Rattle.lrp_kept.specs.Sketches.{AreSketchesOf, IsSketchAmong}

pub contained_at : {X : Type 0} (xs : List X) (i : ℕ) (x : X) → slice_get xs i ≡ Some x → Contains xs x
contained_at xs i x e = (i, slice_get_within xs i x e, get_or_from_slice_get xs i x x e)

pub contained_read : {X : Type 0} (xs : List X) (i : ℕ) (x : X) → i < length xs → x ≡ get_or xs i x → Contains xs x
contained_read xs i x low is = (i, low, sym is)

pub none_sketched : (domain : List Text) (ds : List Disjunct) (relation : ℕ) (row : Row) → AreSketchesOf domain ds relation row []
none_sketched domain ds relation row s c = absurd (let l : c.0 < 0 = c.1 in omega (arith, l))

pub one_sketched : (domain : List Text) (ds : List Disjunct) (relation : ℕ) (row : Row) (all : List Sketch) (s : Sketch) → AreSketchesOf domain ds relation row all → IsSketchAmong domain ds relation row s → AreSketchesOf domain ds relation row (all ++ s ∷ [])
one_sketched domain ds relation row all s old is t c = elim (Contains-push_cases all s t c) [
  | inl before ↦ old t before
  | inr e ↦ subst (IsSketchAmong domain ds relation row) e is
]
