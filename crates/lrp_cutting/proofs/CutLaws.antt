-- Two zones of one cell, and cutters of zones of it.
use Rattle.std.proofs.Common.{◌≡◌, ◌+◌, inl, inr, List, [], ◌∷◌, ◌++◌, Option, Some, None, sym, subst, ◌∙◌}
use Rattle.std.specs.Prelude.{◌↔◌, Bool, IfNone, IfSome, IsTrue, is_some}
use Rattle.std.proofs.lemmas.List.Elements.{Contains-append_cases}
use Rattle.lrp_zone.specs.Zones.{ZoneView}
use Rattle.lrp_zone.specs.Pairs.{IsOfCell, IsWithin, HaveNoCommon}
use Rattle.lrp_cutting.specs.Differences.{AreOfCell}
use Rattle.lrp_cutting.specs.Cutting.{HaveCommon, IsCommonZone, IsWithinOne}
use Rattle.lrp_cutting.proofs.Lists.{in_one}

-- ---- two zones
-- they have a tuple in common where there is a zone of these
pub common_some : (v w : ZoneView) (o : Option ZoneView) → IfNone o (HaveNoCommon v w) → IfSome o (λ z. IsCommonZone v w z) → (b : Bool) → b ≡ is_some o → IsTrue b ↔ HaveCommon v w
common_some v w None none some b e = (λ t. absurd (cc (t, e)), λ h. absurd (none.none h.common h.left h.right))
common_some v w (Some z) none some b e =
    let in_both = some.meet.to some.valid.some.member some.valid.some.is in
    (λ t. record { common = some.valid.some.member; left = in_both.0; right = in_both.1 }, λ h. e)

-- a zone of the cell has the same cutters
pub cells_moved : (z w : ZoneView) (cutters : List ZoneView) → IsOfCell z w → AreOfCell z cutters → AreOfCell w cutters
cells_moved z w cutters c a = record { each = λ v l. record { period = (a.each v l).period ∙ sym c.period; residues = (a.each v l).residues ∙ sym c.residues } }

pub out_more : (z c : ZoneView) (ps : List ZoneView) → (IsWithinOne z ps → ⊥) → (IsWithin z c → ⊥) → IsWithinOne z (ps ++ c ∷ []) → ⊥
out_more z c ps out other h = elim (Contains-append_cases ps (c ∷ []) h.cutter h.listed) [
  | inl a ↦ out (record { cutter = h.cutter; listed = a; within = h.within })
  | inr b ↦ other (subst (λ y. IsWithin z y) (sym (in_one c h.cutter b)) h.within)
]
