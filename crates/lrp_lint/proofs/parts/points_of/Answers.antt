-- Point after point.
use Rattle.std.proofs.Common.{◌≡◌, List, [], ◌∷◌, ◌++◌, ◌+◌, take, subst, sym, ap, ◌∙◌, Vec, Global}
use Rattle.std.proofs.lemmas.List.{append-nil}
use Rattle.lrp_systems.specs.declared.part.PlacedZone.{PlacedZone}
use Rattle.lrp_lint.specs.Contents.{ArePointParts, IsPointPart, row_points}
use Rattle.lrp_lint.proofs.Points.{parts_push, points_step}
use Rattle.lrp_lint.proofs.parts.points_of.Goals as goal
use Rattle.lrp_lint.proofs.parts.points_of.Goals.{in-Point+in_ok-push, in_default}

pub loop-value-preserved : goal.loop-value-preserved
loop-value-preserved c =
    let values = c.args.values.now in
    let i = c.loop-value.value-index in
    let before = row_points (take i values) in
    let step = points_step values c.as_slice-value-items.result.now i c.value-item.result c.as_slice-value-items.ensures c.loop-value-test.true c.value-item.is in
    elim c.match-value.branch [
      | in-Point+in_ok-push w ↦ subst (λ ps. ArePointParts 1 (row_points (take (i + 1) values)) ps) (sym (ap (λ (v : Vec PlacedZone Global). v.items) w.parts-is ∙ w.in_ok-push.ensures.items))
          (subst (λ points. ArePointParts 1 points (c.loop-value.parts.items ++ w.point_part.result ∷ [])) (sym (step ∙ ap (λ v. before ++ row_points (v ∷ [])) w.in-Point.is))
          (parts_push 1 before c.loop-value.parts.items w.in-Point.at w.point_part.result c.loop-value.invariant (subst (λ n. IsPointPart w.in-Point.at (n + 1) w.point_part.result) (w.len-place.ensures ∙ c.loop-value.parts.ok.0) w.point_part.ensures)))
      | in_default w ↦ subst (λ ps. ArePointParts 1 (row_points (take (i + 1) values)) ps) (sym (ap (λ (v : Vec PlacedZone Global). v.items) w.parts-is))
          (subst (λ points. ArePointParts 1 points c.loop-value.parts.items) (sym (step ∙ ap (λ v. before ++ row_points (v ∷ [])) w.in_default.is ∙ append-nil before)) c.loop-value.invariant)
    ]
