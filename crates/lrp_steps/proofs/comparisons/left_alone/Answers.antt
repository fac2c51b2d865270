-- The left side has the only column.
use Rattle.std.proofs.Common.{◌<◌, ◌∷◌, [], inl, inr, refl, ap, arith, ◌∙◌}
use Rattle.lrp_steps.specs.declared.comparisons.ShiftedColumn.{ShiftedColumn}
use Rattle.lrp_steps.proofs.OwnColumns.{one_column}
use Rattle.lrp_steps.proofs.comparisons.left_alone.Goals as goal

pub returns : goal.returns
returns c = λ times lh. one_column times c.args.left.now.column c.requires.left lh c.args.left.now c.args.right.now _ refl (0 ∷ 0 ∷ 0 ∷ 0 ∷ 0 ∷ 0 ∷ 0 ∷ []) refl
    (ap (λ (s : ShiftedColumn). s.plus) c.moved_to.ensures) (ap (λ (s : ShiftedColumn). s.plus) c.moved_to-2.ensures)
    (inr (refl, ap (λ (s : ShiftedColumn). s.column) c.moved_to.ensures))
    (elim c.own_column-column.ensures [
      | inl z ↦ inl (z.0, ap (λ (s : ShiftedColumn). s.column) c.moved_to-2.ensures ∙ z.1)
      | inr z ↦ elim c.requires.right [
        | inl e ↦ (let low : 0 < c.args.right.now.column = z.0 in absurd (omega (arith, e, low)))
        | inr e ↦ inr (e, ap (λ (s : ShiftedColumn). s.column) c.moved_to-2.ensures ∙ z.1)
      ]
    ])
