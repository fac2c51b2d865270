-- The right side has the only column, or none.
use Rattle.std.proofs.Common.{◌∷◌, [], inl, inr, refl, ap, ◌∙◌}
use Rattle.lrp_steps.specs.declared.comparisons.ShiftedColumn.{ShiftedColumn}
use Rattle.lrp_steps.proofs.OwnColumns.{both_numbers, one_column}
use Rattle.lrp_steps.proofs.comparisons.right_alone.Goals as goal

pub returns : goal.returns
returns c = λ times rh. elim c.own_column-columns.ensures [
  | inl z ↦ both_numbers times c.args.left.now c.args.right.now _ c.requires z.0 z.1 c.moved_to.ensures (c.moved_to-2.ensures ∙ ap (λ k. record { column = k; plus = c.args.right.now.plus }) z.1)
  | inr z ↦ one_column times c.args.right.now.column z.0 rh c.args.left.now c.args.right.now _ z.1 (0 ∷ 0 ∷ 0 ∷ 0 ∷ 0 ∷ 0 ∷ 0 ∷ []) refl
      (ap (λ (s : ShiftedColumn). s.plus) c.moved_to.ensures) (ap (λ (s : ShiftedColumn). s.plus) c.moved_to-2.ensures)
      (inl (c.requires, ap (λ (s : ShiftedColumn). s.column) c.moved_to.ensures)) (inr (refl, ap (λ (s : ShiftedColumn). s.column) c.moved_to-2.ensures ∙ z.1))
]
