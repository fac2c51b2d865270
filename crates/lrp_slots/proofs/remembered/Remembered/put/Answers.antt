-- What is remembered then is the cell, or was remembered before.
use Rattle.std.proofs.Common.{inl, inr, ◌∙◌}
use Rattle.lrp_slots.proofs.remembered.Remembered.put.Goals as goal

pub returns : goal.returns
returns c = λ other held. elim (c.put_key.ensures other held) [
  | inl e ↦ inl (e ∙ c.in-Some.ensures.some)
  | inr h ↦ elim (c.make_room.ensures other h) [
    | inl e ↦ inl (e ∙ c.in-Some.ensures.some)
    | inr before ↦ inr before
  ]
]
