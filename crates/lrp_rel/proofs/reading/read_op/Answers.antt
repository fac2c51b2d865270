use Rattle.std.proofs.Common.{◌∙◌, ap, Ok, refl}
use Rattle.lrp_model.specs.declared.tokens.Symbol.TheVariants.{Le, Ge, Equals}
use Rattle.lrp_rel.proofs.Ops.{op_read, op_refused, still_ge, still_equals}
use Rattle.lrp_rel.proofs.reading.read_op.Goals as goal

pub returns-then-eat-clause-value : goal.returns-then-eat-clause-value
returns-then-eat-clause-value c = op_read Le _ _ _ refl (c.eat.ensures.value ∙ ap (λ b. Ok (b, c.eat.new.self)) c.if-eat.true)

pub returns-then-eat-2-clause-value : goal.returns-then-eat-2-clause-value
returns-then-eat-2-clause-value c =
    still_ge _ _ _ (c.eat.ensures.value ∙ ap (λ b. Ok (b, c.eat.new.self)) c.if-eat.false)
    (op_read Ge _ _ _ refl (c.eat-2.ensures.value ∙ ap (λ b. Ok (b, c.eat-2.new.self)) c.if-eat-2.true))

pub returns-then-eat-3-clause-value : goal.returns-then-eat-3-clause-value
returns-then-eat-3-clause-value c =
    still_ge _ _ _ (c.eat.ensures.value ∙ ap (λ b. Ok (b, c.eat.new.self)) c.if-eat.false)
    (still_equals _ _ _ (c.eat-2.ensures.value ∙ ap (λ b. Ok (b, c.eat-2.new.self)) c.if-eat-2.false)
    (op_read Equals _ _ _ refl (c.eat-3.ensures.value ∙ ap (λ b. Ok (b, c.eat-3.new.self)) c.if-eat-3.true)))

pub returns-clause-value : goal.returns-clause-value
returns-clause-value c =
    op_refused _ _ _ _ (c.eat.ensures.value ∙ ap (λ b. Ok (b, c.eat.new.self)) c.if-eat.false)
    (c.eat-2.ensures.value ∙ ap (λ b. Ok (b, c.eat-2.new.self)) c.if-eat-2.false)
    (c.eat-3.ensures.value ∙ ap (λ b. Ok (b, c.eat-3.new.self)) c.if-eat-3.false)
