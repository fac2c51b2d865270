-- The complement has so few cells.
use Rattle.std.proofs.Common.{◌*◌, ◌-◌, ◌≤◌, ◌^◌, ap₂, sym, subst, ◌∙◌}
use Rattle.lrp_store.specs.Stores.{HasReach}
use Rattle.lrp_eval.proofs.ComplementCounts.{complement_is}
use Rattle.lrp_eval.proofs.complementing.small_complement.Goals as goal

pub complement-requires : goal.complement-requires
complement-requires c = record {
  period = subst (λ k. 2 * k ≤ 2 ^ 62) (sym (c.is_plain.ensures.period c.if-not-is_plain.false)) c.requires.high;
  reach = subst (λ k. HasReach c.args.sides.now.right.now.store (2 ^ 62 - 2 * k)) (sym (c.is_plain.ensures.period c.if-not-is_plain.false)) c.requires.reach;
}

pub returns-in-Some-product_within : goal.returns-in-Some-product_within
returns-in-Some-product_within c = complement_is c.args.setting.now.domain.now c.args.sides.now c.args.period c.args.setting.now.cap c.in-Ok.outside c.requires c.in-Ok.ensures.valid (c.is_plain.ensures.period c.if-not-is_plain.false) (c.is_plain.ensures.texts c.if-not-is_plain.false)
    c.in-Ok.ensures.complement.table c.in-Ok.ensures.complement.reach
    (subst (λ n. n ≤ c.args.setting.now.cap) (c.in-Some-product_within.ensures.0 ∙ ap₂ (λ a b. a * b) c.len-in-Ok.ensures (c.from.ensures ∙ c.in-Some.ensures)) c.in-Some-product_within.ensures.1)
