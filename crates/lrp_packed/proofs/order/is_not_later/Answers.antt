-- The one that does not come before is not before the other.
use Rattle.std.proofs.Common.{◌≡◌, ◌∙◌, Some, true, false, ap, subst, sym}
use Rattle.std.specs.Prelude.{not}
use Rattle.lrp_store.proofs.StoreFirst.{held_turned}
use Rattle.lrp_packed.specs.Leading.{IsNotLater}
use Rattle.lrp_packed.proofs.order.is_not_later.Goals as goal

both_ways : true ≡ false → ⊥
both_ways e = cc

pub returns-clause-to : goal.returns-clause-to
returns-clause-to c t =
    subst (λ o. IsNotLater o c.args.other) (sym c.in-Some-own.is)
    (subst (λ o. IsNotLater (Some c.in-Some-own.own) o) (sym c.in-Some.is)
    (held_turned c.in-Some.other.times c.in-Some-own.own.times c.in-Some.other.texts c.in-Some-own.own.texts (λ e. both_ways (sym t ∙ ap not (c.is_before.ensures.1 e)))))
