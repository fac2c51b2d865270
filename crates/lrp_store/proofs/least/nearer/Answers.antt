-- The one that comes before is not after the other.
use Rattle.std.proofs.Common.{◌≡◌, ◌≢◌, Option, Some, true, false, Ordering, Less, Greater, sym, subst, ◌∙◌}
use Rattle.std.specs.Prelude.{IfSome}
use Rattle.lrp_model.specs.declared.tuples.Spot.{Spot}
use Rattle.lrp_store.specs.Least.{held_cmp}
use Rattle.lrp_store.proofs.StoreFirst.{held_itself, held_turned, held_before}
use Rattle.lrp_store.proofs.least.nearer.Goals as goal

pub returns-in_default-clause-spot : goal.returns-in_default-clause-spot
returns-in_default-clause-spot c = held_itself c.args.spot.times c.args.spot.texts

pub returns-then-is_before-clause-spot : goal.returns-then-is_before-clause-spot
returns-then-is_before-clause-spot c = held_itself c.args.spot.times c.args.spot.texts

-- a spot that does not come before another one is not before it
not_before : (a b : Spot) (r : Ordering) (P : Type 0) → (P → ⊥) → (r ≡ Less → P) → r ≢ Less
not_before a b r P none h e = none (h e)

both_ways : false ≡ true → ⊥
both_ways e = cc

-- what holds of the spot that was found
at_found : (found : Option Spot) (old new : Spot) → found ≡ Some old → held_cmp new.times new.texts old.times old.texts ≢ Greater → IfSome found (λ o. held_cmp new.times new.texts o.times o.texts ≢ Greater)
at_found found old new e h = subst (λ f. IfSome f (λ o. held_cmp new.times new.texts o.times o.texts ≢ Greater)) (sym e) h

pub returns-then-is_before-clause-found : goal.returns-then-is_before-clause-found
returns-then-is_before-clause-found c = at_found c.args.found c.in-Some.old c.args.spot c.in-Some.is (held_before _ (c.is_before.ensures.0 c.if-is_before.true))

pub returns-else-is_before-clause-found : goal.returns-else-is_before-clause-found
returns-else-is_before-clause-found c = at_found c.args.found c.in-Some.old c.in-Some.old c.in-Some.is (held_itself c.in-Some.old.times c.in-Some.old.texts)

pub returns-else-is_before-clause-spot : goal.returns-else-is_before-clause-spot
returns-else-is_before-clause-spot c = held_turned c.args.spot.times c.in-Some.old.times c.args.spot.texts c.in-Some.old.texts (λ e. both_ways (sym c.if-is_before.false ∙ c.is_before.ensures.1 e))
