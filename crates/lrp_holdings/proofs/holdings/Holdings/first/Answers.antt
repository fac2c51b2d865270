-- The first match's winner has the value that leads all others.
use Rattle.std.proofs.Common.{◌≡◌, ◌∙◌, Some, None, sym}
use Rattle.std.specs.Prelude.{IfNone, IfSome, ℕ, option_copied}
use Rattle.std.specs.Option.{option_map}
use Rattle.lrp_holdings.specs.Holdings.{Held, held_at}
use Rattle.lrp_holdings.specs.Winners.{IsFirstHeld, winner_at}
use Rattle.lrp_holdings.proofs.Ordering.{first_is, first_none, first_some}
use Rattle.lrp_holdings.proofs.holdings.Holdings.first.Goals as goal

pub returns-in-None-clause-none : goal.returns-in-None-clause-none
returns-in-None-clause-none g c =
    first_none g.V.Ranked.leads g.met.V.Ranked.itself g.met.V.Ranked.onward c.self.inside.slots c.self.inside.winners.items c.self.invariant.ranked c.args.self.now c.self.view_is
    (sym c.winner.ensures ∙ c.in-None.is)

pub returns-in-Some-clause-none : goal.returns-in-Some-clause-none
returns-in-Some-clause-none g c = by c.value.result c.value.ensures
  where
    at : winner_at c.self.inside.winners.items 0 ≡ Some c.in-Some.slot
    at = sym c.winner.ensures ∙ c.in-Some.is

    by : (o : _) → option_copied o ≡ option_map (λ (h : Held _). h.value) (held_at c.args.self.now c.in-Some.slot) → IfNone o ((slot : ℕ) → held_at c.args.self.now slot ≡ None)
    by None e = absurd (first_some g.V.Ranked.leads g.met.V.Ranked.itself g.met.V.Ranked.onward c.self.inside.slots c.self.inside.winners.items c.self.invariant.ranked c.args.self.now c.self.view_is c.in-Some.slot at (sym e))
    by (Some v) e = tt

pub returns-in-Some-clause-some : goal.returns-in-Some-clause-some
returns-in-Some-clause-some g c = by c.value.result c.value.ensures
  where
    at : winner_at c.self.inside.winners.items 0 ≡ Some c.in-Some.slot
    at = sym c.winner.ensures ∙ c.in-Some.is

    by : (o : _) → option_copied o ≡ option_map (λ (h : Held _). h.value) (held_at c.args.self.now c.in-Some.slot) → IfSome o (λ first. IsFirstHeld g.V.Ranked.leads c.args.self.now first.now)
    by None e = tt
    by (Some v) e = first_is g.V.Ranked.leads g.met.V.Ranked.itself g.met.V.Ranked.onward c.self.inside.slots c.self.inside.winners.items c.self.invariant.ranked c.args.self.now c.self.view_is c.in-Some.slot v.now at (sym e)
