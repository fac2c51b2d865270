use Rattle.std.proofs.Common.{◌≡◌, ◌++◌, ◌∷◌, [], ℕ, List, subst, nat_abs, rules}
use Rattle.std.specs.Option.{option_map}
use Rattle.lrp_limits.specs.Multiples.{IsLeastWithinLimit, IsPeriodOf}
use Rattle.lrp_limits.proofs.Keeping.{kept_some, kept_nothing}
use Rattle.lrp_limits.proofs.facts.with_point.Goals as goal

pub returns-in-Some : goal.returns-in-Some
returns-in-Some c =
    let u : c.unsigned_abs.result ≡ nat_abs c.args.at.now.period = search rules in
    kept_some c.args.period c.in-Some.period _ _ c.in-Some.is (subst (λ x. (ks : List ℕ) → IsLeastWithinLimit ks c.in-Some.period.number → IsPeriodOf (ks ++ x ∷ []) (option_map (λ p. p.number) c.with.result)) u c.with.ensures)

pub returns-in-None : goal.returns-in-None
returns-in-None c = kept_nothing c.args.period _ c.in-None.is
