-- The pattern is the one that is lent.
use Rattle.std.proofs.Common.{subst, sym}
use Rattle.std.specs.Prelude.{OnOk}
use Rattle.lrp_systems.specs.Parts.{system_reach}
use Rattle.lrp_store.specs.Growing.{IsAdded, IsRefused}
use Rattle.lrp_steps.specs.Patterns.{parts_of, FitsInto, IsOver, MatchesPattern}
use Rattle.lrp_steps.proofs.filling.add_pattern.Goals as goal

pub add_sought-requires : goal.add_sought-requires
add_sought-requires c = subst (λ p. FitsInto p c.args.out.now) (sym c.in_ok-lent.ensures) c.requires

pub returns-clause-ok : goal.returns-clause-ok
returns-clause-ok c = subst (λ p. OnOk c.add_sought.result (IsAdded (IsOver c.args.out.now.shape c.args.wanted.size (MatchesPattern p)) c.args.wanted.cap (system_reach c.args.out.now.period (parts_of p)) c.args.out.now c.add_sought.new.out)) c.in_ok-lent.ensures c.add_sought.ensures.ok

pub returns-clause-too_many : goal.returns-clause-too_many
returns-clause-too_many c = λ e. subst (λ p. IsRefused (IsOver c.args.out.now.shape c.args.wanted.size (MatchesPattern p)) c.args.wanted.cap (system_reach c.args.out.now.period (parts_of p)) c.args.out.now c.add_sought.new.out) c.in_ok-lent.ensures (c.add_sought.ensures.too_many e)
