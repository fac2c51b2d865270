-- The pattern is the one that is lent.
use Rattle.std.proofs.Common.{subst, sym}
use Rattle.std.specs.Prelude.{OnOk}
use Rattle.lrp_steps.specs.Gathered.{IsFoundAdded, IsFoundRefused}
use Rattle.lrp_steps.specs.Patterns.{FitsIntoStore}
use Rattle.lrp_steps.proofs.gathering.add_store.Goals as goal

pub add_lent_store-requires-clause-adds : goal.add_lent_store-requires-clause-adds
add_lent_store-requires-clause-adds c = subst (λ p. FitsIntoStore p c.args.out.now) (sym c.in_ok-lent.ensures) c.requires.adds

pub returns-clause-ok : goal.returns-clause-ok
returns-clause-ok c = subst (λ p. OnOk c.add_lent_store.result (IsFoundAdded c.args.operand.store.now c.args.operand.places.now p c.args.wanted.size c.args.wanted.cap c.args.out.now c.add_lent_store.new.out)) c.in_ok-lent.ensures c.add_lent_store.ensures.ok

pub returns-clause-too_many : goal.returns-clause-too_many
returns-clause-too_many c = λ e. subst (λ p. IsFoundRefused c.args.operand.store.now c.args.operand.places.now p c.args.wanted.size c.args.wanted.cap c.args.out.now c.add_lent_store.new.out) c.in_ok-lent.ensures (c.add_lent_store.ensures.too_many e)
