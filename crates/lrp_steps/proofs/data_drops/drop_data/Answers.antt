-- The store of what is left has a column for each name that is left.
use Rattle.std.proofs.Common.{sym, ap, subst, ◌∙◌, length, ◌++◌}
use Rattle.std.specs.Prelude.{AllPairs, ◌≢◌}
use Rattle.lrp_tables.proofs.Named.{others_differ_after}
use Rattle.lrp_steps.proofs.TextDropped.{either_dropped, either_valid, either_times, either_texts}
use Rattle.lrp_steps.proofs.data_drops.drop_data.Goals as goal

pub invariant_of-result : goal.invariant_of-result
invariant_of-result c = record {
  times_named = ap length c.in_ok-copy.ensures ∙ c.args.table.now.times_named ∙ sym (either_times c.args.domain.now c.args.name.now c.args.table.now c.args.table.now.names_differ c.in_ok-store.store c.in_ok-store.ensures.made);
  texts_named = ap length c.in_ok-without.ensures ∙ either_texts c.args.domain.now c.args.name.now c.args.table.now c.args.table.now.names_differ c.in_ok-store.store c.args.table.now.texts_named c.in_ok-store.ensures.made;
  names_differ = subst (λ l. AllPairs ◌≢◌ (l ++ c.in_ok-without.field-0)) (sym c.in_ok-copy.ensures) (subst (λ l. AllPairs ◌≢◌ (c.args.table.now.vars.times ++ l)) (sym c.in_ok-without.ensures) (others_differ_after c.args.name.now c.args.table.now.vars.times c.args.table.now.vars.texts c.args.table.now.names_differ));
}

pub returns-clause-dropped : goal.returns-clause-dropped
returns-clause-dropped c = either_dropped c.args.domain.now c.args.name.now c.args.table.now c.args.table.now.names_differ _ c.in_ok-copy.ensures c.in_ok-without.ensures c.in_ok-store.ensures.made c.in_ok-store.ensures.valid

pub returns-clause-valid : goal.returns-clause-valid
returns-clause-valid c = either_valid c.args.domain.now c.args.name.now c.args.table.now c.args.table.now.names_differ c.in_ok-store.store c.in_ok-store.ensures.made c.in_ok-store.ensures.valid
