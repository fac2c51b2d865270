-- The store of what is left has a column for each name that is left.
use Rattle.std.proofs.Common.{◌≡◌, inl, inr, sym, ap, subst, ◌∙◌, length, ◌++◌}
use Rattle.std.specs.Prelude.{AllPairs, ◌≢◌}
use Rattle.lrp_store.specs.Stores.{StoreView, IsStore}
use Rattle.lrp_steps.specs.Tuples.{IsStoreWithoutTime}
use Rattle.lrp_tables.proofs.Named.{others_differ}
use Rattle.lrp_steps.proofs.TimeDropped.{StoreOf, copy_valid, either_dropped, either_times, either_texts}
use Rattle.lrp_steps.proofs.time_drops.drop_time.Goals as goal
use Rattle.lrp_steps.proofs.time_drops.drop_time.Goals.{in-Some+in_ok-store-in-Some, in-None+in_ok-store-in-None}
use Rattle.lrp_model.specs.Texts.{without}

pub invariant_of-result : goal.invariant_of-result
invariant_of-result c =
    let store : StoreOf c.args.name.now c.args.table.now c.match-place_of.store = elim c.match-place_of.branch [
      | in-Some+in_ok-store-in-Some w ↦ inl (w.in-Some.place, w.in-Some.ensures.some, subst (λ s. IsStoreWithoutTime w.in-Some.place c.args.table.now.store s) (sym w.store-is) w.in_ok-store-in-Some.ensures.made)
      | in-None+in_ok-store-in-None w ↦ inr (w.in-None.ensures.none, subst (λ (s : StoreView). s ≡ record c.args.table.now.store { spare = s.spare }) (sym w.store-is) w.in_ok-store-in-None.ensures.value)
    ] in
    record {
      times_named = ap length c.in_ok-without.ensures ∙ either_times c.args.name.now c.args.table.now c.args.table.now.names_differ c.match-place_of.store c.args.table.now.times_named store;
      texts_named = ap length c.in_ok-copy.ensures ∙ c.args.table.now.texts_named ∙ sym (either_texts c.args.name.now c.args.table.now c.args.table.now.names_differ c.match-place_of.store store);
      names_differ = subst (λ l. AllPairs ◌≢◌ (l ++ c.in_ok-copy.field-0)) (sym c.in_ok-without.ensures) (subst (λ l. AllPairs ◌≢◌ (without c.args.name.now c.args.table.now.vars.times ++ l)) (sym c.in_ok-copy.ensures) (others_differ c.args.name.now c.args.table.now.vars.times c.args.table.now.vars.texts c.args.table.now.names_differ));
    }

pub returns-clause-dropped : goal.returns-clause-dropped
returns-clause-dropped c =
    let store : StoreOf c.args.name.now c.args.table.now c.match-place_of.store = elim c.match-place_of.branch [
      | in-Some+in_ok-store-in-Some w ↦ inl (w.in-Some.place, w.in-Some.ensures.some, subst (λ s. IsStoreWithoutTime w.in-Some.place c.args.table.now.store s) (sym w.store-is) w.in_ok-store-in-Some.ensures.made)
      | in-None+in_ok-store-in-None w ↦ inr (w.in-None.ensures.none, subst (λ (s : StoreView). s ≡ record c.args.table.now.store { spare = s.spare }) (sym w.store-is) w.in_ok-store-in-None.ensures.value)
    ] in
    let is_old : IsStore c.args.table.now.store = elim c.match-place_of.branch [
      | in-Some+in_ok-store-in-Some w ↦ w.in_ok-store-in-Some.ensures.valid
      | in-None+in_ok-store-in-None w ↦ w.in_ok-store-in-None.ensures.valid
    ] in
    either_dropped c.args.name.now c.args.table.now c.args.table.now.names_differ _ c.in_ok-without.ensures c.in_ok-copy.ensures store is_old

pub returns-clause-valid : goal.returns-clause-valid
returns-clause-valid c = elim c.match-place_of.branch [
  | in-Some+in_ok-store-in-Some w ↦ subst IsStore (sym w.store-is) w.in_ok-store-in-Some.ensures.made.valid
  | in-None+in_ok-store-in-None w ↦ subst IsStore (sym w.store-is) (copy_valid c.args.table.now.store _ w.in_ok-store-in-None.ensures.valid w.in_ok-store-in-None.ensures.value)
]
