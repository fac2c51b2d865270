-- One more group.
use Rattle.std.proofs.Common.{◌≡◌, ◌≤◌, ◌∙◌, ◌++◌, ◌∷◌, [], ap, append-nil, append_assoc, arith, subst, sym, to_z, w64}
use Rattle.std.specs.Prelude.{AllPairs, Contains, nat_abs}
use Rattle.std.proofs.lemmas.Int.{to_z_pos}
use Rattle.lrp_spans.specs.Spans.{SpansHaveNumber}
use Rattle.lrp_store.specs.Stores.{IsStore, StoreView}
use Rattle.lrp_store.proofs.Held.{new_store}
use Rattle.lrp_canon.specs.declared.rows.MaximalRow.{MaximalRow}
use Rattle.lrp_canon.specs.Edges.{AreRepeating}
use Rattle.lrp_canon.specs.Making.{AddsRows, AreRowsOf, HoldsGroups, IsRow, LieApart}
use Rattle.lrp_canon.proofs.CanonLaws.{keys_apart}
use Rattle.lrp_canon.proofs.StoreRows.{holds_begun, holds_next, key_takes, same_period, same_shape}
use Rattle.lrp_canon.proofs.storing.rows_in_store.Goals as goal

pub loop-group-init : goal.loop-group-init
loop-group-init c =
    let word : nat_abs (to_z w64 c.args.periods.least) ≡ c.args.periods.least = ap nat_abs (to_z_pos w64 c.args.periods.least (omega (arith, c.requires.high))) in
    let times : c.args.shape.times ≤ 8 = omega (arith, c.requires.groups.column) in
    record {
      done = [];
      keys = c.into_iter-group-iterator.ensures.into_iter_gives ∙ c.cells-group-items.ensures.cells;
      valid = subst IsStore (sym c.new-store.ensures) (new_store c.args.shape _ times c.requires.groups.texts (omega (arith, word, c.requires.low)) (omega (arith, word, c.requires.high)));
      shape = ap (λ (s : StoreView). s.shape) c.new-store.ensures;
      period = ap (λ (s : StoreView). s.period) c.new-store.ensures ∙ word;
      holds = holds_begun c.args.periods c.args.groups.now.lists c.new-store.result (ap (λ (s : StoreView). s.tables) c.new-store.ensures);
    }

pub maximal_rows-requires : goal.maximal_rows-requires
maximal_rows-requires c = subst (AreRepeating c.args.periods) (sym c.deref.ensures.value) (c.requires.repeating.each c.in-Some.group c.in_ok-spans.spans.items c.in_ok-spans.ensures)

pub add_rows-requires-clause-takes : goal.add_rows-requires-clause-takes
add_rows-requires-clause-takes c = key_takes c.args.shape c.args.groups.now.lists c.requires.groups c.cells-group-items.ensures.filled c.loop-group.invariant.done c.in-Some.group c.next.new.self c.loop-group.group-iterator c.in-Some.ensures.steps c.loop-group.invariant.keys c.loop-group.store c.loop-group.invariant.shape

pub add_rows-requires-clause-rows : goal.add_rows-requires-clause-rows
add_rows-requires-clause-rows c = subst (λ rows. (row : MaximalRow) → Contains rows row → IsRow c.args.periods.least row) (sym c.deref-in-loop-group.ensures.value) c.in_ok-rows.ensures.each

pub add_rows-requires-clause-apart : goal.add_rows-requires-clause-apart
add_rows-requires-clause-apart c = subst (AllPairs (LieApart c.args.periods.least)) (sym c.deref-in-loop-group.ensures.value) c.in_ok-rows.ensures.apart

pub loop-group-preserved : goal.loop-group-preserved
loop-group-preserved c =
    let added : AddsRows c.in-Some.group c.in_ok-rows.rows.items c.loop-group.store c.add_rows.new.out = subst (λ rows. AddsRows c.in-Some.group rows c.loop-group.store c.add_rows.new.out) c.deref-in-loop-group.ensures.value c.in_ok-add_rows.ensures in
    record {
      done = c.loop-group.invariant.done ++ c.in-Some.group ∷ [];
      keys = append_assoc c.loop-group.invariant.done (c.in-Some.group ∷ []) c.next.new.self ∙ ap (λ xs. c.loop-group.invariant.done ++ xs) (sym c.in-Some.ensures.steps) ∙ c.loop-group.invariant.keys;
      valid = added.valid c.loop-group.invariant.valid;
      shape = same_shape c.in-Some.group c.in_ok-rows.rows.items c.loop-group.store c.add_rows.new.out added ∙ c.loop-group.invariant.shape;
      period = same_period c.in-Some.group c.in_ok-rows.rows.items c.loop-group.store c.add_rows.new.out added ∙ c.loop-group.invariant.period;
      holds = holds_next c.args.periods c.args.shape c.args.groups.now.lists c.requires.groups (keys_apart c.args.groups.now.lists) c.cells-group-items.ensures.filled c.loop-group.invariant.done c.in-Some.group c.next.new.self c.loop-group.group-iterator c.in-Some.ensures.steps c.loop-group.invariant.keys
          c.in_ok-spans.spans.items c.in_ok-rows.rows.items c.loop-group.store c.add_rows.new.out c.loop-group.invariant.valid c.loop-group.invariant.shape c.loop-group.invariant.period c.in_ok-spans.ensures
          (subst (λ spans. AreRowsOf (SpansHaveNumber c.args.periods.whole spans) c.args.periods.least c.in_ok-rows.rows.items) c.deref.ensures.value c.in_ok-rows.ensures) added c.loop-group.invariant.holds;
    }

pub returns-clause-holds : goal.returns-clause-holds
returns-clause-holds c = subst (λ g. HoldsGroups c.args.periods c.args.groups.now.lists g c.loop-group.store)
    (sym (append-nil c.loop-group.invariant.done) ∙ ap (λ x. c.loop-group.invariant.done ++ x) (sym c.in-None.ensures.steps.0) ∙ c.loop-group.invariant.keys) c.loop-group.invariant.holds
