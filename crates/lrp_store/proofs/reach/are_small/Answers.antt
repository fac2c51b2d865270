-- One bound more is small.
use Rattle.std.proofs.Common.{◌≡◌, ◌∙◌, ap, length, of_z, rules, subst, sym, to_z, arith}
use Rattle.std.specs.Int.{w64}
use Rattle.std.specs.Prelude.{◌≤◌, nat_abs}
use Rattle.std.proofs.lemmas.List.{get_or-map, length-map}
use Rattle.std.proofs.lemmas.Int.{ints}
use Rattle.lrp_model.specs.declared.relations.Bound.{Bound}
use Rattle.lrp_store.specs.Stored.{bound_with, bounds_of}
use Rattle.lrp_store.proofs.Written.{none, nothing}
use Rattle.lrp_store.proofs.Reaches.{AreSmall, small_more, table_small}
use Rattle.lrp_store.proofs.reach.are_small.Goals as goal

pub loop-entry-init : goal.loop-entry-init
loop-entry-init c = record { each = λ i l. absurd (omega (arith, l)) }

pub loop-entry-preserved : goal.loop-entry-preserved
loop-entry-preserved c =
    let word : to_z w64 (of_z w64 c.most.result) ≡ c.most.result = search (ints, rules) in
    let small : nat_abs c.most.result ≤ c.args.reach = subst (λ z. nat_abs z ≤ c.args.reach) word (c.is_small.ensures c.if-not-is_small.false) in
    small_more c.args.reach c.args.entries.now c.loop-entry.entry-index c.loop-entry.invariant
    (subst (λ z. nat_abs z ≤ c.args.reach) (c.most.ensures ∙ ap (λ (b : Bound). b.most) (sym (get_or-map bound_with c.args.entries.now c.loop-entry.entry-index nothing none (omega arith)))) small)

pub returns : goal.returns
returns c = λ e.
    let many : length (bounds_of c.args.entries.now) ≡ length c.args.entries.now = length-map c.args.entries.now _ in
    let end : c.loop-entry.entry-index ≡ length (bounds_of c.args.entries.now) = omega arith in
    table_small c.args.reach (bounds_of c.args.entries.now) (subst (AreSmall c.args.reach (bounds_of c.args.entries.now)) end c.loop-entry.invariant)
