-- A place where the ranks differ decides.
use Rattle.std.proofs.Common.{get_or, arith, rules, sym, ap, ap₂, ◌∙◌, SFits}
use Rattle.std.specs.Prelude.{pos}
use Rattle.std.specs.Int.{w64}
use Rattle.std.proofs.lemmas.Int.{to_z-of_z}
use Rattle.std.specs.Ordering.{nat_cmp}
use Rattle.lrp_theory.specs.Residues.{rank}
use Rattle.lrp_store.proofs.Ordered.{one_more_same, one_differs, all_same}
use Rattle.lrp_packed.proofs.order.times_order.Goals as goal

pub loop-i-preserved : goal.loop-i-preserved
loop-i-preserved c =
    let fa : SFits w64 (get_or c.args.a.now c.loop-i.i (pos 0)) = search rules in
    let fb : SFits w64 (get_or c.args.b.now c.loop-i.i (pos 0)) = search rules in
    one_more_same (λ x y. nat_cmp (rank x) (rank y)) (pos 0) c.loop-i.i c.args.a.now c.args.b.now c.cmp-order.result (omega arith) (omega arith)
    (c.cmp-order.ensures ∙ ap₂ nat_cmp (c.rank_of.ensures ∙ ap rank (to_z-of_z w64 (get_or c.args.a.now c.loop-i.i (pos 0)) fa)) (c.rank_of-in-loop-i.ensures ∙ ap rank (to_z-of_z w64 (get_or c.args.b.now c.loop-i.i (pos 0)) fb)))
    (sym c.is_ne.ensures ∙ c.if-is_ne.false) c.loop-i.invariant

pub returns-then-is_ne : goal.returns-then-is_ne
returns-then-is_ne c =
    let fa : SFits w64 (get_or c.args.a.now c.loop-i.i (pos 0)) = search rules in
    let fb : SFits w64 (get_or c.args.b.now c.loop-i.i (pos 0)) = search rules in
    one_differs (λ x y. nat_cmp (rank x) (rank y)) (pos 0) c.loop-i.i c.args.a.now c.args.b.now c.cmp-order.result (omega arith) (omega arith)
    (c.cmp-order.ensures ∙ ap₂ nat_cmp (c.rank_of.ensures ∙ ap rank (to_z-of_z w64 (get_or c.args.a.now c.loop-i.i (pos 0)) fa)) (c.rank_of-in-loop-i.ensures ∙ ap rank (to_z-of_z w64 (get_or c.args.b.now c.loop-i.i (pos 0)) fb)))
    (sym c.is_ne.ensures ∙ c.if-is_ne.true) c.loop-i.invariant

pub returns : goal.returns
returns c = all_same (λ x y. nat_cmp (rank x) (rank y)) (pos 0) c.loop-i.i c.args.a.now c.args.b.now (c.told-a ∙ sym c.told-b) (omega arith) c.loop-i.invariant
