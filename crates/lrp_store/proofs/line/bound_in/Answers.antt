-- The first entry with the place has its bound.
use Rattle.std.proofs.Common.{SFits, rules, arith, ap, refl, sym, Some, ◌∙◌}
use Rattle.std.specs.Int.{w64}
use Rattle.std.proofs.lemmas.Int.{to_z-of_z}
use Rattle.lrp_store.proofs.LineBounds.{stands_first, stands_here, stands_later, stands_nowhere}
use Rattle.lrp_store.proofs.line.bound_in.Goals as goal

pub loop-entry-init : goal.loop-entry-init
loop-entry-init c = stands_first c.args.entries.now c.args.place

pub returns-then-entry-place : goal.returns-then-entry-place
returns-then-entry-place c = let fits : SFits w64 c.most.result = search rules in ap Some (to_z-of_z w64 c.most.result fits ∙ c.most.ensures) ∙ sym (stands_here c.args.entries.now c.args.place c.loop-entry.entry-index _ (omega arith) refl c.if-entry-place.true c.loop-entry.invariant)

pub loop-entry-preserved : goal.loop-entry-preserved
loop-entry-preserved c = stands_later c.args.entries.now c.args.place c.loop-entry.entry-index _ (omega arith) refl c.if-entry-place.false c.loop-entry.invariant

pub returns : goal.returns
returns c = sym (stands_nowhere c.args.entries.now c.args.place c.loop-entry.entry-index (omega arith) c.loop-entry.invariant)
