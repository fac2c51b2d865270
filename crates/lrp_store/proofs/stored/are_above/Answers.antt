-- Each turn compares one entry.
use Rattle.std.proofs.Common.{◌≡◌, ap, subst, arith, length, to_z, of_z, refl}
use Rattle.std.specs.Int.{w64}
use Rattle.std.proofs.lemmas.List.{length-map}
use Rattle.lrp_store.specs.Stored.{bounds_of}
use Rattle.lrp_store.proofs.Written.{entry_low, entry_word}
use Rattle.lrp_store.proofs.Looser.{AreAbove, none_above_yet, one_more_above, above_within}
use Rattle.lrp_store.proofs.stored.are_above.Goals as goal

pub loop-entry-init : goal.loop-entry-init
loop-entry-init c = none_above_yet c.args.zone.now.bounds (bounds_of c.args.entries.now)

pub bound_of-requires : goal.bound_of-requires
bound_of-requires c = entry_low c.args.entries.now c.loop-entry.entry-index c.requires.listed (omega arith)

pub loop-entry-preserved : goal.loop-entry-preserved
loop-entry-preserved c =
    one_more_above c.args.zone.now.bounds c.args.entries.now c.loop-entry.entry-index _ c.bound_of.result (to_z w64 (of_z w64 c.most.result)) (omega arith) refl c.bound_of.ensures.value
    (entry_word c.args.entries.now c.loop-entry.entry-index c.most.result c.requires.small (omega arith) c.most.ensures) (c.is_at_most.ensures.0 c.if-not-is_at_most.false) c.loop-entry.invariant

pub returns-then-not-is_at_most-clause-none : goal.returns-then-not-is_at_most-clause-none
returns-then-not-is_at_most-clause-none c = λ e. let none : length c.args.entries.now ≡ 0 = ap length e in absurd (omega (arith, none))

pub returns-clause-within : goal.returns-clause-within
returns-clause-within c = λ yes.
    let many : length (bounds_of c.args.entries.now) ≡ length c.args.entries.now = length-map c.args.entries.now _ in
    let end : c.loop-entry.entry-index ≡ length (bounds_of c.args.entries.now) = omega arith in
    above_within c.args.zone.now (bounds_of c.args.entries.now) c.requires.columns c.requires.listed (subst (AreAbove c.args.zone.now.bounds (bounds_of c.args.entries.now)) end c.loop-entry.invariant)
