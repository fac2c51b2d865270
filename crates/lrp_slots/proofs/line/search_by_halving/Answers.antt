-- The middle of what is left is looked at.
use Rattle.std.proofs.Common.{◌+◌, ◌-◌, ◌<◌, ◌≤◌, ◌/◌, sym, ◌∙◌, arith}
use Rattle.lrp_slots.proofs.Keyed.{all_between, closed_gap, key_less, key_equal, key_greater}
use Rattle.lrp_slots.specs.Keys.{entries_by}
use Rattle.lrp_slots.proofs.line.search_by_halving.Goals as goal

pub loop-low-init : goal.loop-low-init
loop-low-init g c = all_between g.K.Key.cell_of c.args.line.now c.args.key.now

pub loop-low-preserved-in-Less : goal.loop-low-preserved-in-Less
loop-low-preserved-in-Less g c =
    let le : c.loop-low.low ≤ c.loop-low.low + (c.loop-low.high - c.loop-low.low) / 2 = omega arith in
    let lt : c.loop-low.low + (c.loop-low.high - c.loop-low.low) / 2 < c.loop-low.high = omega (arith, c.loop-low-test.true) in
    key_less g.K.Key.cell_of g.K.Ord.cmp g.met.K.Key.ordered c.args.line.now c.args.key.now c.loop-low.low c.loop-low.high (c.loop-low.low + (c.loop-low.high - c.loop-low.low) / 2) _ c.requires c.loop-low.invariant le lt (sym c.cmp.ensures ∙ c.in-Less.is)

pub returns-in-Equal-clause-there : goal.returns-in-Equal-clause-there
returns-in-Equal-clause-there g c =
    let lt : c.loop-low.low + (c.loop-low.high - c.loop-low.low) / 2 < c.loop-low.high = omega (arith, c.loop-low-test.true) in
    key_equal g.K.Key.cell_of g.K.Ord.cmp g.met.K.Key.ordered c.args.line.now c.args.key.now c.loop-low.low c.loop-low.high (c.loop-low.low + (c.loop-low.high - c.loop-low.low) / 2) _ c.loop-low.invariant lt (sym c.cmp.ensures ∙ c.in-Equal.is)

pub loop-low-preserved : goal.loop-low-preserved
loop-low-preserved g c =
    let le : c.loop-low.low ≤ c.loop-low.low + (c.loop-low.high - c.loop-low.low) / 2 = omega arith in
    let lt : c.loop-low.low + (c.loop-low.high - c.loop-low.low) / 2 < c.loop-low.high = omega (arith, c.loop-low-test.true) in
    key_greater g.K.Key.cell_of g.K.Ord.cmp g.met.K.Key.ordered c.args.line.now c.args.key.now c.loop-low.low c.loop-low.high (c.loop-low.low + (c.loop-low.high - c.loop-low.low) / 2) _ c.requires c.loop-low.invariant le lt (sym c.cmp.ensures ∙ c.in-Greater.is)

pub returns-clause-gap : goal.returns-clause-gap
returns-clause-gap g c = closed_gap (entries_by g.K.Key.cell_of c.args.line.now) (g.K.Key.cell_of c.args.key.now) c.loop-low.low c.loop-low.high c.loop-low.invariant c.loop-low-test.false
