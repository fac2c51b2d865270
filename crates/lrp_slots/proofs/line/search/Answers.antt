-- A key after the last one is missing there, and one that is equal to it stands there.
use Rattle.std.proofs.Common.{◌<◌, ◌≤◌, arith, sym, ◌∙◌, length}
use Rattle.lrp_slots.proofs.Keyed.{all_between, end_gap, first_gap, key_equal}
use Rattle.lrp_slots.proofs.line.search.Goals as goal

pub returns-in_default-clause-gap : goal.returns-in_default-clause-gap
returns-in_default-clause-gap g c = let short : 1 ≤ length c.args.line.now → ⊥ = c.in_default.ensures in first_gap g.K.Key.cell_of c.args.line.now c.args.key.now (grind (arith, short))

pub returns-in-Equal-clause-there : goal.returns-in-Equal-clause-there
returns-in-Equal-clause-there g c =
    let lt : c.in-Some.last < length c.args.line.now = omega (arith, c.in-Some.ensures) in
    key_equal g.K.Key.cell_of g.K.Ord.cmp g.met.K.Key.ordered c.args.line.now c.args.key.now 0 (length c.args.line.now) c.in-Some.last _ (all_between g.K.Key.cell_of c.args.line.now c.args.key.now) lt (sym c.cmp.ensures ∙ c.in-Equal.is)

pub returns-in-Greater-clause-gap : goal.returns-in-Greater-clause-gap
returns-in-Greater-clause-gap g c = end_gap g.K.Key.cell_of g.K.Ord.cmp g.met.K.Key.ordered c.args.line.now c.args.key.now c.in-Some.last _ c.requires (omega (arith, c.in-Some.ensures)) (sym c.cmp.ensures ∙ c.in-Greater.is)
