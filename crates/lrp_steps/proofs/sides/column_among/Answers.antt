-- A place is below the number of names.
use Rattle.std.proofs.Common.{◌<◌, length, arith}
use Rattle.std.proofs.lemmas.Option.{slice_get_within}
use Rattle.lrp_steps.proofs.sides.column_among.Goals as goal

pub overflow_add-result : goal.overflow_add-result
overflow_add-result c = let l : c.in-Some.place < length c.args.names.now = slice_get_within c.args.names.now c.in-Some.place c.args.name.now c.in-Some.ensures.some in omega (arith, l, c.requires.few)

pub returns-clause-high : goal.returns-clause-high
returns-clause-high c = let l : c.in-Some.place < length c.args.names.now = slice_get_within c.args.names.now c.in-Some.place c.args.name.now c.in-Some.ensures.some in omega (arith, l)
