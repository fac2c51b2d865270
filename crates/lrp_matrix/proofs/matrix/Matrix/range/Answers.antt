use Rattle.std.proofs.Common.{arith}
use Rattle.lrp_matrix.proofs.Completion.{range_is}
use Rattle.lrp_matrix.proofs.matrix.Matrix.range.Goals as goal

pub returns-clause-least : goal.returns-clause-least
returns-clause-least c =
    (range_is c.args.self.now _ c.self.view_is c.requires.closed c.args.i c.args.prefix.now (omega arith) c.requires.column c.requires.prefix _ _ c.ends.ensures.ends).0

pub returns-clause-most : goal.returns-clause-most
returns-clause-most c =
    (range_is c.args.self.now _ c.self.view_is c.requires.closed c.args.i c.args.prefix.now (omega arith) c.requires.column c.requires.prefix _ _ c.ends.ensures.ends).1

pub returns-clause-between : goal.returns-clause-between
returns-clause-between c =
    (range_is c.args.self.now _ c.self.view_is c.requires.closed c.args.i c.args.prefix.now (omega arith) c.requires.column c.requires.prefix _ _ c.ends.ensures.ends).2
