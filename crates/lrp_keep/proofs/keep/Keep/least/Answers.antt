-- The first answer of a state is the least one of the keeper.
use Rattle.std.proofs.Common.{subst}
use Rattle.lrp_keep.specs.Keeps.{IsKeptLeast}
use Rattle.lrp_keep.proofs.KeptLeast.{kept_least}
use Rattle.lrp_keep.proofs.keep.Keep.least.Goals as goal

pub returns : goal.returns
returns c = subst (λ k. IsKeptLeast k c.first.result) c.self.view_is (kept_least c.self.inside.of c.self.inside.state c.self.invariant.keeping c.first.result c.first.ensures)
