-- There is a tuple exactly where there is a cell.
use Rattle.std.proofs.Common.{subst, ap, ◌∙◌}
use Rattle.std.specs.FinMap as finite
use Rattle.lrp_store.specs.Stores.{IsStore}
use Rattle.lrp_store.proofs.Emptiness.{empty_where}
use Rattle.lrp_store.proofs.store.Store.is_empty.Goals as goal

pub returns : goal.returns
returns c = empty_where c.args.self.now (subst IsStore c.self.view_is c.self.invariant.valid) c.len.result (c.len.ensures ∙ ap (λ s. finite.len s.tables) c.self.view_is)
