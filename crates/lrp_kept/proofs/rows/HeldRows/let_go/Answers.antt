use Rattle.lrp_kept.proofs.FirstEqual.{let_go_at}
use Rattle.lrp_kept.proofs.rows.HeldRows.let_go.Goals as goal

pub returns : goal.returns
returns c = let_go_at c.args.relation c.args.place c.unlist_key-key.result c.args.self.now _ c.unlist_key-key.ensures c.try_remove.ensures.updates
