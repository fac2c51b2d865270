use Rattle.lrp_kept.proofs.FirstEqual.{gone_again, held_after, same_slots}
use Rattle.lrp_kept.proofs.Relisted.{if_err}
use Rattle.lrp_kept.proofs.rows.HeldRows.hold.Goals as goal

pub returns-in_err-key-clause-same : goal.returns-in_err-key-clause-same
returns-in_err-key-clause-same c = if_err c.from_residual.result (same_slots c.args.self.now c.insert.new.self c.args.source.relation c.in_err-key.ensures.err)

pub returns-in-Ok-clause-held : goal.returns-in-Ok-clause-held
returns-in-Ok-clause-held c = held_after c.args.source c.in_ok-key.key c.args.self.now _ c.in_ok-key.ensures.was_vacant c.in_ok-key.ensures.updates c.in-Ok.ensures.listed

pub returns-in-Err-clause-same : goal.returns-in-Err-clause-same
returns-in-Err-clause-same c =
    gone_again c.args.source c.in_ok-key.key c.args.self.now (record { relations = c.args.self.now.relations; sources = c.insert.new.self }) _ c.in_ok-key.ensures.was_vacant c.in_ok-key.ensures.updates c.try_remove.ensures.updates c.in-Err.ensures.same
