use Rattle.lrp_keep.proofs.Standing.{err_then, undone_same}
use Rattle.lrp_keep.proofs.states.State.derive.Goals as goal

pub returns-then-period-self-clause-undone : goal.returns-then-period-self-clause-undone
returns-then-period-self-clause-undone c = err_then c.derive_anew.result _ _ c.derive_anew.ensures.same (λ e. undone_same c.args.of.now c.args.key c.args.self.now c.derive_anew.new.self c.requires.old e)
