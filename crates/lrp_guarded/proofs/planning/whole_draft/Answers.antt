use Rattle.lrp_core.specs.Cores.{core_of}
use Rattle.lrp_guarded.proofs.Ended.{guarded_made}
use Rattle.lrp_guarded.proofs.planning.whole_draft.Goals as goal

pub returns : goal.returns
returns c =
    guarded_made c.args.sources.now (core_of c.args.core.now) c.args.period.number c.in_ok-tree.tree c.new-making.result c.build.new.making c.into_draft-draft.result c.extend.new.self c.new.result.guard c.new.result.block c.deref.result.now
    c.new-making.ensures c.in_ok-tree.ensures c.deref.ensures.value c.new.ensures.guard c.new.ensures.block c.in_ok-build.ensures c.into_draft-draft.ensures c.in_ok-extend.ensures
