use Rattle.std.proofs.Common.{◌≡◌, take, subst, arith}
use Rattle.lrp_core.specs.Cores.{cores_of}
use Rattle.std.proofs.lemmas.List.{take_all}
use Rattle.lrp_kept.specs.Choices.{as_list}
use Rattle.lrp_kept.specs.Drafts.{AreDisjuncts, CanBeJoinedUp}
use Rattle.lrp_kept.specs.Held.{names_of}
use Rattle.lrp_kept.proofs.JoinedUp.{can_at, no_disjuncts, one_disjunct_more}
use Rattle.lrp_kept.proofs.disjuncts.each_disjunct.Goals as goal

pub loop-core-init : goal.loop-core-init
loop-core-init c = no_disjuncts (names_of c.args.rows.now) c.new-all.result.items c.new-all.ensures.items

pub push_one-requires : goal.push_one-requires
push_one-requires c = can_at (CanBeJoinedUp (names_of c.args.rows.now)) c.args.cores.now c.loop-core.core-index c.core-item.result c.loop-core-test.true c.core-item.is c.requires

pub loop-core-preserved : goal.loop-core-preserved
loop-core-preserved c =
    one_disjunct_more (names_of c.args.rows.now) c.args.cores.now c.loop-core.core-index c.core-item.result c.loop-core.all.items c.push_one.new.all.items c.loop-core-test.true c.core-item.is c.loop-core.invariant c.in_ok-push_one.ensures

pub returns : goal.returns
returns c =
    let all : take c.loop-core.core-index c.args.cores.now ≡ c.args.cores.now = take_all c.loop-core.core-index c.args.cores.now (omega (arith, c.loop-core-test.false)) in
    subst (λ cores. AreDisjuncts (names_of c.args.rows.now) (as_list (cores_of cores)) c.loop-core.all.items) all c.loop-core.invariant
