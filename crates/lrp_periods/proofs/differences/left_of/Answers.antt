-- One right part after another is taken away.
use Rattle.std.proofs.Common.{arith}
use Rattle.std.specs.Prelude.{◌≤◌, length}
use Rattle.lrp_tables.specs.Tables.{HasAssignment}
use Rattle.lrp_cutting.proofs.Lists.{read}
use Rattle.lrp_periods.specs.Parts.{HasSome, IsPartOfSet}
use Rattle.lrp_periods.specs.Sets.{IsDifferenceOf}
use Rattle.lrp_periods.proofs.PeriodLaws.{of_word}
use Rattle.lrp_periods.proofs.TakenApart.{can_take, can_take_first, leaves_all, leaves_more, leaves_one}
use Rattle.lrp_periods.proofs.Words.{take_word}
use Rattle.lrp_periods.proofs.differences.left_of.Goals as goal

pub take_away-requires : goal.take_away-requires
take_away-requires c = can_take_first (take_word c.requires) (read c.args.rights.now 0 c.index-rights-0.result c.requires.rights_are.some c.index-rights-0.is)

pub loop-place-init : goal.loop-place-init
loop-place-init c = leaves_one (take_word c.requires) c.index-rights-0.result c.requires.rights_are.some c.index-rights-0.is c.in_ok-made.ensures

pub take_away-requires-in-loop-place : goal.take_away-requires-in-loop-place
take_away-requires-in-loop-place c = can_take (take_word c.requires) c.loop-place.place (read c.args.rights.now c.loop-place.place c.index-rights-place.result c.loop-place-test.true c.index-rights-place.is) c.loop-place.invariant

pub loop-place-preserved : goal.loop-place-preserved
loop-place-preserved c = leaves_more (take_word c.requires) c.loop-place.place c.index-rights-place.result c.loop-place-test.true c.index-rights-place.is c.loop-place.invariant c.in_ok-less.ensures

pub returns : goal.returns
returns c = of_word c.requires.period_is (λ p. IsPartOfSet c.args.setting.now.domain.now c.args.left.now.vars.times c.args.left.now.vars.texts p (IsDifferenceOf (HasAssignment c.args.left.now c.args.setting.now.domain.now) (HasSome c.args.setting.now.domain.now c.args.rights.now)) c.loop-place.made)
    (leaves_all (take_word c.requires) c.loop-place.place (let l : length c.args.rights.now ≤ c.loop-place.place = omega (arith, c.loop-place-test.false) in l) c.loop-place.invariant)
