-- One more pair has its axis.
use Rattle.std.proofs.Common.{◌≡◌, ◌+◌, ◌<◌, arith, length, get_or, subst, sym}
use Rattle.std.specs.Prelude.{Contains}
use Rattle.std.proofs.lemmas.List.Elements.{Contains-get_or}
use Rattle.lrp_cutting.specs.Axes.{IsAxisOf}
use Rattle.lrp_cutting.specs.declared.axes.Axis.{Axis}
use Rattle.lrp_cutting.specs.declared.pairs.NodePair.{NodePair}
use Rattle.lrp_cutting.proofs.CoverLaws.{axes_more, axes_none, some_pushed}
use Rattle.lrp_cutting.proofs.covering.axes_along.Goals as goal

-- what the list has after its end
abbrev nowhere : NodePair
nowhere = record { left = 0; right = 0 }

pub loop-pair-init : goal.loop-pair-init
loop-pair-init c = (λ a l. axes_none c.args.zones.now a (subst (λ xs. Contains xs a) c.new-axes.ensures.items l), λ l. absurd (omega arith))

pub of-requires : goal.of-requires
of-requires c = λ z l. c.requires.pairs (get_or c.args.pairs.now c.loop-pair.pair-index nowhere) z (Contains-get_or c.args.pairs.now c.loop-pair.pair-index nowhere c.loop-pair-test.true) l

pub returns-then-zones-lt-FEW : goal.returns-then-zones-lt-FEW
returns-then-zones-lt-FEW c = record {
  some = some_pushed _ _ _ c.in_ok-push.ensures.items;
  each = subst (λ l. (a : Axis) → Contains l a → IsAxisOf c.args.zones.now a) (sym c.in_ok-push.ensures.items) (axes_more c.args.zones.now c.loop-pair.axes.items c.in_ok-axis.axis c.loop-pair.invariant.0 c.in_ok-axis.ensures);
}

pub loop-pair-preserved : goal.loop-pair-preserved
loop-pair-preserved c = (
  subst (λ l. (a : Axis) → Contains l a → IsAxisOf c.args.zones.now a) (sym c.in_ok-push.ensures.items) (axes_more c.args.zones.now c.loop-pair.axes.items c.in_ok-axis.axis c.loop-pair.invariant.0 c.in_ok-axis.ensures),
  λ l. some_pushed _ _ _ c.in_ok-push.ensures.items,
)

pub returns : goal.returns
returns c = record { some = c.loop-pair.invariant.1 (omega (arith, c.requires.some, c.loop-pair.auto.pair-index-end, c.loop-pair-test.false)); each = c.loop-pair.invariant.0 }
