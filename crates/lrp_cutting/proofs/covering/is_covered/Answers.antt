-- One more zone is compared.
use Rattle.std.proofs.Common.{◌≡◌, ◌+◌, ◌++◌, ◌∷◌, [], None, ap, arith, length, get_or, sym, subst, take, ◌∙◌}
use Rattle.std.specs.Prelude.{Contains}
use Rattle.std.proofs.Math.Seq.{take-length}
use Rattle.std.proofs.lemmas.List.{take_more}
use Rattle.std.proofs.lemmas.List.Elements.{Contains-get_or}
use Rattle.lrp_cutting.specs.declared.windows.CutterWindow.{CutterWindow as Window}
use Rattle.lrp_cutting.specs.Axes.{AreAxesFor}
use Rattle.lrp_cutting.specs.Covering.{IsClosureAt, IsCoveredBy}
use Rattle.lrp_cutting.specs.Hulls.{IsClosureOf}
use Rattle.lrp_cutting.proofs.CoverLaws.{axes_for, covers_more, none_covers}
use Rattle.lrp_cutting.proofs.Lists.{in_none, read}
use Rattle.lrp_cutting.proofs.NearLaws.{read_at}
use Rattle.lrp_cutting.proofs.covering.is_covered.Goals as goal

-- what the list has after its end
abbrev nowhere : Window
nowhere = record { least = None; most = None; place = 0 }

pub narrowest-axis-requires-clause-some : goal.narrowest-axis-requires-clause-some
narrowest-axis-requires-clause-some c = c.requires.axes.some

pub narrowest-axis-requires-clause-axes : goal.narrowest-axis-requires-clause-axes
narrowest-axis-requires-clause-axes c = axes_for c.args.zones.now c.requires.zones c.index-zones-place.result (read _ _ _ c.requires.place c.index-zones-place.is) c.closed-closed.result (record { closed = c.closed-closed.ensures.closed; integers = c.closed-closed.ensures.integers }) c.args.axes.now c.requires.axes

pub closed_window-window-requires : goal.closed_window-window-requires
closed_window-window-requires c =
    let fit : AreAxesFor c.closed-closed.result c.args.axes.now = axes_for c.args.zones.now c.requires.zones c.index-zones-place.result (read _ _ _ c.requires.place c.index-zones-place.is) c.closed-closed.result (record { closed = c.closed-closed.ensures.closed; integers = c.closed-closed.ensures.integers }) c.args.axes.now c.requires.axes in
    (fit.each c.narrowest-axis.result.now c.narrowest-axis.ensures).1

pub holding-other-items-requires : goal.holding-other-items-requires
holding-other-items-requires c = (c.requires.axes.each c.narrowest-axis.result.now c.narrowest-axis.ensures).order

pub loop-other-init : goal.loop-other-init
loop-other-init c = λ w l by. in_none w l

pub is_covered_by-requires-clause-closed : goal.is_covered_by-requires-clause-closed
is_covered_by-requires-clause-closed c =
    subst (λ p. IsClosureAt c.args.zones.now p c.closed-closed.result) (sym c.closed_window-window.ensures.place)
    (record { zone = c.index-zones-place.result; is = read_at _ _ _ c.requires.place c.index-zones-place.is; closure = record { closed = c.closed-closed.ensures.closed; integers = c.closed-closed.ensures.integers } })

pub is_covered_by-requires-clause-windows : goal.is_covered_by-requires-clause-windows
is_covered_by-requires-clause-windows c =
    let fit : AreAxesFor c.closed-closed.result c.args.axes.now = axes_for c.args.zones.now c.requires.zones c.index-zones-place.result (read _ _ _ c.requires.place c.index-zones-place.is) c.closed-closed.result (record { closed = c.closed-closed.ensures.closed; integers = c.closed-closed.ensures.integers }) c.args.axes.now c.requires.axes in
    record {
      pair = c.narrowest-axis.result.now.pair;
      columns = (fit.each c.narrowest-axis.result.now c.narrowest-axis.ensures).1;
      closed = c.closed_window-window.ensures.window;
      stored = (c.requires.axes.each c.narrowest-axis.result.now c.narrowest-axis.ensures).windows.each _
          (c.holding-other-items.ensures.listed (get_or c.holding-other-items.result.now c.loop-other.other-index nowhere) (Contains-get_or c.holding-other-items.result.now c.loop-other.other-index nowhere c.loop-other-test.true));
    }

pub returns-then-is_covered_by : goal.returns-then-is_covered_by
returns-then-is_covered_by c = (λ t. (_, subst (λ p. IsCoveredBy c.args.zones.now c.args.out.now p (get_or c.holding-other-items.result.now c.loop-other.other-index nowhere).place) c.closed_window-window.ensures.place (c.is_covered_by.ensures.0 c.if-is_covered_by.true)), λ h. cc)

pub loop-other-preserved : goal.loop-other-preserved
loop-other-preserved c =
    rw (take_more c.holding-other-items.result.now c.loop-other.other-index nowhere c.loop-other-test.true)
    (covers_more c.args.zones.now c.args.out.now c.args.place (take c.loop-other.other-index c.holding-other-items.result.now) (get_or c.holding-other-items.result.now c.loop-other.other-index nowhere) c.loop-other.invariant
    (λ by. cc (c.is_covered_by.ensures.1 (subst (λ p. IsCoveredBy c.args.zones.now c.args.out.now p (get_or c.holding-other-items.result.now c.loop-other.other-index nowhere).place) (sym c.closed_window-window.ensures.place) by), c.if-is_covered_by.false)))

pub returns : goal.returns
returns c =
    let all : c.loop-other.other-index ≡ length c.holding-other-items.result.now = omega (arith, c.loop-other.auto.other-index-end, c.loop-other-test.false) in
    let whole : take c.loop-other.other-index c.holding-other-items.result.now ≡ c.holding-other-items.result.now = ap (λ n. take n c.holding-other-items.result.now) all ∙ take-length c.holding-other-items.result.now in
    let closure : IsClosureOf c.index-zones-place.result c.closed-closed.result = record { closed = c.closed-closed.ensures.closed; integers = c.closed-closed.ensures.integers } in
    let fit : AreAxesFor c.closed-closed.result c.args.axes.now = axes_for c.args.zones.now c.requires.zones c.index-zones-place.result (read _ _ _ c.requires.place c.index-zones-place.is) c.closed-closed.result closure c.args.axes.now c.requires.axes in (
      λ t. absurd (cc t),
      λ h. absurd (none_covers c.args.zones.now c.requires.zones c.args.out.now c.args.place c.closed-closed.result (record { zone = c.index-zones-place.result; is = read_at _ _ _ c.requires.place c.index-zones-place.is; closure = closure })
          c.narrowest-axis.result.now c.closed_window-window.result c.holding-other-items.result.now (c.requires.axes.each c.narrowest-axis.result.now c.narrowest-axis.ensures) (fit.each c.narrowest-axis.result.now c.narrowest-axis.ensures).1 c.closed_window-window.ensures.window c.holding-other-items.ensures
          (subst (λ ws. (w : Window) → Contains ws w → IsCoveredBy c.args.zones.now c.args.out.now c.args.place w.place → ⊥) whole c.loop-other.invariant) h),
    )
