-- What is passed over ends too soon or begins too late.
use Rattle.std.proofs.Common.{◌-◌, ◌<◌, ◌≤◌, None, ap, drop, length, refl, subst, ◌∙◌}
use Rattle.std.specs.Prelude.{slice_index_or}
use Rattle.std.proofs.lemmas.List.{take_rest}
use Rattle.lrp_cutting.specs.Windows.{IsBefore}
use Rattle.lrp_cutting.proofs.AxisLaws.{holding_is}
use Rattle.lrp_cutting.proofs.axes.Axis.holding.Goals as goal

pub returns : goal.returns
returns c = holding_is c.args.window.now c.args.self.now.windows.items _ _ c.args.self.now.reached.items c.count_before-start.result c.count_by.result c.requires.reached
    (subst (λ l. c.count_before-start.result ≤ length l) c.deref.ensures.value c.count_before-start.ensures.count)
    (subst (λ l. 0 < c.count_before-start.result → IsBefore (slice_index_or l (c.count_before-start.result - 1) None) c.args.window.now.most) c.deref.ensures.value c.count_before-start.ensures.before)
    (take_rest c.deref-2.result.now c.count_before-start.result ∙ ap (drop c.count_before-start.result) c.deref-2.ensures.value)
    refl c.count_by.ensures.after
