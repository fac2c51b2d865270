-- The zones so far are those at the places of the windows so far.
use Rattle.std.proofs.Common.{◌≡◌, ◌<◌, ℕ, length}
use Rattle.std.specs.Prelude.{Some, slice_get}
use Rattle.lrp_cutting.specs.declared.windows.CutterWindow.{CutterWindow as Window}
use Rattle.lrp_cutting.proofs.turns.ordered.Given as goal

abbrev pub invariant-loop-window : goal.invariant-loop-window
invariant-loop-window l = record {
  count : length l.made.items ≡ l.window-index;
  each : (k : ℕ) (w : Window) → k < l.window-index → slice_get l.windows k ≡ Some w → slice_get l.made.items k ≡ slice_get l.zones w.place;
}
