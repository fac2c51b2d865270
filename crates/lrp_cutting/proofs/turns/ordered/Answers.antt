-- Each turn adds the zone at the place of one more window.
use Rattle.std.proofs.Common.{◌≡◌, ◌+◌, ◌<◌, ◌∷◌, ◌∙◌, [], Some, ap, arith, get_or, length, length-append}
use Rattle.std.specs.Prelude.{slice_get}
use Rattle.std.proofs.lemmas.Option.{slice_get_within}
use Rattle.lrp_cutting.proofs.ApartLaws.{no_window, place_inside, places_more}
use Rattle.lrp_cutting.proofs.NearLaws.{read_at}
use Rattle.lrp_cutting.proofs.turns.ordered.Goals as goal

pub offset_bounds-zones-window : goal.offset_bounds-zones-window
offset_bounds-zones-window c =
    let inside : (get_or c.args.windows.now c.loop-window.window-index no_window).place < length c.args.zones.now = place_inside c.args.zones.now c.args.windows.now c.loop-window.window-index c.loop-window-test.true c.requires in
    omega arith

pub bounds-zones-window : goal.bounds-zones-window
bounds-zones-window c = place_inside c.args.zones.now c.args.windows.now c.loop-window.window-index c.loop-window-test.true c.requires

pub loop-window-preserved : goal.loop-window-preserved
loop-window-preserved c =
    let here : slice_get c.args.zones.now (get_or c.args.windows.now c.loop-window.window-index no_window).place ≡ Some c.index-zones-window.result =
    read_at c.args.zones.now (get_or c.args.windows.now c.loop-window.window-index no_window).place c.index-zones-window.result (place_inside c.args.zones.now c.args.windows.now c.loop-window.window-index c.loop-window-test.true c.requires) c.index-zones-window.is in
    record {
      count = ap length c.in_ok-push.ensures.items ∙ length-append c.loop-window.made.items (c.index-zones-window.result ∷ []) ∙ ap (λ k. k + 1) c.loop-window.invariant.count;
      each = places_more c.args.zones.now c.args.windows.now c.loop-window.made.items _ c.loop-window.window-index c.index-zones-window.result c.in_ok-push.ensures.items c.loop-window.invariant.count here c.loop-window.invariant.each;
    }

pub returns : goal.returns
returns c =
    let all : c.loop-window.window-index ≡ length c.args.windows.now = omega arith in
    record {
      count = c.loop-window.invariant.count ∙ all;
      each = λ k w e. let l : k < length c.args.windows.now = slice_get_within c.args.windows.now k w e in c.loop-window.invariant.each k w (omega (arith, all)) e;
    }
