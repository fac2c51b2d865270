-- The two places and the two zones are compared.
use Rattle.std.proofs.Common.{◌≡◌, ◌<◌, ◌∙◌, Some, ap, arith, length, sym}
use Rattle.std.specs.Prelude.{Contains, slice_get}
use Rattle.std.proofs.lemmas.Option.{slice_get_within}
use Rattle.lrp_zone.specs.Pairs.{IsOfCell}
use Rattle.lrp_cutting.specs.Axes.{HoldsWindow}
use Rattle.lrp_cutting.proofs.CoverLaws.{closure_small, covered_holds, covered_if, if_covered}
use Rattle.lrp_cutting.proofs.Lists.{got_in, read}
use Rattle.lrp_cutting.proofs.NearLaws.{read_at}
use Rattle.lrp_cutting.proofs.covering.is_covered_by.Goals.{then-other-window-via-then-other-window, then-other-window-via-else-other-window+then-is_out}
use Rattle.lrp_cutting.proofs.covering.is_covered_by.Goals as goal

pub bounds-zones-other : goal.bounds-zones-other
bounds-zones-other c = let l : c.args.other.now.place < length c.args.zones.now = slice_get_within _ _ _ c.requires.windows.stored.is in omega arith

pub returns-then-other-window : goal.returns-then-other-window
returns-then-other-window c = (
  λ t. absurd (cc t),
  λ h. elim c.then-other-window.branch [
    | then-other-window-via-then-other-window w ↦ absurd (h.apart w.if-other-window.true)
    | then-other-window-via-else-other-window+then-is_out w ↦ absurd (h.stays.stays (w.is_out.ensures.0 w.if-is_out.true))
  ],
)

pub lies_within-requires-clause-columns : goal.lies_within-requires-clause-columns
lies_within-requires-clause-columns c =
    let l : c.args.other.now.place < length c.args.zones.now = slice_get_within _ _ _ c.requires.windows.stored.is in
    let here : Contains c.args.zones.now c.index-zones-other.result = read c.args.zones.now c.args.other.now.place c.index-zones-other.result l c.index-zones-other.is in
    let cell : IsOfCell c.requires.closed.zone c.index-zones-other.result = (c.requires.zones.cells c.requires.closed.zone (got_in _ _ _ c.requires.closed.is)).each c.index-zones-other.result here in
    c.requires.closed.closure.integers.columns ∙ sym (ap length cell.residues)

pub lies_within-requires-clause-small : goal.lies_within-requires-clause-small
lies_within-requires-clause-small c = closure_small c.args.zones.now c.requires.zones c.requires.closed.zone (got_in _ _ _ c.requires.closed.is) c.args.closed.now c.requires.closed.closure

pub returns-then-ends_by : goal.returns-then-ends_by
returns-then-ends_by c =
    let l : c.args.other.now.place < length c.args.zones.now = slice_get_within _ _ _ c.requires.windows.stored.is in
    let at : slice_get c.args.zones.now c.args.other.now.place ≡ Some c.index-zones-other.result = read_at c.args.zones.now c.args.other.now.place c.index-zones-other.result l c.index-zones-other.is in (
      (λ t. covered_if c.args.zones.now c.requires.zones c.args.out.now c.args.window.now.place c.args.closed.now c.requires.closed c.args.other.now.place c.index-zones-other.result c.if-other-window.false at (λ e. cc (c.is_out.ensures.1 e, c.if-is_out.false)) (c.lies_within.ensures.0 t)),
      (λ h. c.lies_within.ensures.1 (if_covered c.args.zones.now c.requires.zones c.args.out.now c.args.window.now.place c.args.closed.now c.requires.closed c.args.other.now.place c.index-zones-other.result at h)),
    )

pub returns-else-ends_by : goal.returns-else-ends_by
returns-else-ends_by c = (
  λ t. absurd (cc t),
  λ h.
      let holds : HoldsWindow c.args.window.now c.args.other.now = covered_holds c.args.zones.now c.requires.zones c.args.out.now c.args.window.now.place c.args.closed.now c.requires.closed c.requires.windows.pair c.args.window.now c.args.other.now c.requires.windows.columns c.requires.windows.closed c.requires.windows.stored h in
      absurd (cc (c.ends_by.ensures.1 (record { below = holds.high }), c.if-ends_by.false)),
)
