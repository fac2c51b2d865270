use Rattle.std.proofs.Common.{◌-◌, get_or, refl, ap}
use Rattle.std.specs.Prelude.{slice_index_or}
use Rattle.lrp_kept.proofs.Outlined.{above_zero, narrowed_one}
use Rattle.lrp_kept.specs.declared.spans.ColumnSpan.{ColumnSpan}
use Rattle.lrp_kept.proofs.outlines.narrow_at.Goals as goal

pub returns : goal.returns
returns c =
    let place = slice_index_or c.args.placed.now.places c.args.i 0 in
    narrowed_one c.args.times.now _ c.args.placed.now c.args.i place c.args.count c.narrowed_by.result (get_or c.args.times.now (place - 1) c.index-times-place.result) c.requires.size c.requires.few c.requires.column refl (above_zero place c.if-place-eq0.false) c.if-place-count.false
    (ap (λ (s : ColumnSpan). get_or c.args.times.now (place - 1) s) c.index-times-place.is) c.narrowed_by.ensures refl
