-- The pairs of the columns.
use Rattle.std.proofs.Common.{◌≡◌, ◌+◌, ap, arith, subst, sym, ◌∙◌}
use Rattle.std.specs.Prelude.{Contains}
use Rattle.lrp_zone.specs.Zones.{columns_of}
use Rattle.lrp_cutting.specs.Thresholds.{pairs_below}
use Rattle.lrp_cutting.proofs.CoverLaws.{first_pairs, some_pairs}
use Rattle.lrp_cutting.proofs.Lists.{read}
use Rattle.lrp_cutting.proofs.covering.axes_of.Goals as goal

pub axes_along-requires-clause-some : goal.axes_along-requires-clause-some
axes_along-requires-clause-some c =
    let here : Contains c.args.zones.now c.index-zones-0.result = read c.args.zones.now 0 c.index-zones-0.result c.requires.some c.index-zones-0.is in
    rw (c.deref.ensures.value ∙ c.in_ok-pairs.ensures ∙ ap (λ n. pairs_below (n + 1)) c.columns.ensures.value) (some_pairs (columns_of c.index-zones-0.result) (c.requires.columns c.index-zones-0.result here))

pub axes_along-requires-clause-pairs : goal.axes_along-requires-clause-pairs
axes_along-requires-clause-pairs c = λ p z lp lz.
    let here : Contains c.args.zones.now c.index-zones-0.result = read c.args.zones.now 0 c.index-zones-0.result c.requires.some c.index-zones-0.is in
    first_pairs c.args.zones.now c.requires c.index-zones-0.result here p z (subst (λ ps. Contains ps p) (c.deref.ensures.value ∙ c.in_ok-pairs.ensures ∙ ap (λ n. pairs_below (n + 1)) c.columns.ensures.value) lp) lz
