-- The interval of one more zone.
use Rattle.std.proofs.Common.{◌≡◌, ◌∙◌, ◌+◌, ◌++◌, ◌∷◌, [], ap, length, map, take, sym, subst}
use Rattle.std.specs.Prelude.{All}
use Rattle.std.proofs.lemmas.List.{map-append}
use Rattle.std.proofs.lemmas.List.Elements.{All-push}
use Rattle.lrp_zone.specs.Zones.{IsZone}
use Rattle.lrp_zone.specs.Pairs.{IsOfCell}
use Rattle.lrp_cutting.specs.Intervals.{span_of}
use Rattle.lrp_cutting.proofs.Lists.{front_more, read}
use Rattle.lrp_cutting.proofs.intervals.intervals_of.Goals as goal

pub interval_of-requires : goal.interval_of-requires
interval_of-requires c =
    let cell : IsOfCell c.args.cell.now c.zone-item.result = c.requires.cell.each c.zone-item.result (read _ _ _ c.loop-zone-test.true c.zone-item.is) in
    ap length cell.residues ∙ c.requires.column

pub loop-zone-preserved : goal.loop-zone-preserved
loop-zone-preserved c =
    let more : take (c.loop-zone.zone-index + 1) c.args.zones.now ≡ take c.loop-zone.zone-index c.args.zones.now ++ c.zone-item.result ∷ [] = front_more _ _ _ c.loop-zone-test.true c.zone-item.is in
    record {
      intervals = c.in_ok-push.ensures.items ∙ ap (λ l. l ++ c.interval_of.result ∷ []) c.loop-zone.invariant.intervals
          ∙ ap (λ v. map span_of (take c.loop-zone.zone-index c.args.zones.now) ++ v ∷ []) c.interval_of.ensures.interval
          ∙ sym (map-append span_of (take c.loop-zone.zone-index c.args.zones.now) (c.zone-item.result ∷ []))
          ∙ ap (map span_of) (sym more);
      valid = subst (λ l. All IsZone l) (sym more) (All-push IsZone _ c.zone-item.result c.loop-zone.invariant.valid c.interval_of.ensures.valid);
    }
