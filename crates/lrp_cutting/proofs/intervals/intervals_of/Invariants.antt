-- The intervals of the first zones are found.
use Rattle.std.proofs.Common.{◌≡◌, map, take}
use Rattle.std.specs.Prelude.{All}
use Rattle.lrp_zone.specs.Zones.{IsZone}
use Rattle.lrp_cutting.specs.Intervals.{span_of}
use Rattle.lrp_cutting.proofs.intervals.intervals_of.Given as goal

abbrev pub invariant-loop-zone : goal.invariant-loop-zone
invariant-loop-zone l = record {
  intervals : l.made.items ≡ map span_of (take l.zone-index l.zones);
  valid : All IsZone (take l.zone-index l.zones);
}
