-- The places so far are those of the names so far.
use Rattle.std.proofs.Common.{take}
use Rattle.lrp_tables.specs.Columns.{ArePlacesOf}
use Rattle.lrp_tables.proofs.names.places_among.Given as goal

abbrev pub invariant-loop-name : goal.invariant-loop-name
invariant-loop-name l = ArePlacesOf (take l.name-index l.names) l.all l.places.items
