-- The bounds before were taken away.
use Rattle.std.proofs.Common.{◌+◌, take, max}
use Rattle.lrp_zone.specs.Zones.{reach_of}
use Rattle.lrp_cutting.proofs.LeavingLaws.{IsLeaving}
use Rattle.lrp_cutting.proofs.leaving.outside.Given as goal

abbrev pub invariant-loop-bound : goal.invariant-loop-bound
invariant-loop-bound l = IsLeaving l.zone l.cutter (take l.bound-index l.bound-items) (max (reach_of l.zone) (reach_of l.cutter + l.zone.period)) l.sides l.rest
