-- The edges of the first residues are appended.
use Rattle.std.proofs.Common.{take}
use Rattle.lrp_canon.specs.Edges.{AddsOpen}
use Rattle.lrp_canon.proofs.edges.push_open.Given as goal

abbrev pub invariant-loop-residue : goal.invariant-loop-residue
invariant-loop-residue l = AddsOpen l.period (take l.residue-index l.residues) l.initial.edges.items l.edges.items
