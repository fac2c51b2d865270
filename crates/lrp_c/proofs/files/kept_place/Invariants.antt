-- What the search for a name keeps.
use Rattle.std.proofs.Common.{◌≡◌, drop}
use Rattle.lrp_io.specs.Files.{content_of}
use Rattle.lrp_c.proofs.files.kept_place.Given as goal

-- the first file of this name is among the rest
abbrev pub invariant-loop-i : goal.invariant-loop-i
invariant-loop-i l = record { content : content_of l.files l.name ≡ content_of (drop l.i l.files) l.name }
