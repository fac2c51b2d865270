-- What the loop over the files keeps.
use Rattle.std.proofs.Common.{◌≡◌, ◌++◌, List, length}
use Rattle.lrp_io.specs.declared.shelf.File.{File}
use Rattle.lrp_c.specs.Packed.{packed_files, AreFiles}
use Rattle.lrp_c.proofs.PackedLemmas.{LeftFiles}
use Rattle.lrp_c.proofs.packed.files_in.Given as goal

-- the files so far and what is left are the whole, and what is left is as the whole is
abbrev pub invariant-loop-rest : goal.invariant-loop-rest
invariant-loop-rest l = record {
  so_far : l.bytes ≡ packed_files l.files ++ l.rest;
  left : (held : List File) → AreFiles held → l.bytes ≡ packed_files held → LeftFiles l.rest;
}

abbrev pub decreases-loop-rest : goal.decreases-loop-rest
decreases-loop-rest l = length l.rest
