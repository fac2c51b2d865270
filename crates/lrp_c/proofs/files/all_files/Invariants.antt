-- The files so far.
use Rattle.std.proofs.Common.{◌≡◌, ◌++◌, take}
use Rattle.lrp_c.proofs.files.all_files.Given as goal

abbrev pub invariant-loop-file : goal.invariant-loop-file
invariant-loop-file l = record { so_far : l.all ≡ l.fn.files ++ take l.file-index l.others }
