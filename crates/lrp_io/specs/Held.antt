-- Files in memory, and a reader's place in one of them.
use Rattle.std.specs.Prelude.{ℕ, List, drop}
use Rattle.lrp_io.specs.Files.{name_at, bytes_at}
use Rattle.lrp_io.specs.declared.held.HeldFiles.{HeldFiles}

-- the name of the file that is read
abbrev pub held_name : HeldFiles → List ℕ
held_name held = name_at held.files held.file

-- the bytes of that file that the reader has not given yet
abbrev pub left_of : HeldFiles → List ℕ
left_of held = drop held.at (bytes_at held.files held.file)
