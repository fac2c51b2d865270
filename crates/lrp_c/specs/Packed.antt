-- Byte strings in one, each after its length.
use Rattle.std.specs.Prelude.{ℕ, List, ◌++◌, length}
use Rattle.std.specs.Int.{w64, to_le_bytes}
use Rattle.std.specs.List.{AllByRecursion, flat_map}
use Rattle.std.specs.Str.{IsUtf8}
use Rattle.lrp_io.specs.declared.shelf.File.{File}

-- the length as eight bytes, the lowest first, and then the bytes
abbrev pub framed : List ℕ → List ℕ
framed bytes = to_le_bytes w64 (length bytes) ++ bytes

-- words, one after the other
abbrev pub packed_words : List (List ℕ) → List ℕ
packed_words = flat_map framed

-- a file: its name, and then its bytes
abbrev pub framed_file : File → List ℕ
framed_file file = framed file.name ++ framed file.bytes

-- files, one after the other
abbrev pub packed_files : List File → List ℕ
packed_files = flat_map framed_file

-- each word is UTF-8
abbrev pub AreWords : List (List ℕ) → Type 0
AreWords = AllByRecursion IsUtf8

-- each file's name is UTF-8
abbrev pub AreFiles : List File → Type 0
AreFiles = AllByRecursion (λ file. IsUtf8 file.name)
