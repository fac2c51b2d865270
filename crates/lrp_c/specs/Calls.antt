-- A call: words and files as bytes in, a status and a text out.
use Rattle.std.specs.Prelude.{◌≡◌, ◌⊎◌, ℕ, ℤ, pos, List, [], ◌++◌, length, take, drop, map, Some, true, String, string_bytes}
use Rattle.std.specs.declared.alloc.Global.{Global}
use Rattle.lrp_c.specs.Packed.{packed_files, packed_words, AreFiles, AreWords}
use Rattle.lrp_io.specs.Files.{holds_file}
use Rattle.lrp_io.specs.declared.shelf.File.{File}
use Rattle.lrp_model.specs.Texts.{Identifier}
use Rattle.lrp_outputs.specs.Statuses.{status_number}
use Rattle.lrp_outputs.specs.declared.status.Status.{Status}
use Rattle.lrp_top.specs.Due.{IsRun}
use Rattle.lrp_top.specs.Seen.{HasFailed, ShelfSeen, SinkSeen}

-- as much of the text as there is room for, in front of what else was there
abbrev pub filled_with : List ℕ → List ℕ → List ℕ
filled_with text room = take (length room) text ++ drop (length text) room

-- a run of these words over these files ends so with this text; a file that is there is never failed at
pub record IsRunOver (words : List (String Global)) (files : List File) (text : List ℕ) (ended : Status) : Type 0 where
  pub seen : ShelfSeen
  pub taken : SinkSeen
  pub held : seen.files ≡ Some files
  pub sound : (name : Identifier) → holds_file files name ≡ true → HasFailed seen name → ⊥
  pub empty : taken.bytes_before ≡ Some []
  pub told : taken.bytes ≡ Some text
  pub run : IsRun words seen taken ended

-- words and files are packed, and their run ends so with this text
pub record IsReply (words files text : List ℕ) (ended : Status) : Type 0 where
  pub said : List (String Global)
  pub held : List File
  pub words_packed : words ≡ packed_words (map string_bytes said)
  pub files_packed : files ≡ packed_files held
  pub run : IsRunOver said held text ended

-- the words or the files aren't packed
abbrev pub AreUnpacked : List ℕ → List ℕ → Type 0
AreUnpacked words files =
    ((said : List (List ℕ)) → AreWords said → words ≡ packed_words said → ⊥) ⊎ ((held : List File) → AreFiles held → files ≡ packed_files held → ⊥)

-- what a call writes, counts and answers is of a run's text and status
pub record IsReplied (words files room new : List ℕ) (count : ℕ) (number : ℤ) : Type 0 where
  pub text : List ℕ
  pub ended : Status
  pub reply : IsReply words files text ended
  pub written : new ≡ filled_with text room
  pub counted : count ≡ length text
  pub numbered : number ≡ pos (status_number ended)

-- a call writes nothing, counts nothing and answers this number
pub record IsUnreplied (told : ℕ) (room new : List ℕ) (count : ℕ) (number : ℤ) : Type 0 where
  pub kept : new ≡ room
  pub counted : count ≡ 0
  pub numbered : number ≡ pos told

-- the run is told; or memory was refused before it; or there is none, since the words or the files aren't packed
abbrev pub IsCall : List ℕ → List ℕ → List ℕ → List ℕ → ℕ → ℤ → Type 0
IsCall words files room new count number =
    IsReplied words files room new count number ⊎ (IsUnreplied 8 room new count number ⊎ (IsUnreplied 10 room new count number × AreUnpacked words files))
