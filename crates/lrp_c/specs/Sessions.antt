-- Sessions: files that are kept.
use Rattle.std.specs.Prelude.{◌≡◌, ◌⊎◌, ◌≤◌, ◌++◌, ℕ, ℤ, pos, Bool, true, false, List, length, Option, Some, None, Result, Ok, Err, String}
use Rattle.std.specs.declared.alloc.Global.{Global}
use Rattle.lrp_io.specs.Files.{content_of, holds_file}
use Rattle.lrp_io.specs.declared.shelf.File.{File}
use Rattle.lrp_model.specs.Limits.{most_bytes}
use Rattle.lrp_top.specs.Keeping.{MeansDue}
use Rattle.lrp_words.specs.declared.purpose.Asked.{Asked}
use Rattle.lrp_outputs.specs.Statuses.{status_number}
use Rattle.lrp_c.specs.Calls.{AreUnpacked, IsReplied, IsRunOver, IsUnreplied, filled_with}
use Rattle.lrp_c.specs.Packed.{packed_files, AreFiles}
use Rattle.lrp_c.specs.declared.packed.Unread.{Unread}
use Rattle.lrp_c.specs.declared.packed.Unread.TheVariants as unread
use Rattle.lrp_c.specs.declared.reply.Reply.{Reply}
use Rattle.lrp_c.specs.declared.session.Session.{Session}

-- a session of these files
abbrev pub IsSessionOf : List File → Session → Type 0
IsSessionOf files session = session.files ≡ files

-- these are the bytes of the question's query in files that don't hold its database
pub record HasQuery (asked : Asked) (files : List File) (query : List ℕ) : Type 0 where
  pub other : holds_file files asked.files.database.now ≡ false
  pub held : holds_file files asked.files.query.now ≡ true
  pub bytes : query ≡ content_of files asked.files.query.now
  pub short : length query ≤ most_bytes

-- wherever the question's database and its query have these bytes, the reply is that of a run of words that ask it
abbrev pub AnswersAsked : Asked → List ℕ → List ℕ → Reply → Type 0
AnswersAsked asked database query reply =
    (words : List (String Global)) (own files : List File) → MeansDue words asked → HasQuery asked own query → database ≡ content_of files asked.files.database.now → IsRunOver words (own ++ files) reply.text.items reply.status

-- the reply is that of a run of words that ask the question, over files with its query in front of these
abbrev pub AnswersOver : Asked → List File → List ℕ → Reply → Type 0
AnswersOver asked files query reply = (words : List (String Global)) (own : List File) → MeansDue words asked → HasQuery asked own query → IsRunOver words (own ++ files) reply.text.items reply.status

-- ---- calls

-- the files that are packed are kept; or those of before are, since memory was refused or the files aren't packed
abbrev pub IsOpening : List ℕ → Option (List File) → Option (List File) → ℤ → Type 0
IsOpening files old new number =
    ((number ≡ pos 0) × ((held : List File) × (new ≡ Some held) × (files ≡ packed_files held))) ⊎ (((number ≡ pos 8) × (new ≡ old)) ⊎ ((number ≡ pos 10) × (new ≡ old) × ((held : List File) → AreFiles held → files ≡ packed_files held → ⊥)))

-- a reply is written, counted and numbered
abbrev pub IsReplyTold : Result Reply Unread → List ℕ → List ℕ → ℕ → ℤ → Type 0
IsReplyTold (Ok reply) room new count number = (new ≡ filled_with reply.text.items room) × (count ≡ length reply.text.items) × (number ≡ pos (status_number reply.status))
IsReplyTold (Err unread.Memory) room new count number = IsUnreplied 8 room new count number
IsReplyTold (Err unread.Unpacked) room new count number = IsUnreplied 10 room new count number

-- the run over these files in front of those that are kept, which stay, is told; where none are kept, nothing is
abbrev pub IsHandleAsked : List ℕ → List ℕ → Option (List File) → Option (List File) → List ℕ → List ℕ → ℕ → ℤ → Type 0
IsHandleAsked words files None new room after count number = (new ≡ None) × IsUnreplied 11 room after count number
IsHandleAsked words files (Some held) new room after count number =
    (new ≡ Some held) × (IsReplied words (files ++ packed_files held) room after count number ⊎ (IsUnreplied 8 room after count number ⊎ (IsUnreplied 10 room after count number × AreUnpacked words files)))

-- what is told where these files are let go of
abbrev pub closing_number : Option (List File) → ℤ
closing_number None = pos 11
closing_number (Some held) = pos 0
