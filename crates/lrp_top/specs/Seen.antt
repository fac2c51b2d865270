-- What is seen of a shelf and of a sink over a run.
use Rattle.std.specs.Prelude.{◌≡◌, ℕ, ◌<◌, List, Bool, true, Option, Some}
use Rattle.lrp_io.specs.Causes.{Rose}
use Rattle.lrp_io.specs.Files.{content_of}
use Rattle.lrp_io.specs.declared.shelf.File.{File}
use Rattle.lrp_model.specs.Texts.{Identifier}
use Rattle.lrp_model.specs.Limits.{most_bytes}

-- of a shelf: the files that it tells, if it does, its counts of faults of each name before and after, and at the end how many bytes of the started file it gave and which names may be that file's
pub record ShelfSeen : Type 0 where
  pub files : Option (List File)
  pub faults_before : Identifier → ℕ
  pub faults : Identifier → ℕ
  pub given : ℕ
  pub may_be : Identifier → Bool

-- of a sink: the bytes that it tells before and after, if it does, and its counts of faults before and after
pub record SinkSeen : Type 0 where
  pub bytes_before : Option (List ℕ)
  pub bytes : Option (List ℕ)
  pub faults_before : ℕ
  pub faults : ℕ

-- the bytes are those of the file of this name, where the files are told
abbrev pub AreBytesOf : ShelfSeen → Identifier → List ℕ → Type 0
AreBytesOf seen name bytes = (held : List File) → seen.files ≡ Some held → bytes ≡ content_of held name

-- the count of faults of this name rose
abbrev pub HasFailed : ShelfSeen → Identifier → Type 0
HasFailed seen name = Rose (seen.faults_before name) (seen.faults name)

-- the started file may be the one of this name, and more of its bytes were given than a file may have
pub record IsOverrun (seen : ShelfSeen) (name : Identifier) : Type 0 where
  pub named : seen.may_be name ≡ true
  pub many : most_bytes < seen.given
