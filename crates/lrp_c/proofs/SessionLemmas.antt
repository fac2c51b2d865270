-- A question over a database that is kept is answered as a run over all files.
use Rattle.std.proofs.Common.{◌≡◌, ◌≤◌, ◌++◌, ℕ, Bool, true, false, List, [], Option, Some, None, refl, sym, ap, ◌∙◌, subst, String}
use Rattle.std.specs.Prelude.{IfSome}
use Rattle.std.specs.declared.alloc.Global.{Global}
use Rattle.lrp_io.specs.Files.{content_of, holds_file}
use Rattle.lrp_io.specs.declared.shelf.File.{File}
use Rattle.lrp_outputs.specs.declared.status.Status.{Status}
use Rattle.lrp_top.specs.Keeping.{IsToldOf, MeansDue}
use Rattle.lrp_top.specs.Seen.{AreBytesOf, IsOverrun, ShelfSeen, SinkSeen}
use Rattle.lrp_words.specs.declared.purpose.Asked.{Asked}
use Rattle.lrp_c.specs.Calls.{IsRunOver}
use Rattle.lrp_c.specs.Sessions.{HasQuery}
use Rattle.lrp_c.proofs.JoinedFiles.{first_has, second_has}
use Rattle.lrp_c.proofs.RunLemmas.{never_fails, run_is_over}

-- files that are never failed at, of which none was started
abbrev pub quiet : List File → ShelfSeen
quiet files = record { files = Some files; faults_before = λ name. 0; faults = λ name. 0; given = 0; may_be = λ name. false }

abbrev files_or : Option (List File) → List File → List File
files_or None files = files
files_or (Some held) files = held

-- bytes that the files have are those that are seen of them
pub bytes_seen : (files : List File) (name bytes : List ℕ) → bytes ≡ content_of files name → AreBytesOf (quiet files) name bytes
bytes_seen files name bytes is held e = is ∙ ap (λ o. content_of (files_or o files) name) e

-- no file of these is overrun
pub none_overrun : (files : List File) (name : List ℕ) → IsOverrun (quiet files) name → ⊥
none_overrun files name over = let e : false ≡ true = over.named in cc

-- the text that answers a question over a database that is kept is that of a run over the query's files and those of the database
pub answered_over : {words : List (String Global)} (asked : Asked) (own files : List File) (database query : List ℕ) (taken : SinkSeen) (ended : Status) (text : List ℕ)
    → MeansDue words asked → HasQuery asked own query → database ≡ content_of files asked.files.database.now → IsToldOf asked database query taken ended
    → taken.bytes_before ≡ Some [] → taken.bytes ≡ Some text → IsRunOver words (own ++ files) text ended
answered_over asked own files database query taken ended text means has is told before after =
    let seen = quiet (own ++ files) in
    let database_is = bytes_seen (own ++ files) asked.files.database.now database (is ∙ sym (second_has own files asked.files.database.now has.other)) in
    let query_is = bytes_seen (own ++ files) asked.files.query.now query (has.bytes ∙ sym (first_has own files asked.files.query.now has.held)) in
    run_is_over {seen = seen} (record { outcome = told.outcome; due = means seen told.outcome (none_overrun (own ++ files)) (told.is seen database_is query_is); ends = told.ends }) refl (λ name held failed. never_fails 0 0 refl failed) before after
