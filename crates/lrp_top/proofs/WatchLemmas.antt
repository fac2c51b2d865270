-- A watch: what is refused first, and what is due after that.
use Rattle.std.proofs.Common.{◌≡◌, ◌∙◌, ◌||◌, ℕ, ◌≤◌, Bool, true, List, Option, None, Result, Ok, Err, arith, refl, sym}
use Rattle.std.specs.List.{AllByRecursion}
use Rattle.lrp_io.specs.Causes.{Rose}
use Rattle.lrp_io.specs.declared.shelf.File.{File}
use Rattle.lrp_model.specs.Formulas.{Question, question_of}
use Rattle.lrp_model.specs.Texts.{Identifier}
use Rattle.lrp_model.specs.declared.relations.Relation.{Relation}
use Rattle.lrp_edits.specs.EditMeaning.{IsEditOf}
use Rattle.lrp_edits.specs.declared.edits.Edit.{Edit}
use Rattle.lrp_kept.specs.KeptForm.{is_kept}
use Rattle.lrp_model.specs.declared.plans.Planning.{Planning}
use Rattle.lrp_watch.specs.Anew.{CanBeDecidedAnew}
use Rattle.lrp_watch.specs.Faults.{IsFaultBy}
use Rattle.lrp_watch.specs.Watching.{CanBeWatched}
use Rattle.lrp_watch.specs.declared.faults.WatchFault.{WatchFault}
use Rattle.lrp_watch.specs.declared.faults.WatchFault.TheVariants.{PeriodLimit, BoundLimit, TooManyCells, Memory}
use Rattle.lrp_top.specs.Due.{IsDatabaseRead, IsQueryRead, IsWatchedFor}
use Rattle.lrp_outputs.specs.Outcomes.{Outcome}
use Rattle.lrp_top.specs.Questions.{IsFit, query_source}
use Rattle.lrp_top.specs.Refusals.{refused_at}
use Rattle.lrp_top.specs.Seen.{ShelfSeen}
use Rattle.lrp_top.specs.Sources.{Source}
use Rattle.lrp_top.specs.Watched.{AreEditsRead, AreEditsReadOf, IsFormFit, IsPassedBy, IsWatched}
use Rattle.lrp_top.specs.declared.files.QueryFile.{QueryFile}
use Rattle.lrp_top.specs.declared.language.QueryLanguage.TheVariants.{FirstOrder}
use Rattle.lrp_outputs.specs.declared.refusal.Refusal.{Refusal}
use Rattle.lrp_outputs.specs.declared.refusal.Refusal.TheVariants.{Watch, Memory as want}
use Rattle.lrp_outputs.specs.declared.watch_refusal.WatchRefusal.TheVariants as watch
use Rattle.lrp_top.proofs.QuestionLemmas.{since}

-- ---- files that were read before

-- a query that was read is read, whatever is seen afterwards
pub asked_before : (db : List Relation) (middle seen : ShelfSeen) (name : Identifier) (query : Source Question) → IsQueryRead FirstOrder db middle name (Ok query) → seen.files ≡ middle.files → IsQueryRead FirstOrder db seen name (Ok query)
asked_before db middle seen name query h e = record { bytes = h.bytes; told = λ held f. h.told held (sym e ∙ f); is = h.is }

rose_later : (a b c : ℕ) → a ≤ b → Rose b c → Rose a c
rose_later a b c l r = omega arith

-- what holds from a later count on holds from an earlier one on
edits_of : (db : List Relation) (seen : ShelfSeen) (files : Option (List File)) (before : Identifier → ℕ) (name : Identifier) (bytes : List ℕ) (result : Result (List Edit) Refusal) → before name ≤ seen.faults_before name → AreEditsReadOf db seen name bytes result → AreEditsReadOf db (since files before seen) name bytes result
edits_of db seen files before name bytes (Ok edits) l h = h
edits_of db seen files before name bytes (Err (Watch watch.Read)) l h = rose_later (before name) (seen.faults_before name) (seen.faults name) l h
edits_of db seen files before name bytes (Err (Watch watch.Long)) l h = (h.0, record { named = h.1.named; many = h.1.many })
edits_of db seen files before name bytes (Err (Watch (watch.Edits fault))) l h = h
edits_of db seen files before name bytes (Err want) l h = h
edits_of db seen files before name bytes (Err _) l h = absurd h

pub edits_since : (db : List Relation) (seen : ShelfSeen) (files : Option (List File)) (before : Identifier → ℕ) (name : Identifier) (result : Result (List Edit) Refusal) → AreEditsRead db seen name result → files ≡ seen.files → before name ≤ seen.faults_before name → AreEditsRead db (since files before seen) name result
edits_since db seen files before name result h e l = record {
  bytes = h.bytes;
  told = λ held f. h.told held (sym e ∙ f);
  is = edits_of db seen files before name h.bytes result l h.is;
}

-- ---- what is due

-- a watch that is refused after its database, its query, the form of it, or its edits
module _ (seen : ShelfSeen) (database query edits : Identifier) (cap : ℕ) (way : Planning) (auto : Bool) (d : Source (List Relation)) (read : IsDatabaseRead None seen database (Ok d)) where
  pub refused_query : (refusal : Refusal) → IsQueryRead FirstOrder d.says seen query (Err refusal) → IsWatchedFor seen database query edits cap way auto (Err refusal)
  refused_query refusal a = record { first = Ok d; is = read; next = record { first = Err refusal; is = a; next = refl } }

  module _ (q : Source Question) (asked : IsQueryRead FirstOrder d.says seen query (Ok q)) where
    pub refused_form : (refusal : Refusal) → IsFormFit auto q.says (Err refusal) → IsWatchedFor seen database query edits cap way auto (Err refusal)
    refused_form refusal f = record { first = Ok d; is = read; next = record { first = Ok q; is = asked; next = record { first = Err refusal; is = f; next = refl } } }

    module _ (fit : (is_kept q.says || auto) ≡ true) where
      pub refused_edits : (refusal : Refusal) → AreEditsRead d.says seen edits (Err refusal) → IsWatchedFor seen database query edits cap way auto (Err refusal)
      refused_edits refusal r = record { first = Ok d; is = read; next = record { first = Ok q; is = asked; next = record { first = Ok tt; is = fit; next = record { first = Err refusal; is = r; next = refl } } } }

      -- and one whose edits are made
      pub watched : (es : List Edit) (outcome : Outcome) → AreEditsRead d.says seen edits (Ok es) → IsWatched (is_kept q.says) way d.says q.says cap es outcome → IsWatchedFor seen database query edits cap way auto outcome
      watched es outcome r w = record { first = Ok d; is = read; next = record { first = Ok q; is = asked; next = record { first = Ok tt; is = fit; next = record { first = Ok es; is = r; next = w } } } }

-- ---- what is asked for

-- a query that was read, and edits of the database, can be decided anew
pub can_be_decided : (db : List Relation) (seen : ShelfSeen) (name : Identifier) (file : QueryFile) (es : List Edit) → IsQueryRead FirstOrder db seen name (Ok (query_source file)) → IsFit db file → AllByRecursion (IsEditOf db) es → CanBeDecidedAnew db (question_of file.query) es
can_be_decided db seen name file es asked fit lawful =
    let sorted = asked.is.2 in
    record {
      query = record { raw = sorted.raw; sorted = sorted.sorted; is = sorted.plain; elements = fit.settled.elements };
      points = fit.points;
      lawful = lawful;
    }

-- and watched where it is in kept form
pub can_be_watched : (db : List Relation) (q : Question) (es : List Edit) → CanBeDecidedAnew db q es → is_kept q ≡ true → CanBeWatched db q es
can_be_watched db q es can kept = record { query = can.query; kept = kept; points = can.points; lawful = can.lawful }

-- ---- faults

pub refused_watch : (kept : Bool) (way : Planning) (db : List Relation) (q : Question) (es : List Edit) (cap : ℕ) (fault : WatchFault) → IsFaultBy (IsPassedBy kept way db q es cap) fault → IsWatched kept way db q cap es (Err (refused_at cap fault))
refused_watch kept way db q es cap (PeriodLimit edit) h = h
refused_watch kept way db q es cap (BoundLimit edit) h = h
refused_watch kept way db q es cap (TooManyCells edit) h = (refl, h)
refused_watch kept way db q es cap Memory h = tt
