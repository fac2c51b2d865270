-- Files of the wide language: what is said of them, and why they say nothing.
use Rattle.std.proofs.Common.{◌≡◌, ℕ, false, inl, inr, List, [], ◌∷◌, Some, Err, refl, sym, ap, subst, ◌∙◌}
use Rattle.lrp_model.specs.Faults.{earliest}
use Rattle.lrp_model.specs.Kept.{AreKept}
use Rattle.lrp_model.specs.Outcomes.{IsQueryOrMemory}
use Rattle.lrp_model.specs.QueryReading.{IsFile}
use Rattle.lrp_model.specs.RawQueries.{RawFileView, RawQuestion, raw_file_of}
use Rattle.lrp_model.specs.Sorting.{IsWellSorted, query_faults, query_standing}
use Rattle.lrp_model.specs.declared.faults.QueryFault.{QueryFault}
use Rattle.lrp_model.specs.declared.faults.QueryRead.{QueryRead}
use Rattle.lrp_model.specs.declared.faults.QueryRead.TheVariants.{Fault, Memory}
use Rattle.lrp_model.specs.declared.relations.Relation.{Relation}
use Rattle.lrp_query.specs.Reading.{IsFileUnread}
use Rattle.lrp_outputs.specs.Refusals.{refused_by}
use Rattle.lrp_tense.specs.Lawful.{IsLawfulExpansion}
use Rattle.lrp_top.specs.Questions.{IsMemory, IsUnreadIn, refused_as}
use Rattle.lrp_top.specs.Written.{IsWideSaid}
use Rattle.lrp_top.specs.declared.language.QueryLanguage.TheVariants.{Wide}
use Rattle.lrp_top.proofs.ReadingLemmas.{expanded_faults}
use Rattle.lrp_wide.specs.Inlining.{expanded_file}
use Rattle.lrp_wide.specs.Limits.{IsSmallFile}
use Rattle.lrp_wide.specs.Outcomes.{IsFileRefused}
use Rattle.lrp_wide.specs.WideSorting.{IsWellSortedFile, faults_or_later, own_faults}
use Rattle.lrp_wide.specs.declared.checking.WideRead.{WideRead}
use Rattle.lrp_wide.specs.declared.checking.WideRead.TheVariants as wide

-- ---- refusals

-- the earliest fault of a file's own texts is that of the file
own_first : (own others : List QueryFault) (told : QueryFault) → earliest query_standing own ≡ Some told → earliest query_standing (faults_or_later own others) ≡ Some told
own_first [] others told h = cc
own_first (f ∷ fs) others told h = h

-- a text that is no file
pub unread_file : (db : List Relation) (bytes : List ℕ) (read : QueryRead) → IsFileUnread bytes read → IsUnreadIn (Wide false) db bytes (refused_by read)
unread_file db bytes (Fault fault) h = inl h
unread_file db bytes Memory h = tt

-- and a file that gives no query
pub file_refused : (db : List Relation) (bytes : List ℕ) (f : RawFileView) (read : WideRead) → IsFile bytes f → IsFileRefused db f read → IsUnreadIn (Wide false) db bytes (refused_as read)
file_refused db bytes f (wide.Fault told) is h = inr (record { file = f; is = is; small = h.0; unsorted = own_first (own_faults db f) (query_faults db (expanded_file db f)) told h.1 })
file_refused db bytes f wide.Formulas is h = record { file = f; is = is; over = h }
file_refused db bytes f wide.Depth is h = record { file = f; is = is; over = h }
file_refused db bytes f wide.Memory is h = tt

-- ---- what is read of a text that says a query

pub unread_every_file : (f : RawFileView) (read : QueryRead) → IsQueryOrMemory raw_file_of f (Err read) → IsMemory (refused_by read)
unread_every_file f Memory h = tt
unread_every_file f (Fault fault) h = absurd h

pub refused_memory : (read : WideRead) → read ≡ wide.Memory → IsMemory (refused_as read)
refused_memory wide.Memory e = tt
refused_memory (wide.Fault fault) e = cc
refused_memory wide.Formulas e = cc
refused_memory wide.Depth e = cc

-- the expanded query of a file that was read can be planned where it is well-sorted
pub lawful_file : ((bytes : List ℕ) (db : List Relation) (f : RawFileView) → IsFile bytes f → AreKept db → IsSmallFile db f → IsWellSortedFile db f → IsLawfulExpansion (expanded_file db f))
    → (db : List Relation) (bytes : List ℕ) (f : RawFileView) (raw : RawQuestion) → IsFile bytes f → AreKept db → IsSmallFile db f → own_faults db f ≡ [] → raw ≡ expanded_file db f → IsWellSorted db raw → IsLawfulExpansion raw
lawful_file law db bytes f raw is kept small own written sorted = subst IsLawfulExpansion (sym written) (law bytes db f is kept small (expanded_faults db f raw own written ∙ sorted))
