-- What the bytes of a query say, however it is written.
use Rattle.std.proofs.Common.{◌≡◌, ◌≤◌, ℕ, Bool, true, false, inl, inr, List, [], ◌∷◌, length, Err, refl, sym, ap, subst, ◌∙◌}
use Rattle.std.specs.Prelude.{◌↔◌}
use Rattle.lrp_model.specs.Checked.{plain_question}
use Rattle.lrp_model.specs.Formulas.{Question, question_of}
use Rattle.lrp_model.specs.Faults.{earliest}
use Rattle.lrp_model.specs.QueryReading.{IsFile}
use Rattle.lrp_model.specs.RawQueries.{RawFileView, RawQuestion, raw_question_of}
use Rattle.lrp_model.specs.Satisfaction.{IsAnswer}
use Rattle.lrp_model.specs.Sorting.{IsWellSorted, IsSortFault, query_faults, query_standing}
use Rattle.lrp_model.specs.Texts.{Identifier}
use Rattle.lrp_model.specs.declared.faults.QueryFault.{QueryFault}
use Rattle.lrp_model.specs.declared.faults.QueryRead.{QueryRead}
use Rattle.lrp_model.specs.declared.faults.QueryRead.TheVariants.{Fault, Memory}
use Rattle.lrp_model.specs.declared.relations.Relation.{Relation}
use Rattle.lrp_model.specs.Outcomes.{IsQueryOrMemory}
use Rattle.lrp_sorts.specs.Outcomes.{IsUnsorted}
use Rattle.lrp_tense.specs.Expanding.{expanded_question}
use Rattle.lrp_tense.specs.Laws.{IsTenseAnswer, KeepsMeaning}
use Rattle.lrp_tense.proofs.SameAnswers.{same_answers}
use Rattle.lrp_tense.specs.Reading.{IsTenseOrMemory}
use Rattle.lrp_tense.specs.TenseReading.{IsTenseQuery}
use Rattle.lrp_top.specs.Due.{IsQueryReadOf}
use Rattle.lrp_top.specs.Languages.{usual_language}
use Rattle.lrp_top.specs.Questions.{IsMemory, IsSaidBy, IsSaidIn, IsUnreadAs, IsUnreadIn, unread_refusal}
use Rattle.lrp_top.specs.declared.language.QueryLanguage.{QueryLanguage}
use Rattle.lrp_top.specs.declared.language.QueryLanguage.TheVariants.{FirstOrder, Temporal, Wide}
use Rattle.lrp_outputs.specs.Refusals.{refused_by}
use Rattle.lrp_outputs.specs.declared.refusal.Refusal.{Refusal}
use Rattle.lrp_outputs.specs.declared.refusal.Refusal.TheVariants.{Query, Formulas, Depth, Memory as Want}
use Rattle.lrp_civil.specs.PlainText.{plain_as}
use Rattle.lrp_civil.specs.declared.values.CivilText.TheVariants.{WideQuery}
use Rattle.lrp_top.specs.Seen.{ShelfSeen}
use Rattle.lrp_top.specs.Written.{IsFaultyAs, IsSortedAs, IsWideSaid, query_plain}
use Rattle.lrp_wide.specs.Inlining.{expanded_file}
use Rattle.lrp_wide.specs.Laws.{KeepsAnswers}
use Rattle.lrp_wide.specs.Limits.{IsSmallFile}
use Rattle.lrp_wide.specs.Meaning.{IsWideAnswer}
use Rattle.lrp_wide.specs.WideSorting.{IsWellSortedFile, file_faults, faults_or_later, own_faults}

-- ---- queries

-- a query that is said and well-sorted
pub sorted_as : (tense : Bool) (db : List Relation) (bytes : List ℕ) (raw : RawQuestion) (q : Question) → IsSaidBy tense bytes raw → IsWellSorted db raw → q ≡ plain_question raw → IsSortedAs (usual_language tense) db bytes q
sorted_as false db bytes raw q said sorted plain = record { raw = raw; query = said; sorted = sorted; plain = plain }
sorted_as true db bytes raw q said sorted plain =
    let written = said.written in
    let expanded : IsWellSorted db (expanded_question written) = subst (IsWellSorted db) said.is sorted in
    let is : q ≡ plain_question (expanded_question written) = plain ∙ ap plain_question said.is in
    record {
      written = written;
      query = said.query;
      sorted = expanded;
      plain = is;
      answers = λ tuple. subst (λ (x : Question). IsAnswer db x tuple ↔ IsTenseAnswer db written tuple) (sym is) (same_answers db written tuple (subst (KeepsMeaning written) said.is said.keeps db expanded));
    }

-- one that is not well-sorted
unsorted_as : (tense : Bool) (db : List Relation) (bytes : List ℕ) (raw : RawQuestion) (fault : QueryFault) → IsSaidBy tense bytes raw → IsSortFault db raw fault → IsFaultyAs (usual_language tense) db bytes fault
unsorted_as false db bytes raw fault said h = inr (record { raw = raw; query = said; unsorted = h })
unsorted_as true db bytes raw fault said h = inr (record { written = said.written; query = said.query; unsorted = subst (λ r. IsSortFault db r fault) said.is h })

-- and a text that says none
unread_as : (tense : Bool) (db : List Relation) (bytes : List ℕ) (fault : QueryFault) → IsUnreadAs tense bytes (Fault fault) → IsFaultyAs (usual_language tense) db bytes fault
unread_as false db bytes fault h = inl h
unread_as true db bytes fault h = inl h

-- ---- refusals

pub unread_refused : (tense : Bool) (db : List Relation) (seen : ShelfSeen) (name : Identifier) (bytes : List ℕ) (read : QueryRead) → length bytes ≤ 16777216 → IsUnreadAs tense bytes read → IsQueryReadOf (usual_language tense) db seen name bytes (Err (refused_by read))
unread_refused tense db seen name bytes (Fault fault) short h = (short, unread_as tense db bytes fault h)
unread_refused tense db seen name bytes Memory short h = tt

pub unsorted_refused : (tense : Bool) (db : List Relation) (seen : ShelfSeen) (name : Identifier) (bytes : List ℕ) (raw : RawQuestion) (read : QueryRead) → length bytes ≤ 16777216 → IsSaidBy tense bytes raw → IsUnsorted db raw read → IsQueryReadOf (usual_language tense) db seen name bytes (Err (refused_by read))
unsorted_refused tense db seen name bytes raw (Fault fault) short said h = (short, unsorted_as tense db bytes raw fault said h)
unsorted_refused tense db seen name bytes raw Memory short said h = tt

-- why a text says none, as the program's refusal
pub unread_usual : (tense : Bool) (db : List Relation) (bytes : List ℕ) (read : QueryRead) → IsUnreadAs tense bytes read → IsUnreadIn (usual_language tense) db bytes (unread_refusal read)
unread_usual tense db bytes (Fault fault) h = unread_as tense db bytes fault h
unread_usual tense db bytes Memory h = tt

-- ---- files of the wide language

-- a file without faults of its own texts has those of its expanded query
others_alone : (own others : List QueryFault) → own ≡ [] → faults_or_later own others ≡ others
others_alone [] others e = refl
others_alone (f ∷ fs) others e = cc

pub expanded_faults : (db : List Relation) (f : RawFileView) (raw : RawQuestion) → own_faults db f ≡ [] → raw ≡ expanded_file db f → file_faults db f ≡ query_faults db raw
expanded_faults db f raw own is = others_alone (own_faults db f) (query_faults db (expanded_file db f)) own ∙ ap (query_faults db) (sym is)

-- the answers of each file that is read and well-sorted are those of its expanded query
abbrev pub AreFilesKept : Type 0
AreFilesKept = (bytes : List ℕ) (db : List Relation) (f : RawFileView) → IsFile bytes f → IsSmallFile db f → IsWellSortedFile db f → KeepsAnswers db f

-- ---- queries of any language

-- one that is said and well-sorted
pub sorted_in : AreFilesKept → (language : QueryLanguage) (db : List Relation) (bytes : List ℕ) (raw : RawQuestion) (q : Question) → IsSaidIn language db bytes raw → IsWellSorted db raw → q ≡ plain_question raw → IsSortedAs language db bytes q
sorted_in kept FirstOrder db bytes raw q said sorted plain = sorted_as false db bytes raw q said sorted plain
sorted_in kept Temporal db bytes raw q said sorted plain = sorted_as true db bytes raw q said sorted plain
sorted_in kept (Wide civil) db bytes raw q said sorted plain =
    let f = said.file in
    let well : IsWellSortedFile db f = expanded_faults db f raw said.sorted said.written ∙ sorted in
    let is : q ≡ plain_question (expanded_file db f) = plain ∙ ap plain_question said.written in
    record {
      file = f;
      is = said.is;
      small = said.small;
      sorted = well;
      plain = is;
      answers = λ tuple.
          let same = kept (query_plain civil bytes) db f said.is said.small well tuple in
          subst (λ (x : Question). IsAnswer db x tuple ↔ IsWideAnswer db f tuple) (sym is) (same.1, same.0);
    }

-- one that is not well-sorted
pub unsorted_in : (language : QueryLanguage) (db : List Relation) (seen : ShelfSeen) (name : Identifier) (bytes : List ℕ) (raw : RawQuestion) (read : QueryRead) → length bytes ≤ 16777216 → IsSaidIn language db bytes raw → IsUnsorted db raw read → IsQueryReadOf language db seen name bytes (Err (refused_by read))
unsorted_in FirstOrder db seen name bytes raw read short said h = unsorted_refused false db seen name bytes raw read short said h
unsorted_in Temporal db seen name bytes raw read short said h = unsorted_refused true db seen name bytes raw read short said h
unsorted_in (Wide civil) db seen name bytes raw (Fault fault) short said h =
    (short, inr (record { file = said.file; is = said.is; small = said.small; unsorted = ap (earliest query_standing) (expanded_faults db said.file raw said.sorted said.written) ∙ h }))
unsorted_in (Wide civil) db seen name bytes raw Memory short said h = tt

-- and a text that says none
pub unread_in : (language : QueryLanguage) (db : List Relation) (seen : ShelfSeen) (name : Identifier) (bytes : List ℕ) (refusal : Refusal) → length bytes ≤ 16777216 → IsUnreadIn language db bytes refusal → IsQueryReadOf language db seen name bytes (Err refusal)
unread_in language db seen name bytes (Query fault) short h = (short, h)
unread_in language db seen name bytes Formulas short h = (short, h)
unread_in language db seen name bytes Depth short h = (short, h)
unread_in language db seen name bytes Want short h = tt
unread_in language db seen name bytes _ short h = absurd h

-- what the plain text of a text with civil values says, the text says
pub civil_said : (db : List Relation) (bytes : List ℕ) (raw : RawQuestion) → IsWideSaid false db (plain_as WideQuery bytes) raw → IsWideSaid true db bytes raw
civil_said db bytes raw h = record { file = h.file; is = h.is; small = h.small; sorted = h.sorted; written = h.written }

pub plain_said : (db : List Relation) (bytes : List ℕ) (raw : RawQuestion) → IsWideSaid true db bytes raw → IsWideSaid false db (plain_as WideQuery bytes) raw
plain_said db bytes raw h = record { file = h.file; is = h.is; small = h.small; sorted = h.sorted; written = h.written }

faulty_civil : (db : List Relation) (bytes : List ℕ) (fault : QueryFault) → IsFaultyAs (Wide false) db (plain_as WideQuery bytes) fault → IsFaultyAs (Wide true) db bytes fault
faulty_civil db bytes fault (inl h) = inl h
faulty_civil db bytes fault (inr h) = inr (record { file = h.file; is = h.is; small = h.small; unsorted = h.unsorted })

pub civil_unread : (db : List Relation) (bytes : List ℕ) (refusal : Refusal) → IsUnreadIn (Wide false) db (plain_as WideQuery bytes) refusal → IsUnreadIn (Wide true) db bytes refusal
civil_unread db bytes (Query fault) h = faulty_civil db bytes fault h
civil_unread db bytes Formulas h = record { file = h.file; is = h.is; over = h.over }
civil_unread db bytes Depth h = record { file = h.file; is = h.is; over = h.over }
civil_unread db bytes Want h = tt
civil_unread db bytes _ h = absurd h

-- ---- what is read of a text with temporal operators that says one

pub tense_unread_every : (tense : Bool) (bytes : List ℕ) (read : QueryRead) → tense ≡ true → ((written : RawQuestion) → IsTenseQuery bytes written → IsTenseOrMemory written (Err read)) → (raw : RawQuestion) → IsSaidBy tense bytes raw → IsQueryOrMemory raw_question_of raw (Err read)
tense_unread_every false bytes read e every raw said = cc
tense_unread_every true bytes Memory e every raw said = tt
tense_unread_every true bytes (Fault fault) e every raw said = absurd (every said.written said.query)

pub expanded_once : (tense : Bool) (bytes : List ℕ) (written : RawQuestion) (made : RawQuestion) → tense ≡ true → made ≡ expanded_question written → ((other : RawQuestion) → IsTenseQuery bytes other → written ≡ other) → (raw : RawQuestion) → IsSaidBy tense bytes raw → made ≡ raw
expanded_once false bytes written made e is one raw said = cc
expanded_once true bytes written made e is one raw said = is ∙ (ap expanded_question (one said.written said.query) ∙ sym said.is)

-- ---- what is read of a text that says a query

-- the query is read, unless memory ran out
pub unread_every : (raw : RawQuestion) (read : QueryRead) → IsQueryOrMemory raw_question_of raw (Err read) → IsMemory (unread_refusal read)
unread_every raw Memory h = tt
unread_every raw (Fault fault) h = absurd h

-- and it is sorted, if it is well-sorted
pub unsorted_every : (db : List Relation) (raw made : RawQuestion) (read : QueryRead) → made ≡ raw → (IsWellSorted db made → IsQueryOrMemory question_of (plain_question made) (Err read)) → IsWellSorted db raw → IsMemory (refused_by read)
unsorted_every db raw made Memory e every sorted = tt
unsorted_every db raw made (Fault fault) e every sorted = absurd (every (subst (IsWellSorted db) (sym e) sorted))
