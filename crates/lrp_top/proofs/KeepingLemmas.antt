-- A database that is kept, and what is due for questions of it.
use Rattle.std.proofs.Common.{◌≡◌, ◌≤◌, ℕ, false, List, [], length, Option, None, Result, Ok, Err, refl, sym, subst}
use Rattle.std.specs.Prelude.{IfSome}
use Rattle.lrp_answers.specs.declared.answer.Answer.{Answer}
use Rattle.lrp_civil.specs.declared.values.CivilText.{CivilText}
use Rattle.lrp_answers.specs.Pauses.{IsPausedOf}
use Rattle.lrp_answers.specs.declared.paused.Paused.{Paused}
use Rattle.lrp_model.specs.Formulas.{question_of}
use Rattle.lrp_model.specs.Limits.{most_bytes}
use Rattle.lrp_model.specs.Texts.{Identifier}
use Rattle.lrp_model.specs.declared.relations.Relation.{Relation}
use Rattle.lrp_outputs.specs.declared.refusal.Refusal.{Refusal}
use Rattle.lrp_top.specs.Due.{IsDatabaseRead, IsQueryRead, IsQueryReadOf}
use Rattle.lrp_top.specs.Keeping.{IsAnswerKept, IsFileRead, IsDatabaseKept, IsKeptOf, IsQuerySaid}
use Rattle.lrp_top.specs.Questions.{asked_as, database_source, query_source}
use Rattle.lrp_top.specs.Seen.{AreBytesOf, ShelfSeen}
use Rattle.lrp_top.specs.Written.{IsSortedAs}
use Rattle.lrp_top.specs.declared.files.DatabaseFile.{DatabaseFile}
use Rattle.lrp_top.specs.declared.files.QueryFile.{QueryFile}
use Rattle.lrp_top.specs.declared.keeping.KeptAnswer.{KeptAnswer}
use Rattle.lrp_top.specs.declared.keeping.KeptDatabase.{KeptDatabase}
use Rattle.lrp_top.specs.declared.language.QueryLanguage.{QueryLanguage}

-- a shelf of which nothing is seen
abbrev pub unseen : ShelfSeen
unseen = record { files = None; faults_before = λ name. 0; faults = λ name. 0; given = 0; may_be = λ name. false }

-- a database that is kept was read, wherever its file has its bytes
pub kept_read : (civil : Option CivilText) (file : DatabaseFile) (seen : ShelfSeen) (name : Identifier) → IsFileRead civil file → AreBytesOf seen name file.bytes → IsDatabaseRead civil seen name (Ok (database_source file))
kept_read civil file seen name read told = record { bytes = file.bytes; told = told; is = (refl, read.short, read.means) }

-- what was read of a query's bytes in the language that is asked for is read wherever its file has them
pub said_for : (read asked : QueryLanguage) (db : List Relation) (seen : ShelfSeen) (name : Identifier) (bytes : List ℕ) (result : Result QueryFile Refusal)
    → read ≡ asked → AreBytesOf seen name bytes → ((s : ShelfSeen) (n : Identifier) → IsQueryReadOf read db s n bytes (asked_as result)) → IsQueryRead asked db seen name (asked_as result)
said_for read asked db seen name bytes result e told each = record { bytes = bytes; told = told; is = subst (λ (l : QueryLanguage). IsQueryReadOf l db seen name bytes (asked_as result)) e (each seen name) }

-- a query that is kept was read, wherever its file has its bytes
pub again_said : (language : QueryLanguage) (db : List Relation) (seen : ShelfSeen) (name : Identifier) (file : QueryFile) → IsQuerySaid language db file → AreBytesOf seen name file.bytes → IsQueryRead language db seen name (Ok (query_source file))
again_said language db seen name file said told = record { bytes = file.bytes; told = told; is = (refl, said.short, said.says) }

-- a query's file of these bytes
pub said_of : (language : QueryLanguage) (db : List Relation) (file : QueryFile) (bytes : List ℕ) → IsQueryReadOf language db unseen [] bytes (Ok (query_source file)) → IsQuerySaid language db file
said_of language db file bytes h = record {
  short = subst (λ b. length b ≤ most_bytes) (sym h.0) h.1;
  says = subst (λ b. IsSortedAs language db b (question_of file.query)) (sym h.0) h.2;
}

-- ---- what is kept

-- a database that is kept as its own flag says, and one that is so as another one does
pub kept_as : (civil : Option CivilText) (kept : KeptDatabase) → kept.civil ≡ civil → IsDatabaseKept kept → IsKeptOf civil kept.file.bytes kept
kept_as civil kept e is = subst (λ (c : Option CivilText). IsKeptOf c kept.file.bytes kept) e is

pub kept_own : (civil : Option CivilText) (bytes : List ℕ) (kept : KeptDatabase) → IsKeptOf civil bytes kept → IsDatabaseKept kept
kept_own civil bytes kept is = record { civil_is = refl; bytes_are = refl; read = subst (λ (c : Option CivilText). IsFileRead c kept.file) (sym is.civil_is) is.read; last = is.last }

-- answers that are kept, with the listing of them as it stands
pub kept_again : (d : DatabaseFile) (kept : KeptAnswer) (answer : Answer) (paused : Option Paused) → IsAnswerKept d kept → answer ≡ kept.answer → IfSome paused (IsPausedOf kept.answer) → IsAnswerKept d (record { query = kept.query; answer = answer; paused = paused })
kept_again d kept answer paused is same stands = subst (λ (a : Answer). IsAnswerKept d (record { query = kept.query; answer = a; paused = paused })) (sym same) (record {
  said = is.said;
  plan = is.plan;
  planned = is.planned;
  sound = is.sound;
  counted = is.counted;
  answers = is.answers;
  digest = is.digest;
  paused = stands;
})
