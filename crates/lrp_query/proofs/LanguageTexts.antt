-- The query of a text of a language, and the fault of one that is none.
use Rattle.std.proofs.Common.{◌≡◌, false, ℕ, List, Result, IfOk, IfErr}
use Rattle.lrp_model.specs.declared.faults.QueryFault.{QueryFault}
use Rattle.lrp_model.specs.declared.faults.QueryRead.{QueryRead}
use Rattle.lrp_model.specs.declared.raw.RawQuery.{RawQuery}
use Rattle.lrp_model.specs.QueryMeaning.{raw_question}
use Rattle.lrp_model.specs.QueryReading.{TextsIn, IsQueryIn, IsFaultIn}
use Rattle.lrp_model.specs.RawQueries.{RawQuestion, raw_question_of}
use Rattle.lrp_query.specs.Grammars.{query_in, IsTextRead, IsTextUnread}
use Rattle.lrp_query.proofs.Languages.{Narrow, grammar, language_of}
use Rattle.lrp_query.proofs.LanguageReaders.{reader}
use Rattle.lrp_query.proofs.Meant.{query_meant}
use Rattle.lrp_query.proofs.TextLaws.{IsReaderAnswer, answered as text_answered, one_said, none_said}
use Rattle.lrp_query.proofs.OneFault.{fault_once}

-- what was read is the query of the text, and why nothing was read is its fault
pub answered : (n : Narrow) (bytes : List ℕ) (r : Result RawQuery QueryRead) → IfOk r (λ q. IsTextRead false (query_in (language_of n)) bytes (raw_question_of q)) → IfErr r (IsTextUnread false (query_in (language_of n)) bytes) → IsReaderAnswer (TextsIn (language_of n)) bytes (IsQueryIn (language_of n) bytes) raw_question_of r
answered n = text_answered (grammar n) (reader n) raw_question (query_in (language_of n)) (query_meant n) raw_question_of

-- a text has one query
pub one_query : (n : Narrow) (bytes : List ℕ) (q r : RawQuestion) → IsQueryIn (language_of n) bytes q → IsQueryIn (language_of n) bytes r → q ≡ r
one_query n = one_said (grammar n) (reader n) raw_question (query_in (language_of n)) (query_meant n)

-- a text of the language has no fault of the bytes or of the grammar
pub no_fault : (n : Narrow) (bytes : List ℕ) (q : RawQuestion) (f : QueryFault) → IsQueryIn (language_of n) bytes q → IsFaultIn (language_of n) bytes f → ⊥
no_fault n = none_said (grammar n) (reader n) raw_question (query_in (language_of n)) (query_meant n)

-- a text has one fault
pub one_fault : (n : Narrow) (bytes : List ℕ) (f g : QueryFault) → IsFaultIn (language_of n) bytes f → IsFaultIn (language_of n) bytes g → f ≡ g
one_fault n = fault_once false (TextsIn (language_of n))
