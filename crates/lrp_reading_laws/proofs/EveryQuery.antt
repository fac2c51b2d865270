-- Every text is a query of its language or has a fault of one.
use Rattle.std.proofs.Common.{◌≡◌, ◌<◌, ◌⊎◌, inl, inr, ℕ, suc, false, List, [], ◌∷◌, refl, ap, ◌∙◌, Ok, Err, length, arith}
use Rattle.std.specs.Str.{IsUtf8}
use Rattle.lrp_model.specs.declared.faults.QueryFault.{QueryFault}
use Rattle.lrp_model.specs.declared.faults.QueryRead.TheVariants.{Fault}
use Rattle.lrp_model.specs.declared.faults.QueryKind.TheVariants.{Utf8, Syntax, Number, Period, Deep, TextTooLong}
use Rattle.lrp_model.specs.declared.tokens.Fault.{Fault as TokenFault}
use Rattle.lrp_model.specs.declared.tokens.Fault.TheVariants.{Syntax as syntax, Number as number, TextTooLong as text_too_long, Period as period, Deep as deep, Memory as memory}
use Rattle.lrp_model.specs.Lexing.{tokens_in}
use Rattle.lrp_model.specs.Queries.{WrittenQuery, query_text, FitsQuery}
use Rattle.lrp_model.specs.QueryMeaning.{raw_question}
use Rattle.lrp_model.specs.QueryReading.{IsQueryIn, IsFaultIn, IsTextIn, TextsIn}
use Rattle.lrp_model.specs.RawQueries.{RawQuestion}
use Rattle.lrp_model.specs.Refused.{Stops}
use Rattle.lrp_model.specs.Tokens.{Tokens}
use Rattle.lrp_text.specs.Parsers.{ParseOutcome}
use Rattle.lrp_query.specs.Rules.{query_with}
use Rattle.lrp_query.specs.Grammars.{query_in}
use Rattle.lrp_query.proofs.Layers.{trees}
use Rattle.lrp_query.proofs.Languages.{Narrow, plain, tense, language_of, grammar, written_operators}
use Rattle.lrp_query.proofs.LanguageReaders.{reader}
use Rattle.lrp_query.proofs.LanguageTexts.{answered}
use Rattle.lrp_query.proofs.Meant.{query_meant}
use Rattle.lrp_query.proofs.Natural.{mapped}
use Rattle.lrp_query.proofs.QueryRules.{query_sound, query_viable}
use Rattle.lrp_reading_laws.proofs.EveryText.{utf8_or_cut, read_whole, stopped_after_all, stands_there, never_memory}
use Rattle.lrp_reading_laws.proofs.InnerParts.{query_inner}
use Rattle.lrp_reading_laws.proofs.LastTokens.{Something}
use Rattle.lrp_reading_laws.proofs.QueryTurns.{same_plain, same_tense}

-- the written tree of tokens, with this number of turns for each list
abbrev read : (n : Narrow) → ℕ → Tokens → ParseOutcome (WrittenQuery (language_of n))
read n turns = query_with (trees (grammar n)) (reader n).after turns

same_read : (n : Narrow) (ts : Tokens) (j k : ℕ) → length ts < j → length ts < k → read n j ts ≡ read n k ts
same_read plain ts j k a b = same_plain (trees (grammar plain)) ts j k a b
same_read tense ts j k a b = same_tense (trees (grammar tense)) written_operators ts j k a b

-- a text of the language, or a fault
abbrev IsEither : Narrow → List ℕ → Type 0
IsEither n bytes = ((q : RawQuestion) × IsQueryIn (language_of n) bytes q) ⊎ ((fault : QueryFault) × IsFaultIn (language_of n) bytes fault)

module _ (n : Narrow) (bytes : List ℕ) (utf8 : IsUtf8 bytes) where
  abbrev all : Tokens
  all = tokens_in false bytes

  abbrev turns : ℕ
  turns = suc (length all)

  of_tree : (tree : WrittenQuery (language_of n)) → IsTextIn (language_of n) bytes tree → IsEither n bytes
  of_tree tree text = inl (raw_question tree, record { tree = tree; text = text; meant = refl })

  -- what was met at a token is the fault there
  fault_there : (k : TokenFault) (us : Tokens) → ((t : ℕ) → length all < t → query_in (language_of n) t all ≡ Err (k, us)) → Something us → (k ≡ memory → ⊥) → (fault : QueryFault) × IsFaultIn (language_of n) bytes fault
  fault_there syntax us stops s other = (record { kind = Syntax; place = s.place }, (answered n bytes (Err (Fault (record { kind = Syntax; place = s.place }))) tt (inr (syntax, refl, record { utf8 = utf8; left = us; lexeme = s.lexeme; slice = s.slice; stands = s.stands; stops = stops }))).refused)
  fault_there number us stops s other = (record { kind = Number; place = s.place }, (answered n bytes (Err (Fault (record { kind = Number; place = s.place }))) tt (inr (number, refl, record { utf8 = utf8; left = us; lexeme = s.lexeme; slice = s.slice; stands = s.stands; stops = stops }))).refused)
  fault_there text_too_long us stops s other = (record { kind = TextTooLong; place = s.place }, (answered n bytes (Err (Fault (record { kind = TextTooLong; place = s.place }))) tt (inr (text_too_long, refl, record { utf8 = utf8; left = us; lexeme = s.lexeme; slice = s.slice; stands = s.stands; stops = stops }))).refused)
  fault_there period us stops s other = (record { kind = Period; place = s.place }, (answered n bytes (Err (Fault (record { kind = Period; place = s.place }))) tt (inr (period, refl, record { utf8 = utf8; left = us; lexeme = s.lexeme; slice = s.slice; stands = s.stands; stops = stops }))).refused)
  fault_there deep us stops s other = (record { kind = Deep; place = s.place }, (answered n bytes (Err (Fault (record { kind = Deep; place = s.place }))) tt (inr (deep, refl, record { utf8 = utf8; left = us; lexeme = s.lexeme; slice = s.slice; stands = s.stands; stops = stops }))).refused)
  fault_there memory us stops s other = absurd (other refl)

  stops_there : (k : TokenFault) (us : Tokens) → read n turns all ≡ Err (k, us) → (t : ℕ) → length all < t → query_in (language_of n) t all ≡ Err (k, us)
  stops_there k us e t lt = query_meant n t all ∙ ap (mapped raw_question) (same_read n all t turns lt (omega arith) ∙ e)

  by_outcome : (o : ParseOutcome (WrittenQuery (language_of n))) → read n turns all ≡ o → IsEither n bytes
  by_outcome (Ok q) e =
      let k = query_sound (grammar n) (reader n).after (reader n).rules turns all q e in
      of_tree q.0 (read_whole false query_text FitsQuery query_inner bytes utf8 q.0 q.1 k.0 k.1)
  by_outcome (Err (k, [])) e =
      let stops : Stops (TextsIn (language_of n)) all (k, []) = query_viable (grammar n) (reader n).after (reader n).rules turns all (k, []) (omega arith) e in
      let t = stopped_after_all false query_text FitsQuery query_inner bytes utf8 k stops in
      of_tree t.0 t.1
  by_outcome (Err (k, b ∷ us)) e =
      let stops : Stops (TextsIn (language_of n)) all (k, b ∷ us) = query_viable (grammar n) (reader n).after (reader n).rules turns all (k, b ∷ us) (omega arith) e in
      inr (fault_there k (b ∷ us) (stops_there k (b ∷ us) e) (stands_there false query_text FitsQuery query_inner bytes utf8 k b us stops) (never_memory (TextsIn (language_of n)) all (b ∷ us) k stops))

pub every_query : (n : Narrow) (bytes : List ℕ) → IsEither n bytes
every_query n bytes = elim (utf8_or_cut bytes) [
  | inl utf8 ↦ by_outcome n bytes utf8 (read n (suc (length (tokens_in false bytes))) (tokens_in false bytes)) refl
  | inr cut ↦ inr (record { kind = Utf8; place = cut.0 }, cut.1)
]
