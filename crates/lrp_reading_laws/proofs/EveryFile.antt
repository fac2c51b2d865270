-- Every text is a file of the wide language or has a fault of one.
use Rattle.std.proofs.Common.{◌≡◌, ◌<◌, ◌⊎◌, inl, inr, ℕ, suc, true, map, List, [], ◌∷◌, refl, ap, ◌∙◌, Ok, Err, length, arith}
use Rattle.std.specs.Str.{IsUtf8}
use Rattle.lrp_model.specs.declared.faults.QueryFault.{QueryFault}
use Rattle.lrp_model.specs.declared.faults.QueryRead.TheVariants.{Fault}
use Rattle.lrp_model.specs.declared.faults.QueryKind.TheVariants.{Utf8, Syntax, Number, Period, Deep, TextTooLong}
use Rattle.lrp_model.specs.declared.tokens.Fault.{Fault as TokenFault}
use Rattle.lrp_model.specs.declared.tokens.Fault.TheVariants.{Syntax as syntax, Number as number, TextTooLong as text_too_long, Period as period, Deep as deep, Memory as memory}
use Rattle.lrp_model.specs.Lexing.{tokens_in}
use Rattle.lrp_model.specs.Queries.{WrittenFile, file_text, FitsFile}
use Rattle.lrp_model.specs.Queries.Language.{wide}
use Rattle.lrp_model.specs.QueryMeaning.{raw_file}
use Rattle.lrp_model.specs.QueryReading.{IsFile, IsFileFault, IsFileText, FileTexts}
use Rattle.lrp_model.specs.RawQueries.{RawFileView}
use Rattle.lrp_model.specs.Refused.{Stops}
use Rattle.lrp_model.specs.Tokens.{Tokens}
use Rattle.lrp_text.specs.Parsers.{ParseOutcome, and_then, pure}
use Rattle.lrp_text.proofs.Viable.{after_front}
use Rattle.lrp_query.specs.Grammars.{file_in, meant, operators_in, raw_definition_read}
use Rattle.lrp_query.proofs.FileTexts.{file_answered}
use Rattle.lrp_query.proofs.FileRules.{FileText, file_rule}
use Rattle.lrp_query.proofs.WideRule.{Texts}
use Rattle.lrp_reading_laws.proofs.EveryText.{utf8_or_cut, read_whole, stopped_after_all, stands_there, never_memory}
use Rattle.lrp_reading_laws.proofs.InnerParts.{file_inner}
use Rattle.lrp_reading_laws.proofs.LastTokens.{Something}
use Rattle.lrp_reading_laws.proofs.QueryTurns.{same_file}

same_read : (ts : Tokens) (j k : ℕ) → length ts < j → length ts < k → file_in j ts ≡ file_in k ts
same_read ts j k a b = ap (λ o. and_then o (λ read. pure (record { definitions = map raw_definition_read read.0; query = read.1 }))) (same_file meant (operators_in wide) ts j k a b)

-- a file, or a fault
abbrev IsEither : List ℕ → Type 0
IsEither bytes = ((f : RawFileView) × IsFile bytes f) ⊎ ((fault : QueryFault) × IsFileFault bytes fault)

module _ (bytes : List ℕ) (utf8 : IsUtf8 bytes) where
  abbrev all : Tokens
  all = tokens_in true bytes

  abbrev turns : ℕ
  turns = suc (length all)

  of_tree : (tree : WrittenFile wide) → IsFileText bytes tree → IsEither bytes
  of_tree tree text = inl (raw_file tree, record { tree = tree; text = text; meant = refl })

  -- what was met at a token is the fault there
  fault_there : (k : TokenFault) (us : Tokens) → ((t : ℕ) → length all < t → file_in t all ≡ Err (k, us)) → Something us → (k ≡ memory → ⊥) → (fault : QueryFault) × IsFileFault bytes fault
  fault_there syntax us stops s other = (record { kind = Syntax; place = s.place }, (file_answered bytes (Err (Fault (record { kind = Syntax; place = s.place }))) tt (inr (syntax, refl, record { utf8 = utf8; left = us; lexeme = s.lexeme; slice = s.slice; stands = s.stands; stops = stops }))).refused)
  fault_there number us stops s other = (record { kind = Number; place = s.place }, (file_answered bytes (Err (Fault (record { kind = Number; place = s.place }))) tt (inr (number, refl, record { utf8 = utf8; left = us; lexeme = s.lexeme; slice = s.slice; stands = s.stands; stops = stops }))).refused)
  fault_there text_too_long us stops s other = (record { kind = TextTooLong; place = s.place }, (file_answered bytes (Err (Fault (record { kind = TextTooLong; place = s.place }))) tt (inr (text_too_long, refl, record { utf8 = utf8; left = us; lexeme = s.lexeme; slice = s.slice; stands = s.stands; stops = stops }))).refused)
  fault_there period us stops s other = (record { kind = Period; place = s.place }, (file_answered bytes (Err (Fault (record { kind = Period; place = s.place }))) tt (inr (period, refl, record { utf8 = utf8; left = us; lexeme = s.lexeme; slice = s.slice; stands = s.stands; stops = stops }))).refused)
  fault_there deep us stops s other = (record { kind = Deep; place = s.place }, (file_answered bytes (Err (Fault (record { kind = Deep; place = s.place }))) tt (inr (deep, refl, record { utf8 = utf8; left = us; lexeme = s.lexeme; slice = s.slice; stands = s.stands; stops = stops }))).refused)
  fault_there memory us stops s other = absurd (other refl)

  -- where the parser stops
  stops_at : (k : TokenFault) (us : Tokens) → file_in turns all ≡ Err (k, us) → Stops FileTexts all (k, us)
  stops_at k us e = after_front (Texts FileText) FileTexts [] all all (k, us) refl (λ c x t. (t.1.tree, t.1.fits, t.1.spelled)) ((file_rule turns).viable all (k, us) (omega arith) e)

  by_outcome : (o : ParseOutcome RawFileView) → file_in turns all ≡ o → IsEither bytes
  by_outcome (Ok q) e = let w = (file_rule turns).sound all q e in of_tree w.tree (read_whole true file_text FitsFile file_inner bytes utf8 w.tree q.1 w.spelled w.fits)
  by_outcome (Err (k, [])) e = let t = stopped_after_all true file_text FitsFile file_inner bytes utf8 k (stops_at k [] e) in of_tree t.0 t.1
  by_outcome (Err (k, b ∷ us)) e =
      let stops = stops_at k (b ∷ us) e in
      inr (fault_there k (b ∷ us) (λ t lt. same_read all t turns lt (omega arith) ∙ e) (stands_there true file_text FitsFile file_inner bytes utf8 k b us stops) (never_memory FileTexts all (b ∷ us) k stops))

pub every_file : (bytes : List ℕ) → IsEither bytes
every_file bytes = elim (utf8_or_cut bytes) [
  | inl utf8 ↦ by_outcome bytes utf8 (file_in (suc (length (tokens_in true bytes))) (tokens_in true bytes)) refl
  | inr cut ↦ inr (record { kind = Utf8; place = cut.0 }, cut.1)
]
