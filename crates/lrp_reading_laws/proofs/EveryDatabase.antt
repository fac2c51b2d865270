-- Every text is a database or has a fault of one; and the same of edits.
use Rattle.std.proofs.Common.{◌≡◌, ◌<◌, ◌⊎◌, inl, inr, ℕ, suc, false, List, [], ◌∷◌, map, refl, ◌∙◌, Option, Some, None, Ok, Err, length, arith}
use Rattle.std.specs.Str.{IsUtf8}
use Rattle.lrp_model.proofs.FirstFault.{none_is_empty}
use Rattle.lrp_model.specs.DatabaseFaults.{database_standing, database_faults}
use Rattle.lrp_model.specs.DatabaseMeaning.{database_of}
use Rattle.lrp_model.specs.DatabaseReading.{IsDatabase, IsDatabaseFault, IsDatabaseText}
use Rattle.lrp_model.specs.Databases.{database_text, FitsDatabase}
use Rattle.lrp_model.specs.Faults.{earliest}
use Rattle.lrp_model.specs.Lexing.{tokens_in}
use Rattle.lrp_model.specs.Refused.{Stops, TextOf}
use Rattle.lrp_model.specs.Tokens.{Tokens}
use Rattle.lrp_model.specs.declared.faults.DbFault.{DbFault}
use Rattle.lrp_model.specs.declared.faults.DbKind.TheVariants.{Utf8, Syntax, Number, Period, TextTooLong}
use Rattle.lrp_model.specs.declared.relations.Relation.{Relation}
use Rattle.lrp_model.specs.declared.tokens.Fault.{Fault as TokenFault}
use Rattle.lrp_model.specs.declared.tokens.Fault.TheVariants.{Syntax as syntax, Number as number, TextTooLong as text_too_long, Period as period, Deep as deep, Memory as memory}
use Rattle.lrp_model.specs.declared.written.RawRelation.{RawRelation}
use Rattle.lrp_text.specs.Parsers.{ParseOutcome}
use Rattle.lrp_rel.specs.Rules.{database}
use Rattle.lrp_rel.specs.declared.trees.ReadFault.TheVariants.{Fault}
use Rattle.lrp_rel.proofs.DatabaseRules.{database_sound}
use Rattle.lrp_rel.proofs.Shallow.{database_shallow}
use Rattle.lrp_rel.proofs.TextLaws.{text_refused}
use Rattle.lrp_rel.proofs.WholeFault.{tree_refused, unread_refused}
use Rattle.lrp_edits.specs.declared.edits.Edit.{Edit}
use Rattle.lrp_edits.specs.declared.edits.Edits.{Edits}
use Rattle.lrp_edits.specs.declared.edits.RawEdit.{RawEdit}
use Rattle.lrp_edits.specs.EditMeaning.{edit_of, edits_faults}
use Rattle.lrp_edits.specs.EditReading.{IsEditsText, IsEditsFault, SaysEdits}
use Rattle.lrp_edits.specs.EditRules.{edits}
use Rattle.lrp_edits.specs.EditTexts.{edits_text, FitsEdits}
use Rattle.lrp_edits.proofs.EditLaws.{text_refused as edits_refused, kept_refused}
use Rattle.lrp_edits.proofs.EditRuleLaws.{edits_sound, edits_shallow, edits_rule}
use Rattle.lrp_reading_laws.proofs.DatabaseTurns.{database_rule, same_database, same_edits}
use Rattle.lrp_reading_laws.proofs.EveryText.{utf8_or_cut, read_whole, stopped_after_all, stands_there, never_memory}
use Rattle.lrp_reading_laws.proofs.InnerParts.{database_inner, edits_inner}
use Rattle.lrp_reading_laws.proofs.LastTokens.{Something}

-- ---- databases

-- a database, or a fault
abbrev IsEither : List ℕ → Type 0
IsEither bytes = ((relations : List Relation) × IsDatabase bytes relations) ⊎ ((fault : DbFault) × IsDatabaseFault bytes fault)

-- the meaning of a tree, or its earliest fault
of_tree : (bytes : List ℕ) (tree : List RawRelation) → IsDatabaseText bytes tree → IsEither bytes
of_tree bytes tree text = by (earliest database_standing (database_faults tree)) refl
  where
    by : (o : Option DbFault) → earliest database_standing (database_faults tree) ≡ o → IsEither bytes
    by None e = inl (database_of tree, record { tree = tree; text = text; sound = none_is_empty database_standing (database_faults tree) e; meant = refl })
    by (Some fault) e = inr (fault, tree_refused bytes tree (Fault fault) text e)

module _ (bytes : List ℕ) (utf8 : IsUtf8 bytes) where
  abbrev all : Tokens
  all = tokens_in false bytes

  abbrev turns : ℕ
  turns = suc (length all)

  -- what was met at a token is the fault there
  fault_there : (k : TokenFault) (us : Tokens) → ((t : ℕ) → length all < t → database t all ≡ Err (k, us)) → Something us → (k ≡ memory → ⊥) → (fault : DbFault) × IsDatabaseFault bytes fault
  fault_there syntax us stops s other = (record { kind = Syntax; place = s.place }, unread_refused bytes (Fault (record { kind = Syntax; place = s.place })) (text_refused bytes all us syntax s.lexeme s.slice s.place refl utf8 s.stands stops))
  fault_there number us stops s other = (record { kind = Number; place = s.place }, unread_refused bytes (Fault (record { kind = Number; place = s.place })) (text_refused bytes all us number s.lexeme s.slice s.place refl utf8 s.stands stops))
  fault_there text_too_long us stops s other = (record { kind = TextTooLong; place = s.place }, unread_refused bytes (Fault (record { kind = TextTooLong; place = s.place })) (text_refused bytes all us text_too_long s.lexeme s.slice s.place refl utf8 s.stands stops))
  fault_there period us stops s other = (record { kind = Period; place = s.place }, unread_refused bytes (Fault (record { kind = Period; place = s.place })) (text_refused bytes all us period s.lexeme s.slice s.place refl utf8 s.stands stops))
  fault_there deep us stops s other = absurd (database_shallow turns all us (stops turns (omega arith)))
  fault_there memory us stops s other = absurd (other refl)

  by_outcome : (o : ParseOutcome (List RawRelation)) → database turns all ≡ o → IsEither bytes
  by_outcome (Ok q) e = let k = database_sound turns all q e in of_tree bytes q.0 (read_whole false database_text FitsDatabase database_inner bytes utf8 q.0 q.1 k.0 k.1)
  by_outcome (Err (k, [])) e = let t = stopped_after_all false database_text FitsDatabase database_inner bytes utf8 k (database_rule.viable turns all (k, []) (omega arith) e) in of_tree bytes t.0 t.1
  by_outcome (Err (k, b ∷ us)) e =
      let stops : Stops (TextOf database_text FitsDatabase) all (k, b ∷ us) = database_rule.viable turns all (k, b ∷ us) (omega arith) e in
      inr (fault_there k (b ∷ us) (λ t lt. same_database all t turns lt (omega arith) ∙ e) (stands_there false database_text FitsDatabase database_inner bytes utf8 k b us stops) (never_memory (TextOf database_text FitsDatabase) all (b ∷ us) k stops))

pub every_database : (bytes : List ℕ) → IsEither bytes
every_database bytes = elim (utf8_or_cut bytes) [
  | inl utf8 ↦ by_outcome bytes utf8 (database (suc (length (tokens_in false bytes))) (tokens_in false bytes)) refl
  | inr cut ↦ inr (record { kind = Utf8; place = cut.0 }, cut.1)
]

-- ---- edits

-- edits of the database, or a fault
abbrev AreEither : List ℕ → List Relation → Type 0
AreEither bytes db = ((es : List Edit) × SaysEdits bytes db es) ⊎ ((fault : DbFault) × IsEditsFault bytes db fault)

module _ (bytes : List ℕ) (db : List Relation) where
  -- the meaning of a tree, or its earliest fault
  of_edits : (tree : List RawEdit) → IsEditsText bytes tree → AreEither bytes db
  of_edits tree text = by (earliest database_standing (edits_faults db tree)) refl
    where
      by : (o : Option DbFault) → earliest database_standing (edits_faults db tree) ≡ o → AreEither bytes db
      by None e = inl (map (edit_of db) tree, record { tree = tree; text = text; sound = none_is_empty database_standing (edits_faults db tree) e; meant = refl })
      by (Some fault) e =
          let kept : Edits = record { list = map (edit_of db) tree; fault = earliest database_standing (edits_faults db tree) } in
          inr (fault, kept_refused bytes db kept fault (record { tree = tree; text = text; are = record { fault = refl; meant = λ none. refl } }) e)

  module _ (utf8 : IsUtf8 bytes) where
    -- what was met at a token is the fault there
    edits_fault : (k : TokenFault) (us : Tokens) → ((t : ℕ) → length (tokens_in false bytes) < t → edits t (tokens_in false bytes) ≡ Err (k, us)) → Something us → (k ≡ memory → ⊥) → (fault : DbFault) × IsEditsFault bytes db fault
    edits_fault syntax us stops s other = (record { kind = Syntax; place = s.place }, edits_refused bytes db (tokens_in false bytes) us syntax s.lexeme s.slice s.place refl utf8 s.stands stops)
    edits_fault number us stops s other = (record { kind = Number; place = s.place }, edits_refused bytes db (tokens_in false bytes) us number s.lexeme s.slice s.place refl utf8 s.stands stops)
    edits_fault text_too_long us stops s other = (record { kind = TextTooLong; place = s.place }, edits_refused bytes db (tokens_in false bytes) us text_too_long s.lexeme s.slice s.place refl utf8 s.stands stops)
    edits_fault period us stops s other = (record { kind = Period; place = s.place }, edits_refused bytes db (tokens_in false bytes) us period s.lexeme s.slice s.place refl utf8 s.stands stops)
    edits_fault deep us stops s other = absurd (edits_shallow (suc (length (tokens_in false bytes))) (tokens_in false bytes) us (stops (suc (length (tokens_in false bytes))) (omega arith)))
    edits_fault memory us stops s other = absurd (other refl)

    edits_outcome : (o : ParseOutcome (List RawEdit)) → edits (suc (length (tokens_in false bytes))) (tokens_in false bytes) ≡ o → AreEither bytes db
    edits_outcome (Ok q) e = let k = edits_sound (suc (length (tokens_in false bytes))) (tokens_in false bytes) q e in of_edits q.0 (read_whole false edits_text FitsEdits edits_inner bytes utf8 q.0 q.1 k.0 k.1)
    edits_outcome (Err (k, [])) e =
        let t = stopped_after_all false edits_text FitsEdits edits_inner bytes utf8 k (edits_rule.viable (suc (length (tokens_in false bytes))) (tokens_in false bytes) (k, []) (omega arith) e) in
        of_edits t.0 t.1
    edits_outcome (Err (k, b ∷ us)) e =
        let ts : Tokens = tokens_in false bytes in
        let stops : Stops (TextOf edits_text FitsEdits) ts (k, b ∷ us) = edits_rule.viable (suc (length ts)) ts (k, b ∷ us) (omega arith) e in
        inr (edits_fault k (b ∷ us) (λ t lt. same_edits ts t (suc (length ts)) lt (omega arith) ∙ e) (stands_there false edits_text FitsEdits edits_inner bytes utf8 k b us stops) (never_memory (TextOf edits_text FitsEdits) ts (b ∷ us) k stops))

  pub every_edits : AreEither bytes db
  every_edits = elim (utf8_or_cut bytes) [
    | inl utf8 ↦ edits_outcome utf8 (edits (suc (length (tokens_in false bytes))) (tokens_in false bytes)) refl
    | inr cut ↦ inr (record { kind = Utf8; place = cut.0 }, cut.1)
  ]
