-- What is read of a database and of edits depends on no number of turns that is greater than the number of tokens.
use Rattle.std.proofs.Common.{◌≡◌, ◌<◌, ◌≤◌, ℕ, suc, false, [], length, arith}
use Rattle.lrp_model.specs.declared.tokens.Symbol.TheVariants.{Open, Close, OpenBrace, CloseBrace, Comma, Semicolon}
use Rattle.lrp_model.specs.declared.tokens.Word.TheVariants.{Relation, Where}
use Rattle.lrp_model.specs.Tokens.{Tokens, located_text}
use Rattle.lrp_model.specs.Tokens.Token.{word_token}
use Rattle.lrp_model.specs.Databases.{row_text, relation_text, database_text, FitsRow, FitsRelation, FitsDatabase}
use Rattle.lrp_text.specs.Parsers.{eat, until_from, listed}
use Rattle.lrp_text.specs.Taking.{is_symbol, is_word, is_end, is_end_token, expect, expect_word, expect_end, located}
use Rattle.lrp_text.specs.ColumnRule.{column}
use Rattle.lrp_text.proofs.Local.{accept_local, pure_local, eat_local}
use Rattle.lrp_text.proofs.ColumnRule.{column_local}
use Rattle.lrp_text.proofs.Complete.{Anything, first_sees_any, MemberUntil}
use Rattle.lrp_text.proofs.LocatedRule.{located_sound}
use Rattle.lrp_text.proofs.Refusal.{Rule}
use Rattle.lrp_rel.specs.Rules.{label, value, bound, bounds, row, relation, database}
use Rattle.lrp_rel.proofs.Labels.{label_local}
use Rattle.lrp_rel.proofs.LocalRules.{value_local, bound_local, relation_local}
use Rattle.lrp_rel.proofs.RowRules.{row_sound}
use Rattle.lrp_rel.proofs.RelationRules.{row_leads, from_name, relation_answers, relation_sound, relation_viable}
use Rattle.lrp_rel.proofs.UntilEnd.{items_rule}
use Rattle.lrp_edits.specs.EditRules.{change, edit, edits}
use Rattle.lrp_edits.specs.EditTexts.{edit_text, FitsEdit}
use Rattle.lrp_edits.proofs.EditRuleLaws.{change_local, edit_rule}
use Rattle.lrp_reading_laws.proofs.Agreeing.{Agree, by_itself, bind_agree, if_agree, listed_agree, until_agree, separated_agree, located_agree, takes_one}

module _ (size n m : ℕ) (a : size ≤ n) (b : size ≤ m) where
  bounds_agree : Agree size (bounds n) (bounds m)
  unfolding bounds
  bounds_agree =
      bind_agree size (eat (is_word Where)) (eat (is_word Where)) _ _ (by_itself size _ (eat_local _)) (λ some.
      if_agree size some _ _ _ _ (λ ts lt. separated_agree size bound bound (is_symbol Comma) (by_itself size bound bound_local) n m [] ts lt (omega (arith, lt, a)) (omega (arith, lt, b))) (by_itself size _ (pure_local _)))

  row_agree : Agree size (row n) (row m)
  unfolding row
  row_agree =
      bind_agree size (expect Open) (expect Open) _ _ (by_itself size _ (accept_local _)) (λ u.
      bind_agree size (listed value (is_symbol Comma) (is_symbol Close) n) (listed value (is_symbol Comma) (is_symbol Close) m) _ _ (listed_agree size value value (is_symbol Comma) (is_symbol Close) (by_itself size value value_local) n m a b) (λ vs.
      bind_agree size (expect Close) (expect Close) _ _ (by_itself size _ (accept_local _)) (λ v.
      bind_agree size (bounds n) (bounds m) _ _ bounds_agree (λ bs.
      bind_agree size (expect Semicolon) (expect Semicolon) _ _ (by_itself size _ (accept_local _)) (λ w. by_itself size _ (pure_local _))))))

  relation_agree : Agree size (relation n) (relation m)
  unfolding relation
  relation_agree =
      bind_agree size (expect_word Relation) (expect_word Relation) _ _ (by_itself size _ (accept_local _)) (λ u.
      bind_agree size label label _ _ (by_itself size label label_local) (λ who.
      bind_agree size (expect Open) (expect Open) _ _ (by_itself size _ (accept_local _)) (λ v.
      bind_agree size (listed column (is_symbol Comma) (is_symbol Close) n) (listed column (is_symbol Comma) (is_symbol Close) m) _ _ (listed_agree size column column (is_symbol Comma) (is_symbol Close) (by_itself size column column_local) n m a b) (λ cs.
      bind_agree size (expect Close) (expect Close) _ _ (by_itself size _ (accept_local _)) (λ w.
      bind_agree size (expect OpenBrace) (expect OpenBrace) _ _ (by_itself size _ (accept_local _)) (λ x.
      bind_agree size (until_from (located (row n)) (is_symbol CloseBrace) n []) (until_from (located (row m)) (is_symbol CloseBrace) m []) _ _
      (λ ts lt. until_agree size (located (row n)) (located (row m)) (is_symbol CloseBrace) (located_agree size (row n) (row m) row_agree) (takes_one size (located (row n)) (located_text row_text) (λ r. FitsRow r.item) (located_sound (row n) row_text FitsRow row_leads (row_sound n)) (λ r. omega arith)) n m [] ts lt (omega (arith, lt, a)) (omega (arith, lt, b))) (λ rows.
      bind_agree size (expect CloseBrace) (expect CloseBrace) _ _ (by_itself size _ (accept_local _)) (λ y. by_itself size _ (pure_local _)))))))))

  relations_agree : Agree size (database n) (database m)
  unfolding database
  relations_agree =
      bind_agree size (until_from (relation n) is_end n []) (until_from (relation m) is_end m []) _ _
      (λ ts lt. until_agree size (relation n) (relation m) is_end relation_agree (takes_one size (relation n) relation_text FitsRelation (relation_sound n) (λ r. omega arith)) n m [] ts lt (omega (arith, lt, a)) (omega (arith, lt, b))) (λ rs.
      bind_agree size expect_end expect_end _ _ (by_itself size _ (accept_local _)) (λ u. by_itself size _ (pure_local _)))

  edit_agree : Agree size (edit n) (edit m)
  unfolding edit
  edit_agree =
      bind_agree size change change _ _ (by_itself size change change_local) (λ add.
      bind_agree size label label _ _ (by_itself size label label_local) (λ who.
      bind_agree size (located (row n)) (located (row m)) _ _ (located_agree size (row n) (row m) row_agree) (λ r. by_itself size _ (pure_local _))))

  all_edits_agree : Agree size (edits n) (edits m)
  unfolding edits
  all_edits_agree =
      bind_agree size (until_from (edit n) is_end n []) (until_from (edit m) is_end m []) _ _
      (λ ts lt. until_agree size (edit n) (edit m) is_end edit_agree (takes_one size (edit n) edit_text FitsEdit (edit_rule.sound n) edit_rule.some) n m [] ts lt (omega (arith, lt, a)) (omega (arith, lt, b))) (λ es.
      bind_agree size expect_end expect_end _ _ (by_itself size _ (accept_local _)) (λ u. by_itself size _ (pure_local _)))

-- with more turns than tokens
pub same_database : (ts : Tokens) (n m : ℕ) → length ts < n → length ts < m → database n ts ≡ database m ts
same_database ts n m a b = (relations_agree (suc (length ts)) n m (omega (arith, a)) (omega (arith, b)) ts (omega arith)).same

pub same_edits : (ts : Tokens) (n m : ℕ) → length ts < n → length ts < m → edits n ts ≡ edits m ts
same_edits ts n m a b = (all_edits_agree (suc (length ts)) n m (omega (arith, a)) (omega (arith, b)) ts (omega arith)).same

-- ---- the rule of databases

-- a relation as a member of a list
relations_member : (n : ℕ) → MemberUntil (relation n) relation_text FitsRelation Anything is_end n
relations_member n = record {
  one = λ a ts left lt h g. relation_answers n a ts left lt h;
  begins = λ a ts left h. (first_sees_any false is_end_token (word_token Relation) (from_name a.name a.columns a.rows) ts left h, tt);
}

pub database_rule : Rule database database_text FitsDatabase
unfolding database
database_rule =
    let r = items_rule relation relation_text FitsRelation (record { local = relation_local; member = relations_member; sound = relation_sound; viable = relation_viable; some = λ r. omega arith }) in
    record { local = r.local; complete = r.complete; viable = r.viable }
