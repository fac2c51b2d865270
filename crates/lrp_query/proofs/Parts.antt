-- What the rules of each language say of the parts of a formula: the wide language goes on after a formula, the others do not.
use Rattle.std.proofs.Common.{◌≡◌, ◌∙◌, ℕ, Bool, true, false, Option, Some, None, refl, sym, ap, Ok, Err}
use Rattle.lrp_model.specs.Texts.{Identifier}
use Rattle.lrp_model.specs.Queries.{Language, is_wide}
use Rattle.lrp_model.specs.Queries.Language.{first_order, temporal, wide}
use Rattle.lrp_model.specs.RawQueries.{RawForm, raw_exists, raw_forall}
use Rattle.lrp_model.specs.declared.raw.Ranged.{Ranged}
use Rattle.lrp_model.specs.declared.raw.Paired.{Paired}
use Rattle.lrp_model.specs.declared.tokens.Place.{Place}
use Rattle.lrp_model.specs.declared.tokens.Fault.{Fault}
use Rattle.lrp_model.specs.declared.tokens.Fault.TheVariants.{Syntax}
use Rattle.lrp_model.specs.declared.tokens.Symbol.TheVariants.{Open}
use Rattle.lrp_model.specs.declared.tokens.Word.TheVariants.{Exists, Forall}
use Rattle.lrp_model.specs.Tokens.{Tokens}
use Rattle.lrp_text.specs.Parsers.{Reads, ◌>>=◌, ◌>>◌, look}
use Rattle.lrp_text.specs.Taking.{is_name, expect, expect_word}
use Rattle.lrp_text.proofs.Turns.{lifts}
use Rattle.lrp_query.specs.declared.words.Leading.{Leading}
use Rattle.lrp_query.specs.declared.words.Leading.TheVariants.{OfRange, OfPair}
use Rattle.lrp_query.specs.Rules.{after_name, closed_whole, enclosed, enclosed_whole, existing, holding, member_of, quantified}
use Rattle.lrp_query.specs.OperatorRules.{ranged_parts, paired_parts, wide_operator, with_wide_operators}
use Rattle.lrp_query.specs.Grammars.{after_at, enclosed_at, existing_at, formula_in, formulas_in, holding_at, meant, operators_in, part_in, whole_in, word_in}
use Rattle.lrp_query.proofs.After.{operator_after, pair_after, paired_same, plainly_after, range_after, ranged_same}

-- ---- any formula

module _ (depth turns : ℕ) (ts : Tokens) where
  pub narrow_part : (l : Language) → is_wide l ≡ false → part_in l depth turns ts ≡ formula_in l depth turns ts
  narrow_part first_order e = refl
  narrow_part temporal e = refl
  narrow_part wide e = absurd cc

  pub wide_part : (l : Language) → is_wide l ≡ true → part_in l depth turns ts ≡ member_of (whole_in l depth turns) ts
  wide_part first_order e = absurd cc
  wide_part temporal e = absurd cc
  wide_part wide e = refl

-- ---- quantifiers, and formulas in parentheses

module _ (depth turns : ℕ) (p : Place) (ts : Tokens) where
  pub narrow_existing : (l : Language) → is_wide l ≡ false → existing_at l depth turns p ts ≡ existing meant (formula_in l depth turns) p ts
  narrow_existing first_order e = refl
  narrow_existing temporal e = refl
  narrow_existing wide e = absurd cc

  pub wide_existing : (l : Language) → is_wide l ≡ true → existing_at l depth turns p ts ≡ (expect_word Exists >> quantified raw_exists (formulas_in l turns) depth turns p) ts
  wide_existing first_order e = absurd cc
  wide_existing temporal e = absurd cc
  wide_existing wide e = refl

  none_existing : (l : Language) (us : Tokens) (k : Fault) → expect_word Exists ts ≡ Err (k, us) → existing_at l depth turns p ts ≡ Err (k, us)
  unfolding existing
  none_existing first_order us k e = rw e refl
  none_existing temporal us k e = rw e refl
  none_existing wide us k e = rw e refl

  pub unread_existing : (l : Language) (us : Tokens) (k : Fault) → Reads (expect_word Exists ts) (Err k) us → Reads (existing_at l depth turns p ts) (Err k) us
  unread_existing l us k = lifts (expect_word Exists ts) (existing_at l depth turns p ts) us k (none_existing l us)

  pub narrow_holding : (l : Language) → is_wide l ≡ false → holding_at l depth turns p ts ≡ holding meant (formula_in l depth turns) p ts
  narrow_holding first_order e = refl
  narrow_holding temporal e = refl
  narrow_holding wide e = absurd cc

  pub wide_holding : (l : Language) → is_wide l ≡ true → holding_at l depth turns p ts ≡ (expect_word Forall >> quantified raw_forall (formulas_in l turns) depth turns p) ts
  wide_holding first_order e = absurd cc
  wide_holding temporal e = absurd cc
  wide_holding wide e = refl

  none_holding : (l : Language) (us : Tokens) (k : Fault) → expect_word Forall ts ≡ Err (k, us) → holding_at l depth turns p ts ≡ Err (k, us)
  unfolding holding
  none_holding first_order us k e = rw e refl
  none_holding temporal us k e = rw e refl
  none_holding wide us k e = rw e refl

  pub unread_holding : (l : Language) (us : Tokens) (k : Fault) → Reads (expect_word Forall ts) (Err k) us → Reads (holding_at l depth turns p ts) (Err k) us
  unread_holding l us k = lifts (expect_word Forall ts) (holding_at l depth turns p ts) us k (none_holding l us)

  pub narrow_enclosed : (l : Language) → is_wide l ≡ false → enclosed_at l depth turns p ts ≡ enclosed meant (formula_in l depth turns) turns p ts
  narrow_enclosed first_order e = refl
  narrow_enclosed temporal e = refl
  narrow_enclosed wide e = absurd cc

  pub wide_enclosed : (l : Language) → is_wide l ≡ true → enclosed_at l depth turns p ts ≡ (expect Open >> closed_whole meant (whole_in l depth turns) p) ts
  unfolding enclosed_whole
  wide_enclosed first_order e = absurd cc
  wide_enclosed temporal e = absurd cc
  wide_enclosed wide e = refl

  none_enclosed : (l : Language) (us : Tokens) (k : Fault) → expect Open ts ≡ Err (k, us) → enclosed_at l depth turns p ts ≡ Err (k, us)
  unfolding enclosed enclosed_whole
  none_enclosed first_order us k e = rw e refl
  none_enclosed temporal us k e = rw e refl
  none_enclosed wide us k e = rw e refl

  pub unread_enclosed : (l : Language) (us : Tokens) (k : Fault) → Reads (expect Open ts) (Err k) us → Reads (enclosed_at l depth turns p ts) (Err k) us
  unread_enclosed l us k = lifts (expect Open ts) (enclosed_at l depth turns p ts) us k (none_enclosed l us)

-- ---- after a name

module _ (depth turns : ℕ) (n : Identifier) (p : Place) (ts : Tokens) where
  -- what stands there without operators
  pub plain_after_at : (l : Language) → look false is_name ts ≡ Ok (false, ts) → after_at l depth turns n p ts ≡ after_name (is_wide l) meant turns n p ts
  unfolding with_wide_operators
  plain_after_at first_order e = plainly_after meant (operators_in first_order) (formula_in first_order depth turns) turns n p ts e
  plain_after_at temporal e = plainly_after meant (operators_in temporal) (formula_in temporal depth turns) turns n p ts e
  plain_after_at wide e = rw e refl

  -- an operator with an interval, one over two formulas, and none
  pub range_after_at : (l : Language) (word : Ranged) → look false is_name ts ≡ Ok (true, ts) → Some (OfRange word) ≡ word_in l n → after_at l depth turns n p ts ≡ ranged_parts (operators_in l) (formula_in l depth turns) word p ts
  unfolding with_wide_operators
  range_after_at first_order word e w = range_after meant (operators_in first_order) (formula_in first_order depth turns) turns n p ts word e w
  range_after_at temporal word e w = range_after meant (operators_in temporal) (formula_in temporal depth turns) turns n p ts word e w
  range_after_at wide word e w = rw e (ap (λ o. wide_operator (operators_in wide) (formula_in wide depth turns) (part_in wide depth turns) p o ts) (sym w) ∙ sym (ranged_same (operators_in wide) (formula_in wide depth turns) word p ts))

  pub pair_after_at : (l : Language) (word : Paired) → look false is_name ts ≡ Ok (true, ts) → Some (OfPair word) ≡ word_in l n → after_at l depth turns n p ts ≡ paired_parts (operators_in l) (part_in l depth turns) word p ts
  unfolding with_wide_operators
  pair_after_at first_order word e w = pair_after meant (operators_in first_order) (formula_in first_order depth turns) turns n p ts word e w
  pair_after_at temporal word e w = pair_after meant (operators_in temporal) (formula_in temporal depth turns) turns n p ts word e w
  pair_after_at wide word e w = rw e (ap (λ o. wide_operator (operators_in wide) (formula_in wide depth turns) (part_in wide depth turns) p o ts) (sym w) ∙ sym (paired_same (operators_in wide) (part_in wide depth turns) word p ts))

  pub none_after_at : (l : Language) → look false is_name ts ≡ Ok (true, ts) → None ≡ word_in l n → after_at l depth turns n p ts ≡ Err (Syntax, ts)
  unfolding with_wide_operators
  none_after_at first_order e w = operator_after meant (operators_in first_order) (formula_in first_order depth turns) turns n p ts None e w
  none_after_at temporal e w = operator_after meant (operators_in temporal) (formula_in temporal depth turns) turns n p ts None e w
  none_after_at wide e w = rw e (ap (λ o. wide_operator (operators_in wide) (formula_in wide depth turns) (part_in wide depth turns) p o ts) (sym w))
