-- The parsers of the wide language go down to smaller depths alone: those that agree up to a depth read alike there.
use Rattle.std.proofs.Common.{◌≡◌, ◌≤◌, ◌-◌, ◌==◌, ◌∙◌, ℕ, zero, suc, Bool, true, false, List, [], length, Option, Some, None, refl, sym, ap, subst, arith, if◌then◌else◌}
use Rattle.std.proofs.lemmas.Bool.{eqb-true, eqb-false}
use Rattle.lrp_model.specs.declared.tokens.Symbol.TheVariants.{Open, Close, Comma}
use Rattle.lrp_model.specs.declared.tokens.Word.TheVariants.{Implies}
use Rattle.lrp_model.specs.declared.tokens.Place.{Place}
use Rattle.lrp_model.specs.declared.raw.RawColumn.{RawColumn}
use Rattle.lrp_model.specs.Tokens.{Tokens}
use Rattle.lrp_text.specs.Parsers.{Parser, ◌>>=◌, ◌>>◌, and_then, pure, eat, look}
use Rattle.lrp_text.specs.Taking.{is_name, is_word, expect, name}
use Rattle.lrp_query.specs.Rules.{Trees, Joined, WideAfterName, either, chained, last_link, whole, closed, closed_whole, enclosed_whole, quantified, binders_rule, each_bound, wide_up_to}
use Rattle.lrp_query.specs.Rules.{after_name}
use Rattle.lrp_query.specs.OperatorRules.{OperatorTrees, opening, paired, wide_operator, with_wide_operators}
use Rattle.lrp_query.specs.declared.words.Leading.{Leading}
use Rattle.lrp_query.specs.declared.words.Leading.TheVariants.{OfRange, OfPair}
use Rattle.lrp_model.specs.Texts.{Identifier}
use Rattle.lrp_query.proofs.After.{alike}

-- parsers of each depth that are the same up to one
abbrev pub AgreeTo : {F : Type 0} → ℕ → (ℕ → Parser F) → (ℕ → Parser F) → Type 0
AgreeTo most f g = (e : ℕ) → e ≤ most → f e ≡ g e

-- a choice of parsers that read alike
then_same : {A B : Type 0} (p q : Parser A) (k : A → Parser B) (r : Parser B) (b : Bool) → ((ts : Tokens) → p ts ≡ q ts) → (ts : Tokens) → (if b then p >>= k else r) ts ≡ (if b then q >>= k else r) ts
then_same p q k r true same ts = ap (λ o. and_then o k) (same ts)
then_same p q k r false same ts = refl

else_same : {A : Type 0} (p q r : Parser A) (b : Bool) → ((ts : Tokens) → p ts ≡ q ts) → (ts : Tokens) → (if b then r else p) ts ≡ (if b then r else q) ts
else_same p q r true same ts = refl
else_same p q r false same ts = same ts

module _ {K T F Q : Type 0} (make : Trees K T F Q) (f g : ℕ → Parser F) where
  -- what a formula implies in turn
  pub chained_same : (turns depth : ℕ) → AgreeTo depth f g → (x : F) (ts : Tokens) → chained make f depth turns x ts ≡ chained make g depth turns x ts
  unfolding chained
  chained_same zero depth agree x ts = refl
  chained_same (suc turns) depth agree x ts =
      ap (λ (p : Parser F). (either make p turns >>= (λ j. if depth == 0 then last_link make x j else (eat (is_word Implies) >>= (λ b. if b then chained make f (depth - 1) turns j.formula >>= (λ y. pure (make.formulas.implication (make.formulas.place_of x) x y)) else pure (make.formulas.implication (make.formulas.place_of x) x j.formula))))) ts) (agree depth (omega arith))
      ∙ alike (either make (g depth) turns ts) _ _ (λ j us. else_same (eat (is_word Implies) >>= (λ b. if b then chained make f (depth - 1) turns j.formula >>= (λ y. pure (make.formulas.implication (make.formulas.place_of x) x y)) else pure (make.formulas.implication (make.formulas.place_of x) x j.formula))) (eat (is_word Implies) >>= (λ b. if b then chained make g (depth - 1) turns j.formula >>= (λ y. pure (make.formulas.implication (make.formulas.place_of x) x y)) else pure (make.formulas.implication (make.formulas.place_of x) x j.formula))) (last_link make x j) (depth == 0)
      (λ vs. alike (eat (is_word Implies) vs) _ _ (λ b ws. then_same (chained make f (depth - 1) turns j.formula) (chained make g (depth - 1) turns j.formula) (λ y. pure (make.formulas.implication (make.formulas.place_of x) x y)) (pure (make.formulas.implication (make.formulas.place_of x) x j.formula)) b (chained_same turns (depth - 1) (λ e low. agree e (omega (arith, low))) j.formula) ws)) us)

  -- any formula
  pub whole_same : (depth turns : ℕ) → AgreeTo depth f g → (ts : Tokens) → whole make f depth turns ts ≡ whole make g depth turns ts
  unfolding whole
  whole_same depth turns agree ts =
      ap (λ (p : Parser F). (either make p turns >>= (λ j. eat (is_word Implies) >>= (λ implies. if implies then chained make f depth turns j.formula >>= (λ h. pure (record { formula = h; bare = true })) else pure j))) ts) (agree depth (omega arith))
      ∙ alike (either make (g depth) turns ts) _ _ (λ j us. alike (eat (is_word Implies) us) _ _ (implied j))
    where
      implied : (j : Joined F) (b : Bool) (us : Tokens) → (if b then chained make f depth turns j.formula >>= (λ h. pure (record { formula = h; bare = true })) else pure j) us ≡ (if b then chained make g depth turns j.formula >>= (λ h. pure (record { formula = h; bare = true })) else pure j) us
      implied j true us = ap (λ o. and_then o (λ h. pure (record { formula = h; bare = true }))) (chained_same turns depth agree j.formula us)
      implied j false us = refl

  -- in parentheses
  pub enclosed_same : (depth turns : ℕ) → AgreeTo depth f g → (p : Place) (ts : Tokens) → enclosed_whole make f depth turns p ts ≡ enclosed_whole make g depth turns p ts
  unfolding enclosed_whole closed_whole
  enclosed_same depth turns agree p ts =
      alike (expect Open ts) (λ u. closed_whole make (whole make f depth turns) p) (λ u. closed_whole make (whole make g depth turns) p) (λ u us. ap (λ o. and_then o (λ j. expect Close >> pure (closed make p j))) (whole_same depth turns agree us))

  -- under a quantifier
  pub quantified_same : (bind : Place → RawColumn → F → F) (depth turns : ℕ) → AgreeTo depth f g → (p : Place) (ts : Tokens) → quantified bind f depth turns p ts ≡ quantified bind g depth turns p ts
  unfolding quantified
  quantified_same bind depth turns agree p ts = alike (binders_rule turns ts) _ _ (λ cs us. ap (λ (q : Parser F). (q >>= (λ h. pure (each_bound bind p cs h))) us) (agree (depth - (length cs - 1)) (omega arith)))

-- the parser of a depth is the same among those up to each greater one
one_further : {K T F Q : Type 0} (make : Trees K T F Q) (after : WideAfterName F) (turns most e : ℕ) (b : Bool) → (e == suc most) ≡ b → e ≤ suc most → (e ≤ most → wide_up_to make after turns most e ≡ wide_up_to make after turns e e) → wide_up_to make after turns (suc most) e ≡ wide_up_to make after turns e e
unfolding wide_up_to
one_further make after turns most e true same low below = subst (λ n. wide_up_to make after turns n e ≡ wide_up_to make after turns e e) (eqb-true e (suc most) same) refl
one_further make after turns most e false other low below = rw other (below (omega (arith, low, eqb-false e (suc most) other)))

pub up_to_same : {K T F Q : Type 0} (make : Trees K T F Q) (after : WideAfterName F) (turns most e : ℕ) → e ≤ most → wide_up_to make after turns most e ≡ wide_up_to make after turns e e
up_to_same make after turns zero zero low = refl
up_to_same make after turns zero (suc e) low = absurd (omega (arith, low))
up_to_same make after turns (suc most) e low = one_further make after turns most e (e == suc most) refl low (up_to_same make after turns most e)

-- ---- after a name

module _ {R P N F : Type 0} (make : OperatorTrees R P N F) (f g : Parser F) (same : (ts : Tokens) → f ts ≡ g ts) where
  -- an operator over two formulas
  pub paired_same : (word : P) (p : Place) (ts : Tokens) → paired make f word p ts ≡ paired make g word p ts
  unfolding paired
  paired_same word p ts =
      alike (name ts) _ _ (λ v us. alike (expect Open us) _ _ (λ a vs.
      ap (λ o. and_then o (λ h. expect Comma >> (f >>= (λ y. expect Close >> pure (make.paired word (opening p v) h y))))) (same vs)
      ∙ alike (g vs) (λ h. expect Comma >> (f >>= (λ y. expect Close >> pure (make.paired word (opening p v) h y)))) (λ h. expect Comma >> (g >>= (λ y. expect Close >> pure (make.paired word (opening p v) h y)))) (λ h ws. alike (expect Comma ws) _ _ (λ b xs.
      ap (λ o. and_then o (λ y. expect Close >> pure (make.paired word (opening p v) h y))) (same xs)))))

  -- an operator by its first word
  pub operator_same : (inner : Parser F) (p : Place) (o : Option (Leading R P)) (ts : Tokens) → wide_operator make inner f p o ts ≡ wide_operator make inner g p o ts
  operator_same inner p (Some (OfRange word)) ts = refl
  operator_same inner p (Some (OfPair word)) ts = paired_same word p ts
  operator_same inner p None ts = refl

module _ {K T F Q R P N : Type 0} (trees : Trees K T F Q) (make : OperatorTrees R P N F) (f g : Parser F) (same : (ts : Tokens) → f ts ≡ g ts) where
  pub after_same : (inner : Parser F) (turns : ℕ) (n : Identifier) (p : Place) (ts : Tokens) → with_wide_operators trees make inner f turns n p ts ≡ with_wide_operators trees make inner g turns n p ts
  unfolding with_wide_operators
  after_same inner turns n p ts = alike (look false is_name ts) _ _ (λ again us. either_way again us)
    where
      either_way : (again : Bool) (us : Tokens) → (if again then wide_operator make inner f p (make.word_of n) else after_name true trees turns n p) us ≡ (if again then wide_operator make inner g p (make.word_of n) else after_name true trees turns n p) us
      either_way true us = operator_same make f g same inner p (make.word_of n) us
      either_way false us = refl
