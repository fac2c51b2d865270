-- What is read of operators in the wide language, and after a name that begins a formula.
use Rattle.std.proofs.Common.{◌≡◌, inl, inr, ◌≤◌, ◌<◌, ℕ, suc, Bool, true, false, List, [], ◌∷◌, ◌++◌, refl, ap, sym, ◌∙◌, subst, Ok, Err, Option, Some, None, if◌then◌else◌, length, arith}
use Rattle.std.specs.Prelude.{codes}
use Rattle.lrp_model.specs.Texts.{Identifier}
use Rattle.lrp_model.specs.declared.tokens.Symbol.TheVariants.{Open, Close, Comma}
use Rattle.lrp_model.specs.declared.tokens.Place.{Place}
use Rattle.lrp_model.specs.declared.tokens.Fault.{Fault}
use Rattle.lrp_model.specs.declared.tokens.Fault.TheVariants.{Syntax}
use Rattle.lrp_model.specs.declared.written.Integer.{Integer}
use Rattle.lrp_model.specs.declared.raw.Ranged.{Ranged}
use Rattle.lrp_model.specs.declared.raw.Ranged.TheVariants.{Once, Always}
use Rattle.lrp_model.specs.declared.raw.Paired.{Paired}
use Rattle.lrp_model.specs.declared.raw.Paired.TheVariants.{Since, Until}
use Rattle.lrp_model.specs.DatabaseMeaning.{integer_of}
use Rattle.lrp_model.specs.Limits.{greatest_number}
use Rattle.lrp_model.specs.Tokens.{Token, Placed, Tokens, Part, IsPart, Takes}
use Rattle.lrp_model.specs.Tokens.Token.{name_token, symbol_token}
use Rattle.lrp_model.specs.Tokens.Part.{at, any}
use Rattle.lrp_model.specs.Databases.{integer_text}
use Rattle.lrp_model.specs.Refused.{Fitting, Stops}
use Rattle.lrp_model.specs.Queries.{formula_text, interval_text, ranged_word, paired_word, looseness, IsOrdered, FitsSizes, FitsDepth}
use Rattle.lrp_model.specs.Queries.Language.{wide}
use Rattle.lrp_model.specs.Queries.WrittenFormula.{ranged as written_ranged, paired as written_paired, bare_all, bare_any, bare_chain}
use Rattle.lrp_model.specs.QueryMeaning.{raw_form}
use Rattle.lrp_model.specs.RawQueries.{RawForm, raw_ranged, raw_paired, Operator, operator_at}
use Rattle.lrp_text.specs.Parsers.{ParseOutcome, Parser, and_then, ◌>>=◌, pure, fail, look}
use Rattle.lrp_text.specs.Taking.{is_name, is_name_token, expect}
use Rattle.lrp_text.specs.IntegerRule.{integer}
use Rattle.lrp_text.proofs.Complete.{answers_then, Sees, IsNot, looks}
use Rattle.lrp_text.proofs.Sound.{bind_ok, look_ok, takes_join, takes_split}
use Rattle.lrp_text.proofs.Viable.{bind_err, look_err, at_once, always}
use Rattle.lrp_text.proofs.Local.{Local, bind_local, look_local, fail_local}
use Rattle.lrp_text.proofs.TokenTests.{name_part}
use Rattle.lrp_text.proofs.OffsetRule.{NoShift}
use Rattle.lrp_query.specs.declared.words.Leading.{Leading}
use Rattle.lrp_query.specs.declared.words.Leading.TheVariants.{OfRange, OfPair}
use Rattle.lrp_query.specs.Rules.{after_name}
use Rattle.lrp_query.specs.OperatorRules.{ends, ranged, paired, wide_operator, with_wide_operators}
use Rattle.lrp_query.specs.Grammars.{word_of, operators_in}
use Rattle.lrp_query.proofs.Languages.{FitsAt}
use Rattle.lrp_query.proofs.WideTold.{Cut, Tells, fail_tells, look_tells}
use Rattle.lrp_query.proofs.WideRule.{holes, Language, Texts, Rule, as_rule, alike_rule, sooner_rule, Nothing, pure_rule, Then, bind_rule, Made, map_rule, After, token_rule, Either, look_rule}
use Rattle.lrp_query.proofs.WideTerms.{symbol_rule, name_rule, IntegerText, integer_rule}
use Rattle.lrp_query.proofs.WideWritten.{Formula, Wrote, FormulaText}
use Rattle.lrp_query.proofs.WideLevels.{cutting, FollowsWhole, closer_follows}
use Rattle.lrp_query.proofs.WideTests.{PlainText, plain_no_name, plain_rule}
use Rattle.lrp_model.proofs.Logic.{choose}

-- ---- first words

-- the name is the first word of this operator
abbrev pub HasWord : Identifier → Option (Leading Ranged Paired) → Type 0
HasWord n (Some (OfRange word)) = n ≡ ranged_word word
HasWord n (Some (OfPair word)) = n ≡ paired_word word
HasWord n None = Unit {0}

pub word_told : (n : Identifier) → HasWord n (word_of n)
word_told n =
    choose (HasWord n) n (codes "once") _ _ (λ e. e) (λ a.
    choose (HasWord n) n (codes "always") _ _ (λ e. e) (λ b.
    choose (HasWord n) n (codes "since") _ _ (λ e. e) (λ c.
    choose (HasWord n) n (codes "until") _ _ (λ e. e) (λ d. tt))))

pub ranged_again : (word : Ranged) → word_of (ranged_word word) ≡ Some (OfRange word)
ranged_again Once = refl
ranged_again Always = refl

pub paired_again : (word : Paired) → word_of (paired_word word) ≡ Some (OfPair word)
paired_again Since = refl
paired_again Until = refl

-- ---- texts

abbrev SymbolText : {V : Type 0} → Token → Language V → Language V
SymbolText k T = After (λ (u : Unit {0}). any k) (λ u. Unit {0}) (λ u. T)

-- where an operator begins
abbrev begun : Place → Identifier × Place → Operator
begun p v = operator_at p v.0 v.1

abbrev pub RangedText : ℕ → Ranged → Place → Language RawForm
RangedText d word p = After name_part (λ v. Unit {0}) (λ v. SymbolText (symbol_token Open) (Then IntegerText (λ a. SymbolText (symbol_token Comma) (Then IntegerText (λ b. SymbolText (symbol_token Close) (Made (λ f. raw_ranged word (begun p v) (integer_of a) (integer_of b) f) (FormulaText d)))))))

-- any formula
abbrev pub AnyText : ℕ → Language RawForm
AnyText = Wrote raw_form 3

abbrev pub PairedText : ℕ → Paired → Place → Language RawForm
PairedText d word p = After name_part (λ v. Unit {0}) (λ v. SymbolText (symbol_token Open) (Then (AnyText d) (λ f. SymbolText (symbol_token Comma) (Then (AnyText d) (λ g. SymbolText (symbol_token Close) (Nothing (raw_paired word (begun p v) f g)))))))

abbrev pub OperatorText : ℕ → Option (Leading Ranged Paired) → Place → Language RawForm
OperatorText d (Some (OfRange word)) p = RangedText d word p
OperatorText d (Some (OfPair word)) p = PairedText d word p
OperatorText d None p = λ c v ts us. ⊥

abbrev pub AfterText : ℕ → Identifier → Place → Language RawForm
AfterText d n p = Either (OperatorText d (word_of n) p) (PlainText n p)

-- ---- rules

-- four parsers, and then another one
reassociated : {M E : Type 0} (h : Integer → M) (g : M × M → Parser E) (ts : Tokens) → ((ends h >>= g) ts) ≡ ((integer >>= (λ a. expect Comma >>= (λ u. integer >>= (λ b. expect Close >>= (λ v. g (h a, h b)))))) ts)
unfolding ends
reassociated {M} {E} h g ts = first (integer ts)
  where
    fourth : (a b : Integer) (o : ParseOutcome (Unit {0})) → and_then (and_then o (λ v. pure (h a, h b))) g ≡ and_then o (λ v. g (h a, h b))
    fourth a b (Ok x) = refl
    fourth a b (Err e) = refl

    third : (a : Integer) (o : ParseOutcome Integer) → and_then (and_then o (λ b. expect Close >>= (λ v. pure (h a, h b)))) g ≡ and_then o (λ b. expect Close >>= (λ v. g (h a, h b)))
    third a (Ok x) = fourth a x.0 (expect Close x.1)
    third a (Err e) = refl

    second : (a : Integer) (o : ParseOutcome (Unit {0})) → and_then (and_then o (λ u. integer >>= (λ b. expect Close >>= (λ v. pure (h a, h b))))) g ≡ and_then o (λ u. integer >>= (λ b. expect Close >>= (λ v. g (h a, h b))))
    second a (Ok x) = third a (integer x.1)
    second a (Err e) = refl

    first : (o : ParseOutcome Integer) → and_then (and_then o (λ a. expect Comma >>= (λ u. integer >>= (λ b. expect Close >>= (λ v. pure (h a, h b)))))) g ≡ and_then o (λ a. expect Comma >>= (λ u. integer >>= (λ b. expect Close >>= (λ v. g (h a, h b)))))
    first (Ok x) = second x.0 (expect Comma x.1)
    first (Err e) = refl

-- a token that is refused where it stands
module _ {B : Type 0} (size : ℕ) (G : Tokens → Type 0) (T : Language B) (test : Placed → Bool) (q : Cut → Parser B) (one : Rule size true G T q) (misses : (c : Bool) (v : B) (ts left : Tokens) → T c v ts left → G left → IsNot test ts) where
  abbrev refusing : Bool → Cut → Parser B
  refusing b c = if b then fail Syntax else q c

  missed : (ts : Tokens) → IsNot test ts → Sees false test false ts
  missed [] m = refl
  missed (t ∷ ts) m = m

  sounds : (us : Tokens) (b : Bool) (r : B × Tokens) → refusing b holes us ≡ Ok r → T true r.0 us r.1
  sounds us true r e = absurd cc
  sounds us false r e = one.sound us r e

  stops : (ts us : Tokens) (b : Bool) (e : Fault × Tokens) → length ts < size → ts ≡ us → refusing b holes us ≡ Err e → Stops (Texts T) ts e
  stops ts us true e lt w h =
      let d : (Syntax, us) ≡ e = cc in
      subst (λ x. Stops (Texts T) x e) (sym w) (subst (λ x. Stops (Texts T) us x) d (at_once (Texts T) us one.tokens (one.value, one.some)))
  stops ts us false e lt w h =
      let long : length ts ≡ length us = ap length w in
      subst (λ x. Stops (Texts T) x e) (sym w) (one.viable us e (omega (arith, lt, long)) h)

  refusing_rule : Rule size true G T (λ c. look false test >>= (λ b. refusing b c))
  refusing_rule = record {
    weaker = one.weaker;
    front = one.front;
    sound = λ ts r e. let a = bind_ok (look false test ts) (λ b. refusing b holes) r e in subst (λ x. T true r.0 x r.1) (sym (look_ok false test ts a.0 a.1)) (sounds a.0.1 a.0.0 r a.2);
    complete = λ c v ts left lt t g. answers_then (look false test ts) (λ b. refusing b holes) false ts v left (c ≡ true) (inl (looks false test false ts ts refl (missed ts (misses c v ts left t g)))) (one.complete c v ts left lt t g);
    value = one.value;
    tokens = one.tokens;
    some = one.some;
    viable = λ ts e lt h. elim (bind_err (look false test ts) (λ b. refusing b holes) e h) [
      | inl d ↦ absurd (look_err false test ts e d)
      | inr a ↦ stops ts a.0.1 a.0.0 e lt (look_ok false test ts a.0 a.1) a.2
    ];
    local = λ c. bind_local (look false test) (λ b. refusing b c) (look_local false test) (λ b. either_local c b);
    told = look_tells false test refusing either_tells;
  }
    where
      either_local : (c : Cut) (b : Bool) → Local (refusing b c)
      either_local c true = fail_local Syntax
      either_local c false = one.local c

      either_tells : (b : Bool) → Tells true (refusing b)
      either_tells true = fail_tells true Syntax tt
      either_tells false = one.told

module _ (size d : ℕ) (inner outer : Cut → Parser RawForm) (one : Rule size false NoShift (FormulaText d) inner) (part : Rule size false FollowsWhole (AnyText d) outer) where
  ranged_rule : (word : Ranged) (p : Place) → Rule size true NoShift (RangedText d word p) (λ c. ranged (operators_in wide) (inner c) word p)
  unfolding ranged
  ranged_rule word p =
      token_rule (λ v c. expect Open >>= (λ u. ends integer_of >>= (λ e. inner c >>= (λ f. pure (raw_ranged word (begun p v) e.0 e.1 f))))) name_rule
      (λ v. sooner_rule true (token_rule (λ u c. ends integer_of >>= (λ e. inner c >>= (λ f. pure (raw_ranged word (begun p v) e.0 e.1 f)))) (symbol_rule Open)
      (λ u. sooner_rule true (alike_rule (λ c. ends integer_of >>= (λ e. inner c >>= (λ f. pure (raw_ranged word (begun p v) e.0 e.1 f)))) (λ c ts. reassociated integer_of (λ e. inner c >>= (λ f. pure (raw_ranged word (begun p v) e.0 e.1 f))) ts)
      (bind_rule (λ a c. expect Comma >>= (λ w. integer >>= (λ b. expect Close >>= (λ x. inner c >>= (λ f. pure (raw_ranged word (begun p v) (integer_of a) (integer_of b) f)))))) (integer_rule size)
      (λ a. token_rule (λ w c. integer >>= (λ b. expect Close >>= (λ x. inner c >>= (λ f. pure (raw_ranged word (begun p v) (integer_of a) (integer_of b) f))))) (symbol_rule Comma)
      (λ w. sooner_rule true (bind_rule (λ b c. expect Close >>= (λ x. inner c >>= (λ f. pure (raw_ranged word (begun p v) (integer_of a) (integer_of b) f)))) (integer_rule size)
      (λ b. token_rule (λ x c. inner c >>= (λ f. pure (raw_ranged word (begun p v) (integer_of a) (integer_of b) f))) (symbol_rule Close) (λ x. map_rule (λ f. raw_ranged word (begun p v) (integer_of a) (integer_of b) f) one))
      (λ b c y ms left t g. tt))))
      (λ a c y ms left t g. tt))))))

  comma_follows : (U : Language RawForm) (c : Bool) (v : RawForm) (ms left : Tokens) → SymbolText (symbol_token Comma) U c v ms left → FollowsWhole ms
  comma_follows U c v [] left t = absurd t
  comma_follows U c v (u ∷ ms) left t = closer_follows Comma (record { no_plus = refl; no_minus = refl }) u ms t.1.0

  close_follows : (U : Language RawForm) (c : Bool) (v : RawForm) (ms left : Tokens) → SymbolText (symbol_token Close) U c v ms left → FollowsWhole ms
  close_follows U c v [] left t = absurd t
  close_follows U c v (u ∷ ms) left t = closer_follows Close (record { no_plus = refl; no_minus = refl }) u ms t.1.0

  paired_rule : (word : Paired) (p : Place) → Rule size true NoShift (PairedText d word p) (λ c. paired (operators_in wide) (outer c) word p)
  unfolding paired
  paired_rule word p =
      token_rule (λ v c. expect Open >>= (λ u. outer c >>= (λ f. expect Comma >>= (λ w. outer c >>= (λ g. expect Close >>= (λ x. pure (raw_paired word (begun p v) f g))))))) name_rule
      (λ v. sooner_rule true (token_rule (λ u c. outer c >>= (λ f. expect Comma >>= (λ w. outer c >>= (λ g. expect Close >>= (λ x. pure (raw_paired word (begun p v) f g)))))) (symbol_rule Open)
      (λ u. bind_rule (λ f c. expect Comma >>= (λ w. outer c >>= (λ g. expect Close >>= (λ x. pure (raw_paired word (begun p v) f g))))) part
      (λ f. token_rule (λ w c. outer c >>= (λ g. expect Close >>= (λ x. pure (raw_paired word (begun p v) f g)))) (symbol_rule Comma)
      (λ w. bind_rule (λ g c. expect Close >>= (λ x. pure (raw_paired word (begun p v) f g))) part
      (λ g. token_rule (λ x c. pure (raw_paired word (begun p v) f g)) (symbol_rule Close) (λ x. pure_rule size false NoShift (raw_paired word (begun p v) f g)))
      (λ g c y ms left t k. close_follows (Nothing (raw_paired word (begun p v) f g)) c y ms left t)))
      (λ f c y ms left t k. comma_follows (Then (AnyText d) (λ g. SymbolText (symbol_token Close) (Nothing (raw_paired word (begun p v) f g)))) c y ms left t))))

  -- after a name, by the operator whose first word it is
  abbrev by_word : Option (Leading Ranged Paired) → Identifier → Place → Bool → Cut → Parser RawForm
  by_word o n p again c = if again then wide_operator (operators_in wide) (inner c) (outer c) p o else after_name true (cutting c) size n p

  ranged_sees : (word : Ranged) (p : Place) (c : Bool) (v : RawForm) (ts left : Tokens) → RangedText d word p c v ts left → Sees false is_name true ts
  ranged_sees word p c v [] left t = absurd t
  ranged_sees word p c v (u ∷ ts) left t = ap is_name_token t.1.0.0

  paired_sees : (word : Paired) (p : Place) (c : Bool) (v : RawForm) (ts left : Tokens) → PairedText d word p c v ts left → Sees false is_name true ts
  paired_sees word p c v [] left t = absurd t
  paired_sees word p c v (u ∷ ts) left t = ap is_name_token t.1.0.0

  not_named : (ts : Tokens) → IsNot is_name ts → Sees false is_name false ts
  not_named [] m = refl
  not_named (t ∷ ts) m = m

  word_rule : (o : Option (Leading Ranged Paired)) (n : Identifier) (p : Place) → Rule size true NoShift (Either (OperatorText d o p) (PlainText n p)) (λ c. look false is_name >>= (λ again. by_word o n p again c))
  word_rule (Some (OfRange word)) n p = look_rule (by_word (Some (OfRange word)) n p) (ranged_rule word p) (plain_rule size n p) (λ c v ts left t g. ranged_sees word p c v ts left t) (λ c v ts left t g. not_named ts (plain_no_name n p c v ts left t g))
  word_rule (Some (OfPair word)) n p = look_rule (by_word (Some (OfPair word)) n p) (paired_rule word p) (plain_rule size n p) (λ c v ts left t g. paired_sees word p c v ts left t) (λ c v ts left t g. not_named ts (plain_no_name n p c v ts left t g))
  word_rule None n p = as_rule (Either (OperatorText d None p) (PlainText n p)) (refusing_rule size NoShift (PlainText n p) is_name (λ c. after_name true (cutting c) size n p) (plain_rule size n p) (plain_no_name n p)) (λ c v ts us t. inr t) none_back
    where
      none_back : (c : Bool) (v : RawForm) (ts us : Tokens) → Either (OperatorText d None p) (PlainText n p) c v ts us → PlainText n p c v ts us
      none_back c v ts us (inl t) = absurd t
      none_back c v ts us (inr t) = t

  pub after_rule : (n : Identifier) (p : Place) → Rule size true NoShift (AfterText d n p) (λ c. with_wide_operators (cutting c) (operators_in wide) (inner c) (outer c) size n p)
  unfolding with_wide_operators
  after_rule n p = word_rule (word_of n) n p

-- ---- trees

-- each formula binds as tightly as any place asks
pub any_tight : (f : Formula) → looseness f ≤ 3
any_tight (bare_all t f fs) = omega arith
any_tight (bare_any t f fs) = omega arith
any_tight (bare_chain t f fs) = omega arith
any_tight _ = omega arith

range_fit : (c : Bool) (P Q R S : Type 0) → Fitting c P → Fitting c Q → Fitting c (R × S) → Fitting c ((P × Q × R) × S)
range_fit true P Q R S p q r = ((p, q, r.0), r.1)
range_fit false P Q R S p q r = tt

pair_fit : (c : Bool) (P Q R S : Type 0) → Fitting c (P × Q) → Fitting c (R × S) → Fitting c ((P × R) × (Q × S))
pair_fit true P Q R S p r = ((p.0, r.0), (p.1, r.1))
pair_fit false P Q R S p r = tt

-- a tree of what stands after the first word, with so much depth left
pub record Operated (d : ℕ) (c : Bool) (v : RawForm) (ts us : Tokens) : Type 0 where
  pub tree : Formula
  pub tight : looseness tree ≤ 0
  pub ordered : IsOrdered tree
  pub means : v ≡ raw_form tree
  pub fits : Fitting c (FitsAt (suc d) tree)
  pub spelled : Takes (formula_text tree) ts us

pub ranged_there : (d : ℕ) (word : Ranged) (p : Place) (c : Bool) (v : RawForm) (t : Placed) (ts us : Tokens) → IsPart (at p (name_token (ranged_word word))) t → RangedText d word p c v ts us → Operated d c v (t ∷ ts) us
ranged_there d word p c v t [] us is r = absurd r
ranged_there d word p c v t (x ∷ []) us is (n, named, r) = absurd r
ranged_there d word p c v t (x ∷ y ∷ ts) us is (n, named, (u, opens, (a, [], from, r))) = absurd r
ranged_there d word p c v t (x ∷ y ∷ ts) us is (n, named, (u, opens, (a, z ∷ ks, from, (w, comma, (b, [], to, r))))) = absurd r
ranged_there d word p c v t (x ∷ y ∷ ts) us is (n, named, (u, opens, (a, z ∷ ks, from, (w, comma, (b, o ∷ ms, to, (k, close, (f, e, r))))))) =
    record {
      tree = written_ranged tt word (begun p n) a b r.tree;
      tight = omega arith;
      ordered = (r.tight, r.ordered);
      means = e ∙ ap (raw_ranged word (begun p n) (integer_of a) (integer_of b)) r.means;
      fits = range_fit c (a.size ≤ greatest_number) (b.size ≤ greatest_number) (FitsSizes r.tree) (FitsDepth r.tree d) from.0 to.0 r.fits;
      spelled = (is, (named.0, (opens.0, takes_join (interval_text a b) (formula_text r.tree) ts ms us (takes_join (integer_text a) (any (symbol_token Comma) ∷ (integer_text b ++ any (symbol_token Close) ∷ [])) ts (z ∷ ks) ms from.1 (comma.0, takes_join (integer_text b) (any (symbol_token Close) ∷ []) ks (o ∷ ms) ms to.1 (close.0, refl))) r.spelled)));
    }

pub paired_there : (d : ℕ) (word : Paired) (p : Place) (c : Bool) (v : RawForm) (t : Placed) (ts us : Tokens) → IsPart (at p (name_token (paired_word word))) t → PairedText d word p c v ts us → Operated d c v (t ∷ ts) us
paired_there d word p c v t [] us is r = absurd r
paired_there d word p c v t (x ∷ []) us is (n, named, r) = absurd r
paired_there d word p c v t (x ∷ y ∷ ts) us is (n, named, (u, opens, (f, [], one, r))) = absurd r
paired_there d word p c v t (x ∷ y ∷ ts) us is (n, named, (u, opens, (f, z ∷ ks, one, (w, comma, (g, [], two, r))))) = absurd r
paired_there d word p c v t (x ∷ y ∷ ts) us is (n, named, (u, opens, (f, z ∷ ks, one, (w, comma, (g, o ∷ ms, two, (k, close, (e, q))))))) =
    record {
      tree = written_paired tt word (begun p n) one.tree two.tree;
      tight = omega arith;
      ordered = (one.ordered, two.ordered);
      means = e ∙ ap (λ i. raw_paired word (begun p n) i g) one.means ∙ ap (raw_paired word (begun p n) (raw_form one.tree)) two.means;
      fits = pair_fit c (FitsSizes one.tree) (FitsDepth one.tree d) (FitsSizes two.tree) (FitsDepth two.tree d) one.fits two.fits;
      spelled = (is, (named.0, (opens.0, takes_join (formula_text one.tree) (any (symbol_token Comma) ∷ (formula_text two.tree ++ any (symbol_token Close) ∷ [])) ts (z ∷ ks) us one.spelled (comma.0, takes_join (formula_text two.tree) (any (symbol_token Close) ∷ []) ks (o ∷ ms) us two.spelled (close.0, q)))));
    }

range_first : (c : Bool) (P Q R S : Type 0) → Fitting c ((P × Q × R) × S) → Fitting c P × Fitting c Q × Fitting c (R × S)
range_first true P Q R S h = (h.0.0, h.0.1, (h.0.2, h.1))
range_first false P Q R S h = (tt, tt, tt)

pair_first : (c : Bool) (P Q R S : Type 0) → Fitting c ((P × R) × (Q × S)) → Fitting c (P × Q) × Fitting c (R × S)
pair_first true P Q R S h = ((h.0.0, h.1.0), (h.0.1, h.1.1))
pair_first false P Q R S h = (tt, tt)

abbrev ranged_tree : Ranged → Operator → Integer → Integer → Formula → Formula
ranged_tree word o a b f = written_ranged tt word o a b f

abbrev paired_tree : Paired → Operator → Formula → Formula → Formula
paired_tree word o f g = written_paired tt word o f g

-- a symbol, and what stands after it
symbol_back : {V : Type 0} (k : Token) (ps : List Part) (T : Language V) (c : Bool) (v : V) (ms us : Tokens) → Takes (any k ∷ ps) ms us → ((ns : Tokens) → Takes ps ns us → T c v ns us) → SymbolText k T c v ms us
symbol_back k ps T c v [] us h onward = absurd h
symbol_back k ps T c v (t ∷ ms) us h onward = (tt, (h.0, always (Unit {0}) c tt), onward ms h.1)

pub ranged_back : (d : ℕ) (c : Bool) (word : Ranged) (o : Operator) (a b : Integer) (f : Formula) (t : Placed) (ts us : Tokens) → looseness f ≤ 0 → IsOrdered f → Fitting c (FitsAt (suc d) (ranged_tree word o a b f)) → Takes (formula_text (ranged_tree word o a b f)) (t ∷ ts) us → RangedText d word o.place c (raw_form (ranged_tree word o a b f)) ts us
ranged_back d c word o a b f t [] us tight ordered fit s = absurd s.1
ranged_back d c word o a b f t (x ∷ ts) us tight ordered fit s =
    let fits = range_first c (a.size ≤ greatest_number) (b.size ≤ greatest_number) (FitsSizes f) (FitsDepth f d) fit in (
      (o.name, o.name_place),
      (s.1.0, always (Unit {0}) c tt),
      symbol_back (symbol_token Open) (interval_text a b ++ formula_text f) (Then IntegerText (λ a. SymbolText (symbol_token Comma) (Then IntegerText (λ b. SymbolText (symbol_token Close) (Made (λ f. raw_ranged word (begun o.place (o.name, o.name_place)) (integer_of a) (integer_of b) f) (FormulaText d)))))) c (raw_form (ranged_tree word o a b f)) ts us s.1.1 (λ ns h.
          let i = takes_split (interval_text a b) (formula_text f) ns us h in
          let l = takes_split (integer_text a) (any (symbol_token Comma) ∷ (integer_text b ++ any (symbol_token Close) ∷ [])) ns i.0 i.1 in
          let rest = takes_join (any (symbol_token Comma) ∷ (integer_text b ++ any (symbol_token Close) ∷ [])) (formula_text f) l.0 i.0 us l.2 i.2 in (
            a,
            l.0,
            (fits.0, l.1),
            symbol_back (symbol_token Comma) ((integer_text b ++ any (symbol_token Close) ∷ []) ++ formula_text f) (Then IntegerText (λ b. SymbolText (symbol_token Close) (Made (λ f. raw_ranged word (begun o.place (o.name, o.name_place)) (integer_of a) (integer_of b) f) (FormulaText d)))) c (raw_form (ranged_tree word o a b f)) l.0 us rest (λ ks g.
                let m = takes_split (integer_text b ++ any (symbol_token Close) ∷ []) (formula_text f) ks us g in
                let q = takes_split (integer_text b) (any (symbol_token Close) ∷ []) ks m.0 m.1 in
                let last = takes_join (any (symbol_token Close) ∷ []) (formula_text f) q.0 m.0 us q.2 m.2 in
                (b, q.0, (fits.1, q.1), symbol_back (symbol_token Close) (formula_text f) (Made (λ f. raw_ranged word (begun o.place (o.name, o.name_place)) (integer_of a) (integer_of b) f) (FormulaText d)) c (raw_form (ranged_tree word o a b f)) q.0 us last (λ js k. (raw_form f, refl, record { tree = f; tight = tight; ordered = ordered; means = refl; fits = fits.2; spelled = k })))),
          )),
    )

pub paired_back : (d : ℕ) (c : Bool) (word : Paired) (o : Operator) (f g : Formula) (t : Placed) (ts us : Tokens) → IsOrdered f → IsOrdered g → Fitting c (FitsAt (suc d) (paired_tree word o f g)) → Takes (formula_text (paired_tree word o f g)) (t ∷ ts) us → PairedText d word o.place c (raw_form (paired_tree word o f g)) ts us
paired_back d c word o f g t [] us of og fit s = absurd s.1
paired_back d c word o f g t (x ∷ ts) us of og fit s =
    let fits = pair_first c (FitsSizes f) (FitsDepth f d) (FitsSizes g) (FitsDepth g d) fit in (
      (o.name, o.name_place),
      (s.1.0, always (Unit {0}) c tt),
      symbol_back (symbol_token Open) (formula_text f ++ any (symbol_token Comma) ∷ (formula_text g ++ any (symbol_token Close) ∷ [])) (Then (AnyText d) (λ f. SymbolText (symbol_token Comma) (Then (AnyText d) (λ g. SymbolText (symbol_token Close) (Nothing (raw_paired word (begun o.place (o.name, o.name_place)) f g)))))) c (raw_form (paired_tree word o f g)) ts us s.1.1 (λ ns h.
          let i = takes_split (formula_text f) (any (symbol_token Comma) ∷ (formula_text g ++ any (symbol_token Close) ∷ [])) ns us h in (
            raw_form f,
            i.0,
            record { tree = f; tight = any_tight f; ordered = of; means = refl; fits = fits.0; spelled = i.1 },
            symbol_back (symbol_token Comma) (formula_text g ++ any (symbol_token Close) ∷ []) (Then (AnyText d) (λ g. SymbolText (symbol_token Close) (Nothing (raw_paired word (begun o.place (o.name, o.name_place)) (raw_form f) g)))) c (raw_form (paired_tree word o f g)) i.0 us i.2 (λ ks k.
                let j = takes_split (formula_text g) (any (symbol_token Close) ∷ []) ks us k in
                (raw_form g, j.0, record { tree = g; tight = any_tight g; ordered = og; means = refl; fits = fits.1; spelled = j.1 }, symbol_back (symbol_token Close) [] (Nothing (raw_paired word (begun o.place (o.name, o.name_place)) (raw_form f) (raw_form g))) c (raw_form (paired_tree word o f g)) j.0 us j.2 (λ is q. (refl, q)))),
          )),
    )
