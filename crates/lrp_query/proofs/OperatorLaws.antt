-- Operators: what is read after a name depends on its tokens alone, tells where a formula would be too deep, and is alike for all trees that are made of it.
use Rattle.std.proofs.Common.{◌≡◌, inl, ℕ, true, false, refl, ap₂, sym, subst, Option, Some, None}
use Rattle.lrp_model.specs.Texts.{Identifier}
use Rattle.lrp_model.specs.declared.tokens.Symbol.TheVariants.{Open, Close, Comma}
use Rattle.lrp_model.specs.declared.tokens.Place.{Place}
use Rattle.lrp_model.specs.declared.tokens.Fault.TheVariants.{Syntax}
use Rattle.lrp_model.specs.declared.written.Integer.{Integer}
use Rattle.lrp_model.specs.Tokens.{Tokens}
use Rattle.lrp_text.specs.Parsers.{Parser, look}
use Rattle.lrp_text.specs.Taking.{is_name, expect, name}
use Rattle.lrp_text.specs.IntegerRule.{integer}
use Rattle.lrp_text.proofs.Local.{Local, bind_local, accept_local, pure_local, fail_local, look_local, if_local}
use Rattle.lrp_text.proofs.IntegerRule.{integer_local}
use Rattle.lrp_query.specs.declared.words.Leading.{Leading}
use Rattle.lrp_query.specs.declared.words.Leading.TheVariants.{OfRange, OfPair}
use Rattle.lrp_query.specs.declared.words.Opening.{Opening}
use Rattle.lrp_query.specs.Rules.{Trees}
use Rattle.lrp_query.specs.OperatorRules.{OperatorTrees, opening, ends, ranged, paired, operator, with_operators}
use Rattle.lrp_query.proofs.LocalRules.{after_name_local}
use Rattle.lrp_query.proofs.Marks.{marking, Tells, after_name_told, look_then, symbol_then, name_then, bind_then, sooner, choice_told, done, fail_told, IsFixed, fixed_accept, fixed_bind, fixed_pure, fixed_then, integer_fixed, symbol_leaf}
use Rattle.lrp_query.proofs.Natural.{Same, Mapping, after_name_same, leaf, bind, choice, made}
use Rattle.lrp_query.proofs.Readers.{forget}

-- ---- local

module _ {R P N F : Type 0} (make : OperatorTrees R P N F) (inner : Parser F) (local : Local inner) where
  ends_local : {M : Type 0} (number_of : Integer → M) → Local (ends number_of)
  unfolding ends
  ends_local number_of =
      bind_local integer _ integer_local (λ a.
      bind_local (expect Comma) _ (accept_local _) (λ u.
      bind_local integer _ integer_local (λ b.
      bind_local (expect Close) _ (accept_local _) (λ v. pure_local _))))

  ranged_local : (word : R) (p : Place) → Local (ranged make inner word p)
  unfolding ranged
  ranged_local word p =
      bind_local name _ (accept_local _) (λ v.
      bind_local (expect Open) _ (accept_local _) (λ u.
      bind_local (ends make.number_of) _ (ends_local make.number_of) (λ e.
      bind_local inner _ local (λ f. pure_local _))))

  paired_local : (word : P) (p : Place) → Local (paired make inner word p)
  unfolding paired
  paired_local word p =
      bind_local name _ (accept_local _) (λ v.
      bind_local (expect Open) _ (accept_local _) (λ u.
      bind_local inner _ local (λ f.
      bind_local (expect Comma) _ (accept_local _) (λ a.
      bind_local inner _ local (λ g.
      bind_local (expect Close) _ (accept_local _) (λ b. pure_local _))))))

  operator_local : (p : Place) (o : Option (Leading R P)) → Local (operator make inner p o)
  operator_local p (Some (OfRange word)) = ranged_local word p
  operator_local p (Some (OfPair word)) = paired_local word p
  operator_local p None = fail_local Syntax

  -- what stands after a name depends on its tokens and on the next one alone
  pub after_local : {K T Q : Type 0} (trees : Trees K T F Q) (turns : ℕ) (n : Identifier) (p : Place) → Local (with_operators trees make inner turns n p)
  unfolding with_operators
  after_local trees turns n p = bind_local (look false is_name) _ (look_local _ _) (λ again. if_local again _ _ (operator_local p (make.word_of n)) (after_name_local trees turns n p))

-- ---- the reader that marks

-- nothing is kept of operators
abbrev pub marked_operators : {R P : Type 0} → (Identifier → Option (Leading R P)) → OperatorTrees R P (Unit {0}) (Unit {0})
marked_operators words = record { word_of = words; number_of = forget; ranged = λ word o a b f. tt; paired = λ word o f g. tt }

ends_fixed : IsFixed (ends {N = Unit {0}} forget)
unfolding ends
ends_fixed =
    fixed_bind integer _ integer_fixed (λ a.
    fixed_bind (expect Comma) _ (fixed_accept _ (λ t. symbol_leaf Comma t.token)) (λ u.
    fixed_bind integer _ integer_fixed (λ b.
    fixed_bind (expect Close) _ (fixed_accept _ (λ t. symbol_leaf Close t.token)) (λ v. fixed_pure _))))

module _ {R P : Type 0} (words : Identifier → Option (Leading R P)) (inner : Parser (Unit {0})) (told : Tells false inner) (local : Local inner) where
  ranged_told : (word : R) (p : Place) → Tells true (ranged (marked_operators words) inner word p)
  unfolding ranged
  ranged_told word p =
      name_then _ (λ v. sooner true _ (symbol_then Open _
      (fixed_then (ends {N = Unit {0}} forget) _ ends_fixed (λ e. bind_then false inner _ told local (λ f. done true)))))

  paired_told : (word : P) (p : Place) → Tells true (paired (marked_operators words) inner word p)
  unfolding paired
  paired_told word p =
      name_then _ (λ v. sooner true _ (symbol_then Open _
      (bind_then false inner _ told local (λ f.
      symbol_then Comma _ (bind_then false inner _ told local (λ g.
      symbol_then Close _ (done false)))))))

  operator_told : (p : Place) (o : Option (Leading R P)) → Tells true (operator (marked_operators words) inner p o)
  operator_told p (Some (OfRange word)) = ranged_told word p
  operator_told p (Some (OfPair word)) = paired_told word p
  operator_told p None = fail_told true

  pub after_told : (turns : ℕ) (n : Identifier) (p : Place) → Tells true (with_operators marking (marked_operators words) inner turns n p)
  unfolding with_operators
  after_told turns n p = look_then false is_name _ (λ again. choice_told true again _ _ (operator_told p (words n)) (after_name_told turns n p))

-- ---- one reader and another

module _ {K T F Q L U G S R P N M : Type 0} (E : Type 0) (one : Trees K T F Q) (two : Trees L U G S) (m : Mapping E one two) (make : OperatorTrees R P N F) (remake : OperatorTrees R P M G) (number : N → M)
    (words_are : (n : Identifier) → remake.word_of n ≡ make.word_of n)
    (number_is : (i : Integer) → remake.number_of i ≡ number (make.number_of i))
    (ranged_is : (word : R) (o : Opening) (a b : N) (f : F) → remake.ranged word o (number a) (number b) (m.formula f) ≡ m.formula (make.ranged word o a b f))
    (paired_is : (word : P) (o : Opening) (f g : F) → remake.paired word o (m.formula f) (m.formula g) ≡ m.formula (make.paired word o f g))
    (inner : Parser F) (other_inner : Parser G) (same : (ts : Tokens) → Same E one.cut m.formula (inner ts) (other_inner ts)) where
  -- the same interval
  both : N × N → M × M
  both e = (number e.0, number e.1)

  ends_same : (ts : Tokens) → Same E one.cut both (ends make.number_of ts) (ends remake.number_of ts)
  unfolding ends both
  ends_same ts =
      leaf E one.cut (integer ts) _ _ both (λ a us.
      leaf E one.cut (expect Comma us) _ _ both (λ u vs.
      leaf E one.cut (integer vs) _ _ both (λ b ws.
      leaf E one.cut (expect Close ws) _ _ both (λ v xs. made E one.cut both (make.number_of a, make.number_of b) (remake.number_of a, remake.number_of b) xs (ap₂ (λ x y. (x, y)) (number_is a) (number_is b))))))

  ranged_same : (word : R) (p : Place) (ts : Tokens) → Same E one.cut m.formula (ranged make inner word p ts) (ranged remake other_inner word p ts)
  unfolding ranged both
  ranged_same word p ts =
      leaf E one.cut (name ts) _ _ m.formula (λ v us.
      leaf E one.cut (expect Open us) _ _ m.formula (λ u vs.
      bind E one.cut (ends make.number_of vs) (ends remake.number_of vs) both _ _ m.formula (ends_same vs) (λ e ws i.
      bind E one.cut (inner ws) (other_inner ws) m.formula _ _ m.formula (same ws) (λ f xs j. made E one.cut m.formula (make.ranged word (opening p v) e.0 e.1 f) (remake.ranged word (opening p v) (number e.0) (number e.1) (m.formula f)) xs (ranged_is word (opening p v) e.0 e.1 f)))))

  paired_same : (word : P) (p : Place) (ts : Tokens) → Same E one.cut m.formula (paired make inner word p ts) (paired remake other_inner word p ts)
  unfolding paired
  paired_same word p ts =
      leaf E one.cut (name ts) _ _ m.formula (λ v us.
      leaf E one.cut (expect Open us) _ _ m.formula (λ u vs.
      bind E one.cut (inner vs) (other_inner vs) m.formula _ _ m.formula (same vs) (λ f ws i.
      leaf E one.cut (expect Comma ws) _ _ m.formula (λ a xs.
      bind E one.cut (inner xs) (other_inner xs) m.formula _ _ m.formula (same xs) (λ g ys j.
      leaf E one.cut (expect Close ys) _ _ m.formula (λ b zs. made E one.cut m.formula (make.paired word (opening p v) f g) (remake.paired word (opening p v) (m.formula f) (m.formula g)) zs (paired_is word (opening p v) f g)))))))

  operator_same : (p : Place) (o : Option (Leading R P)) (ts : Tokens) → Same E one.cut m.formula (operator make inner p o ts) (operator remake other_inner p o ts)
  operator_same p (Some (OfRange word)) ts = ranged_same word p ts
  operator_same p (Some (OfPair word)) ts = paired_same word p ts
  operator_same p None ts = inl refl

  -- what stands after a name
  pub after_same : (turns : ℕ) (n : Identifier) (p : Place) (ts : Tokens) → Same E one.cut m.formula (with_operators one make inner turns n p ts) (with_operators two remake other_inner turns n p ts)
  unfolding with_operators
  after_same turns n p ts =
      leaf E one.cut (look false is_name ts) _ _ m.formula (λ again us.
      choice E one.cut again _ _ _ _ m.formula us (subst (λ o. Same E one.cut m.formula (operator make inner p (make.word_of n) us) (operator remake other_inner p o us)) (sym (words_are n)) (operator_same p (make.word_of n) us)) (after_name_same E one two m turns n p us))
