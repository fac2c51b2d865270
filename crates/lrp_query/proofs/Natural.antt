-- What is made by one kind of trees is made by another kind from the same tokens, unless a token is marked where a formula would be too deep.
use Rattle.std.proofs.Common.{◌≡◌, ◌⊎◌, inl, inr, ℕ, zero, suc, Bool, true, false, List, [], ◌∷◌, ◌++◌, map, refl, ap, sym, ◌∙◌, subst, Ok, Err, Result, if◌then◌else◌, append_assoc}
use Rattle.lrp_model.specs.Texts.{Identifier}
use Rattle.lrp_model.specs.declared.tokens.Symbol.TheVariants.{Open, Close, OpenBrace, CloseBrace, Comma, Bar, Plus}
use Rattle.lrp_model.specs.declared.tokens.Word.TheVariants.{Letter, Exists, Forall, Not, And, Or, Implies, In}
use Rattle.lrp_model.specs.declared.tokens.Place.{Place}
use Rattle.lrp_model.specs.declared.tokens.Fault.{Fault}
use Rattle.lrp_model.specs.declared.tokens.Fault.TheVariants.{Memory}
use Rattle.lrp_model.specs.declared.raw.RawColumn.{RawColumn}
use Rattle.lrp_model.specs.declared.formulas.Op.{Op}
use Rattle.lrp_model.specs.declared.written.Integer.{Integer}
use Rattle.lrp_model.specs.Tokens.{Token, Placed, Tokens}
use Rattle.lrp_model.specs.Tokens.Token.{name_token, word_token, number_token, text_token, symbol_token, end_token, bad_token, hole_token}
use Rattle.lrp_model.specs.Queries.{WrittenTerm}
use Rattle.lrp_model.specs.Queries.WrittenTerm.{integer as integer_term, text_term}
use Rattle.lrp_text.specs.Parsers.{ParseOutcome, Parser, and_then, pure, accept, look, eat, listed, separated_from, taken}
use Rattle.lrp_text.specs.Taking.{is_symbol, is_word, expect, expect_word, name, period, text, is_text, is_name, expect_end, here}
use Rattle.lrp_text.specs.ColumnRule.{column}
use Rattle.lrp_text.proofs.Sound.{bind_ok}
use Rattle.lrp_query.specs.declared.starts.Start.{Start}
use Rattle.lrp_query.specs.declared.starts.Start.TheVariants.{Not as by_not, Exists as by_exists, Forall as by_forall, Open as by_open, Name as by_name, Term as by_term}
use Rattle.lrp_text.specs.IntegerRule.{integer}
use Rattle.lrp_text.specs.OffsetRule.{offset}
use Rattle.lrp_query.specs.Rules.{Trees, AfterName, cut_at, with_offset, named_term, unnamed_term, bare_term, term, op_of, point, comparing, tested, atom_terms, after_name, named, unnamed, negated, existing, holding, implying, conjoined, disjoined, after_first, enclosed, start_of, is_hole_token, started, formula_over, formula_with, query_with, query_over}

-- ---- outcomes

-- the outcome with another value
abbrev pub mapped : {A B : Type 0} → (A → B) → ParseOutcome A → ParseOutcome B
mapped h (Ok q) = Ok (h q.0, q.1)
mapped h (Err e) = Err e

-- a result with another value
abbrev pub result_map : {A B : Type 0} → (A → B) → Result A Fault → Result B Fault
result_map h (Ok a) = Ok (h a)
result_map h (Err k) = Err k

-- the second one was marked at a token where a formula would be too deep; the first one has the fault that `cut` gives there
pub record Marked {F A B : Type 0} (E : Type 0) (cut : Placed → Result F Fault) (o : ParseOutcome A) (p : ParseOutcome B) : Type 0 where
  pub allowed : E
  pub token : Placed
  pub rest : Tokens
  pub marked : p ≡ Err (Memory, token ∷ rest)
  pub cause : (k : Fault) → cut token ≡ Err k → o ≡ Err (k, token ∷ rest)

-- the same outcome with another value, or one that was marked
abbrev pub Same : {F A B : Type 0} → Type 0 → (Placed → Result F Fault) → (A → B) → ParseOutcome A → ParseOutcome B → Type 0
Same E cut h o p = (p ≡ mapped h o) ⊎ Marked E cut o p

-- where no token may be marked, nothing else is told
pub unmarked : {F A B : Type 0} {cut : _} (h : A → B) (o : ParseOutcome A) (p : ParseOutcome B) → Same {F = F} ⊥ cut h o p → p ≡ mapped h o
unmarked h o p (inl e) = e
unmarked h o p (inr m) = absurd m.allowed

-- a hole that means another gives it at the same token
pub cut_same : {A B : Type 0} (h : A → B) (a : A) (b : B) → b ≡ h a → (k : Token) → cut_at b k ≡ result_map h (cut_at a k)
cut_same h a b e hole_token = ap Ok e
cut_same h a b e (name_token n) = refl
cut_same h a b e (word_token w) = refl
cut_same h a b e (number_token n) = refl
cut_same h a b e (text_token t) = refl
cut_same h a b e (symbol_token s) = refl
cut_same h a b e end_token = refl
cut_same h a b e bad_token = refl

-- how one kind of trees is made from another
pub record Mapping {K T F Q L U G R : Type 0} (E : Type 0) (one : Trees K T F Q) (two : Trees L U G R) : Type 0 where
  pub kind : K → L
  pub term : T → U
  pub formula : F → G
  pub question : Q → R
  pub kind_is : (t : WrittenTerm) → two.terms.kind_of t ≡ kind (one.terms.kind_of t)
  pub term_is : (p : Place) (k : K) → two.terms.term_at p (kind k) ≡ term (one.terms.term_at p k)
  pub atom_is : (p : Place) (n : Identifier) (ts : List T) → two.formulas.atom_of p n (map term ts) ≡ formula (one.formulas.atom_of p n ts)
  pub comparison_is : (l : T) (op : Op) (r : T) → two.formulas.comparison (term l) op (term r) ≡ formula (one.formulas.comparison l op r)
  pub membership_is : (l : T) (i : Integer) (k : ℕ) → two.formulas.membership (term l) i k ≡ formula (one.formulas.membership l i k)
  pub negation_is : (p : Place) (f : F) → two.formulas.negation p (formula f) ≡ formula (one.formulas.negation p f)
  pub conjunction_is : (p : Place) (f g : F) (fs : List F) → two.formulas.conjunction p (map formula (f ∷ g ∷ fs)) ≡ formula (one.formulas.conjunction p (f ∷ g ∷ fs))
  pub disjunction_is : (p : Place) (f g : F) (fs : List F) → two.formulas.disjunction p (map formula (f ∷ g ∷ fs)) ≡ formula (one.formulas.disjunction p (f ∷ g ∷ fs))
  pub implication_is : (p : Place) (f g : F) → two.formulas.implication p (formula f) (formula g) ≡ formula (one.formulas.implication p f g)
  pub parenthesis_is : (p : Place) (f : F) → two.formulas.parenthesis p (formula f) ≡ formula (one.formulas.parenthesis p f)
  pub existential_is : (p : Place) (c : RawColumn) (f : F) → two.formulas.existential p c (formula f) ≡ formula (one.formulas.existential p c f)
  pub universal_is : (p : Place) (c : RawColumn) (f : F) → two.formulas.universal p c (formula f) ≡ formula (one.formulas.universal p c f)
  pub question_is : (cs : List RawColumn) (f : F) → two.question cs (formula f) ≡ question (one.question cs f)
  pub cut_is : (t : Placed) → (two.cut t ≡ result_map formula (one.cut t)) ⊎ (E × (two.cut t ≡ Err Memory))

-- ---- lists

-- a list with one more
map_more : {A B : Type 0} (h : A → B) (xs : List A) (a : A) → map h (xs ++ a ∷ []) ≡ map h xs ++ h a ∷ []
map_more h [] a = refl
map_more h (x ∷ xs) a = ap (λ l. h x ∷ l) (map_more h xs a)

-- one more member, or the last one
more_read : {A : Type 0} (p : Parser A) (comma : Placed → Bool) (n : ℕ) → ((found : List A) (ts : Tokens) (q : List A × Tokens) → separated_from p comma n found ts ≡ Ok q → (a : A) × (all : List A) × (q.0 ≡ found ++ a ∷ all)) → (found : List A) (a : A) (more : Bool) (ts : Tokens) (q : List A × Tokens) → (if more then separated_from p comma n (found ++ a ∷ []) else pure (found ++ a ∷ [])) ts ≡ Ok q → (b : A) × (all : List A) × (q.0 ≡ found ++ b ∷ all)
more_read p comma n again found a true ts q e = let k = again (found ++ a ∷ []) ts q e in (a, k.0 ∷ k.1, k.2 ∙ append_assoc found (a ∷ []) (k.0 ∷ k.1))
more_read p comma n again found a false ts q e = let h : (found ++ a ∷ [], ts) ≡ q = cc in (a, [], sym (ap (λ x. x.0) h))

-- a list that is read has a member more
pub some_read : {A : Type 0} (p : Parser A) (comma : Placed → Bool) (n : ℕ) (found : List A) (ts : Tokens) (q : List A × Tokens) → separated_from p comma n found ts ≡ Ok q → (a : A) × (all : List A) × (q.0 ≡ found ++ a ∷ all)
unfolding separated_from
some_read p comma zero found ts q e = absurd cc
some_read p comma (suc n) found ts q e =
    let a = bind_ok (p ts) _ q e in
    let b = bind_ok (eat comma a.0.1) _ q a.2 in
    more_read p comma n (some_read p comma n) found a.0.0 b.0.0 b.0.1 q b.2

-- ---- one parser after the other

module _ {F : Type 0} (E : Type 0) (cut : Placed → Result F Fault) where
  -- after something that both read alike
  pub leaf : {A B C : Type 0} (o : ParseOutcome A) (f : A → Parser B) (g : A → Parser C) (h : B → C) → ((a : A) (us : Tokens) → Same E cut h (f a us) (g a us)) → Same E cut h (and_then o f) (and_then o g)
  leaf (Ok q) f g h onward = onward q.0 q.1
  leaf (Err e) f g h onward = inl refl

  -- after something that one reads as the other does
  pub bind_at : {A B C D : Type 0} (o : ParseOutcome A) (p : ParseOutcome B) (k : A → B) (f : A → Parser C) (g : B → Parser D) (h : C → D) → p ≡ mapped k o → ((a : A) (us : Tokens) → o ≡ Ok (a, us) → Same E cut h (f a us) (g (k a) us)) → Same E cut h (and_then o f) (and_then p g)
  bind_at (Ok q) p k f g h e onward = subst (λ x. Same E cut h (f q.0 q.1) (and_then x g)) (sym e) (onward q.0 q.1 refl)
  bind_at (Err x) p k f g h e onward = inl (ap (λ y. and_then y g) e)

  -- the same, where the first one may be marked
  pub bind : {A B C D : Type 0} (o : ParseOutcome A) (p : ParseOutcome B) (k : A → B) (f : A → Parser C) (g : B → Parser D) (h : C → D) → Same E cut k o p → ((a : A) (us : Tokens) → o ≡ Ok (a, us) → Same E cut h (f a us) (g (k a) us)) → Same E cut h (and_then o f) (and_then p g)
  bind o p k f g h (inl e) onward = bind_at o p k f g h e onward
  bind o p k f g h (inr m) onward = inr (record { allowed = m.allowed; token = m.token; rest = m.rest; marked = ap (λ x. and_then x g) m.marked; cause = λ j c. ap (λ x. and_then x f) (m.cause j c) })

  -- one of two
  pub choice : {A B : Type 0} (b : Bool) (p q : Parser A) (r s : Parser B) (h : A → B) (ts : Tokens) → Same E cut h (p ts) (r ts) → Same E cut h (q ts) (s ts) → Same E cut h ((if b then p else q) ts) ((if b then r else s) ts)
  choice true p q r s h ts one two = one
  choice false p q r s h ts one two = two

  -- a value that is put together
  pub made : {A B : Type 0} (h : A → B) (a : A) (b : B) (ts : Tokens) → b ≡ h a → Same E cut h (Ok (a, ts)) (Ok (b, ts))
  made h a b ts e = inl (ap (λ x. Ok (x, ts)) e)

  -- a list with separators
  pub separated_same : {A B : Type 0} (p : Parser A) (q : Parser B) (h : A → B) (comma : Placed → Bool) → ((ts : Tokens) → Same E cut h (p ts) (q ts)) → (n : ℕ) (found : List A) (ts : Tokens) → Same E cut (map h) (separated_from p comma n found ts) (separated_from q comma n (map h found) ts)
  unfolding separated_from
  separated_same p q h comma same zero found ts = inl refl
  separated_same {A} {B} p q h comma same (suc n) found ts =
      bind (p ts) (q ts) h _ _ (map h) (same ts) (λ a us e.
      leaf (eat comma us) _ _ (map h) (λ more vs.
      choice more _ _ _ _ (map h) vs
      (subst (λ l. Same E cut (map h) (separated_from p comma n (found ++ a ∷ []) vs) (separated_from q comma n l vs)) (map_more h found a) (separated_same p q h comma same n (found ++ a ∷ []) vs))
      (made (map h) (found ++ a ∷ []) (map h found ++ h a ∷ []) vs (sym (map_more h found a)))))

  -- the same, which may be empty
  listed_same : {A B : Type 0} (p : Parser A) (q : Parser B) (h : A → B) (comma stop : Placed → Bool) → ((ts : Tokens) → Same E cut h (p ts) (q ts)) → (n : ℕ) (ts : Tokens) → Same E cut (map h) (listed p comma stop n ts) (listed q comma stop n ts)
  unfolding listed
  listed_same p q h comma stop same n ts =
      leaf (look false stop ts) _ _ (map h) (λ none us.
      choice none _ _ _ _ (map h) us (inl refl) (separated_same p q h comma same n [] us))

-- ---- the rules

module _ {K T F Q L U G R : Type 0} (E : Type 0) (one : Trees K T F Q) (two : Trees L U G R) (m : Mapping E one two) where
  -- a name with or without an offset
  named_term_same : (n : Identifier) (ts : Tokens) → Same E one.cut m.kind (named_term one.terms n ts) (named_term two.terms n ts)
  unfolding named_term
  named_term_same n ts = leaf E one.cut (offset ts) _ _ m.kind (λ o us. made E one.cut m.kind (one.terms.kind_of (with_offset n o)) (two.terms.kind_of (with_offset n o)) us (m.kind_is (with_offset n o)))

  -- a text or an integer
  unnamed_term_same : (ts : Tokens) → Same E one.cut m.kind (unnamed_term one.terms ts) (unnamed_term two.terms ts)
  unfolding unnamed_term
  unnamed_term_same ts =
      leaf E one.cut (look false is_text ts) _ _ m.kind (λ text_next us.
      choice E one.cut text_next _ _ _ _ m.kind us
      (leaf E one.cut (text us) _ _ m.kind (λ t vs. made E one.cut m.kind (one.terms.kind_of (text_term t)) (two.terms.kind_of (text_term t)) vs (m.kind_is (text_term t))))
      (leaf E one.cut (integer us) _ _ m.kind (λ i vs. made E one.cut m.kind (one.terms.kind_of (integer_term i)) (two.terms.kind_of (integer_term i)) vs (m.kind_is (integer_term i)))))

  -- a term without its place
  bare_term_same : (ts : Tokens) → Same E one.cut m.kind (bare_term one.terms ts) (bare_term two.terms ts)
  unfolding bare_term
  bare_term_same ts =
      leaf E one.cut (look false is_name ts) _ _ m.kind (λ name_next us.
      choice E one.cut name_next _ _ _ _ m.kind us (leaf E one.cut (name us) _ _ m.kind (λ n vs. named_term_same n.0 vs)) (unnamed_term_same us))

  -- a term
  term_same : (ts : Tokens) → Same E one.cut m.term (term one.terms ts) (term two.terms ts)
  unfolding term
  term_same ts =
      leaf E one.cut (here ts) _ _ m.term (λ p us.
      bind E one.cut (bare_term one.terms us) (bare_term two.terms us) m.kind _ _ m.term (bare_term_same us) (λ k vs e. made E one.cut m.term (one.terms.term_at p k) (two.terms.term_at p (m.kind k)) vs (m.term_is p k)))

  -- a point
  point_same : (l : T) (ts : Tokens) → Same E one.cut m.formula (point one l ts) (point two (m.term l) ts)
  unfolding point
  point_same l ts =
      leaf E one.cut (integer ts) _ _ m.formula (λ i us.
      leaf E one.cut (expect Plus us) _ _ m.formula (λ a vs.
      leaf E one.cut (period vs) _ _ m.formula (λ k ws.
      leaf E one.cut (expect_word Letter ws) _ _ m.formula (λ b xs. made E one.cut m.formula (one.formulas.membership l i k) (two.formulas.membership (m.term l) i k) xs (m.membership_is l i k)))))

  -- a comparison
  comparing_same : (l : T) (ts : Tokens) → Same E one.cut m.formula (comparing one l ts) (comparing two (m.term l) ts)
  unfolding comparing
  comparing_same l ts =
      leaf E one.cut (accept (λ t. op_of t.token) ts) _ _ m.formula (λ op us.
      bind E one.cut (term one.terms us) (term two.terms us) m.term _ _ m.formula (term_same us) (λ r vs e. made E one.cut m.formula (one.formulas.comparison l op r) (two.formulas.comparison (m.term l) op (m.term r)) vs (m.comparison_is l op r)))

  -- what stands after a first term
  test_same : (l : T) (ts : Tokens) → Same E one.cut m.formula (tested false one l ts) (tested false two (m.term l) ts)
  unfolding tested
  test_same l ts = leaf E one.cut (eat (is_word In) ts) _ _ m.formula (λ inside us. choice E one.cut inside _ _ _ _ m.formula us (point_same l us) (comparing_same l us))

  -- a term of this kind and what stands after it
  kind_test_same : (p : Place) (k : K) (ts : Tokens) → Same E one.cut m.formula (tested false one (one.terms.term_at p k) ts) (tested false two (two.terms.term_at p (m.kind k)) ts)
  kind_test_same p k ts = subst (λ t. Same E one.cut m.formula (tested false one (one.terms.term_at p k) ts) (tested false two t ts)) (sym (m.term_is p k)) (test_same (one.terms.term_at p k) ts)

  -- the terms of an atom
  atom_terms_same : (turns : ℕ) (n : Identifier) (p : Place) (ts : Tokens) → Same E one.cut m.formula (atom_terms false one turns n p ts) (atom_terms false two turns n p ts)
  unfolding atom_terms
  atom_terms_same turns n p ts =
      bind E one.cut (listed (term one.terms) (is_symbol Comma) (is_symbol Close) turns ts) (listed (term two.terms) (is_symbol Comma) (is_symbol Close) turns ts) (map m.term) _ _ m.formula (listed_same E one.cut (term one.terms) (term two.terms) m.term (is_symbol Comma) (is_symbol Close) term_same turns ts) (λ all us e.
      leaf E one.cut (expect Close us) _ _ m.formula (λ a vs. made E one.cut m.formula (one.formulas.atom_of p n all) (two.formulas.atom_of p n (map m.term all)) vs (m.atom_is p n all)))

  -- what stands after a name
  pub after_name_same : (turns : ℕ) (n : Identifier) (p : Place) (ts : Tokens) → Same E one.cut m.formula (after_name false one turns n p ts) (after_name false two turns n p ts)
  unfolding after_name
  after_name_same turns n p ts =
      leaf E one.cut (eat (is_symbol Open) ts) _ _ m.formula (λ opens vs.
      choice E one.cut opens _ _ _ _ m.formula vs (atom_terms_same turns n p vs)
      (bind E one.cut (named_term one.terms n vs) (named_term two.terms n vs) m.kind _ _ m.formula (named_term_same n vs) (λ k ws e. kind_test_same p k ws)))

  -- what begins with another term
  pub unnamed_same : (p : Place) (ts : Tokens) → Same E one.cut m.formula (unnamed false one p ts) (unnamed false two p ts)
  unfolding unnamed
  unnamed_same p ts = bind E one.cut (unnamed_term one.terms ts) (unnamed_term two.terms ts) m.kind _ _ m.formula (unnamed_term_same ts) (λ k us e. kind_test_same p k us)

  module _ (inner : Parser F) (other : Parser G) (same : (ts : Tokens) → Same E one.cut m.formula (inner ts) (other ts)) (after : Identifier → Place → Parser F) (beyond : Identifier → Place → Parser G) (after_same : (n : Identifier) (p : Place) (ts : Tokens) → Same E one.cut m.formula (after n p ts) (beyond n p ts)) (turns : ℕ) where
    -- a denied formula
    negated_same : (p : Place) (ts : Tokens) → Same E one.cut m.formula (negated one inner p ts) (negated two other p ts)
    unfolding negated
    negated_same p ts =
        leaf E one.cut (expect_word Not ts) _ _ m.formula (λ a us.
        bind E one.cut (inner us) (other us) m.formula _ _ m.formula (same us) (λ f vs e. made E one.cut m.formula (one.formulas.negation p f) (two.formulas.negation p (m.formula f)) vs (m.negation_is p f)))

    -- a formula after `exists`
    existing_same : (p : Place) (ts : Tokens) → Same E one.cut m.formula (existing one inner p ts) (existing two other p ts)
    unfolding existing
    existing_same p ts =
        leaf E one.cut (expect_word Exists ts) _ _ m.formula (λ a us.
        leaf E one.cut (column us) _ _ m.formula (λ c vs.
        bind E one.cut (inner vs) (other vs) m.formula _ _ m.formula (same vs) (λ f ws e. made E one.cut m.formula (one.formulas.existential p c f) (two.formulas.existential p c (m.formula f)) ws (m.existential_is p c f))))

    -- a formula after `forall`
    holding_same : (p : Place) (ts : Tokens) → Same E one.cut m.formula (holding one inner p ts) (holding two other p ts)
    unfolding holding
    holding_same p ts =
        leaf E one.cut (expect_word Forall ts) _ _ m.formula (λ a us.
        leaf E one.cut (column us) _ _ m.formula (λ c vs.
        bind E one.cut (inner vs) (other vs) m.formula _ _ m.formula (same vs) (λ f ws e. made E one.cut m.formula (one.formulas.universal p c f) (two.formulas.universal p c (m.formula f)) ws (m.universal_is p c f))))

    -- what stands after `implies`
    implying_same : (p : Place) (f : F) (ts : Tokens) → Same E one.cut m.formula (implying one inner p f ts) (implying two other p (m.formula f) ts)
    unfolding implying
    implying_same p f ts =
        bind E one.cut (inner ts) (other ts) m.formula _ _ m.formula (same ts) (λ g us e.
        leaf E one.cut (expect Close us) _ _ m.formula (λ a vs. made E one.cut m.formula (one.formulas.implication p f g) (two.formulas.implication p (m.formula f) (m.formula g)) vs (m.implication_is p f g)))

    -- what stands after `and`
    conjoined_same : (p : Place) (f : F) (ts : Tokens) → Same E one.cut m.formula (conjoined one inner turns p f ts) (conjoined two other turns p (m.formula f) ts)
    unfolding conjoined
    conjoined_same p f ts =
        bind E one.cut (separated_from inner (is_word And) turns (f ∷ []) ts) (separated_from other (is_word And) turns (m.formula f ∷ []) ts) (map m.formula) _ _ m.formula (separated_same E one.cut inner other m.formula (is_word And) same turns (f ∷ []) ts) (λ all us e.
        let s = some_read inner (is_word And) turns (f ∷ []) ts (all, us) e in
        leaf E one.cut (expect Close us) _ _ m.formula (λ a vs. made E one.cut m.formula (one.formulas.conjunction p all) (two.formulas.conjunction p (map m.formula all)) vs
        (subst (λ l. two.formulas.conjunction p (map m.formula l) ≡ m.formula (one.formulas.conjunction p l)) (sym s.2) (m.conjunction_is p f s.0 s.1))))

    -- what stands after `or`
    disjoined_same : (p : Place) (f : F) (ts : Tokens) → Same E one.cut m.formula (disjoined one inner turns p f ts) (disjoined two other turns p (m.formula f) ts)
    unfolding disjoined
    disjoined_same p f ts =
        bind E one.cut (separated_from inner (is_word Or) turns (f ∷ []) ts) (separated_from other (is_word Or) turns (m.formula f ∷ []) ts) (map m.formula) _ _ m.formula (separated_same E one.cut inner other m.formula (is_word Or) same turns (f ∷ []) ts) (λ all us e.
        let s = some_read inner (is_word Or) turns (f ∷ []) ts (all, us) e in
        leaf E one.cut (expect Close us) _ _ m.formula (λ a vs. made E one.cut m.formula (one.formulas.disjunction p all) (two.formulas.disjunction p (map m.formula all)) vs
        (subst (λ l. two.formulas.disjunction p (map m.formula l) ≡ m.formula (one.formulas.disjunction p l)) (sym s.2) (m.disjunction_is p f s.0 s.1))))

    -- what stands after a first formula
    after_first_same : (p : Place) (f : F) (ts : Tokens) → Same E one.cut m.formula (after_first one inner turns p f ts) (after_first two other turns p (m.formula f) ts)
    unfolding after_first
    after_first_same p f ts =
        leaf E one.cut (eat (is_word Implies) ts) _ _ m.formula (λ implies us.
        choice E one.cut implies _ _ _ _ m.formula us (implying_same p f us)
        (leaf E one.cut (eat (is_word And) us) _ _ m.formula (λ ands vs.
        choice E one.cut ands _ _ _ _ m.formula vs (conjoined_same p f vs)
        (leaf E one.cut (eat (is_word Or) vs) _ _ m.formula (λ ors ws.
        choice E one.cut ors _ _ _ _ m.formula ws (disjoined_same p f ws)
        (leaf E one.cut (expect Close ws) _ _ m.formula (λ a xs. made E one.cut m.formula (one.formulas.parenthesis p f) (two.formulas.parenthesis p (m.formula f)) xs (m.parenthesis_is p f))))))))

    -- formulas in parentheses
    enclosed_same : (p : Place) (ts : Tokens) → Same E one.cut m.formula (enclosed one inner turns p ts) (enclosed two other turns p ts)
    unfolding enclosed
    enclosed_same p ts =
        leaf E one.cut (expect Open ts) _ _ m.formula (λ a us.
        bind E one.cut (inner us) (other us) m.formula _ _ m.formula (same us) (λ f vs e. after_first_same p f vs))

    -- what begins with a name
    named_same : (ts : Tokens) → Same E one.cut m.formula (named after ts) (named beyond ts)
    unfolding named
    named_same ts = leaf E one.cut (name ts) _ _ m.formula (λ n us. after_same n.0 n.1 us)

    -- a formula that begins so
    started_same : (p : Place) (s : Start) (ts : Tokens) → Same E one.cut m.formula (started one after inner turns p s ts) (started two beyond other turns p s ts)
    started_same p by_not ts = negated_same p ts
    started_same p by_exists ts = existing_same p ts
    started_same p by_forall ts = holding_same p ts
    started_same p by_open ts = enclosed_same p ts
    started_same p by_name ts = named_same ts
    started_same p by_term ts = unnamed_same p ts

    -- a formula
    formula_over_same : (ts : Tokens) → Same E one.cut m.formula (formula_over one after inner turns ts) (formula_over two beyond other turns ts)
    unfolding formula_over
    formula_over_same ts =
        leaf E one.cut (look false (λ t. is_hole_token t.token) ts) _ _ m.formula (λ hole us.
        choice E one.cut hole _ _ _ _ m.formula us (inl refl)
        (leaf E one.cut (here us) _ _ m.formula (λ p vs.
        leaf E one.cut (look by_term (λ t. start_of t.token) vs) _ _ m.formula (λ s ws. started_same p s ws))))

  -- where a formula would be too deep, by what each gives there
  cut_at_same : (t : Placed) (ts : Tokens) (r : Result F Fault) → one.cut t ≡ r → (two.cut t ≡ result_map m.formula r) ⊎ (E × (two.cut t ≡ Err Memory)) → Same E one.cut m.formula (taken r t ts) (taken (two.cut t) t ts)
  cut_at_same t ts (Ok f) is (inl e) = inl (ap (λ x. taken x t ts) e)
  cut_at_same t ts (Err k) is (inl e) = inl (ap (λ x. taken x t ts) e)
  cut_at_same t ts r is (inr e) = inr (record { allowed = e.0; token = t; rest = ts; marked = ap (λ x. taken x t ts) e.1; cause = λ k c. ap (λ x. taken x t ts) (sym is ∙ c) })

  module _ (after : AfterName F) (beyond : AfterName G)
      (after_same : (inner : Parser F) (other : Parser G) → ((ts : Tokens) → Same E one.cut m.formula (inner ts) (other ts)) → (turns : ℕ) (n : Identifier) (p : Place) (ts : Tokens) → Same E one.cut m.formula (after inner turns n p ts) (beyond other turns n p ts)) where
    -- a formula of any depth
    pub formula_same : (depth turns : ℕ) (ts : Tokens) → Same E one.cut m.formula (formula_with one after depth turns ts) (formula_with two beyond depth turns ts)
    unfolding formula_with accept
    formula_same zero turns [] = inl refl
    formula_same zero turns (t ∷ ts) = cut_at_same t ts (one.cut t) refl (m.cut_is t)
    formula_same (suc depth) turns ts =
        formula_over_same (formula_with one after depth turns) (formula_with two beyond depth turns) (formula_same depth turns)
        (after (formula_with one after depth turns) turns) (beyond (formula_with two beyond depth turns) turns) (after_same (formula_with one after depth turns) (formula_with two beyond depth turns) (formula_same depth turns) turns) turns ts

    -- a query
    pub query_same : (turns : ℕ) (ts : Tokens) → Same E one.cut m.question (query_with one after turns ts) (query_with two beyond turns ts)
    unfolding query_with query_over
    query_same turns ts =
        leaf E one.cut (expect OpenBrace ts) _ _ m.question (λ a us.
        leaf E one.cut (listed column (is_symbol Comma) (is_symbol Bar) turns us) _ _ m.question (λ cs vs.
        leaf E one.cut (expect Bar vs) _ _ m.question (λ b ws.
        bind E one.cut (formula_with one after 64 turns ws) (formula_with two beyond 64 turns ws) m.formula _ _ m.question (formula_same 64 turns ws) (λ f xs e.
        leaf E one.cut (expect CloseBrace xs) _ _ m.question (λ c ys.
        leaf E one.cut (expect_end ys) _ _ m.question (λ d zs. made E one.cut m.question (one.question cs f) (two.question cs (m.formula f)) zs (m.question_is cs f)))))))
