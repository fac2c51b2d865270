-- What is read of atoms, comparisons and memberships in the wide language.
use Rattle.std.proofs.Common.{◌≡◌, inl, inr, ◌≤◌, ℕ, suc, Bool, true, false, List, [], ◌∷◌, ◌++◌, map, refl, ap, sym, ◌∙◌, subst, if◌then◌else◌, arith}
use Rattle.std.specs.List.{AllByRecursion}
use Rattle.lrp_model.specs.Texts.{Identifier}
use Rattle.lrp_model.specs.declared.tokens.Symbol.TheVariants.{Open, Close, Comma, Plus, Minus, Differs}
use Rattle.lrp_model.specs.declared.tokens.Word.TheVariants.{Letter, In}
use Rattle.lrp_model.specs.declared.tokens.Place.{Place}
use Rattle.lrp_model.specs.declared.formulas.Op.{Op}
use Rattle.lrp_model.specs.declared.formulas.Op.TheVariants.{Le, Lt, Ge, Gt, Eq}
use Rattle.lrp_model.specs.declared.written.Integer.{Integer}
use Rattle.lrp_model.specs.declared.written.Located.{Located}
use Rattle.lrp_model.specs.declared.raw.RawTerm.{RawTerm}
use Rattle.lrp_model.specs.Limits.{greatest_number}
use Rattle.lrp_model.specs.Tokens.{Token, Tokens, Takes, located_text, separated}
use Rattle.lrp_model.specs.Tokens.Token.{word_token, number_token, symbol_token}
use Rattle.lrp_model.specs.Tokens.Part.{any}
use Rattle.lrp_model.specs.Databases.{integer_text, comma}
use Rattle.lrp_model.specs.Refused.{Fitting}
use Rattle.lrp_model.specs.Queries.{WrittenTerm, WrittenArgument, argument_text, op_symbol, formula_text, FitsTerm, FitsArgument, looseness, IsOrdered}
use Rattle.lrp_model.specs.Queries.Language.{wide}
use Rattle.lrp_model.specs.Queries.WrittenFormula.{compared, member, differing}
use Rattle.lrp_model.specs.QueryMeaning.{raw_term, raw_argument, raw_form}
use Rattle.lrp_model.specs.RawQueries.{RawForm, raw_atom, raw_compare, raw_member, raw_not}
use Rattle.lrp_text.specs.Parsers.{◌>>=◌, pure, eat}
use Rattle.lrp_text.specs.Taking.{is_symbol, is_symbol_token, is_word, is_word_token, is_name_token, is_name, same_symbol, expect, expect_word, period, IsWrittenPeriod}
use Rattle.lrp_text.specs.OffsetRule.{unmoved, moved_by}
use Rattle.lrp_text.proofs.Complete.{IsNot, first_is_not}
use Rattle.lrp_text.proofs.Sound.{takes_join, takes_split}
use Rattle.lrp_text.proofs.Viable.{always, fits_as, fitting}
use Rattle.lrp_text.proofs.TokenTests.{number_part}
use Rattle.lrp_text.proofs.OffsetRule.{NoShift}
use Rattle.lrp_query.specs.Rules.{named_term, term, op_of, point, point_of, comparing, differing as differing_rule, tested, atom_terms, after_name, raw_terms}
use Rattle.lrp_query.proofs.Languages.{FitsAt}
use Rattle.lrp_query.proofs.TermRules.{placed_text}
use Rattle.lrp_query.proofs.TestRules.{op_part, op_told, op_seen, op_stops}
use Rattle.lrp_query.proofs.Marks.{op_leaf}
use Rattle.lrp_query.proofs.WideRule.{Language, Rule, sooner_rule, Nothing, pure_rule, Then, bind_rule, Made, map_rule, TokenRule, After, token_rule, Eats, eat_rule, Separated}
use Rattle.lrp_query.proofs.WideTerms.{symbol_rule, word_rule, period_rule, symbol_kind, word_kind, IntegerText, integer_rule, Named, named_rule, TermText, term_rule, term_of, ArgumentText, Arguments, ClosesArguments, arguments_rule}
use Rattle.lrp_query.proofs.WideWritten.{Formula, after_part}
use Rattle.lrp_query.proofs.WideLevels.{cutting}
use Rattle.lrp_query.proofs.WideWhole.{CloseText}

op_rule : TokenRule (λ t. op_of t.token) op_part (λ op. Unit {0})
op_rule = record { told = op_told; fits = λ t a e. tt; tells = λ t a L f is. inl (op_seen a t is); stops = op_stops; leaf = λ t. op_leaf t.token }

-- ---- after a first term

abbrev SymbolText : {V : Type 0} → Token → Language V → Language V
SymbolText k T = After (λ (u : Unit {0}). any k) (λ u. Unit {0}) (λ u. T)

abbrev PointText : RawTerm → Language RawForm
PointText left = Then IntegerText (λ i. SymbolText (symbol_token Plus) (After number_part IsWrittenPeriod (λ k. SymbolText (word_token Letter) (Nothing (raw_member left.place left (point_of i k))))))

abbrev DifferText : RawTerm → Language RawForm
DifferText left = Made (λ r. raw_not left.place (raw_compare left.place left Eq r)) TermText

abbrev CompareText : RawTerm → Language RawForm
CompareText left = After op_part (λ op. Unit {0}) (λ op. Made (λ r. raw_compare left.place left op r) TermText)

abbrev pub TestText : RawTerm → Language RawForm
TestText left = Eats (word_token In) (PointText left) (Eats (symbol_token Differs) (DifferText left) (CompareText left))

point_rule : (size : ℕ) (left : RawTerm) → Rule size true NoShift (PointText left) (λ c. point (cutting c) left)
unfolding point
point_rule size left =
    bind_rule (λ i c. expect Plus >>= (λ u. period >>= (λ k. expect_word Letter >>= (λ v. pure (raw_member left.place left (point_of i k)))))) (integer_rule size)
    (λ i. token_rule (λ u c. period >>= (λ k. expect_word Letter >>= (λ v. pure (raw_member left.place left (point_of i k))))) (symbol_rule Plus)
    (λ u. sooner_rule true (token_rule (λ k c. expect_word Letter >>= (λ v. pure (raw_member left.place left (point_of i k)))) period_rule
    (λ k. sooner_rule true (token_rule (λ v c. pure (raw_member left.place left (point_of i k))) (word_rule Letter)
    (λ v. pure_rule size false NoShift (raw_member left.place left (point_of i k))))))))
    (λ i c v ms left t g. tt)

op_apart : (op : Op) → same_symbol (op_symbol op) Differs ≡ false
op_apart Le = refl
op_apart Lt = refl
op_apart Ge = refl
op_apart Gt = refl
op_apart Eq = refl

compare_apart : (l : RawTerm) (c : Bool) (v : RawForm) (ts left : Tokens) → CompareText l c v ts left → NoShift left → IsNot (is_symbol Differs) ts
compare_apart l c v [] left t g = absurd t
compare_apart l c v (u ∷ ts) left t g = ap (is_symbol_token Differs) t.1.0 ∙ op_apart t.0

-- what no test begins with
pub test_first : (test : Token → Bool) → test (word_token In) ≡ false → test (symbol_token Differs) ≡ false → ((op : Op) → test (symbol_token (op_symbol op)) ≡ false) → (l : RawTerm) (c : Bool) (v : RawForm) (ts left : Tokens) → TestText l c v ts left → IsNot (λ t. test t.token) ts
test_first test e d o l c v [] left (inl t) = absurd t
test_first test e d o l c v (u ∷ ts) left (inl t) = ap test t.0 ∙ e
test_first test e d o l c v [] left (inr (inl t)) = absurd t
test_first test e d o l c v (u ∷ ts) left (inr (inl t)) = ap test t.0 ∙ d
test_first test e d o l c v [] left (inr (inr t)) = absurd t
test_first test e d o l c v (u ∷ ts) left (inr (inr t)) = ap test t.1.0 ∙ o t.0

further_apart : (l : RawTerm) (c : Bool) (v : RawForm) (ts left : Tokens) → Eats (symbol_token Differs) (DifferText l) (CompareText l) c v ts left → NoShift left → IsNot (is_word In) ts
further_apart l c v [] left (inl t) g = absurd t
further_apart l c v (u ∷ ts) left (inl t) g = ap (is_word_token In) t.0
further_apart l c v [] left (inr t) g = absurd t
further_apart l c v (u ∷ ts) left (inr t) g = ap (is_word_token In) t.1.0

pub test_rule : (size : ℕ) (left : RawTerm) → Rule size true NoShift (TestText left) (λ c. tested true (cutting c) left)
unfolding tested comparing differing_rule
test_rule size left =
    eat_rule (λ inside c. if inside then point (cutting c) left else (eat (is_symbol Differs) >>= (λ differs. if differs then differing_rule (cutting c) left else comparing (cutting c) left))) (word_kind In) (omega arith)
    (sooner_rule true (point_rule size left))
    (eat_rule (λ differs c. if differs then differing_rule (cutting c) left else comparing (cutting c) left) (symbol_kind Differs) (omega arith)
    (sooner_rule true (map_rule (λ r. raw_not left.place (raw_compare left.place left Eq r)) (term_rule size)))
    (token_rule (λ op c. term raw_terms >>= (λ r. pure (raw_compare left.place left op r))) op_rule (λ op. sooner_rule true (map_rule (λ r. raw_compare left.place left op r) (term_rule size))))
    (compare_apart left))
    (further_apart left)

-- ---- trees of tests

-- a tree of what is read, at any depth that is left
pub record Found (c : Bool) (v : RawForm) (ts us : Tokens) : Type 0 where
  pub tree : Formula
  pub tight : looseness tree ≤ 0
  pub ordered : IsOrdered tree
  pub means : v ≡ raw_form tree
  pub fits : (d : ℕ) → Fitting c (FitsAt (suc d) tree)
  pub spelled : Takes (formula_text tree) ts us

-- lawful sides
sides_fit : (c : Bool) (P Q : Type 0) → Fitting c P → Fitting c Q → Fitting c ((P × Q) × Unit {0})
sides_fit true P Q p q = ((p, q), tt)
sides_fit false P Q p q = tt

point_fit : (c : Bool) (P Q : Type 0) (k : ℕ) → Fitting c P → Fitting c Q → Fitting c (IsWrittenPeriod k) → Fitting c ((P × Q × (1 ≤ k) × (k ≤ greatest_number)) × Unit {0})
point_fit true P Q k p q r = ((p, q, r.0, r.1), tt)
point_fit false P Q k p q r = tt

pub test_there : (l : Located WrittenTerm) (c : Bool) (v : RawForm) (ts ms us : Tokens) → Takes (placed_text l) ts ms → Fitting c (FitsTerm l.item) → TestText (raw_term l) c v ms us → Found c v ts us
test_there l c v ts [] us one fit (inl t) = absurd t
test_there l c v ts (t ∷ ks) us one fit (inl (is, (i, [], n, r))) = absurd r
test_there l c v ts (t ∷ ks) us one fit (inl (is, (i, x ∷ [], n, (u, plus, r)))) = absurd r
test_there l c v ts (t ∷ ks) us one fit (inl (is, (i, x ∷ y ∷ [], n, (u, plus, (k, number, r))))) = absurd r
test_there l c v ts (t ∷ ks) us one fit (inl (is, (i, x ∷ y ∷ z ∷ ws, n, (u, plus, (k, number, (w, letter, (e, q))))))) =
    record {
      tree = member l i k;
      tight = omega arith;
      ordered = tt;
      means = e;
      fits = λ d. point_fit c (FitsTerm l.item) (i.size ≤ greatest_number) k fit n.0 number.1;
      spelled = takes_join (placed_text l) (any (word_token In) ∷ (integer_text i ++ any (symbol_token Plus) ∷ any (number_token k) ∷ any (word_token Letter) ∷ [])) ts (t ∷ ks) us one (is, takes_join (integer_text i) (any (symbol_token Plus) ∷ any (number_token k) ∷ any (word_token Letter) ∷ []) ks (x ∷ y ∷ z ∷ ws) us n.1 (plus.0, (number.0, (letter.0, q))));
    }
test_there l c v ts [] us one fit (inr (inl t)) = absurd t
test_there l c v ts (t ∷ ks) us one fit (inr (inl (is, (r, e, w)))) =
    record {
      tree = differing refl l w.item;
      tight = omega arith;
      ordered = tt;
      means = e ∙ ap (λ x. raw_not l.place (raw_compare l.place (raw_term l) Eq x)) w.means;
      fits = λ d. sides_fit c (FitsTerm l.item) (FitsTerm w.item.item) fit w.fits;
      spelled = takes_join (placed_text l) (any (symbol_token Differs) ∷ placed_text w.item) ts (t ∷ ks) us one (is, w.spelled);
    }
test_there l c v ts [] us one fit (inr (inr t)) = absurd t
test_there l c v ts (t ∷ ks) us one fit (inr (inr (op, is, (r, e, w)))) =
    record {
      tree = compared l op w.item;
      tight = omega arith;
      ordered = tt;
      means = e ∙ ap (raw_compare l.place (raw_term l) op) w.means;
      fits = λ d. sides_fit c (FitsTerm l.item) (FitsTerm w.item.item) fit w.fits;
      spelled = takes_join (placed_text l) (op_part op ∷ placed_text w.item) ts (t ∷ ks) us one (is.0, w.spelled);
    }

abbrev pub compared_tree : Located WrittenTerm → Op → Located WrittenTerm → Formula
compared_tree l op r = compared l op r

abbrev pub differing_tree : Located WrittenTerm → Located WrittenTerm → Formula
differing_tree l r = differing refl l r

abbrev pub member_tree : Located WrittenTerm → Integer → ℕ → Formula
member_tree l i k = member l i k

-- the other way round
pub compared_back : (c : Bool) (l : Located WrittenTerm) (op : Op) (r : Located WrittenTerm) (ms us : Tokens) → Fitting c (FitsTerm r.item) → Takes (op_part op ∷ placed_text r) ms us → TestText (raw_term l) c (raw_form (compared_tree l op r)) ms us
compared_back c l op r [] us fit s = absurd s
compared_back c l op r (t ∷ ms) us fit s = inr (inr (op, (s.0, always (Unit {0}) c tt), (raw_term r, refl, record { item = r; means = refl; fits = fit; spelled = s.1 })))

pub differing_back : (c : Bool) (l r : Located WrittenTerm) (ms us : Tokens) → Fitting c (FitsTerm r.item) → Takes (any (symbol_token Differs) ∷ placed_text r) ms us → TestText (raw_term l) c (raw_form (differing_tree l r)) ms us
differing_back c l r [] us fit s = absurd s
differing_back c l r (t ∷ ms) us fit s = inr (inl (s.0, (raw_term r, refl, record { item = r; means = refl; fits = fit; spelled = s.1 })))

pub member_back : (c : Bool) (l : Located WrittenTerm) (i : Integer) (k : ℕ) (ms us : Tokens) → Fitting c (i.size ≤ greatest_number) → Fitting c (IsWrittenPeriod k) → Takes (any (word_token In) ∷ (integer_text i ++ any (symbol_token Plus) ∷ any (number_token k) ∷ any (word_token Letter) ∷ [])) ms us → TestText (raw_term l) c (raw_form (member_tree l i k)) ms us
member_back c l i k [] us fi fk s = absurd s
member_back c l i k (t ∷ ms) us fi fk s =
    let n = takes_split (integer_text i) (any (symbol_token Plus) ∷ any (number_token k) ∷ any (word_token Letter) ∷ []) ms us s.1 in
    inl (s.0, (i, n.0, (fi, n.1), rest n.0 n.2))
  where
    rest : (ks : Tokens) → Takes (any (symbol_token Plus) ∷ any (number_token k) ∷ any (word_token Letter) ∷ []) ks us → SymbolText (symbol_token Plus) (After number_part IsWrittenPeriod (λ k. SymbolText (word_token Letter) (Nothing (raw_member l.place (raw_term l) (point_of i k))))) c (raw_form (member_tree l i k)) ks us
    rest [] h = absurd h
    rest (x ∷ []) h = absurd h.1
    rest (x ∷ y ∷ []) h = absurd h.1.1
    rest (x ∷ y ∷ z ∷ ks) h = (tt, (h.0, always (Unit {0}) c tt), (k, (h.1.0, fk), (tt, (h.1.1.0, always (Unit {0}) c tt), (refl, h.1.1.1))))

-- ---- atoms

-- written arguments of an atom
pub record Given (c : Bool) (vs : List RawTerm) (ts us : Tokens) : Type 0 where
  pub items : List (Located (WrittenArgument wide))
  pub means : vs ≡ map raw_argument items
  pub fits : Fitting c (AllByRecursion (λ a. FitsArgument a.item) items)
  pub spelled : Takes (separated comma (located_text argument_text) items) ts us

some_given : (c : Bool) (v : RawTerm) (vs : List RawTerm) (ts us : Tokens) → Separated (ArgumentText c) (symbol_token Comma) (v ∷ vs) ts us → (x : Located (WrittenArgument wide)) × (xs : List (Located (WrittenArgument wide))) × (v ∷ vs ≡ map raw_argument (x ∷ xs)) × Fitting c (AllByRecursion (λ a. FitsArgument a.item) (x ∷ xs)) × Takes (separated comma (located_text argument_text) (x ∷ xs)) ts us
some_given c v [] ts us a = (a.item, [], ap (λ x. x ∷ []) a.means, fitting (FitsArgument a.item.item) (Unit {0}) c a.fits (always (Unit {0}) c tt), a.spelled)
some_given c v (w ∷ vs) ts us ([], a, m) = absurd m
some_given c v (w ∷ vs) ts us (t ∷ ks, a, (is, rest)) =
    let r = some_given c w vs ks us rest in
    (a.item, r.0 ∷ r.1, ap (λ x. x ∷ w ∷ vs) a.means ∙ ap (λ xs. raw_argument a.item ∷ xs) r.2, fitting (FitsArgument a.item.item) (AllByRecursion (λ a. FitsArgument a.item) (r.0 ∷ r.1)) c a.fits r.3, takes_join (located_text argument_text a.item) (comma ∷ separated comma (located_text argument_text) (r.0 ∷ r.1)) ts (t ∷ ks) us a.spelled (is, r.4))

pub given_there : (c : Bool) (vs : List RawTerm) (ts us : Tokens) → Arguments c vs ts us → Given c vs ts us
given_there c [] ts us e = record { items = []; means = refl; fits = always (Unit {0}) c tt; spelled = e }
given_there c (v ∷ vs) ts us s = let r = some_given c v vs ts us s in record { items = r.0 ∷ r.1; means = r.2; fits = r.3; spelled = r.4 }

abbrev AllFit : List (Located (WrittenArgument wide)) → Type 0
AllFit = AllByRecursion (λ a. FitsArgument a.item)

pub given_back : (c : Bool) (items : List (Located (WrittenArgument wide))) (ts us : Tokens) → Fitting c (AllByRecursion (λ a. FitsArgument a.item) items) → Takes (separated comma (located_text argument_text) items) ts us → Arguments c (map raw_argument items) ts us
given_back c [] ts us f s = s
given_back c (x ∷ []) ts us f s = record { item = x; means = refl; fits = fits_as (AllFit (x ∷ [])) (FitsArgument x.item) c (λ h. h.0) f; spelled = s }
given_back c (x ∷ y ∷ xs) ts us f s =
    let k = takes_split (located_text argument_text x) (comma ∷ separated comma (located_text argument_text) (y ∷ xs)) ts us s in
    (k.0, record { item = x; means = refl; fits = fits_as (AllFit (x ∷ y ∷ xs)) (FitsArgument x.item) c (λ h. h.0) f; spelled = k.1 }, after_part (symbol_token Comma) (separated comma (located_text argument_text) (y ∷ xs)) (λ ns. Separated (ArgumentText c) (symbol_token Comma) (map raw_argument (y ∷ xs)) ns us) k.0 us k.2 (λ ns h. given_back c (y ∷ xs) ns us (fits_as (AllFit (x ∷ y ∷ xs)) (AllFit (y ∷ xs)) c (λ a. a.1) f) h))

-- ---- after a name

abbrev AtomText : Identifier → Place → Language RawForm
AtomText n p = Then Arguments (λ xs. CloseText (raw_atom p n xs))

abbrev pub PlainText : Identifier → Place → Language RawForm
PlainText n p = Eats (symbol_token Open) (AtomText n p) (Then (Named n) (λ k. TestText (term_of p k)))

close_stops : (n : Identifier) (p : Place) (xs : List RawTerm) (c : Bool) (v : RawForm) (ms left : Tokens) → CloseText (raw_atom p n xs) c v ms left → NoShift left → ClosesArguments ms
close_stops n p xs c v [] left t g = absurd t
close_stops n p xs c v (u ∷ ms) left t g = (((ap (is_symbol_token Plus) t.1.0, ap (is_symbol_token Minus) t.1.0), ap (is_symbol_token Comma) t.1.0), ap (is_symbol_token Close) t.1.0)

op_no_plus : (op : Op) → is_symbol_token Plus (symbol_token (op_symbol op)) ≡ false
op_no_plus Le = refl
op_no_plus Lt = refl
op_no_plus Ge = refl
op_no_plus Gt = refl
op_no_plus Eq = refl

op_no_minus : (op : Op) → is_symbol_token Minus (symbol_token (op_symbol op)) ≡ false
op_no_minus Le = refl
op_no_minus Lt = refl
op_no_minus Ge = refl
op_no_minus Gt = refl
op_no_minus Eq = refl

op_no_open : (op : Op) → is_symbol_token Open (symbol_token (op_symbol op)) ≡ false
op_no_open Le = refl
op_no_open Lt = refl
op_no_open Ge = refl
op_no_open Gt = refl
op_no_open Eq = refl

test_shift : (l : RawTerm) (c : Bool) (v : RawForm) (ms left : Tokens) → TestText l c v ms left → NoShift ms
test_shift l c v ms left t = (test_first (is_symbol_token Plus) refl refl op_no_plus l c v ms left t, test_first (is_symbol_token Minus) refl refl op_no_minus l c v ms left t)

-- what nothing after a name begins with but a parenthesis
after_first : (test : Token → Bool) → test (symbol_token Plus) ≡ false → test (symbol_token Minus) ≡ false → test (word_token In) ≡ false → test (symbol_token Differs) ≡ false → ((op : Op) → test (symbol_token (op_symbol op)) ≡ false) → (n : Identifier) (p : Place) (c : Bool) (v : RawForm) (ts left : Tokens) → Then (Named n) (λ k. TestText (term_of p k)) c v ts left → IsNot (λ t. test t.token) ts
after_first test plus minus inside differs op n p c v ts left (k, ms, (unmoved, e, s), t) = subst (IsNot (λ t. test t.token)) (sym s.1) (test_first test inside differs op (term_of p k) c v ms left t)
after_first test plus minus inside differs op n p c v ts left (k, ms, (moved_by true j, e, s), t) = first_is_not test (symbol_token Minus) (any (number_token j) ∷ []) ts ms minus s.1
after_first test plus minus inside differs op n p c v ts left (k, ms, (moved_by false j, e, s), t) = first_is_not test (symbol_token Plus) (any (number_token j) ∷ []) ts ms plus s.1

-- no name follows
pub plain_no_name : (n : Identifier) (p : Place) (c : Bool) (v : RawForm) (ts left : Tokens) → PlainText n p c v ts left → NoShift left → IsNot is_name ts
plain_no_name n p c v [] left (inl t) g = absurd t
plain_no_name n p c v (u ∷ ts) left (inl t) g = ap is_name_token t.0
plain_no_name n p c v ts left (inr t) g = after_first is_name_token refl refl refl refl (λ op. refl) n p c v ts left t

pub plain_rule : (size : ℕ) (n : Identifier) (p : Place) → Rule size true NoShift (PlainText n p) (λ c. after_name true (cutting c) size n p)
unfolding after_name atom_terms
plain_rule size n p =
    eat_rule (λ opens c. if opens then atom_terms true (cutting c) size n p else (named_term raw_terms n >>= (λ k. tested true (cutting c) (term_of p k)))) (symbol_kind Open) (omega arith)
    (sooner_rule true (bind_rule (λ xs c. expect Close >>= (λ u. pure (raw_atom p n xs))) (arguments_rule size) (λ xs. token_rule (λ u c. pure (raw_atom p n xs)) (symbol_rule Close) (λ u. pure_rule size false NoShift (raw_atom p n xs))) (close_stops n p)))
    (bind_rule (λ k c. tested true (cutting c) (term_of p k)) (named_rule size n) (λ k. test_rule size (term_of p k)) (λ k c v ms left t g. test_shift (term_of p k) c v ms left t))
    (λ c v ts left t g. after_first (is_symbol_token Open) refl refl refl refl op_no_open n p c v ts left t)
