-- What is read of formulas of each depth in the wide language.
use Rattle.std.proofs.Common.{◌≡◌, ◌≢◌, ◌⊎◌, inl, inr, ◌≤◌, ◌<◌, ◌==◌, ℕ, zero, suc, Bool, true, false, List, [], ◌∷◌, ◌++◌, length, refl, ap, sym, ◌∙◌, subst, Ok, Err, nat_le, if◌then◌else◌, arith}
use Rattle.std.proofs.lemmas.Bool.{eqb-true, ne_eqb, eq-eqb}
use borrow.Author.Tests.{leb-false}
use Rattle.lrp_model.specs.declared.tokens.Symbol.TheVariants.{Open, Close, Minus, Colon, Equals}
use Rattle.lrp_model.specs.declared.tokens.Word.TheVariants.{Exists, Forall, Not, Time as time_word}
use Rattle.lrp_model.specs.declared.tokens.Fault.{Fault}
use Rattle.lrp_model.specs.declared.tokens.Fault.TheVariants.{Syntax, Deep}
use Rattle.lrp_model.specs.declared.tokens.Place.{Place}
use Rattle.lrp_model.specs.declared.formulas.Op.TheVariants.{Eq}
use Rattle.lrp_model.specs.declared.relations.Sort.TheVariants.{Time as time_sort}
use Rattle.lrp_model.specs.declared.raw.RawColumn.{RawColumn}
use Rattle.lrp_model.specs.declared.written.Located.{Located}
use Rattle.lrp_model.specs.Lexing.{start}
use Rattle.lrp_model.specs.Limits.{greatest_number}
use Rattle.lrp_model.specs.Tokens.{Token, Placed, Tokens, Part, Takes, Spells, from}
use Rattle.lrp_model.specs.Tokens.Token.{name_token, word_token, number_token, text_token, symbol_token, end_token, bad_token, hole_token}
use Rattle.lrp_model.specs.Tokens.Part.{any}
use Rattle.lrp_model.specs.Databases.{sign}
use Rattle.lrp_model.specs.Refused.{Stops, Through, GoesThrough}
use Rattle.lrp_model.specs.Queries.{WrittenTerm, term_text, op_symbol, formula_text, looseness, IsOrdered, FitsDepth}
use Rattle.lrp_model.specs.Queries.Language.{wide}
use Rattle.lrp_model.specs.Queries.WrittenTerm.{integer as integer_term, text_term, variable, shifted}
use Rattle.lrp_model.specs.Queries.Quantifier.{existential, universal}
use Rattle.lrp_model.specs.Queries.WrittenFormula.{atom_formula, compared, member, denied, all_of, any_of, implied, group, some, every, ranged, paired, differing, several, bare_all, bare_any, bare_chain, chain, hole}
use Rattle.lrp_model.specs.QueryMeaning.{raw_form}
use Rattle.lrp_model.specs.RawQueries.{RawForm, raw_or, no_raws}
use Rattle.lrp_text.specs.Parsers.{ParseOutcome, Parser, ◌>>=◌, fail, accept, taken, look}
use Rattle.lrp_text.specs.Taking.{here}
use Rattle.lrp_text.proofs.Complete.{Answers}
use Rattle.lrp_text.proofs.Sound.{accept_ok}
use Rattle.lrp_text.proofs.Viable.{at_once, after_front, always, spells_join}
use Rattle.lrp_text.proofs.Local.{Local, bind_local, accept_local, look_local, fail_local, if_local}
use Rattle.lrp_text.proofs.OffsetRule.{NoShift}
use Rattle.lrp_query.specs.declared.starts.Start.{Start}
use Rattle.lrp_query.specs.declared.starts.Start.TheVariants.{Term as by_term}
use Rattle.lrp_query.specs.Rules.{member_of, whole, start_of, is_hole_token, too_deep, deep_or_number, cut_at, started_wide, wide_formula_over, wide_up_to, WideAfterName}
use Rattle.lrp_query.specs.OperatorRules.{with_wide_operators}
use Rattle.lrp_query.specs.Grammars.{operators_in}
use Rattle.lrp_query.proofs.Languages.{FitsAt}
use Rattle.lrp_query.proofs.TermRules.{placed_text}
use Rattle.lrp_query.proofs.TestRules.{symbol_at, zero_term, zero_tokens}
use Rattle.lrp_query.proofs.Shown.{cut_told}
use Rattle.lrp_query.proofs.WideTold.{Cut, Told, refused, Tells, cut_tells, look_tells, none_tells, first_tells}
use Rattle.lrp_query.proofs.WideRule.{holes, Texts, Rule, alike_rule, sooner_rule, fit_if}
use Rattle.lrp_query.proofs.WideTerms.{Begins}
use Rattle.lrp_query.proofs.WideWritten.{Formula, FormulaText, wrote_front}
use Rattle.lrp_query.proofs.WideLevels.{cutting}
use Rattle.lrp_query.proofs.WideStarts.{StartText, after_of, start_rule, Started, start_there, NotHole, start_back}

-- ---- how formulas begin

-- a token that begins one
abbrev pub IsStart : Token → Type 0
IsStart (name_token n) = Unit {0}
IsStart (number_token n) = Unit {0}
IsStart (text_token t) = Unit {0}
IsStart (word_token Not) = Unit {0}
IsStart (word_token Exists) = Unit {0}
IsStart (word_token Forall) = Unit {0}
IsStart (symbol_token Open) = Unit {0}
IsStart (symbol_token Minus) = Unit {0}
IsStart _ = ⊥

start_real : (k : Token) → IsStart k → is_hole_token k ≡ false
start_real hole_token s = absurd s
start_real (name_token n) s = refl
start_real (number_token n) s = refl
start_real (text_token t) s = refl
start_real (word_token w) s = refl
start_real (symbol_token y) s = refl
start_real end_token s = refl
start_real bad_token s = refl

number_kind : (b : Bool) → deep_or_number b ≢ Syntax
number_kind true e = absurd cc
number_kind false e = absurd cc

start_kind : (k : Token) → IsStart k → too_deep k ≢ Syntax
start_kind (name_token n) s e = absurd cc
start_kind (number_token n) s e = number_kind (nat_le n 4611686018427387904) e
start_kind (text_token t) s e = absurd cc
start_kind (word_token Not) s e = absurd cc
start_kind (word_token Exists) s e = absurd cc
start_kind (word_token Forall) s e = absurd cc
start_kind (symbol_token Open) s e = absurd cc
start_kind (symbol_token Minus) s e = absurd cc
start_kind _ s e = absurd s

integer_begins : (p : Place) (negative : Bool) (n : ℕ) (ps : List Part) (t : Placed) (ts us : Tokens) → Takes (from p (sign negative ++ any (number_token n) ∷ []) ++ ps) (t ∷ ts) us → IsStart t.token
integer_begins p true n ps t ts us s = subst IsStart (sym s.0.0) tt
integer_begins p false n ps t ts us s = subst IsStart (sym s.0.0) tt

side_begins : (p : Place) (item : WrittenTerm) (ps : List Part) (t : Placed) (ts us : Tokens) → Takes (from p (term_text item) ++ ps) (t ∷ ts) us → IsStart t.token
side_begins p (integer_term i) ps t ts us s = integer_begins p i.negative i.size ps t ts us s
side_begins p (variable n) ps t ts us s = subst IsStart (sym s.0.0) tt
side_begins p (shifted n down k) ps t ts us s = subst IsStart (sym s.0.0) tt
side_begins p (text_term x) ps t ts us s = subst IsStart (sym s.0.0) tt

-- a hole, or a formula that has a depth and begins with such a token
pub begins : (w : Formula) → looseness w ≤ 0 → (t : Placed) (ts us : Tokens) → Takes (formula_text w) (t ∷ ts) us → ((p : Place) × (w ≡ hole p) × (t.token ≡ hole_token)) ⊎ (IsStart t.token × NotHole w × (FitsDepth w 0 → ⊥))
begins (hole p) low t ts us s = inl (p, refl, s.0.0)
begins (bare_all x f fs) low t ts us s = absurd (omega (arith, low))
begins (bare_any x f fs) low t ts us s = absurd (omega (arith, low))
begins (bare_chain x f fs) low t ts us s = absurd (omega (arith, low))
begins (atom_formula p n xs) low t ts us s = inr (subst IsStart (sym s.0.0) tt, tt, λ h. h)
begins (compared l op r) low t ts us s = inr (side_begins l.place l.item (any (symbol_token (op_symbol op)) ∷ placed_text r) t ts us s, tt, λ h. h)
begins (differing x l r) low t ts us s = inr (side_begins l.place l.item _ t ts us s, tt, λ h. h)
begins (member l i k) low t ts us s = inr (side_begins l.place l.item _ t ts us s, tt, λ h. h)
begins (denied p f) low t ts us s = inr (subst IsStart (sym s.0.0) tt, tt, λ h. h)
begins (all_of p f fs) low t ts us s = inr (subst IsStart (sym s.0.0) tt, tt, λ h. h)
begins (any_of p f fs) low t ts us s = inr (subst IsStart (sym s.0.0) tt, tt, λ h. h)
begins (implied p f g) low t ts us s = inr (subst IsStart (sym s.0.0) tt, tt, λ h. h)
begins (chain x p f g fs) low t ts us s = inr (subst IsStart (sym s.0.0) tt, tt, λ h. h)
begins (group p f) low t ts us s = inr (subst IsStart (sym s.0.0) tt, tt, λ h. h)
begins (some p b f) low t ts us s = inr (subst IsStart (sym s.0.0) tt, tt, λ h. h)
begins (every p b f) low t ts us s = inr (subst IsStart (sym s.0.0) tt, tt, λ h. h)
begins (several x existential p ns b f) low t ts us s = inr (subst IsStart (sym s.0.0) tt, tt, λ h. h)
begins (several x universal p ns b f) low t ts us s = inr (subst IsStart (sym s.0.0) tt, tt, λ h. h)
begins (ranged x word o a b f) low t ts us s = inr (subst IsStart (sym s.0.0) tt, tt, λ h. h)
begins (paired x word o f g) low t ts us s = inr (subst IsStart (sym s.0.0) tt, tt, λ h. h)

side_some : (p : Place) (item : WrittenTerm) (ps : List Part) (us : Tokens) → Takes (from p (term_text item) ++ ps) [] us → ⊥
side_some p (integer_term i) ps us s = by i.negative s
  where
    by : (negative : Bool) → Takes (from p (sign negative ++ any (number_token i.size) ∷ []) ++ ps) [] us → ⊥
    by true s = s
    by false s = s
side_some p (variable n) ps us s = s
side_some p (shifted n down k) ps us s = s
side_some p (text_term x) ps us s = s

-- none is spelled by no token
pub some_tokens : (w : Formula) → looseness w ≤ 0 → (us : Tokens) → Takes (formula_text w) [] us → ⊥
some_tokens (hole p) low us s = s
some_tokens (bare_all x f fs) low us s = absurd (omega (arith, low))
some_tokens (bare_any x f fs) low us s = absurd (omega (arith, low))
some_tokens (bare_chain x f fs) low us s = absurd (omega (arith, low))
some_tokens (atom_formula p n xs) low us s = s
some_tokens (compared l op r) low us s = side_some l.place l.item (any (symbol_token (op_symbol op)) ∷ placed_text r) us s
some_tokens (differing x l r) low us s = side_some l.place l.item _ us s
some_tokens (member l i k) low us s = side_some l.place l.item _ us s
some_tokens (denied p f) low us s = s
some_tokens (all_of p f fs) low us s = s
some_tokens (any_of p f fs) low us s = s
some_tokens (implied p f g) low us s = s
some_tokens (chain x p f g fs) low us s = s
some_tokens (group p f) low us s = s
some_tokens (some p b f) low us s = s
some_tokens (every p b f) low us s = s
some_tokens (several x q p ns b f) low us s = s
some_tokens (ranged x word o a b f) low us s = s
some_tokens (paired x word o f g) low us s = s

is_hole : (k : Token) → is_hole_token k ≡ true → k ≡ hole_token
is_hole hole_token h = refl
is_hole _ h = absurd cc

both_holes : (k : Token) → is_hole_token k ≡ true → is_hole_token k ≡ false → ⊥
both_holes k h n = let e : true ≡ false = sym h ∙ n in absurd cc

wrote_weaker : (d : ℕ) (c : Bool) (v : RawForm) (ts us : Tokens) → FormulaText d true v ts us → FormulaText d c v ts us
wrote_weaker d c v ts us w = record { tree = w.tree; tight = w.tight; ordered = w.ordered; means = w.means; fits = always (FitsAt d w.tree) c w.fits; spelled = w.spelled }

-- a hole as a formula
abbrev hole_tree : Place → Formula
hole_tree p = hole p

abbrev hole_at : Place → Placed
hole_at p = record { token = hole_token; place = p }

hole_unfit : (d : ℕ) (p : Place) → FitsAt (suc d) (hole_tree p) → ⊥
hole_unfit d p h = h.1

hole_text : (d : ℕ) (t : Placed) → is_hole_token t.token ≡ true → FormulaText d false (raw_form (hole_tree t.place)) (t ∷ []) []
hole_text d t is = record { tree = hole t.place; tight = omega arith; ordered = tt; means = refl; fits = tt; spelled = ((is_hole t.token is, refl), refl) }

-- ---- where no depth is left

cut_is : (f g : RawForm) (k : Token) → cut_at f k ≡ Ok g → (k ≡ hole_token) × (f ≡ g)
cut_is f g hole_token e = (refl, cc)
cut_is f g (name_token n) e = absurd cc
cut_is f g (word_token w) e = absurd cc
cut_is f g (number_token n) e = absurd cc
cut_is f g (text_token t) e = absurd cc
cut_is f g (symbol_token s) e = absurd cc
cut_is f g end_token e = absurd cc
cut_is f g bad_token e = absurd cc

cut_sound : (ts : Tokens) (q : RawForm × Tokens) → accept holes ts ≡ Ok q → FormulaText 0 true q.0 ts q.1
cut_sound ts q e =
    let k = accept_ok holes ts q e in
    let is = cut_is (raw_or k.t.place no_raws) q.0 k.t.token k.told in
    subst (λ x. FormulaText 0 true q.0 x q.1) (sym k.whole) (record { tree = hole k.t.place; tight = omega arith; ordered = tt; means = sym is.1; fits = (tt, tt); spelled = ((is.0, refl), refl) })

hole_read : (p : Place) (t : Placed) (ts : Tokens) → t.token ≡ hole_token → t.place ≡ p → accept holes (t ∷ ts) ≡ Ok (raw_form (hole_tree p), ts)
unfolding accept
hole_read p t ts is same = rw (is, same) refl

real_refused : (t : Placed) (ts : Tokens) → is_hole_token t.token ≡ false → accept holes (t ∷ ts) ≡ Err (too_deep t.token, t ∷ ts)
unfolding accept
real_refused t ts real = ap (λ r. taken r t ts) (cut_told (raw_or t.place no_raws) t.token real)

cut_answers : (c : Bool) (v : RawForm) (ts left : Tokens) → FormulaText 0 c v ts left → Answers (accept holes ts) v left (c ≡ true)
cut_answers c v [] left w = absurd (some_tokens w.tree w.tight left w.spelled)
cut_answers c v (t ∷ ts) left w = elim (begins w.tree w.tight t ts left w.spelled) [
  | inl h ↦
      let s : Takes (formula_text (hole_tree h.0)) (t ∷ ts) left = subst (λ (f : Formula). Takes (formula_text f) (t ∷ ts) left) h.1 w.spelled in
      inl (hole_read h.0 t ts s.0.0 s.0.1 ∙ ap (λ x. Ok (raw_form (hole_tree h.0), x)) s.1 ∙ ap (λ x. Ok (x, left)) (sym (w.means ∙ ap (λ (f : Formula). raw_form f) h.1)))
  | inr r ↦ inr (record { unlawful = λ e. r.2 (fit_if (FitsAt 0 w.tree) c w.fits e).1; fault = (too_deep t.token, t ∷ ts); is = real_refused t ts (start_real t.token r.0); kind = start_kind t.token r.0 })
]

-- `= 0`
abbrev equals_zero : Tokens
equals_zero = symbol_at Equals ∷ zero_tokens

abbrev zero_is_zero : Tokens
zero_is_zero = record { token = number_token 0; place = start } ∷ equals_zero

abbrev zero_equal : Formula
zero_equal = compared zero_term Eq zero_term

zero_spelled : Spells (formula_text zero_equal) zero_is_zero
zero_spelled = ((refl, refl), (refl, ((refl, refl), refl)))

abbrev some_binder : RawColumn
some_binder = record { name = []; place = start; sort = time_sort; sort_place = start }

abbrev bound_tokens : Tokens
bound_tokens = record { token = name_token []; place = start } ∷ symbol_at Colon ∷ record { token = word_token time_word; place = start } ∷ zero_is_zero

abbrev Cuts : Bool → Tokens → Type 0
Cuts = Texts (FormulaText 0)

cut_through : (t : Placed) (us : Tokens) (fault : Fault) → Through (Cuts false) [] fault (t ∷ us) → Stops Cuts (t ∷ us) (fault, t ∷ us)
cut_through t us fault through = record { front = []; whole = refl; more = hole_at start ∷ []; begins = (raw_form (hole_tree start), record { tree = hole start; tight = omega arith; ordered = tt; means = refl; fits = (tt, tt); spelled = ((refl, refl), refl) }); through = through }

-- a text begins with the token
deep_at : (t : Placed) (us more : Tokens) (w : Formula) → looseness w ≤ 0 → IsOrdered w → Spells (formula_text w) (t ∷ more) → GoesThrough (Cuts false) Deep [] (t ∷ us)
deep_at t us more w low o s = record { token = t; cause = tt; tail = us; at = refl; more = more; begins = (raw_form w, record { tree = w; tight = low; ordered = o; means = refl; fits = tt; spelled = s }) }

abbrev left_of : Place → WrittenTerm → Located WrittenTerm
left_of p item = record { place = p; item = item }

number_through : (n : ℕ) (p : Place) (us : Tokens) (b : Bool) → nat_le n 4611686018427387904 ≡ b → Through (Cuts false) [] (deep_or_number b) (record { token = number_token n; place = p } ∷ us)
number_through n p us true e = deep_at (record { token = number_token n; place = p }) us equals_zero (compared (left_of p (integer_term (record { negative = false; size = n }))) Eq zero_term) (omega arith) tt ((refl, refl), (refl, ((refl, refl), refl)))
number_through n p us false e = record { token = record { token = number_token n; place = p }; cause = leb-false n greatest_number e; tail = us; at = refl; more = equals_zero; begins = (raw_form (number_tree p n), record { tree = number_tree p n; tight = omega arith; ordered = tt; means = refl; fits = tt; spelled = ((refl, refl), (refl, ((refl, refl), refl))) }) }
  where
    number_tree : Place → ℕ → Formula
    number_tree p n = compared (left_of p (integer_term (record { negative = false; size = n }))) Eq zero_term

token_through : (k : Token) (p : Place) (us : Tokens) → is_hole_token k ≡ false → Through (Cuts false) [] (too_deep k) (record { token = k; place = p } ∷ us)
token_through hole_token p us real = absurd cc
token_through (number_token n) p us real = number_through n p us (nat_le n 4611686018427387904) refl
token_through (name_token n) p us real = deep_at (record { token = name_token n; place = p }) us equals_zero (compared (left_of p (variable n)) Eq zero_term) (omega arith) tt ((refl, refl), (refl, ((refl, refl), refl)))
token_through (text_token t) p us real = deep_at (record { token = text_token t; place = p }) us equals_zero (compared (left_of p (text_term t)) Eq zero_term) (omega arith) tt ((refl, refl), (refl, ((refl, refl), refl)))
token_through (word_token Not) p us real = deep_at (record { token = word_token Not; place = p }) us zero_is_zero (denied p zero_equal) (omega arith) (omega arith, tt) ((refl, refl), zero_spelled)
token_through (word_token Exists) p us real = deep_at (record { token = word_token Exists; place = p }) us bound_tokens (some p some_binder zero_equal) (omega arith) (omega arith, tt) ((refl, refl), ((refl, refl), (refl, ((refl, refl), zero_spelled))))
token_through (word_token Forall) p us real = deep_at (record { token = word_token Forall; place = p }) us bound_tokens (every p some_binder zero_equal) (omega arith) (omega arith, tt) ((refl, refl), ((refl, refl), (refl, ((refl, refl), zero_spelled))))
token_through (symbol_token Open) p us real = deep_at (record { token = symbol_token Open; place = p }) us (zero_is_zero ++ symbol_at Close ∷ []) (group p zero_equal) (omega arith) (omega arith, tt) ((refl, refl), spells_join (formula_text zero_equal) (any (symbol_token Close) ∷ []) zero_is_zero (symbol_at Close ∷ []) zero_spelled (refl, refl))
token_through (symbol_token Minus) p us real = deep_at (record { token = symbol_token Minus; place = p }) us zero_is_zero (compared (left_of p (integer_term (record { negative = true; size = 0 }))) Eq zero_term) (omega arith) tt ((refl, refl), (refl, (refl, ((refl, refl), refl))))
token_through _ p us real = tt

never_both : (o : ParseOutcome RawForm) (q : RawForm × Tokens) (e : Fault × Tokens) → o ≡ Ok q → o ≡ Err e → ⊥
never_both o q e a b = let h : ◌≡◌ {A = ParseOutcome RawForm} (Ok q) (Err e) = sym a ∙ b in absurd cc

one_fault : (o : ParseOutcome RawForm) (d e : Fault × Tokens) → o ≡ Err d → o ≡ Err e → d ≡ e
one_fault o d e a b = let h : ◌≡◌ {A = ParseOutcome RawForm} (Err d) (Err e) = sym a ∙ b in cc

cut_viable : (ts : Tokens) (e : Fault × Tokens) → accept holes ts ≡ Err e → Stops Cuts ts e
unfolding accept
cut_viable [] e h = let k : (Syntax, []) ≡ e = cc in subst (λ x. Stops Cuts [] x) k (at_once Cuts [] (hole_at start ∷ []) (raw_form (hole_tree start), record { tree = hole start; tight = omega arith; ordered = tt; means = refl; fits = (tt, tt); spelled = ((refl, refl), refl) }))
cut_viable (t ∷ us) e h = by (is_hole_token t.token) refl
  where
    by : (b : Bool) → is_hole_token t.token ≡ b → Stops Cuts (t ∷ us) e
    by true is =
        absurd (never_both (accept holes (t ∷ us)) (raw_form (hole_tree t.place), us) e (hole_read t.place t us (is_hole t.token is) refl) h)
    by false is =
        let l : (too_deep t.token, t ∷ us) ≡ e = one_fault (accept holes (t ∷ us)) (too_deep t.token, t ∷ us) e (real_refused t us is) h in
        subst (λ x. Stops Cuts (t ∷ us) x) l (cut_through t us (too_deep t.token) (token_through t.token t.place us is))

pub cut_rule : (size : ℕ) → Rule size false NoShift (FormulaText 0) (λ c. accept c)
cut_rule size = record {
  weaker = wrote_weaker 0;
  front = wrote_front raw_form 0 0;
  sound = cut_sound;
  complete = λ c v ts left lt w g. cut_answers c v ts left w;
  value = raw_form (hole_tree start);
  tokens = hole_at start ∷ [];
  some = record { tree = hole start; tight = omega arith; ordered = tt; means = refl; fits = (tt, tt); spelled = ((refl, refl), refl) };
  viable = λ ts e lt h. cut_viable ts e h;
  local = λ c. accept_local c;
  told = cut_tells;
}

-- ---- where some depth is left

module _ (size most d : ℕ) (low : d ≤ most) (inner : Cut → ℕ → Parser RawForm) (at_zero : (c : Cut) → inner c 0 ≡ accept c) (rules : (d : ℕ) → d ≤ most → Rule size false NoShift (FormulaText d) (λ c. inner c d)) where
  abbrev over : Cut → Parser RawForm
  over c = wide_formula_over (cutting c) (after_of size most d low inner at_zero rules c) (inner c) d size

  abbrev started : Place → Start → Cut → Parser RawForm
  started p s c = started_wide (cutting c) (after_of size most d low inner at_zero rules c) (inner c) d size p s

  abbrev body : Cut → Parser RawForm
  body c = here >>= (λ p. look by_term (λ t. start_of t.token) >>= (λ s. started p s c))

  abbrev rule_of : (p : Place) (s : Start) → Rule size true NoShift (StartText d p s) (started p s)
  rule_of p s = start_rule size most d low inner at_zero rules p s

  wrote : (p : Place) (c : Bool) (v : RawForm) (ts us : Tokens) → Started d p c v ts us → Begins p ts → FormulaText (suc d) c v ts us
  wrote p c v ts us x b = record { tree = x.tree; tight = x.tight; ordered = x.ordered; means = x.means b; fits = x.fits; spelled = x.spelled }

  some_of : (p : Place) (s : Start) (c : Bool) (x : Tokens) → Texts (StartText d p s) c x → Texts (FormulaText (suc d)) c x
  some_of p s c x t = let y = start_there d p s c t.0 x [] t.1 in (raw_form y.tree, record { tree = y.tree; tight = y.tight; ordered = y.ordered; means = refl; fits = y.fits; spelled = y.spelled })

  -- a hole or not
  sounds : (t : Placed) (ts : Tokens) (b : Bool) (q : RawForm × Tokens) → (if b then fail Deep else body holes) (t ∷ ts) ≡ Ok q → FormulaText (suc d) true q.0 (t ∷ ts) q.1
  unfolding look
  sounds t ts true q e = absurd cc
  sounds t ts false q e = wrote t.place true q.0 (t ∷ ts) q.1 (start_there d t.place (start_of t.token) true q.0 (t ∷ ts) q.1 ((rule_of t.place (start_of t.token)).sound (t ∷ ts) q e)) refl

  over_sound : (ts : Tokens) (q : RawForm × Tokens) → over holes ts ≡ Ok q → FormulaText (suc d) true q.0 ts q.1
  unfolding wide_formula_over look
  over_sound [] q e = let x = start_there d start by_term true q.0 [] q.1 ((rule_of start by_term).sound [] q e) in absurd (some_tokens x.tree x.tight q.1 x.spelled)
  over_sound (t ∷ ts) q e = sounds t ts (is_hole_token t.token) q e

  real_answers : (c : Bool) (v : RawForm) (t : Placed) (ts left : Tokens) → length (t ∷ ts) < size → (w : FormulaText (suc d) c v (t ∷ ts) left) → NotHole w.tree → NoShift left → Answers (body holes (t ∷ ts)) v left (c ≡ true)
  unfolding look
  real_answers c v t ts left lt w real g = subst (λ x. Answers (started t.place (start_of t.token) holes (t ∷ ts)) x left (c ≡ true)) (sym w.means) ((rule_of t.place (start_of t.token)).complete c (raw_form w.tree) (t ∷ ts) left lt (start_back d c w.tree t ts left real w.tight w.ordered w.fits w.spelled) g)

  answers_at : (c : Bool) (v : RawForm) (t : Placed) (ts left : Tokens) (b : Bool) → is_hole_token t.token ≡ b → length (t ∷ ts) < size → FormulaText (suc d) c v (t ∷ ts) left → NoShift left → Answers ((if b then fail Deep else body holes) (t ∷ ts)) v left (c ≡ true)
  answers_at c v t ts left true is lt w g = elim (begins w.tree w.tight t ts left w.spelled) [
    | inl h ↦ inr (record { unlawful = λ e. hole_unfit d h.0 (subst (λ (f : Formula). FitsAt (suc d) f) h.1 (fit_if (FitsAt (suc d) w.tree) c w.fits e)); fault = (Deep, t ∷ ts); is = refl; kind = λ e. absurd cc })
    | inr r ↦ absurd (both_holes t.token is (start_real t.token r.0))
  ]
  answers_at c v t ts left false is lt w g = elim (begins w.tree w.tight t ts left w.spelled) [
    | inl h ↦ absurd (both_holes t.token (ap is_hole_token h.2) is)
    | inr r ↦ real_answers c v t ts left lt w r.1 g
  ]

  over_answers : (c : Bool) (v : RawForm) (ts left : Tokens) → length ts < size → FormulaText (suc d) c v ts left → NoShift left → Answers (over holes ts) v left (c ≡ true)
  unfolding wide_formula_over look
  over_answers c v [] left lt w g = absurd (some_tokens w.tree w.tight left w.spelled)
  over_answers c v (t ∷ ts) left lt w g = answers_at c v t ts left (is_hole_token t.token) refl lt w g

  abbrev a_start : Rule size true NoShift (StartText d start by_term) (started start by_term)
  a_start = rule_of start by_term

  abbrev a_tree : Started d start true a_start.value a_start.tokens []
  a_tree = start_there d start by_term true a_start.value a_start.tokens [] a_start.some

  a_text : FormulaText (suc d) true (raw_form a_tree.tree) a_start.tokens []
  a_text = record { tree = a_tree.tree; tight = a_tree.tight; ordered = a_tree.ordered; means = refl; fits = a_tree.fits; spelled = a_tree.spelled }

  stops_at : (t : Placed) (ts : Tokens) (e : Fault × Tokens) (b : Bool) → is_hole_token t.token ≡ b → length (t ∷ ts) < size → (if b then fail Deep else body holes) (t ∷ ts) ≡ Err e → Stops (Texts (FormulaText (suc d))) (t ∷ ts) e
  unfolding look
  stops_at t ts e true is lt h =
      let k : (Deep, t ∷ ts) ≡ e = cc in
      subst (λ x. Stops (Texts (FormulaText (suc d))) (t ∷ ts) x) k (record { front = []; whole = refl; more = a_start.tokens; begins = (raw_form a_tree.tree, a_text); through = record { token = t; cause = tt; tail = ts; at = refl; more = []; begins = (raw_form (hole_tree t.place), hole_text (suc d) t is) } })
  stops_at t ts e false is lt h = after_front (Texts (StartText d t.place (start_of t.token))) (Texts (FormulaText (suc d))) [] (t ∷ ts) (t ∷ ts) e refl (some_of t.place (start_of t.token)) ((rule_of t.place (start_of t.token)).viable (t ∷ ts) e lt h)

  over_viable : (ts : Tokens) (e : Fault × Tokens) → length ts < size → over holes ts ≡ Err e → Stops (Texts (FormulaText (suc d))) ts e
  unfolding wide_formula_over look
  over_viable [] e lt h = after_front (Texts (StartText d start by_term)) (Texts (FormulaText (suc d))) [] [] [] e refl (some_of start by_term) ((rule_of start by_term).viable [] e lt h)
  over_viable (t ∷ ts) e lt h = stops_at t ts e (is_hole_token t.token) refl lt h

  over_local : (c : Cut) → Local (over c)
  unfolding wide_formula_over
  over_local c =
      bind_local (look false (λ t. is_hole_token t.token)) (λ b. if b then fail Deep else body c) (look_local false (λ t. is_hole_token t.token)) (λ b.
      if_local b (fail Deep) (body c) (fail_local Deep)
      (bind_local here (λ p. look by_term (λ t. start_of t.token) >>= (λ s. started p s c)) (look_local start (λ t. t.place)) (λ p.
      bind_local (look by_term (λ t. start_of t.token)) (λ s. started p s c) (look_local by_term (λ t. start_of t.token)) (λ s. (rule_of p s).local c))))

  body_tells : Tells true body
  body_tells = look_tells start (λ t. t.place) (λ p c. look by_term (λ t. start_of t.token) >>= (λ s. started p s c)) (λ p. look_tells by_term (λ t. start_of t.token) (λ s c. started p s c) (λ s. (rule_of p s).told))

  told_at : (t : Placed) (ts : Tokens) (b : Bool) → is_hole_token t.token ≡ b → Told true over (t ∷ ts)
  unfolding wide_formula_over look
  told_at t ts true is = refused Deep (t ∷ ts) (λ e n. both_holes t.token is n.0) (λ c. ap (λ b. (if b then fail Deep else body c) (t ∷ ts)) is)
  told_at t ts false is = first_tells over body t ts (λ c us. ap (λ b. (if b then fail Deep else body c) (t ∷ us)) is) body_tells

  over_told : Tells true over
  unfolding wide_formula_over look
  over_told [] = none_tells over body (λ c. refl) body_tells
  over_told (t ∷ ts) = told_at t ts (is_hole_token t.token) refl

  pub over_rule : Rule size true NoShift (FormulaText (suc d)) over
  over_rule = record {
    weaker = wrote_weaker (suc d);
    front = wrote_front raw_form 0 (suc d);
    sound = over_sound;
    complete = over_answers;
    value = raw_form a_tree.tree;
    tokens = a_start.tokens;
    some = a_text;
    viable = over_viable;
    local = over_local;
    told = over_told;
  }

-- ---- each depth

-- after a name
abbrev pub after_cut : Cut → WideAfterName RawForm
after_cut c = with_wide_operators (cutting c) (operators_in wide)

-- the parsers up to a depth
abbrev pub up_to : ℕ → ℕ → Cut → ℕ → Parser RawForm
up_to size most c depth = wide_up_to (cutting c) (after_cut c) size most depth

abbrev deepest : ℕ → ℕ → Cut → Parser RawForm
deepest size most c = wide_formula_over (cutting c) (after_cut c (up_to size most c most) (member_of (whole (cutting c) (up_to size most c) most size)) size) (up_to size most c) most size

pub up_to_zero : (size most : ℕ) (c : Cut) → up_to size most c 0 ≡ accept c
unfolding wide_up_to
up_to_zero size zero c = refl
up_to_zero size (suc most) c =
    let none : (0 == suc most) ≡ false = ne_eqb 0 (suc most) (λ e. absurd (omega (arith, e))) in
    ap (λ b. if b then deepest size most c else up_to size most c 0) none ∙ up_to_zero size most c

-- the parser of a depth among those up to one more
next_rule : (size most depth : ℕ) → depth ≤ suc most → ((d : ℕ) → d ≤ most → Rule size false NoShift (FormulaText d) (λ c. up_to size most c d)) → (b : Bool) → (depth == suc most) ≡ b → Rule size false NoShift (FormulaText depth) (λ c. up_to size (suc most) c depth)
unfolding wide_up_to
next_rule size most depth low below true is =
    alike_rule (λ c. up_to size (suc most) c depth) (λ c ts. ap (λ b. (if b then deepest size most c else up_to size most c depth) ts) is)
    (subst (λ k. Rule size false NoShift (FormulaText k) (deepest size most)) (sym (eqb-true depth (suc most) is)) (sooner_rule true (over_rule size most most (omega arith) (up_to size most) (up_to_zero size most) below)))
next_rule size most depth low below false other =
    let apart : depth ≢ suc most = λ e. let h : true ≡ false = sym (eq-eqb depth (suc most) e) ∙ other in absurd cc in
    let less : depth ≤ most = omega (arith, low, apart) in
    alike_rule (λ c. up_to size (suc most) c depth) (λ c ts. ap (λ b. (if b then deepest size most c else up_to size most c depth) ts) other) (below depth less)

pub up_to_rule : (size most depth : ℕ) → depth ≤ most → Rule size false NoShift (FormulaText depth) (λ c. up_to size most c depth)
unfolding wide_up_to
up_to_rule size zero depth low = subst (λ k. Rule size false NoShift (FormulaText k) (λ c. accept c)) (omega (arith, low)) (cut_rule size)
up_to_rule size (suc most) depth low = next_rule size most depth low (up_to_rule size most) (depth == suc most) refl
