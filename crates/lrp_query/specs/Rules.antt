-- The grammar of queries, as parsers.
use Rattle.std.specs.Prelude.{ℕ, zero, suc, pos, nat_le, ◌==◌, Bool, true, false, ◌-◌, length, map, List, [], ◌∷◌, ◌++◌, Result, Ok, Err, if◌then◌else◌}
use Rattle.lrp_model.specs.Texts.{Identifier}
use Rattle.lrp_model.specs.declared.tokens.Symbol.TheVariants.{Open, Close, OpenBrace, CloseBrace, Comma, Colon, Semicolon, Bar, Plus, Minus, Le as le_sign, Ge as ge_sign, Lt as lt_sign, Gt as gt_sign, Equals, Star, Differs}
use Rattle.lrp_model.specs.declared.tokens.Word.TheVariants.{Letter, Exists, Forall, Not, And, Or, Implies, In}
use Rattle.lrp_model.specs.declared.tokens.Place.{Place}
use Rattle.lrp_model.specs.declared.tokens.Fault.{Fault}
use Rattle.lrp_model.specs.declared.tokens.Fault.TheVariants.{Syntax, Number, Deep}
use Rattle.lrp_model.specs.declared.written.Integer.{Integer}
use Rattle.lrp_model.specs.declared.formulas.Op.{Op}
use Rattle.lrp_model.specs.declared.formulas.Op.TheVariants.{Le, Lt, Ge, Gt, Eq}
use Rattle.lrp_model.specs.declared.relations.RowPoint.{RowPoint}
use Rattle.lrp_model.specs.declared.raw.RawColumn.{RawColumn}
use Rattle.lrp_model.specs.declared.raw.RawTerm.{RawTerm}
use Rattle.lrp_model.specs.declared.raw.RawTermKind.{RawTermKind}
use Rattle.lrp_model.specs.Tokens.{Token, Placed}
use Rattle.lrp_model.specs.Tokens.Token.{name_token, word_token, number_token, text_token, symbol_token, hole_token}
use Rattle.lrp_model.specs.DatabaseMeaning.{integer_of}
use Rattle.lrp_model.specs.Queries.{WrittenTerm, define_word, as_word}
use Rattle.lrp_model.specs.declared.relations.Sort.{Sort}
use Rattle.lrp_model.specs.Queries.WrittenTerm.{integer as integer_term, text_term, variable, shifted}
use Rattle.lrp_model.specs.QueryMeaning.{term_kind, star_name}
use Rattle.lrp_model.specs.RawQueries.{RawForm, RawForms, raw_atom, raw_compare, raw_member, raw_not, raw_and, raw_or, raw_implies, raw_group, raw_exists, raw_forall, no_raws, raw, place_of, raw_at}
use Rattle.lrp_text.specs.Parsers.{Parser, ◌>>=◌, ◌>>◌, pure, fail, accept, look, eat, listed, separated_from}
use Rattle.lrp_text.specs.Taking.{is_symbol, is_word, is_text, is_name, is_token_named, expect, expect_named, expect_word, expect_end, name, number, period, text, here}
use Rattle.lrp_text.specs.ColumnRule.{column, sort}
use Rattle.lrp_text.specs.IntegerRule.{integer}
use Rattle.lrp_text.specs.OffsetRule.{Offset, unmoved, moved_by, offset}
use Rattle.lrp_query.specs.declared.starts.Start.{Start}
use Rattle.lrp_query.specs.declared.starts.Start.TheVariants.{Not as by_not, Exists as by_exists, Forall as by_forall, Open as by_open, Name as by_name, Term as by_term}

-- ---- what the parsers make

-- how terms are put together
pub record TermTrees (K T : Type 0) : Type 0 where
  pub kind_of : WrittenTerm → K
  pub term_at : Place → K → T

-- how formulas are put together, over terms and others
pub record FormulaTrees (T F : Type 0) : Type 0 where
  pub atom_of : Place → Identifier → List T → F
  pub comparison : T → Op → T → F
  pub difference : T → T → F
  pub membership : T → Integer → ℕ → F
  pub negation : Place → F → F
  pub conjunction : Place → List F → F
  pub disjunction : Place → List F → F
  pub implication : Place → F → F → F
  pub parenthesis : Place → F → F
  pub existential : Place → RawColumn → F → F
  pub universal : Place → RawColumn → F → F
  -- the place of a formula's first token, and the same formula at another place
  pub place_of : F → Place
  pub at_place : Place → F → F

-- a definition that is read
pub record Definition (F : Type 0) : Type 0 where
  pub name : Identifier
  pub place : Place
  pub columns : List RawColumn
  pub body : F

-- how what is read is put together, from the terms to the query; `cut` says what a token gives where a formula would be too deep
pub record Trees (K T F Q : Type 0) : Type 0 where
  pub terms : TermTrees K T
  pub formulas : FormulaTrees T F
  pub cut : Placed → Result F Fault
  pub question : List RawColumn → F → Q

-- which of two faults stands at a number where a formula is too deep
abbrev pub deep_or_number : Bool → Fault
deep_or_number true = Deep
deep_or_number false = Number

-- the fault where a formula would be too deep: a number above the limit, else the depth; syntax where no formula begins
abbrev pub too_deep : Token → Fault
too_deep (number_token n) = deep_or_number (nat_le n 4611686018427387904)
too_deep (name_token n) = Deep
too_deep (text_token t) = Deep
too_deep (word_token Not) = Deep
too_deep (word_token Exists) = Deep
too_deep (word_token Forall) = Deep
too_deep (symbol_token Open) = Deep
too_deep (symbol_token Minus) = Deep
too_deep _ = Syntax

-- a hole alone stands for a formula that is too deep
abbrev pub cut_at : {F : Type 0} → F → Token → Result F Fault
cut_at f hole_token = Ok f
cut_at f t = Err (too_deep t)

-- raw terms, and what atoms have in place of one
abbrev pub raw_terms : TermTrees RawTermKind RawTerm
raw_terms = record { kind_of = term_kind; term_at = λ p k. record { kind = k; place = p } }

-- the point of a written offset and a period
abbrev pub point_of : Integer → ℕ → RowPoint
point_of i k = record { offset = integer_of i; period = pos k }

-- the raw formulas of a list
abbrev pub raws : List RawForm → RawForms
raws [] = no_raws
raws (f ∷ fs) = raw f (raws fs)

-- the raw formula that the tree means
abbrev pub raw_formulas : FormulaTrees RawTerm RawForm
raw_formulas = record {
  atom_of = raw_atom;
  comparison = λ l op r. raw_compare l.place l op r;
  difference = λ l r. raw_not l.place (raw_compare l.place l Eq r);
  membership = λ t i k. raw_member t.place t (point_of i k);
  negation = raw_not;
  conjunction = λ p fs. raw_and p (raws fs);
  disjunction = λ p fs. raw_or p (raws fs);
  implication = raw_implies;
  parenthesis = raw_group;
  existential = raw_exists;
  universal = raw_forall;
  place_of = place_of;
  at_place = raw_at;
}

-- ---- terms

-- a name, alone or with an offset
abbrev pub with_offset : Identifier → Offset → WrittenTerm
with_offset n unmoved = variable n
with_offset n (moved_by down k) = shifted n down k

-- a name that was read, alone or with an offset
unfoldable pub named_term : {K T : Type 0} → TermTrees K T → Identifier → Parser K
named_term make n = do
  o ← offset
  pure (make.kind_of (with_offset n o))

-- a text or an integer
unfoldable pub unnamed_term : {K T : Type 0} → TermTrees K T → Parser K
unnamed_term make = do
  text_next ← look false is_text
  if text_next then (do
    t ← text
    pure (make.kind_of (text_term t))) else (do
      i ← integer
      pure (make.kind_of (integer_term i)))

-- a term without its place
unfoldable pub bare_term : {K T : Type 0} → TermTrees K T → Parser K
bare_term make = do
  name_next ← look false is_name
  if name_next then (do
    n ← name
    named_term make n.0) else unnamed_term make

-- a term and its place
unfoldable pub term : {K T : Type 0} → TermTrees K T → Parser T
term make = do
  p ← here
  k ← bare_term make
  pure (make.term_at p k)

-- a `*`, which is a term by its own name, or a term
unfoldable pub star_or_term : {K T : Type 0} → TermTrees K T → Parser T
star_or_term make = do
  p ← here
  star ← eat (is_symbol Star)
  if star then pure (make.term_at p (make.kind_of (variable star_name))) else term make

-- what an atom has for a column: where the flag is set a `*` too
abbrev pub argument : {K T : Type 0} → Bool → TermTrees K T → Parser T
argument false make = term make
argument true make = star_or_term make

-- ---- formulas without others inside

-- the comparison that a symbol stands for
abbrev pub op_of : Token → Result Op Fault
op_of (symbol_token le_sign) = Ok Le
op_of (symbol_token lt_sign) = Ok Lt
op_of (symbol_token ge_sign) = Ok Ge
op_of (symbol_token gt_sign) = Ok Gt
op_of (symbol_token Equals) = Ok Eq
op_of _ = Err Syntax

-- a point, after a term and `in`
unfoldable pub point : {K T F Q : Type 0} → Trees K T F Q → T → Parser F
point make left = do
  i ← integer
  expect Plus
  k ← period
  expect_word Letter
  pure (make.formulas.membership left i k)

-- a comparison and its right side, after a term
unfoldable pub comparing : {K T F Q : Type 0} → Trees K T F Q → T → Parser F
comparing make left = do
  op ← accept (λ t. op_of t.token)
  right ← term make.terms
  pure (make.formulas.comparison left op right)

-- a `!=` and its right side, after a term: a comparison that is denied at the term's place
unfoldable pub differing : {K T F Q : Type 0} → Trees K T F Q → T → Parser F
differing make left = do
  right ← term make.terms
  pure (make.formulas.difference left right)

-- what stands after the first term of a comparison or an `in`; where the flag is set a `!=` too
unfoldable pub tested : {K T F Q : Type 0} → Bool → Trees K T F Q → T → Parser F
tested false make left = do
  inside ← eat (is_word In)
  if inside then point make left else comparing make left
tested true make left = do
  inside ← eat (is_word In)
  if inside then point make left else (do
    differs ← eat (is_symbol Differs)
    if differs then differing make left else comparing make left)

-- the terms of an atom, after its name and its parenthesis
unfoldable pub atom_terms : {K T F Q : Type 0} → Bool → Trees K T F Q → ℕ → Identifier → Place → Parser F
atom_terms wide make turns n p = do
  ts ← listed (argument wide make.terms) (is_symbol Comma) (is_symbol Close) turns
  expect Close
  pure (make.formulas.atom_of p n ts)

-- after a name that begins a formula: an atom where a parenthesis follows, and else a term
unfoldable pub after_name : {K T F Q : Type 0} → Bool → Trees K T F Q → ℕ → Identifier → Place → Parser F
after_name wide make turns n p = do
  opens ← eat (is_symbol Open)
  if opens then atom_terms wide make turns n p else (do
    k ← named_term make.terms n
    tested wide make (make.terms.term_at p k))

-- a formula that begins with a name, and what stands after it
unfoldable pub named : {F : Type 0} → (Identifier → Place → Parser F) → Parser F
named after = do
  n ← name
  after n.0 n.1

-- a formula that begins with a term other than a name, at its place
unfoldable pub unnamed : {K T F Q : Type 0} → Bool → Trees K T F Q → Place → Parser F
unnamed wide make p = do
  k ← unnamed_term make.terms
  tested wide make (make.terms.term_at p k)

-- ---- formulas over others

-- the formula that `not` denies
unfoldable pub negated : {K T F Q : Type 0} → Trees K T F Q → Parser F → Place → Parser F
negated make inner p = do
  expect_word Not
  f ← inner
  pure (make.formulas.negation p f)

-- a binder and its formula, after `exists`
unfoldable pub existing : {K T F Q : Type 0} → Trees K T F Q → Parser F → Place → Parser F
existing make inner p = do
  expect_word Exists
  c ← column
  f ← inner
  pure (make.formulas.existential p c f)

-- a binder and its formula, after `forall`
unfoldable pub holding : {K T F Q : Type 0} → Trees K T F Q → Parser F → Place → Parser F
holding make inner p = do
  expect_word Forall
  c ← column
  f ← inner
  pure (make.formulas.universal p c f)

-- what stands after `implies`
unfoldable pub implying : {K T F Q : Type 0} → Trees K T F Q → Parser F → Place → F → Parser F
implying make inner p f = do
  g ← inner
  expect Close
  pure (make.formulas.implication p f g)

-- the members after the first `and`
unfoldable pub conjoined : {K T F Q : Type 0} → Trees K T F Q → Parser F → ℕ → Place → F → Parser F
conjoined make inner turns p f = do
  fs ← separated_from inner (is_word And) turns (f ∷ [])
  expect Close
  pure (make.formulas.conjunction p fs)

-- the members after the first `or`
unfoldable pub disjoined : {K T F Q : Type 0} → Trees K T F Q → Parser F → ℕ → Place → F → Parser F
disjoined make inner turns p f = do
  fs ← separated_from inner (is_word Or) turns (f ∷ [])
  expect Close
  pure (make.formulas.disjunction p fs)

-- the end of a formula alone in parentheses
abbrev pub alone : {K T F Q : Type 0} → Trees K T F Q → Place → F → Parser F
alone make p f = do
  expect Close
  pure (make.formulas.parenthesis p f)

-- what stands after a parenthesis and a formula
unfoldable pub after_first : {K T F Q : Type 0} → Trees K T F Q → Parser F → ℕ → Place → F → Parser F
after_first make inner turns p f = do
  implies ← eat (is_word Implies)
  if implies then implying make inner p f else (do
    ands ← eat (is_word And)
    if ands then conjoined make inner turns p f else (do
      ors ← eat (is_word Or)
      if ors then disjoined make inner turns p f else alone make p f))

-- formulas in parentheses
unfoldable pub enclosed : {K T F Q : Type 0} → Trees K T F Q → Parser F → ℕ → Place → Parser F
enclosed make inner turns p = do
  expect Open
  f ← inner
  after_first make inner turns p f

-- ---- formulas without parentheses

-- a formula, and whether it is an `and`, `or` or `implies` that has no parentheses of its own
pub record Joined (F : Type 0) : Type 0 where
  pub formula : F
  pub bare : Bool

-- the members of a list without parentheses, at the first token
abbrev pub bare_list : {K T F Q : Type 0} → Trees K T F Q → (Place → List F → F) → F → List F → Joined F
bare_list make list f fs = record { formula = list (make.formulas.place_of f) fs; bare = true }

-- one formula, or several with `and` between
unfoldable pub both : {K T F Q : Type 0} → Trees K T F Q → Parser F → ℕ → Parser (Joined F)
both make inner turns = do
  f ← inner
  ands ← eat (is_word And)
  if ands then (do
    fs ← separated_from inner (is_word And) turns (f ∷ [])
    pure (bare_list make make.formulas.conjunction f fs)) else pure (record { formula = f; bare = false })

-- a member of an `or`, which has no place of its own
abbrev pub member_of : {F : Type 0} → Parser (Joined F) → Parser F
member_of p = do
  j ← p
  pure j.formula

-- one of these, or several with `or` between
unfoldable pub either : {K T F Q : Type 0} → Trees K T F Q → Parser F → ℕ → Parser (Joined F)
either make inner turns = do
  j ← both make inner turns
  ors ← eat (is_word Or)
  if ors then (do
    fs ← separated_from (member_of (both make inner turns)) (is_word Or) turns (j.formula ∷ [])
    pure (bare_list make make.formulas.disjunction j.formula fs)) else pure j

-- the last formula of a chain, after which no other one may stand, since it would be too deep
unfoldable pub last_link : {K T F Q : Type 0} → Trees K T F Q → F → Joined F → Parser F
last_link make f j = do
  further ← look false (is_word Implies)
  if further then fail Deep else pure (make.formulas.implication (make.formulas.place_of f) f j.formula)

-- what a formula implies in turn, after an `implies`; `inner` is the parser of the formulas of each depth
unfoldable pub chained : {K T F Q : Type 0} → Trees K T F Q → (ℕ → Parser F) → ℕ → ℕ → F → Parser F
chained make inner depth zero f = fail Syntax
chained make inner depth (suc turns) f = do
  j ← either make (inner depth) turns
  if depth == 0 then last_link make f j else (do
    further ← eat (is_word Implies)
    if further then (do
      g ← chained make inner (depth - 1) turns j.formula
      pure (make.formulas.implication (make.formulas.place_of f) f g)) else pure (make.formulas.implication (make.formulas.place_of f) f j.formula))

-- one of these, or what it implies after it
unfoldable pub whole : {K T F Q : Type 0} → Trees K T F Q → (ℕ → Parser F) → ℕ → ℕ → Parser (Joined F)
whole make inner depth turns = do
  j ← either make (inner depth) turns
  implies ← eat (is_word Implies)
  if implies then (do
    f ← chained make inner depth turns j.formula
    pure (record { formula = f; bare = true })) else pure j

-- in parentheses: a list or an implication has their place, and one formula alone is a group
abbrev pub closed : {K T F Q : Type 0} → Trees K T F Q → Place → Joined F → F
closed make p j = if j.bare then make.formulas.at_place p j.formula else make.formulas.parenthesis p j.formula

-- after the parenthesis
unfoldable pub closed_whole : {K T F Q : Type 0} → Trees K T F Q → Parser (Joined F) → Place → Parser F
closed_whole make inner p = do
  j ← inner
  expect Close
  pure (closed make p j)

unfoldable pub enclosed_whole : {K T F Q : Type 0} → Trees K T F Q → (ℕ → Parser F) → ℕ → ℕ → Place → Parser F
enclosed_whole make inner depth turns p = do
  expect Open
  closed_whole make (whole make inner depth turns) p

-- ---- quantifiers of several names

-- the names of a quantifier, after those found
abbrev pub names_from : ℕ → List (Identifier × Place) → Parser (List (Identifier × Place))
names_from turns found = separated_from name (is_symbol Comma) turns found

-- a name of a quantifier, with the sort that all of its names have
abbrev pub column_at : Sort × Place → Identifier × Place → RawColumn
column_at s n = record { name = n.0; place = n.1; sort = s.0; sort_place = s.1 }

-- quantifiers of these names over a formula, the first outermost
abbrev pub each_bound : {F : Type 0} → (Place → RawColumn → F → F) → Place → List RawColumn → F → F
each_bound bind p [] f = f
each_bound bind p (c ∷ cs) f = bind p c (each_bound bind p cs f)

-- the binders of a quantifier, after its word
unfoldable pub binders_rule : ℕ → Parser (List RawColumn)
binders_rule turns = do
  ns ← names_from turns []
  expect Colon
  s ← sort
  pure (map (column_at s) ns)

-- a quantifier after its word; each of its names counts for the depth, one of them already
unfoldable pub quantified : {F : Type 0} → (Place → RawColumn → F → F) → (ℕ → Parser F) → ℕ → ℕ → Place → Parser F
quantified bind inner depth turns p = do
  cs ← binders_rule turns
  f ← inner (depth - (length cs - 1))
  pure (each_bound bind p cs f)

-- ---- formulas

-- how a formula begins
abbrev pub start_of : Token → Start
start_of (word_token Not) = by_not
start_of (word_token Exists) = by_exists
start_of (word_token Forall) = by_forall
start_of (symbol_token Open) = by_open
start_of (name_token n) = by_name
start_of _ = by_term

-- whether a token is a hole
abbrev pub is_hole_token : Token → Bool
is_hole_token hole_token = true
is_hole_token _ = false

-- a formula that begins so, with others inside that are read so, and what stands after a name
abbrev pub started : {K T F Q : Type 0} → Trees K T F Q → (Identifier → Place → Parser F) → Parser F → ℕ → Place → Start → Parser F
started make after inner turns p by_not = negated make inner p
started make after inner turns p by_exists = existing make inner p
started make after inner turns p by_forall = holding make inner p
started make after inner turns p by_open = enclosed make inner turns p
started make after inner turns p by_name = named after
started make after inner turns p by_term = unnamed false make p

-- the same by its first token; a hole stands for none
unfoldable pub formula_over : {K T F Q : Type 0} → Trees K T F Q → (Identifier → Place → Parser F) → Parser F → ℕ → Parser F
formula_over make after inner turns = do
  is_hole ← look false (λ t. is_hole_token t.token)
  if is_hole then fail Deep else (do
    p ← here
    s ← look by_term (λ t. start_of t.token)
    started make after inner turns p s)

-- the same of the wide language, where `inner` reads the formulas of each depth, and the number is the depth of those inside
abbrev pub started_wide : {K T F Q : Type 0} → Trees K T F Q → (Identifier → Place → Parser F) → (ℕ → Parser F) → ℕ → ℕ → Place → Start → Parser F
started_wide make after inner depth turns p by_not = negated make (inner depth) p
started_wide make after inner depth turns p by_exists = expect_word Exists >> quantified make.formulas.existential inner depth turns p
started_wide make after inner depth turns p by_forall = expect_word Forall >> quantified make.formulas.universal inner depth turns p
started_wide make after inner depth turns p by_open = enclosed_whole make inner depth turns p
started_wide make after inner depth turns p by_name = named after
started_wide make after inner depth turns p by_term = unnamed true make p

unfoldable pub wide_formula_over : {K T F Q : Type 0} → Trees K T F Q → (Identifier → Place → Parser F) → (ℕ → Parser F) → ℕ → ℕ → Parser F
wide_formula_over make after inner depth turns = do
  is_hole ← look false (λ t. is_hole_token t.token)
  if is_hole then fail Deep else (do
    p ← here
    s ← look by_term (λ t. start_of t.token)
    started_wide make after inner depth turns p s)

-- what a grammar has after a name that begins a formula, from the parser of the formulas inside and a bound on the turns of each list
abbrev pub AfterName : Type 0 → Type 0
AfterName F = Parser F → ℕ → Identifier → Place → Parser F

-- a formula of at most this depth; the second number bounds the turns of each list
unfoldable pub formula_with : {K T F Q : Type 0} → Trees K T F Q → AfterName F → ℕ → ℕ → Parser F
formula_with make after zero turns = accept make.cut
formula_with make after (suc depth) turns = formula_over make (after (formula_with make after depth turns) turns) (formula_with make after depth turns) turns

-- a query whose formula is read so, and then the end
unfoldable pub query_over : {K T F Q : Type 0} → Trees K T F Q → Parser F → ℕ → Parser Q
query_over make inner turns = do
  expect OpenBrace
  cs ← listed column (is_symbol Comma) (is_symbol Bar) turns
  expect Bar
  f ← inner
  expect CloseBrace
  expect_end
  pure (make.question cs f)

-- a query of such formulas
unfoldable pub query_with : {K T F Q : Type 0} → Trees K T F Q → AfterName F → ℕ → Parser Q
query_with make after turns = query_over make (formula_with make after 64 turns) turns

-- after a name nothing stands but an atom or a term
abbrev pub plainly : {K T F Q : Type 0} → Trees K T F Q → AfterName F
plainly make inner turns = after_name false make turns

-- ---- the wide language

-- the same of the wide language, from the parsers of a formula that stands alone and of any formula
abbrev pub WideAfterName : Type 0 → Type 0
WideAfterName F = Parser F → Parser F → ℕ → Identifier → Place → Parser F

-- the parsers of formulas of each depth up to one: those of smaller depths are its parts, by more than one level where a chain or a quantifier goes down
unfoldable pub wide_up_to : {K T F Q : Type 0} → Trees K T F Q → WideAfterName F → ℕ → ℕ → ℕ → Parser F
wide_up_to make after turns zero depth = accept make.cut
wide_up_to make after turns (suc most) depth =
    let inner = wide_up_to make after turns most in
    if depth == suc most then wide_formula_over make (after (inner most) (member_of (whole make inner most turns)) turns) inner most turns else inner depth

-- a formula that stands alone, of at most this depth; the second number bounds the turns of each list
abbrev pub wide_formula_with : {K T F Q : Type 0} → Trees K T F Q → WideAfterName F → ℕ → ℕ → Parser F
wide_formula_with make after depth turns = wide_up_to make after turns depth depth

-- any formula, as the body of a query or a definition
abbrev pub wide_whole_with : {K T F Q : Type 0} → Trees K T F Q → WideAfterName F → ℕ → Parser F
wide_whole_with make after turns = member_of (whole make (λ depth. wide_formula_with make after depth turns) 64 turns)

-- a query
abbrev pub wide_query_with : {K T F Q : Type 0} → Trees K T F Q → WideAfterName F → ℕ → Parser Q
wide_query_with make after turns = query_over make (wide_whole_with make after turns) turns

-- a definition
unfoldable pub definition_with : {K T F Q : Type 0} → Trees K T F Q → WideAfterName F → ℕ → Parser (Definition F)
definition_with make after turns = do
  expect_named define_word
  n ← name
  expect Open
  cs ← listed column (is_symbol Comma) (is_symbol Close) turns
  expect Close
  expect_named as_word
  f ← wide_whole_with make after turns
  expect Semicolon
  pure (record { name = n.0; place = n.1; columns = cs; body = f })

-- those that come first, after those found
unfoldable pub definitions_from : {K T F Q : Type 0} → Trees K T F Q → WideAfterName F → ℕ → ℕ → List (Definition F) → Parser (List (Definition F))
definitions_from make after zero turns found = fail Syntax
definitions_from make after (suc n) turns found = do
  defines ← look false (is_token_named define_word)
  if defines then (do
    d ← definition_with make after turns
    definitions_from make after n turns (found ++ d ∷ [])) else pure found

-- the definitions and the query of a file
unfoldable pub file_with : {K T F Q : Type 0} → Trees K T F Q → WideAfterName F → ℕ → Parser (List (Definition F) × Q)
file_with make after turns = do
  ds ← definitions_from make after turns turns []
  q ← wide_query_with make after turns
  pure (ds, q)
