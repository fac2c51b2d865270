-- The parts that spell a tree of each grammar: the last is the end, and others follow the tokens of the others.
use Rattle.std.proofs.Common.{◌≡◌, ◌∙◌, refl, sym, subst, Bool, true, false, List, [], ◌∷◌, ◌++◌}
use Rattle.std.specs.List.{AllByRecursion, flat_map}
use Rattle.lrp_model.proofs.Logic.{all_append}
use Rattle.lrp_model.specs.Texts.{Identifier}
use Rattle.lrp_model.specs.declared.tokens.Place.{Place}
use Rattle.lrp_model.specs.declared.tokens.Word.{Word}
use Rattle.lrp_model.specs.declared.tokens.Word.TheVariants.{And, Or, Implies, Letter}
use Rattle.lrp_model.specs.declared.tokens.Symbol.TheVariants.{Close, OpenBrace, CloseBrace, Comma, Semicolon, Bar, Plus}
use Rattle.lrp_model.specs.declared.relations.Sort.{Sort}
use Rattle.lrp_model.specs.declared.relations.Sort.TheVariants.{Time, Data, Named}
use Rattle.lrp_model.specs.declared.raw.RawColumn.{RawColumn}
use Rattle.lrp_model.specs.declared.written.Located.{Located}
use Rattle.lrp_model.specs.declared.written.Integer.{Integer}
use Rattle.lrp_model.specs.declared.written.WrittenValue.{WrittenValue}
use Rattle.lrp_model.specs.declared.written.WrittenValue.TheVariants.{Constant, Instant, Point}
use Rattle.lrp_model.specs.declared.written.Side.{Side}
use Rattle.lrp_model.specs.declared.written.Side.TheVariants.{Alone, Column, Shifted}
use Rattle.lrp_model.specs.declared.written.RawBound.{RawBound}
use Rattle.lrp_model.specs.declared.written.RawRow.{RawRow}
use Rattle.lrp_model.specs.declared.written.RawRelation.{RawRelation}
use Rattle.lrp_model.specs.Tokens.{Placed, Tokens, Part, IsPart, Takes, Spells, separated, from, located_text}
use Rattle.lrp_model.specs.Tokens.Token.{name_token, word_token, number_token, symbol_token, end_token}
use Rattle.lrp_model.specs.Tokens.Part.{at, any}
use Rattle.lrp_model.specs.Columns.{column_text, sort_token}
use Rattle.lrp_model.specs.Databases.{sign, integer_text, value_text, name_part, side_text, bound_text, bounds_text, row_text, relation_text, database_text, comma}
use Rattle.lrp_model.specs.Queries.{Language, WrittenTerm, WrittenArgument, WrittenFormula, FurtherMembers, WrittenQuery, WrittenDefinition, WrittenFile, term_text, argument_text, interval_text, names_text, formula_text, members_text, definition_text, query_text, file_text, as_word}
use Rattle.lrp_model.specs.Queries.WrittenTerm.{integer, text_term, variable, shifted}
use Rattle.lrp_model.specs.Queries.WrittenArgument.{argument, star}
use Rattle.lrp_model.specs.Queries.WrittenFormula.{atom_formula, compared, member, denied, all_of, any_of, implied, group, some, every, ranged, paired, differing, several, bare_all, bare_any, bare_chain, chain, hole}
use Rattle.lrp_model.specs.Queries.FurtherMembers.{last, more}
use Rattle.lrp_text.specs.Sources.{HasTokensAfter}
use Rattle.lrp_edits.specs.declared.edits.RawEdit.{RawEdit}
use Rattle.lrp_edits.specs.EditTexts.{change_part, edit_text, edits_text}
use Rattle.lrp_reading_laws.proofs.LastTokens.{AllGo, IsClosed}

-- ---- inner parts

-- a part whose token others follow
abbrev IsInner : Part → Type 0
IsInner (at p k) = HasTokensAfter k
IsInner (any k) = HasTokensAfter k

abbrev Inner : List Part → Type 0
Inner = AllByRecursion IsInner

joined : (ps qs : List Part) → Inner ps → Inner qs → Inner (ps ++ qs)
joined ps qs one two = (all_append IsInner ps qs).1 (one, two)

-- all but the last, which is the end
abbrev pub EndsText : List Part → Type 0
EndsText [] = ⊥
EndsText (p ∷ []) = p ≡ any end_token
EndsText (p ∷ q ∷ ps) = IsInner p × EndsText (q ∷ ps)

one_more : (p : Part) (ps : List Part) → IsInner p → EndsText ps → EndsText (p ∷ ps)
one_more p [] one rest = absurd rest
one_more p (q ∷ ps) one rest = (one, rest)

before : (ps qs : List Part) → Inner ps → EndsText qs → EndsText (ps ++ qs)
before [] qs all rest = rest
before (p ∷ ps) qs all rest = one_more p (ps ++ qs) all.0 (before ps qs all.1 rest)

-- others follow the token of an inner part
token_goes : (p : Part) (t : Placed) → IsInner p → IsPart p t → HasTokensAfter t.token
token_goes (at q k) t inner is = subst HasTokensAfter (sym is.0) inner
token_goes (any k) t inner is = subst HasTokensAfter (sym is) inner

-- so they follow all tokens that are spelled before another one
pub goes_before : (ps : List Part) (ts : Tokens) (m : Placed) (ms : Tokens) → EndsText ps → Spells ps (ts ++ m ∷ ms) → AllGo ts
goes_before ps [] m ms inner spelled = tt
goes_before [] (t ∷ ts) m ms inner spelled = absurd inner
goes_before (p ∷ []) (t ∷ []) m ms inner spelled = absurd (let e = spelled.1 in cc)
goes_before (p ∷ []) (t ∷ u ∷ ts) m ms inner spelled = absurd (let e = spelled.1 in cc)
goes_before (p ∷ q ∷ ps) (t ∷ ts) m ms inner spelled = (token_goes p t inner.0 spelled.0, goes_before (q ∷ ps) ts m ms inner.1 spelled.1)

-- a last part is the end
last_is : (p : Part) (t : Placed) → p ≡ any end_token → IsPart p t → t.token ≡ end_token
last_is p t e is = subst (λ q. IsPart q t) e is

-- and where nothing follows the end they are all tokens
pub takes_all : (ps : List Part) (ts left : Tokens) → EndsText ps → Takes ps ts left → IsClosed ts → left ≡ []
takes_all [] ts left inner taken closed = absurd inner
takes_all (p ∷ ps) [] left inner taken closed = absurd taken
takes_all (p ∷ []) (t ∷ ts) left inner taken closed = sym taken.1 ∙ closed.0 (last_is p t inner taken.0)
takes_all (p ∷ q ∷ ps) (t ∷ ts) left inner taken closed = takes_all (q ∷ ps) ts left inner.1 taken.1 closed.1

-- ---- lists, places

from_inner : (p : Place) (ps : List Part) → Inner ps → Inner (from p ps)
from_inner p [] all = tt
from_inner p (any k ∷ ps) all = all
from_inner p (at q k ∷ ps) all = all

located_inner : {A : Type 0} (spell : A → List Part) → ((a : A) → Inner (spell a)) → (l : Located A) → Inner (located_text spell l)
located_inner spell each l = from_inner l.place (spell l.item) (each l.item)

separated_inner : {A : Type 0} (spell : A → List Part) → ((a : A) → Inner (spell a)) → (all : List A) → Inner (separated comma spell all)
separated_inner spell each [] = tt
separated_inner spell each (a ∷ []) = each a
separated_inner spell each (a ∷ b ∷ all) = joined (spell a) (comma ∷ separated comma spell (b ∷ all)) (each a) (tt, separated_inner spell each (b ∷ all))

flat_inner : {A : Type 0} (spell : A → List Part) → ((a : A) → Inner (spell a)) → (all : List A) → Inner (flat_map spell all)
flat_inner spell each [] = tt
flat_inner spell each (a ∷ all) = joined (spell a) (flat_map spell all) (each a) (flat_inner spell each all)

-- ---- columns and integers

sort_goes : (s : Sort) → HasTokensAfter (sort_token s)
sort_goes Time = tt
sort_goes Data = tt
sort_goes (Named n) = tt

column_inner : (c : RawColumn) → Inner (column_text c)
column_inner c = (tt, (tt, (sort_goes c.sort, tt)))

sign_inner : (negative : Bool) → Inner (sign negative)
sign_inner true = (tt, tt)
sign_inner false = tt

integer_inner : (i : Integer) → Inner (integer_text i)
integer_inner i = joined (sign i.negative) (any (number_token i.size) ∷ []) (sign_inner i.negative) (tt, tt)

-- an integer, and a point after it
integer_before : (i : Integer) (ps : List Part) → Inner ps → Inner (integer_text i ++ ps)
integer_before i ps rest = joined (integer_text i) ps (integer_inner i) rest

-- ---- formulas

term_inner : (t : WrittenTerm) → Inner (term_text t)
term_inner (integer i) = integer_inner i
term_inner (text_term t) = (tt, tt)
term_inner (variable n) = (tt, tt)
term_inner (shifted n down k) = (tt, (tt, (tt, tt)))

argument_inner : {l : Language} (a : WrittenArgument l) → Inner (argument_text a)
argument_inner (argument t) = term_inner t
argument_inner (star t) = (tt, tt)

place_inner : (t : Located WrittenTerm) → Inner (located_text term_text t)
place_inner t = located_inner term_text term_inner t

interval_inner : (from to : Integer) → Inner (interval_text from to)
interval_inner from to = integer_before from (any (symbol_token Comma) ∷ (integer_text to ++ any (symbol_token Close) ∷ [])) (tt, integer_before to (any (symbol_token Close) ∷ []) (tt, tt))

names_inner : (ns : List (Located Identifier)) → Inner (names_text ns)
names_inner [] = tt
names_inner (n ∷ ns) = (tt, (tt, names_inner ns))

-- a formula, and what stands after it
mutual
  formula_inner : {l : Language} (f : WrittenFormula l) → Inner (formula_text f)
  formula_inner (atom_formula p n ts) = (tt, (tt, joined (separated comma (located_text argument_text) ts) (any (symbol_token Close) ∷ []) (separated_inner (located_text argument_text) (located_inner argument_text argument_inner) ts) (tt, tt)))
  formula_inner (compared l op r) = joined (located_text term_text l) _ (place_inner l) (tt, place_inner r)
  formula_inner (member t i k) = joined (located_text term_text t) _ (place_inner t) (tt, integer_before i (any (symbol_token Plus) ∷ any (number_token k) ∷ any (word_token Letter) ∷ []) (tt, (tt, (tt, tt))))
  formula_inner (denied p f) = (tt, formula_inner f)
  formula_inner (all_of p f fs) = (tt, joined (formula_text f) (members_text And fs ++ any (symbol_token Close) ∷ []) (formula_inner f) (joined (members_text And fs) (any (symbol_token Close) ∷ []) (members_inner And fs) (tt, tt)))
  formula_inner (any_of p f fs) = (tt, joined (formula_text f) (members_text Or fs ++ any (symbol_token Close) ∷ []) (formula_inner f) (joined (members_text Or fs) (any (symbol_token Close) ∷ []) (members_inner Or fs) (tt, tt)))
  formula_inner (implied p f g) = (tt, joined (formula_text f) (any (word_token Implies) ∷ (formula_text g ++ any (symbol_token Close) ∷ [])) (formula_inner f) (tt, joined (formula_text g) (any (symbol_token Close) ∷ []) (formula_inner g) (tt, tt)))
  formula_inner (group p f) = (tt, joined (formula_text f) (any (symbol_token Close) ∷ []) (formula_inner f) (tt, tt))
  formula_inner (some p c f) = (tt, joined (column_text c) (formula_text f) (column_inner c) (formula_inner f))
  formula_inner (every p c f) = (tt, joined (column_text c) (formula_text f) (column_inner c) (formula_inner f))
  formula_inner (ranged t word o from to f) = (tt, (tt, (tt, joined (interval_text from to) (formula_text f) (interval_inner from to) (formula_inner f))))
  formula_inner (paired t word o f g) = (tt, (tt, (tt, joined (formula_text f) (any (symbol_token Comma) ∷ (formula_text g ++ any (symbol_token Close) ∷ [])) (formula_inner f) (tt, joined (formula_text g) (any (symbol_token Close) ∷ []) (formula_inner g) (tt, tt)))))
  formula_inner (differing t l r) = joined (located_text term_text l) _ (place_inner l) (tt, place_inner r)
  formula_inner (several t q p ns c f) = (tt, (tt, (tt, joined (names_text ns.others) (column_text c ++ formula_text f) (names_inner ns.others) (joined (column_text c) (formula_text f) (column_inner c) (formula_inner f)))))
  formula_inner (bare_all t f fs) = joined (formula_text f) (members_text And fs) (formula_inner f) (members_inner And fs)
  formula_inner (bare_any t f fs) = joined (formula_text f) (members_text Or fs) (formula_inner f) (members_inner Or fs)
  formula_inner (bare_chain t f fs) = joined (formula_text f) (members_text Implies fs) (formula_inner f) (members_inner Implies fs)
  formula_inner (chain t p f g fs) = (tt, joined (formula_text f) (any (word_token Implies) ∷ (formula_text g ++ (members_text Implies fs ++ any (symbol_token Close) ∷ []))) (formula_inner f) (tt, joined (formula_text g) (members_text Implies fs ++ any (symbol_token Close) ∷ []) (formula_inner g) (joined (members_text Implies fs) (any (symbol_token Close) ∷ []) (members_inner Implies fs) (tt, tt))))
  formula_inner (hole p) = (tt, tt)

  members_inner : {l : Language} (w : Word) (fs : FurtherMembers l) → Inner (members_text w fs)
  members_inner w (last f) = (tt, formula_inner f)
  members_inner w (more f fs) = (tt, joined (formula_text f) (members_text w fs) (formula_inner f) (members_inner w fs))

definition_inner : {l : Language} (d : WrittenDefinition l) → Inner (definition_text d)
definition_inner d = (tt, (tt, (tt, joined (separated comma column_text d.columns) (any (symbol_token Close) ∷ any (name_token as_word) ∷ (formula_text d.body ++ any (symbol_token Semicolon) ∷ [])) (separated_inner column_text column_inner d.columns) (tt, (tt, joined (formula_text d.body) (any (symbol_token Semicolon) ∷ []) (formula_inner d.body) (tt, tt))))))

pub query_inner : {l : Language} (q : WrittenQuery l) → EndsText (query_text q)
query_inner q =
    let ending : List Part = any (symbol_token CloseBrace) ∷ any end_token ∷ [] in
    let body : List Part = any (symbol_token Bar) ∷ (formula_text q.body ++ ending) in
    one_more (any (symbol_token OpenBrace)) (separated comma column_text q.head ++ body) tt
    (before (separated comma column_text q.head) body (separated_inner column_text column_inner q.head)
    (one_more (any (symbol_token Bar)) (formula_text q.body ++ ending) tt (before (formula_text q.body) ending (formula_inner q.body) (tt, refl))))

pub file_inner : {l : Language} (f : WrittenFile l) → EndsText (file_text f)
file_inner f = before (flat_map definition_text f.definitions) (query_text f.query) (flat_inner definition_text definition_inner f.definitions) (query_inner f.query)

-- ---- databases and edits

value_inner : (v : WrittenValue) → Inner (value_text v)
value_inner (Constant t) = (tt, tt)
value_inner (Instant i) = integer_inner i
value_inner (Point i k) = integer_before i (any (symbol_token Plus) ∷ any (number_token k) ∷ any (word_token Letter) ∷ []) (tt, (tt, (tt, tt)))

side_inner : (s : Side) → Inner (side_text s)
side_inner (Alone i) = integer_inner i
side_inner (Column n) = (tt, tt)
side_inner (Shifted n down k) = (tt, (tt, (tt, tt)))

bound_inner : (b : RawBound) → Inner (bound_text b)
bound_inner b = (tt, (tt, side_inner b.side))

bounds_inner : (bs : List RawBound) → Inner (bounds_text bs)
bounds_inner [] = tt
bounds_inner (b ∷ bs) = (tt, separated_inner bound_text bound_inner (b ∷ bs))

row_inner : (r : RawRow) → Inner (row_text r)
row_inner r =
    let ending : List Part = bounds_text r.bounds ++ any (symbol_token Semicolon) ∷ [] in
    (tt, joined (separated comma (located_text value_text) r.values) (any (symbol_token Close) ∷ ending) (separated_inner (located_text value_text) (located_inner value_text value_inner) r.values) (tt, joined (bounds_text r.bounds) (any (symbol_token Semicolon) ∷ []) (bounds_inner r.bounds) (tt, tt)))

relation_inner : (r : RawRelation) → Inner (relation_text r)
relation_inner r =
    let rows : List Part = flat_map (located_text row_text) r.rows ++ any (symbol_token CloseBrace) ∷ [] in
    (tt, (tt, (tt, joined (separated comma column_text r.columns) (any (symbol_token Close) ∷ any (symbol_token OpenBrace) ∷ rows) (separated_inner column_text column_inner r.columns) (tt, (tt, joined (flat_map (located_text row_text) r.rows) (any (symbol_token CloseBrace) ∷ []) (flat_inner (located_text row_text) (located_inner row_text row_inner) r.rows) (tt, tt))))))

pub database_inner : (rs : List RawRelation) → EndsText (database_text rs)
database_inner rs = before (flat_map relation_text rs) (any end_token ∷ []) (flat_inner relation_text relation_inner rs) refl

edit_inner : (e : RawEdit) → Inner (edit_text e)
edit_inner e = by e.add
  where
    by : (add : Bool) → Inner (change_part add ∷ name_part e.relation ∷ located_text row_text e.row)
    by true = (tt, (tt, located_inner row_text row_inner e.row))
    by false = (tt, (tt, located_inner row_text row_inner e.row))

pub edits_inner : (es : List RawEdit) → EndsText (edits_text es)
edits_inner es = before (flat_map edit_text es) (any end_token ∷ []) (flat_inner edit_text edit_inner es) refl
