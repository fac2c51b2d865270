-- What is read of files of the wide language: definitions, and a query.
use Rattle.std.proofs.Common.{◌≡◌, inl, inr, ◌≤◌, ℕ, zero, suc, Bool, true, false, List, [], ◌∷◌, ◌++◌, map, refl, ap, sym, ◌∙◌, subst, Ok, Err, if◌then◌else◌, append_assoc, append-nil, arith}
use Rattle.std.specs.List.{AllByRecursion, flat_map}
use Rattle.std.specs.Str.{bytes_eq}
use Rattle.std.specs.Cmp.Lexicographic.{bytes_decides}
use Rattle.lrp_model.specs.Texts.{Identifier}
use Rattle.lrp_model.specs.declared.tokens.Symbol.{Symbol}
use Rattle.lrp_model.specs.declared.tokens.Symbol.TheVariants.{Open, Close, OpenBrace, CloseBrace, Comma, Colon, Semicolon, Bar, Plus, Minus}
use Rattle.lrp_model.specs.declared.tokens.Word.TheVariants.{Time as time_word}
use Rattle.lrp_model.specs.declared.tokens.Place.{Place}
use Rattle.lrp_model.specs.declared.tokens.Fault.{Fault}
use Rattle.lrp_model.specs.declared.tokens.Fault.TheVariants.{Syntax}
use Rattle.lrp_model.specs.declared.relations.Sort.TheVariants.{Time as time_sort}
use Rattle.lrp_model.specs.declared.raw.RawColumn.{RawColumn}
use Rattle.lrp_model.specs.Lexing.{start}
use Rattle.lrp_model.specs.Tokens.{Token, Tokens, Part, Takes, separated}
use Rattle.lrp_model.specs.Tokens.Token.{name_token, word_token, symbol_token, end_token}
use Rattle.lrp_model.specs.Tokens.Part.{any}
use Rattle.lrp_model.specs.Columns.{column_text}
use Rattle.lrp_model.specs.Databases.{comma}
use Rattle.lrp_model.specs.Refused.{Fitting}
use Rattle.lrp_model.specs.Queries.{WrittenQuery, WrittenDefinition, WrittenFile, formula_text, definition_text, query_text, file_text, define_word, as_word, looseness, IsOrdered, FitsQuery, FitsDefinition, FitsFile}
use Rattle.lrp_model.specs.Queries.Language.{wide}
use Rattle.lrp_model.specs.QueryMeaning.{raw_form, raw_question, raw_definition, raw_file}
use Rattle.lrp_model.specs.RawQueries.{RawForm, RawQuestion, RawFileView}
use Rattle.lrp_text.specs.Parsers.{ParseOutcome, Parser, and_then, ◌>>=◌, pure, listed}
use Rattle.lrp_text.specs.Taking.{is_symbol, is_symbol_token, is_token_named, is_named_token, required, expect, expect_named, expect_end, name}
use Rattle.lrp_text.specs.ColumnRule.{column}
use Rattle.lrp_text.proofs.Complete.{Anything, IsNot, Sees}
use Rattle.lrp_text.proofs.Sound.{takes_join, takes_split}
use Rattle.lrp_text.proofs.Viable.{always, fits_as, fitting}
use Rattle.lrp_text.proofs.Local.{fail_local}
use Rattle.lrp_text.proofs.TokenTests.{name_part}
use Rattle.lrp_text.proofs.ColumnRule.{column_local, column_back, column_sound, column_viable}
use Rattle.lrp_query.specs.Rules.{Definition, query_over, wide_whole_with, wide_query_with, definition_with, definitions_from, file_with}
use Rattle.lrp_query.specs.Grammars.{raw_definition_read}
use Rattle.lrp_query.proofs.Marks.{LeafAt, column_fixed}
use Rattle.lrp_query.proofs.Languages.{FitsAt}
use Rattle.lrp_query.proofs.WideTold.{Cut, fixed_tells, fail_tells}
use Rattle.lrp_query.proofs.WideRule.{Language, Front, Rule, as_rule, alike_rule, below_rule, follow_rule, sooner_rule, Nothing, pure_rule, Then, bind_rule, Made, map_rule, TokenRule, After, token_rule, token_less_rule, Either, look_rule, Leaf, leaf_rule, Separated}
use Rattle.lrp_query.proofs.WideTerms.{symbol_rule, symbol_kind, name_rule, end_rule, Lists, listed_rule}
use Rattle.lrp_query.proofs.WideWritten.{Formula, Wrote, after_part}
use Rattle.lrp_query.proofs.WideLevels.{cutting, FollowsWhole, closer_follows}
use Rattle.lrp_query.proofs.WideWhole.{part_rule}
use Rattle.lrp_query.proofs.WideOperators.{any_tight}
use Rattle.lrp_query.proofs.WideFormulas.{after_cut, up_to, up_to_zero, up_to_rule}

-- ---- names that begin or divide definitions

named_is : (word : Identifier) (k : Token) → is_named_token word k ≡ true → k ≡ name_token word
named_is word (name_token n) e = ap name_token ((bytes_decides n word).0 e)
named_is word _ e = absurd cc

named_again : (word : Identifier) → is_named_token word (name_token word) ≡ true
named_again word = (bytes_decides word word).1 refl

required_is : (b : Bool) (u : Unit {0}) → required b ≡ Ok u → b ≡ true
required_is true u e = refl
required_is false u e = absurd cc

required_err : (b : Bool) (k : Fault) → required b ≡ Err k → k ≡ Syntax
required_err true k e = absurd cc
required_err false k e = cc

named_leaf : (word : Identifier) (k : Token) → LeafAt k (required (is_named_token word k))
named_leaf word (name_token n) = by (bytes_eq n word)
  where
    by : (b : Bool) → LeafAt (name_token n) (required b)
    by true = refl
    by false = tt
named_leaf word _ = tt

named_rule : (word : Identifier) → TokenRule (λ t. required (is_token_named word t)) (λ u. any (name_token word)) (λ u. Unit {0})
named_rule word = record {
  told = λ t u e. named_is word t.token (required_is (is_token_named word t) u e);
  fits = λ t a e. tt;
  tells = λ t a L f is. inl (ap (λ k. required (is_named_token word k)) is ∙ ap required (named_again word));
  stops = record { token = record { token = name_token word; place = start }; value = tt; fits = tt; is = refl; fault = λ t k e. inl (required_err (is_token_named word t) k e) };
  leaf = λ t. named_leaf word t.token;
}

-- ---- columns

abbrev ColumnText : Language RawColumn
ColumnText = Leaf column_text (λ c. Unit {0})

column_rule : (size : ℕ) → Rule size true Anything ColumnText (λ c. column)
column_rule size = leaf_rule size column column_text (λ c. Unit {0}) Anything column_sound column_back column_viable column_local (fixed_tells true column column_fixed) (record { name = []; place = start; sort = time_sort; sort_place = start }) (record { token = name_token []; place = start } ∷ record { token = symbol_token Colon; place = start } ∷ record { token = word_token time_word; place = start } ∷ []) tt ((refl, refl), (refl, ((refl, refl), refl)))

abbrev Columns : Language (List RawColumn)
Columns = Lists ColumnText (symbol_token Comma)

column_misses : (s : Symbol) (c : Bool) (b : RawColumn) (ts us : Tokens) → ColumnText c b ts us → Sees false (is_symbol s) false ts
column_misses s c b [] us t = absurd t.1
column_misses s c b (u ∷ ts) us t = ap (is_symbol_token s) t.1.0.0

-- a symbol that ends them
record EndsColumns (s : Symbol) (left : Tokens) : Type 0 where
  no_comma : IsNot (is_symbol Comma) left
  stops : Sees false (is_symbol s) true left

columns_rule : (size : ℕ) (s : Symbol) → Rule size true (EndsColumns s) Columns (λ c. listed column (is_symbol Comma) (is_symbol s) size)
columns_rule size s = follow_rule (EndsColumns s) (λ left g. record { ends = (tt, g.no_comma); stops = g.stops }) (listed_rule size Anything ColumnText (λ c. column) (column_rule size) (is_symbol Comma) (is_symbol s) (symbol_token Comma) (symbol_kind Comma) (λ t ts e. tt) (column_misses s))

columns_spelled : (c : Bool) (cs : List RawColumn) (ts us : Tokens) → Columns c cs ts us → Takes (separated comma column_text cs) ts us
columns_spelled c [] ts us s = s
columns_spelled c (b ∷ []) ts us s = s.1
columns_spelled c (b ∷ e ∷ cs) ts us ([], s, m) = absurd m
columns_spelled c (b ∷ e ∷ cs) ts us (t ∷ ms, s, (is, rest)) = takes_join (column_text b) (comma ∷ separated comma column_text (e ∷ cs)) ts (t ∷ ms) us s.1 (is, columns_spelled c (e ∷ cs) ms us rest)

columns_read : (c : Bool) (cs : List RawColumn) (ts us : Tokens) → Takes (separated comma column_text cs) ts us → Columns c cs ts us
columns_read c [] ts us s = s
columns_read c (b ∷ []) ts us s = (always (Unit {0}) c tt, s)
columns_read c (b ∷ e ∷ cs) ts us s =
    let k = takes_split (column_text b) (comma ∷ separated comma column_text (e ∷ cs)) ts us s in
    (k.0, (always (Unit {0}) c tt, k.1), after_part (symbol_token Comma) (separated comma column_text (e ∷ cs)) (λ ns. Separated (ColumnText c) (symbol_token Comma) (e ∷ cs) ns us) k.0 us k.2 (λ ns h. columns_read c (e ∷ cs) ns us h))

-- ---- bodies

abbrev SymbolText : {V : Type 0} → Token → Language V → Language V
SymbolText k T = After (λ (u : Unit {0}). any k) (λ u. Unit {0}) (λ u. T)

abbrev BodyText : Language RawForm
BodyText = Wrote raw_form 3 64

body_rule : (size : ℕ) → Rule size false FollowsWhole BodyText (λ c. wide_whole_with (cutting c) (after_cut c) size)
body_rule size = part_rule size 64 (λ c d. up_to size d c d) (λ c. up_to_zero size 0 c) (λ d low. up_to_rule size d d (omega arith)) 64 (omega arith)

-- a symbol that ends one
ended : {V : Type 0} (s : Symbol) (T : Language V) → is_symbol_token Plus (symbol_token s) ≡ false → is_symbol_token Minus (symbol_token s) ≡ false → (c : Bool) (v : V) (ms left : Tokens) → SymbolText (symbol_token s) T c v ms left → FollowsWhole ms
ended s T plus minus c v [] left t = absurd t
ended s T plus minus c v (u ∷ ms) left t = closer_follows s (record { no_plus = plus; no_minus = minus }) u ms t.1.0

columns_ended : {V : Type 0} (s : Symbol) (T : Language V) → is_symbol_token Comma (symbol_token s) ≡ false → is_symbol_token s (symbol_token s) ≡ true → (c : Bool) (v : V) (ms left : Tokens) → SymbolText (symbol_token s) T c v ms left → EndsColumns s ms
columns_ended s T apart same c v [] left t = absurd t
columns_ended s T apart same c v (u ∷ ms) left t = record { no_comma = ap (is_symbol_token Comma) t.1.0 ∙ apart; stops = ap (is_symbol_token s) t.1.0 ∙ same }

-- ---- queries

abbrev question : List RawColumn → RawForm → RawQuestion
question cs f = record { head = cs; body = f }

abbrev QueryEnd : List RawColumn → RawForm → Language RawQuestion
QueryEnd cs f = SymbolText (symbol_token CloseBrace) (SymbolText end_token (Nothing (question cs f)))

abbrev QueryText : Language RawQuestion
QueryText = SymbolText (symbol_token OpenBrace) (Then Columns (λ cs. SymbolText (symbol_token Bar) (Then BodyText (QueryEnd cs))))

query_rule : (size : ℕ) → Rule size true Anything QueryText (λ c. wide_query_with (cutting c) (after_cut c) size)
unfolding query_over
query_rule size =
    token_rule (λ u c. listed column (is_symbol Comma) (is_symbol Bar) size >>= (λ cs. expect Bar >>= (λ v. wide_whole_with (cutting c) (after_cut c) size >>= (λ f. expect CloseBrace >>= (λ w. expect_end >>= (λ x. pure (question cs f))))))) (symbol_rule OpenBrace)
    (λ u. sooner_rule true (bind_rule (λ cs c. expect Bar >>= (λ v. wide_whole_with (cutting c) (after_cut c) size >>= (λ f. expect CloseBrace >>= (λ w. expect_end >>= (λ x. pure (question cs f)))))) (columns_rule size Bar)
    (λ cs. token_rule (λ v c. wide_whole_with (cutting c) (after_cut c) size >>= (λ f. expect CloseBrace >>= (λ w. expect_end >>= (λ x. pure (question cs f))))) (symbol_rule Bar)
    (λ v. bind_rule (λ f c. expect CloseBrace >>= (λ w. expect_end >>= (λ x. pure (question cs f)))) (body_rule size)
    (λ f. token_rule (λ w c. expect_end >>= (λ x. pure (question cs f))) (symbol_rule CloseBrace)
    (λ w. sooner_rule true (token_rule (λ x c. pure (question cs f)) end_rule (λ x. pure_rule size false Anything (question cs f)))))
    (λ f c y ms left t g. ended CloseBrace (SymbolText end_token (Nothing (question cs f))) refl refl c y ms left t)))
    (λ cs c y ms left t g. columns_ended Bar (Then BodyText (QueryEnd cs)) refl refl c y ms left t)))

-- a written query
record QueryOf (c : Bool) (v : RawQuestion) (ts us : Tokens) : Type 0 where
  tree : WrittenQuery wide
  means : v ≡ raw_question tree
  fits : Fitting c (FitsQuery tree)
  spelled : Takes (query_text tree) ts us

query_there : (c : Bool) (v : RawQuestion) (ts us : Tokens) → QueryText c v ts us → QueryOf c v ts us
query_there c v [] us t = absurd t
query_there c v (t ∷ ts) us (u, braced, (cs, [], columns, r)) = absurd r
query_there c v (t ∷ ts) us (u, braced, (cs, x ∷ ks, columns, (w, bar, (f, [], body, r)))) = absurd r
query_there c v (t ∷ ts) us (u, braced, (cs, x ∷ ks, columns, (w, bar, (f, y ∷ [], body, (z, closed, r))))) = absurd r
query_there c v (t ∷ ts) us (u, braced, (cs, x ∷ ks, columns, (w, bar, (f, y ∷ o ∷ ms, body, (z, closed, (q, ends, (e, rest))))))) =
    let tree : WrittenQuery wide = record { head = cs; body = body.tree; formula = body.ordered } in
    record {
      tree = tree;
      means = e ∙ ap (question cs) body.means;
      fits = fits_as (FitsAt 64 body.tree) (FitsQuery tree) c (λ h. record { sizes = h.0; depth = h.1 }) body.fits;
      spelled = (braced.0, takes_join (separated comma column_text cs) (any (symbol_token Bar) ∷ (formula_text body.tree ++ any (symbol_token CloseBrace) ∷ any end_token ∷ [])) ts (x ∷ ks) us (columns_spelled c cs ts (x ∷ ks) columns) (bar.0, takes_join (formula_text body.tree) (any (symbol_token CloseBrace) ∷ any end_token ∷ []) ks (y ∷ o ∷ ms) us body.spelled (closed.0, (ends.0, rest))));
    }

symbol_back : {V : Type 0} (k : Token) (ps : List Part) (T : Language V) (c : Bool) (v : V) (ms us : Tokens) → Takes (any k ∷ ps) ms us → ((ns : Tokens) → Takes ps ns us → T c v ns us) → SymbolText k T c v ms us
symbol_back k ps T c v [] us h onward = absurd h
symbol_back k ps T c v (t ∷ ms) us h onward = (tt, (h.0, always (Unit {0}) c tt), onward ms h.1)

body_back : (c : Bool) (f : Formula) (ts us : Tokens) → looseness f ≤ 3 → IsOrdered f → Fitting c (FitsAt 64 f) → Takes (formula_text f) ts us → BodyText c (raw_form f) ts us
body_back c f ts us low o fit s = record { tree = f; tight = low; ordered = o; means = refl; fits = fit; spelled = s }

query_back : (c : Bool) (q : WrittenQuery wide) (ts us : Tokens) → Fitting c (FitsQuery q) → Takes (query_text q) ts us → QueryText c (raw_question q) ts us
query_back c q ts us fit s =
    let ending : List Part = any (symbol_token CloseBrace) ∷ any end_token ∷ [] in
    let after : List Part = any (symbol_token Bar) ∷ (formula_text q.body ++ ending) in
    symbol_back (symbol_token OpenBrace) (separated comma column_text q.head ++ after) (Then Columns (λ cs. SymbolText (symbol_token Bar) (Then BodyText (QueryEnd cs)))) c (raw_question q) ts us s (λ ns h.
    let k = takes_split (separated comma column_text q.head) after ns us h in (
      q.head,
      k.0,
      columns_read c q.head ns k.0 k.1,
      symbol_back (symbol_token Bar) (formula_text q.body ++ ending) (Then BodyText (QueryEnd q.head)) c (raw_question q) k.0 us k.2 (λ ks g.
          let m = takes_split (formula_text q.body) ending ks us g in (
            raw_form q.body,
            m.0,
            body_back c q.body ks m.0 (any_tight q.body) q.formula (fits_as (FitsQuery q) (FitsAt 64 q.body) c (λ x. (x.sizes, x.depth)) fit) m.1,
            symbol_back (symbol_token CloseBrace) (any end_token ∷ []) (SymbolText end_token (Nothing (raw_question q))) c (raw_question q) m.0 us m.2 (λ is i.
                symbol_back end_token [] (Nothing (raw_question q)) c (raw_question q) is us i (λ js j. (refl, j))),
          )),
    ))

-- ---- definitions

abbrev made : Identifier × Place → List RawColumn → RawForm → Definition RawForm
made n cs f = record { name = n.0; place = n.1; columns = cs; body = f }

abbrev NamedText : {V : Type 0} → Identifier → Language V → Language V
NamedText word T = After (λ (u : Unit {0}). any (name_token word)) (λ u. Unit {0}) (λ u. T)

abbrev BodyEnd : Identifier × Place → List RawColumn → RawForm → Language (Definition RawForm)
BodyEnd n cs f = SymbolText (symbol_token Semicolon) (Nothing (made n cs f))

abbrev AfterColumns : Identifier × Place → List RawColumn → Language (Definition RawForm)
AfterColumns n cs = SymbolText (symbol_token Close) (NamedText as_word (Then BodyText (BodyEnd n cs)))

-- after `define`
abbrev RestText : Language (Definition RawForm)
RestText = After name_part (λ n. Unit {0}) (λ n. SymbolText (symbol_token Open) (Then Columns (AfterColumns n)))

rest_of : ℕ → Cut → Parser (Definition RawForm)
rest_of size c = name >>= (λ n. expect Open >>= (λ u. listed column (is_symbol Comma) (is_symbol Close) size >>= (λ cs. expect Close >>= (λ v. expect_named as_word >>= (λ w. wide_whole_with (cutting c) (after_cut c) size >>= (λ f. expect Semicolon >>= (λ x. pure (made n cs f))))))))

rest_rule : (size : ℕ) → Rule size true Anything RestText (rest_of size)
unfolding rest_of
rest_rule size =
    token_rule (λ n c. expect Open >>= (λ u. listed column (is_symbol Comma) (is_symbol Close) size >>= (λ cs. expect Close >>= (λ v. expect_named as_word >>= (λ w. wide_whole_with (cutting c) (after_cut c) size >>= (λ f. expect Semicolon >>= (λ x. pure (made n cs f)))))))) name_rule
    (λ n. sooner_rule true (token_rule (λ u c. listed column (is_symbol Comma) (is_symbol Close) size >>= (λ cs. expect Close >>= (λ v. expect_named as_word >>= (λ w. wide_whole_with (cutting c) (after_cut c) size >>= (λ f. expect Semicolon >>= (λ x. pure (made n cs f))))))) (symbol_rule Open)
    (λ u. sooner_rule true (bind_rule (λ cs c. expect Close >>= (λ v. expect_named as_word >>= (λ w. wide_whole_with (cutting c) (after_cut c) size >>= (λ f. expect Semicolon >>= (λ x. pure (made n cs f)))))) (columns_rule size Close)
    (λ cs. token_rule (λ v c. expect_named as_word >>= (λ w. wide_whole_with (cutting c) (after_cut c) size >>= (λ f. expect Semicolon >>= (λ x. pure (made n cs f))))) (symbol_rule Close)
    (λ v. sooner_rule true (token_rule (λ w c. wide_whole_with (cutting c) (after_cut c) size >>= (λ f. expect Semicolon >>= (λ x. pure (made n cs f)))) (named_rule as_word)
    (λ w. bind_rule (λ f c. expect Semicolon >>= (λ x. pure (made n cs f))) (body_rule size)
    (λ f. token_rule (λ x c. pure (made n cs f)) (symbol_rule Semicolon) (λ x. pure_rule size false Anything (made n cs f)))
    (λ f c y ms left t g. ended Semicolon (Nothing (made n cs f)) refl refl c y ms left t)))))
    (λ cs c y ms left t g. columns_ended Close (NamedText as_word (Then BodyText (BodyEnd n cs))) refl refl c y ms left t)))))

abbrev DefinitionText : Language (Definition RawForm)
DefinitionText = NamedText define_word RestText

-- a written definition
record DefinitionOf (c : Bool) (v : Definition RawForm) (ts us : Tokens) : Type 0 where
  tree : WrittenDefinition wide
  means : raw_definition_read v ≡ raw_definition tree
  fits : Fitting c (FitsDefinition tree)
  spelled : Takes (definition_text tree) ts us

definition_there : (c : Bool) (v : Definition RawForm) (ts us : Tokens) → DefinitionText c v ts us → DefinitionOf c v ts us
definition_there c v [] us t = absurd t
definition_there c v (a ∷ []) us (u, d, r) = absurd r
definition_there c v (a ∷ b ∷ []) us (u, d, (n, is, r)) = absurd r
definition_there c v (a ∷ b ∷ o ∷ ts) us (u, d, (n, is, (w, opened, (cs, [], columns, r)))) = absurd r
definition_there c v (a ∷ b ∷ o ∷ ts) us (u, d, (n, is, (w, opened, (cs, x ∷ [], columns, (y, closed, r))))) = absurd r
definition_there c v (a ∷ b ∷ o ∷ ts) us (u, d, (n, is, (w, opened, (cs, x ∷ k ∷ ks, columns, (y, closed, (z, divides, (f, [], body, r))))))) = absurd r
definition_there c v (a ∷ b ∷ o ∷ ts) us (u, d, (n, is, (w, opened, (cs, x ∷ k ∷ ks, columns, (y, closed, (z, divides, (f, s ∷ ms, body, (i, ends, (e, rest))))))))) =
    let tree : WrittenDefinition wide = record { name = record { item = n.0; place = n.1 }; columns = cs; body = body.tree; formula = body.ordered } in
    record {
      tree = tree;
      means = ap raw_definition_read e ∙ ap (λ g. raw_definition_read (made n cs g)) body.means;
      fits = fits_as (FitsAt 64 body.tree) (FitsDefinition tree) c (λ h. record { sizes = h.0; depth = h.1 }) body.fits;
      spelled = (d.0, (is.0, (opened.0, takes_join (separated comma column_text cs) (any (symbol_token Close) ∷ any (name_token as_word) ∷ (formula_text body.tree ++ any (symbol_token Semicolon) ∷ [])) ts (x ∷ k ∷ ks) us (columns_spelled c cs ts (x ∷ k ∷ ks) columns) (closed.0, (divides.0, takes_join (formula_text body.tree) (any (symbol_token Semicolon) ∷ []) ks (s ∷ ms) us body.spelled (ends.0, rest))))));
    }

definition_back : (c : Bool) (t : WrittenDefinition wide) (ts us : Tokens) → Fitting c (FitsDefinition t) → Takes (definition_text t) ts us → DefinitionText c (made (t.name.item, t.name.place) t.columns (raw_form t.body)) ts us
definition_back c t [] us fit s = absurd s
definition_back c t (a ∷ []) us fit s = absurd s.1
definition_back c t (a ∷ b ∷ ts) us fit s =
    let n : Identifier × Place = (t.name.item, t.name.place) in
    let ending : List Part = any (symbol_token Semicolon) ∷ [] in
    let body : List Part = formula_text t.body ++ ending in
    let divided : List Part = any (name_token as_word) ∷ body in
    let v : Definition RawForm = made n t.columns (raw_form t.body) in (
      tt,
      (s.0, always (Unit {0}) c tt),
      (
        n,
        (s.1.0, always (Unit {0}) c tt),
        symbol_back (symbol_token Open) (separated comma column_text t.columns ++ any (symbol_token Close) ∷ divided) (Then Columns (AfterColumns n)) c v ts us s.1.1 (λ ns h.
            let k = takes_split (separated comma column_text t.columns) (any (symbol_token Close) ∷ divided) ns us h in (
              t.columns,
              k.0,
              columns_read c t.columns ns k.0 k.1,
              symbol_back (symbol_token Close) divided (NamedText as_word (Then BodyText (BodyEnd n t.columns))) c v k.0 us k.2 (λ ks g.
                  symbol_back (name_token as_word) body (Then BodyText (BodyEnd n t.columns)) c v ks us g (λ js j.
                  let m = takes_split (formula_text t.body) ending js us j in
                  (raw_form t.body, m.0, body_back c t.body js m.0 (any_tight t.body) t.formula (fits_as (FitsDefinition t) (FitsAt 64 t.body) c (λ x. (x.sizes, x.depth)) fit) m.1, symbol_back (symbol_token Semicolon) [] (Nothing v) c v m.0 us m.2 (λ is i. (refl, i))))),
            )),
      ),
    )

-- ---- several definitions

abbrev Repeated : {V : Type 0} → (V → Tokens → Tokens → Type 0) → List V → Tokens → Tokens → Type 0
Repeated T [] ts us = ts ≡ us
Repeated T (v ∷ vs) ts us = (ms : Tokens) × T v ts ms × Repeated T vs ms us

abbrev DefinitionsText : List (Definition RawForm) → Language (List (Definition RawForm))
DefinitionsText found c r ts us = (ds : List (Definition RawForm)) × (r ≡ found ++ ds) × Repeated (DefinitionText c) ds ts us

-- no definition begins
abbrev NoDefinition : Tokens → Type 0
NoDefinition left = Sees false (is_token_named define_word) false left

-- one definition, and those after it
abbrev MoreText : List (Definition RawForm) → Language (List (Definition RawForm))
MoreText found = NamedText define_word (Then RestText (λ d. DefinitionsText (found ++ d ∷ [])))

more_sees : (found : List (Definition RawForm)) (c : Bool) (r : List (Definition RawForm)) (ts left : Tokens) → MoreText found c r ts left → NoDefinition left → Sees false (is_token_named define_word) true ts
more_sees found c r [] left t g = absurd t
more_sees found c r (u ∷ ts) left t g = ap (is_named_token define_word) t.1.0 ∙ named_again define_word

definitions_there : (found : List (Definition RawForm)) (c : Bool) (r : List (Definition RawForm)) (ts us : Tokens) → Either (MoreText found) (Nothing found) c r ts us → DefinitionsText found c r ts us
definitions_there found c r [] us (inl t) = absurd t
definitions_there found c r (t ∷ ts) us (inl (u, is, (d, ms, rest, (ds, e, more)))) = (d ∷ ds, e ∙ append_assoc found (d ∷ []) ds, (ms, (u, is, rest), more))
definitions_there found c r ts us (inr (e, q)) = ([], e ∙ sym (append-nil found), q)

definitions_back : (found : List (Definition RawForm)) (c : Bool) (r : List (Definition RawForm)) (ts us : Tokens) → DefinitionsText found c r ts us → Either (MoreText found) (Nothing found) c r ts us
definitions_back found c r ts us ([], e, q) = inr (e ∙ append-nil found, q)
definitions_back found c r [] us (d ∷ ds, e, (ms, t, more)) = absurd t
definitions_back found c r (t ∷ ts) us (d ∷ ds, e, (ms, (u, is, rest), more)) = inl (u, is, (d, ms, rest, (ds, e ∙ sym (append_assoc found (d ∷ []) ds), more)))

-- two parsers, and then another one
reassociated : {A B C : Type 0} (o : ParseOutcome A) (f : A → Parser B) (g : B → Parser C) → and_then (and_then o f) g ≡ and_then o (λ a. f a >>= g)
reassociated (Ok x) f g = refl
reassociated (Err e) f g = refl

definitions_of : ℕ → ℕ → List (Definition RawForm) → Cut → Parser (List (Definition RawForm))
definitions_of size n found c = definitions_from (cutting c) (after_cut c) n size found

definitions_rule : (size n : ℕ) → n ≤ size → (found : List (Definition RawForm)) → Rule n true NoDefinition (DefinitionsText found) (definitions_of size n found)
unfolding definitions_of definitions_from definition_with rest_of
definitions_rule size zero low found = record {
  weaker = λ c v ts us t. (t.0, t.1, weaken c t.0 ts us t.2);
  front = λ c v ts us t. let f = fronts c t.0 ts us t.2 in record { head = f.head; whole = f.whole; again = λ x. (t.0, t.1, f.again x) };
  sound = λ ts q e. absurd cc;
  complete = λ c v ts left lt t g. absurd (omega (arith, lt));
  value = found;
  tokens = [];
  some = ([], sym (append-nil found), refl);
  viable = λ ts e lt h. absurd (omega (arith, lt));
  local = λ c. fail_local Syntax;
  told = fail_tells true Syntax tt;
}
  where
    one : Rule size true Anything DefinitionText (λ c. expect_named define_word >>= (λ u. rest_of size c))
    one = token_rule (λ u c. rest_of size c) (named_rule define_word) (λ u. sooner_rule true (rest_rule size))

    weaken : (c : Bool) (ds : List (Definition RawForm)) (ts us : Tokens) → Repeated (DefinitionText true) ds ts us → Repeated (DefinitionText c) ds ts us
    weaken c [] ts us t = t
    weaken c (d ∷ ds) ts us (ms, t, r) = (ms, one.weaker c d ts ms t, weaken c ds ms us r)

    fronts : (c : Bool) (ds : List (Definition RawForm)) (ts us : Tokens) → Repeated (DefinitionText c) ds ts us → Front (λ b es. Repeated (DefinitionText b) es) c ds ts us
    fronts c [] ts us t = record { head = []; whole = t; again = λ x. refl }
    fronts c (d ∷ ds) ts us (ms, t, r) =
        let m = one.front c d ts ms t in
        let n = fronts c ds ms us r in
        record {
          head = m.head ++ n.head;
          whole = m.whole ∙ ap (λ x. m.head ++ x) n.whole ∙ sym (append_assoc m.head n.head us);
          again = λ x. subst (λ y. Repeated (DefinitionText c) (d ∷ ds) y x) (sym (append_assoc m.head n.head x)) (n.head ++ x, m.again (n.head ++ x), n.again x);
        }
definitions_rule size (suc n) low found =
    as_rule (DefinitionsText found)
    (look_rule (λ defines c. if defines then (definition_with (cutting c) (after_cut c) size >>= (λ d. definitions_of size n (found ++ d ∷ []) c)) else pure found)
    (alike_rule (λ c. definition_with (cutting c) (after_cut c) size >>= (λ d. definitions_of size n (found ++ d ∷ []) c)) (λ c ts. reassociated (expect_named define_word ts) (λ u. rest_of size c) (λ d. definitions_of size n (found ++ d ∷ []) c))
    (token_less_rule (λ u c. rest_of size c >>= (λ d. definitions_of size n (found ++ d ∷ []) c)) (named_rule define_word) (omega arith)
    (λ u. sooner_rule true (bind_rule (λ d c. definitions_of size n (found ++ d ∷ []) c) (below_rule n (omega (arith, low)) (rest_rule size))
    (λ d. definitions_rule size n (omega (arith, low)) (found ++ d ∷ [])) (λ d c v ms left t g. tt)))))
    (pure_rule (suc n) true NoDefinition found)
    (more_sees found) (λ c v ts left t g. subst (Sees false (is_token_named define_word) false) (sym t.1) g))
    (definitions_there found) (definitions_back found)

-- ---- files

abbrev pub file_of : List (Definition RawForm) × RawQuestion → RawFileView
file_of f = record { definitions = map raw_definition_read f.0; query = f.1 }

abbrev pub file_cut : ℕ → Cut → Parser RawFileView
file_cut size c = file_with (cutting c) (after_cut c) size >>= (λ f. pure (file_of f))

-- a written file
pub record FileText (c : Bool) (v : RawFileView) (ts us : Tokens) : Type 0 where
  pub tree : WrittenFile wide
  pub means : v ≡ raw_file tree
  pub fits : Fitting c (FitsFile tree)
  pub spelled : Takes (file_text tree) ts us

abbrev Parts : Language (List (Definition RawForm) × RawQuestion)
Parts = Then (DefinitionsText []) (λ ds. Made (λ q. (ds, q)) QueryText)

-- the trees of definitions
record Written (c : Bool) (ds : List (Definition RawForm)) (ts us : Tokens) : Type 0 where
  trees : List (WrittenDefinition wide)
  means : map raw_definition_read ds ≡ map raw_definition trees
  fits : Fitting c (AllByRecursion FitsDefinition trees)
  spelled : Takes (flat_map definition_text trees) ts us

written_there : (c : Bool) (ds : List (Definition RawForm)) (ts us : Tokens) → Repeated (DefinitionText c) ds ts us → Written c ds ts us
written_there c [] ts us e = record { trees = []; means = refl; fits = always (Unit {0}) c tt; spelled = e }
written_there c (d ∷ ds) ts us (ms, t, r) =
    let one = definition_there c d ts ms t in
    let rest = written_there c ds ms us r in
    record {
      trees = one.tree ∷ rest.trees;
      means = ap (λ x. x ∷ map raw_definition_read ds) one.means ∙ ap (λ xs. raw_definition one.tree ∷ xs) rest.means;
      fits = fitting (FitsDefinition one.tree) (AllByRecursion FitsDefinition rest.trees) c one.fits rest.fits;
      spelled = takes_join (definition_text one.tree) (flat_map definition_text rest.trees) ts ms us one.spelled rest.spelled;
    }

-- what is read of them
abbrev read_of : WrittenDefinition wide → Definition RawForm
read_of t = made (t.name.item, t.name.place) t.columns (raw_form t.body)

read_means : (trees : List (WrittenDefinition wide)) → map raw_definition_read (map read_of trees) ≡ map raw_definition trees
read_means [] = refl
read_means (t ∷ trees) = ap (λ xs. raw_definition t ∷ xs) (read_means trees)

written_back : (c : Bool) (trees : List (WrittenDefinition wide)) (ts us : Tokens) → Fitting c (AllByRecursion FitsDefinition trees) → Takes (flat_map definition_text trees) ts us → Repeated (DefinitionText c) (map read_of trees) ts us
written_back c [] ts us fit s = s
written_back c (t ∷ trees) ts us fit s =
    let k = takes_split (definition_text t) (flat_map definition_text trees) ts us s in
    (k.0, definition_back c t ts k.0 (fits_as (AllByRecursion FitsDefinition (t ∷ trees)) (FitsDefinition t) c (λ h. h.0) fit) k.1, written_back c trees k.0 us (fits_as (AllByRecursion FitsDefinition (t ∷ trees)) (AllByRecursion FitsDefinition trees) c (λ h. h.1) fit) k.2)

file_there : (c : Bool) (v : RawFileView) (ts us : Tokens) → Made file_of Parts c v ts us → FileText c v ts us
file_there c v ts us (f, e, (ds, ms, (es, l, repeated), (q, m, query))) =
    let w = written_there c es ts ms repeated in
    let t = query_there c q ms us query in
    let tree : WrittenFile wide = record { definitions = w.trees; query = t.tree } in
    record {
      tree = tree;
      means = e ∙ ap file_of m ∙ ap (λ x. file_of (x, q)) l ∙ ap (λ x. record { definitions = x; query = q }) w.means ∙ ap (λ x. record { definitions = map raw_definition w.trees; query = x }) t.means;
      fits = fits_as (AllByRecursion FitsDefinition w.trees × FitsQuery t.tree) (FitsFile tree) c (λ h. record { definitions = h.0; query = h.1 }) (fitting (AllByRecursion FitsDefinition w.trees) (FitsQuery t.tree) c w.fits t.fits);
      spelled = takes_join (flat_map definition_text w.trees) (query_text t.tree) ts ms us w.spelled t.spelled;
    }

file_back : (c : Bool) (v : RawFileView) (ts us : Tokens) → FileText c v ts us → Made file_of Parts c v ts us
file_back c v ts us t =
    let k = takes_split (flat_map definition_text t.tree.definitions) (query_text t.tree.query) ts us t.spelled in
    let ds : List (Definition RawForm) = map read_of t.tree.definitions in
    let q : RawQuestion = raw_question t.tree.query in
    ((ds, q), t.means ∙ ap (λ x. record { definitions = x; query = q }) (sym (read_means t.tree.definitions)), (ds, k.0, (ds, refl, written_back c t.tree.definitions ts k.0 (fits_as (FitsFile t.tree) (AllByRecursion FitsDefinition t.tree.definitions) c (λ x. x.definitions) t.fits) k.1), (q, refl, query_back c t.tree.query k.0 us (fits_as (FitsFile t.tree) (FitsQuery t.tree.query) c (λ x. x.query) t.fits) k.2)))

query_begins : (ds : List (Definition RawForm)) (c : Bool) (v : List (Definition RawForm) × RawQuestion) (ms left : Tokens) → Made (λ q. (ds, q)) QueryText c v ms left → Anything left → NoDefinition ms
query_begins ds c v [] left t g = absurd t.2
query_begins ds c v (u ∷ ms) left t g = ap (is_named_token define_word) t.2.1.0

pub file_rule : (size : ℕ) → Rule size true Anything FileText (file_cut size)
unfolding file_with definitions_of
file_rule size =
    as_rule FileText
    (map_rule file_of (bind_rule (λ ds c. wide_query_with (cutting c) (after_cut c) size >>= (λ q. pure (ds, q))) (definitions_rule size size (omega arith) []) (λ ds. map_rule (λ q. (ds, q)) (query_rule size)) query_begins))
    file_there file_back
