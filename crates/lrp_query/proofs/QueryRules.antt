-- The rules for formulas of any depth and for queries: local, complete, sound and viable, so that they refuse exactly where the grammar says.
use Rattle.std.proofs.Common.{◌≡◌, ◌<◌, ◌≤◌, ◌+◌, ℕ, zero, suc, Bool, false, List, [], ◌∷◌, ◌++◌, inl, inr, refl, ap, sym, subst, Ok, Err, length, arith, append-nil}
use Rattle.std.specs.List.{AllByRecursion}
use Rattle.lrp_model.specs.declared.tokens.Symbol.TheVariants.{OpenBrace, CloseBrace, Comma, Colon, Bar, Plus, Minus}
use Rattle.lrp_model.specs.declared.tokens.Fault.{Fault}
use Rattle.lrp_model.specs.declared.raw.RawColumn.{RawColumn}
use Rattle.lrp_model.specs.Texts.{Identifier}
use Rattle.lrp_model.specs.declared.tokens.Place.{Place}
use Rattle.lrp_model.specs.Lexing.{start}
use Rattle.lrp_model.specs.Tokens.{Placed, Tokens, Part, Takes, Spells, separated}
use Rattle.lrp_model.specs.Tokens.Token.{name_token, symbol_token, end_token}
use Rattle.lrp_model.specs.Tokens.Part.{at, any}
use Rattle.lrp_model.specs.Columns.{sort_token, column_text}
use Rattle.lrp_model.specs.Databases.{comma}
use Rattle.lrp_model.specs.Refused.{Stops, TextOf, IsRefusedAt}
use Rattle.lrp_text.specs.Parsers.{ParseOutcome, Parser, listed}
use Rattle.lrp_text.specs.Taking.{is_symbol, is_symbol_token, expect, expect_end}
use Rattle.lrp_text.specs.ColumnRule.{column}
use Rattle.lrp_text.proofs.Complete.{Answers, Anything, Sees, answers_then, answers_as, accepts_back, first_sees_any, first_sees_at, first_is_not, MemberBack, listed_back, separated_long}
use Rattle.lrp_text.proofs.Sound.{Sound, bind_ok, accept_sound, takes_join, takes_split, takes_shorter, listed_sound}
use Rattle.lrp_text.proofs.Viable.{Viable, One, accept_viable, sub_short, spells_join, always, fits_as, listed_viable}
use Rattle.lrp_text.proofs.TokenTests.{symbol_told, symbol_seen, expect_seen, end_expected, end_required, end_stops}
use Rattle.lrp_text.proofs.ColumnRule.{column_back, column_sound, column_viable}
use Rattle.lrp_text.proofs.Local.{Local}
use Rattle.lrp_text.proofs.Refusal.{Rule, refused_at}
use Rattle.lrp_query.specs.Rules.{AfterName, formula_with, query_with, query_over}
use Rattle.lrp_query.proofs.Layers.{Grammar, trees, FormulaRules, AfterRules}
use Rattle.lrp_query.proofs.LocalRules.{query_local}
use Rattle.lrp_query.proofs.TestRules.{sym_part, symbol_sound, symbol_viable, symbol_at}
use Rattle.lrp_query.proofs.OverRules.{over_answers, some_formula, some_tokens, some_spelled, some_fits}
use Rattle.lrp_query.proofs.OverSound.{over_sound}
use Rattle.lrp_query.proofs.OverViable.{over_stops}
use Rattle.lrp_query.proofs.CutRules.{cut_answers, cut_sound, cut_viable}

-- ---- the head

-- a column as a member of a list
columns_member : MemberBack column column_text (λ c. Unit {0}) Anything comma (is_symbol Comma)
columns_member = record { one = column_back; comma_follows = λ t ts h. tt; comma_seen = symbol_seen Comma }

-- a column does not begin with a bar
column_sees : (c : RawColumn) (ts left : Tokens) → Takes (column_text c) ts left → Sees false (is_symbol Bar) false ts
column_sees c ts left h = first_sees_at false (is_symbol_token Bar) c.place (name_token c.name) (any (symbol_token Colon) ∷ at c.sort_place (sort_token c.sort) ∷ []) ts left h

-- every column is lawful
all_columns : (cs : List RawColumn) → AllByRecursion (λ c. Unit {0}) cs
all_columns [] = tt
all_columns (c ∷ cs) = (tt, all_columns cs)

-- what spells the head
abbrev head_text : List RawColumn → List Part
head_text = separated comma column_text

-- a head that is read is spelled so
head_sound : (turns : ℕ) → Sound (listed column (is_symbol Comma) (is_symbol Bar) turns) head_text (AllByRecursion (λ c. Unit {0}))
head_sound turns = listed_sound column column_text (λ c. Unit {0}) comma (is_symbol Comma) (is_symbol Bar) (symbol_told Comma) column_sound turns

-- the part that the end is
abbrev end_part : Unit {0} → Part
end_part u = any end_token

-- the end that is read is spelled so
end_sound : Sound expect_end (One end_part) (λ u. Unit {0})
end_sound ts q e = (accept_sound _ end_part end_expected ts q e, tt)

-- the tokens before a fault of the end begin one
end_viable : Viable expect_end (One end_part) (λ u. Unit {0})
end_viable = accept_viable _ end_part (λ u. Unit {0}) end_stops

module _ {F X Q : Type 0} (grammar : Grammar F X Q) where
  -- ---- the parts of a query

  -- from the closing brace on
  abbrev from_brace : List Part
  from_brace = any (symbol_token CloseBrace) ∷ any end_token ∷ []

  -- from the body on
  abbrev from_body : F → List Part
  from_body f = grammar.text f ++ from_brace

  -- from the bar on
  abbrev from_bar : F → List Part
  from_bar f = any (symbol_token Bar) ∷ from_body f

  -- from the head on
  abbrev from_head : List RawColumn → F → List Part
  from_head cs f = head_text cs ++ from_bar f

  -- what spells a query
  abbrev pub query_text : Q → List Part
  query_text q = any (symbol_token OpenBrace) ∷ from_head (grammar.head q) (grammar.body q)

  -- a query of a head and a body
  abbrev made_of : List RawColumn → F → Q
  made_of = grammar.question

  -- the tokens of its parts are its tokens
  made_spelled : (cs : List RawColumn) (f : F) (x us : Tokens) → Takes (any (symbol_token OpenBrace) ∷ from_head cs f) x us → Takes (query_text (made_of cs f)) x us
  made_spelled cs f x us h = subst (λ y. Takes (any (symbol_token OpenBrace) ∷ from_head y (grammar.body (made_of cs f))) x us) (sym (grammar.head_is cs f)) (subst (λ y. Takes (any (symbol_token OpenBrace) ∷ from_head cs y) x us) (sym (grammar.body_is cs f)) h)

  module _ (after_it : AfterName F) (after : (inner : Parser F) (d turns : ℕ) → FormulaRules grammar d turns inner → AfterRules grammar d turns (after_it inner turns)) where
    -- ---- formulas

    -- the rule of formulas of this depth
    abbrev formula_rule : ℕ → ℕ → Parser F
    formula_rule = formula_with (trees grammar) after_it

    -- it is complete, sound and viable
    pub formula_rules : (depth turns : ℕ) → FormulaRules grammar depth turns (formula_rule depth turns)
    unfolding formula_with
    formula_rules zero turns = record { back = λ w ts left lt h g. cut_answers grammar w ts left h; sound = cut_sound grammar; viable = λ ts e lt h. cut_viable grammar ts e h }
    formula_rules (suc depth) turns =
        let inner : Parser F = formula_rule depth turns in
        let rules = formula_rules depth turns in
        let afterwards = after inner depth turns rules in
        record {
          back = over_answers grammar inner (after_it inner turns) depth turns afterwards rules.back;
          sound = over_sound grammar inner (after_it inner turns) depth turns afterwards rules.sound;
          viable = over_stops grammar inner (after_it inner turns) depth turns afterwards rules.sound rules.viable;
        }

    -- ---- complete

    -- a query that fewer tokens spell than the number of turns is read, or refused for another cause than syntax where it is not lawful
    pub query_answers : (turns : ℕ) (q : Q) (ts left : Tokens) → length ts < turns → Takes (query_text q) ts left → Answers (query_with (trees grammar) after_it turns ts) q left (grammar.FitsQuery q)
    unfolding query_with query_over
    query_answers turns q ts left lt h =
        let L : Type 0 = grammar.FitsQuery q in
        let open_part : List Part = any (symbol_token OpenBrace) ∷ [] in
        let bar_part : List Part = any (symbol_token Bar) ∷ [] in
        let a = takes_split open_part (from_head (grammar.head q) (grammar.body q)) ts left h in
        let size_a : length a.0 + length open_part ≡ length ts = takes_shorter open_part ts a.0 a.1 in
        let b = takes_split (head_text (grammar.head q)) (from_bar (grammar.body q)) a.0 left a.2 in
        let size_b : length b.0 + length (head_text (grammar.head q)) ≡ length a.0 = takes_shorter (head_text (grammar.head q)) a.0 b.0 b.1 in
        let c = takes_split bar_part (from_body (grammar.body q)) b.0 left b.2 in
        let size_c : length c.0 + length bar_part ≡ length b.0 = takes_shorter bar_part b.0 c.0 c.1 in
        let d = takes_split (grammar.text (grammar.body q)) from_brace c.0 left c.2 in
        let e = takes_split (any (symbol_token CloseBrace) ∷ []) (any end_token ∷ []) d.0 left d.2 in
        let long : length (grammar.head q) ≤ length (head_text (grammar.head q)) + 1 = separated_long comma column_text (grammar.head q) in
        answers_then (expect OpenBrace ts) _ tt a.0 q left L ((accepts_back _ (any (symbol_token OpenBrace)) tt L (expect_seen OpenBrace)).reads ts a.0 a.1 tt)
        (answers_then (listed column (is_symbol Comma) (is_symbol Bar) turns a.0) _ (grammar.head q) b.0 q left L
        (answers_as _ (grammar.head q) b.0 (AllByRecursion (λ c. Unit {0}) (grammar.head q)) L (λ l. all_columns (grammar.head q)) (listed_back columns_member (is_symbol Bar) column_sees turns (grammar.head q) (omega (arith, long, size_a, size_b, lt)) a.0 b.0 b.1 (first_sees_any false (is_symbol_token Bar) (symbol_token Bar) (from_body (grammar.body q)) b.0 left b.2) (record { member = tt; no_comma = first_is_not (is_symbol_token Comma) (symbol_token Bar) (from_body (grammar.body q)) b.0 left refl b.2 })))
        (answers_then (expect Bar b.0) _ tt c.0 q left L ((accepts_back _ (any (symbol_token Bar)) tt L (expect_seen Bar)).reads b.0 c.0 c.1 tt)
        (answers_then (formula_rule 64 turns c.0) _ (grammar.body q) d.0 q left L (answers_as _ (grammar.body q) d.0 (grammar.Fits 64 (grammar.body q)) L (grammar.query_fits q).0 ((formula_rules 64 turns).back (grammar.body q) c.0 d.0 (omega (arith, size_a, size_b, size_c, lt)) d.1 (first_is_not (is_symbol_token Plus) (symbol_token CloseBrace) (any end_token ∷ []) d.0 left refl d.2, first_is_not (is_symbol_token Minus) (symbol_token CloseBrace) (any end_token ∷ []) d.0 left refl d.2)))
        (answers_then (expect CloseBrace d.0) _ tt e.0 q left L ((accepts_back _ (any (symbol_token CloseBrace)) tt L (expect_seen CloseBrace)).reads d.0 e.0 e.1 tt)
        (answers_then (expect_end e.0) _ tt left q left L ((accepts_back _ (any end_token) tt L end_required).reads e.0 left e.2 tt) (inl (ap (λ x. Ok (x, left)) (grammar.whole q))))))))

    -- the same where nothing is left
    pub query_complete : (turns : ℕ) (q : Q) (ts : Tokens) → length ts < turns → Spells (query_text q) ts → Answers (query_with (trees grammar) after_it turns ts) q [] (grammar.FitsQuery q)
    query_complete turns q ts lt h = query_answers turns q ts [] lt h

    -- ---- sound

    -- a query with a lawful body is lawful
    lawful : (cs : List RawColumn) (f : F) → grammar.Fits 64 f → grammar.FitsQuery (made_of cs f)
    lawful cs f k = (grammar.query_fits (made_of cs f)).1 (subst (grammar.Fits 64) (sym (grammar.body_is cs f)) k)

    -- what is read as a query is lawful, and the tokens spell it
    pub query_sound : (turns : ℕ) → Sound (query_with (trees grammar) after_it turns) query_text grammar.FitsQuery
    unfolding query_with query_over
    query_sound turns ts q h =
        let a = bind_ok (expect OpenBrace ts) _ q h in
        let b = bind_ok (listed column (is_symbol Comma) (is_symbol Bar) turns a.0.1) _ q a.2 in
        let c = bind_ok (expect Bar b.0.1) _ q b.2 in
        let d = bind_ok (formula_rule 64 turns c.0.1) _ q c.2 in
        let e = bind_ok (expect CloseBrace d.0.1) _ q d.2 in
        let f = bind_ok (expect_end e.0.1) _ q e.2 in
        let made : Q = made_of b.0.0 d.0.0 in
        let is : (made, f.0.1) ≡ q = cc in
        let body = (formula_rules 64 turns).sound c.0.1 d.0 d.1 in
        subst (λ y. Takes (query_text y.0) ts y.1 × grammar.FitsQuery y.0) is (
          made_spelled b.0.0 d.0.0 ts f.0.1 (takes_join (any (symbol_token OpenBrace) ∷ []) (from_head b.0.0 d.0.0) ts a.0.1 f.0.1 (symbol_sound OpenBrace ts a.0 a.1).0
              (takes_join (head_text b.0.0) (from_bar d.0.0) a.0.1 b.0.1 f.0.1 (head_sound turns a.0.1 b.0 b.1).0
              (takes_join (any (symbol_token Bar) ∷ []) (from_body d.0.0) b.0.1 c.0.1 f.0.1 (symbol_sound Bar b.0.1 c.0 c.1).0
              (takes_join (grammar.text d.0.0) from_brace c.0.1 d.0.1 f.0.1 body.0
              (takes_join (any (symbol_token CloseBrace) ∷ []) (any end_token ∷ []) d.0.1 e.0.1 f.0.1 (symbol_sound CloseBrace d.0.1 e.0 e.1).0 (end_sound e.0.1 f.0 f.1).0))))),
          lawful b.0.0 d.0.0 body.1,
        )

    -- ---- viable

    -- the tokens that end a query
    abbrev ending : Tokens
    ending = symbol_at CloseBrace ∷ record { token = end_token; place = start } ∷ []

    -- a body for what is not written yet, and what stands after it
    abbrev body_tokens : Tokens
    body_tokens = some_tokens grammar 64 ++ ending

    -- the same from the bar on
    abbrev bar_tokens : Tokens
    bar_tokens = symbol_at Bar ∷ body_tokens

    -- they are such a body
    body_spelled : Spells (from_body (some_formula grammar 64)) body_tokens
    body_spelled = spells_join (grammar.text (some_formula grammar 64)) from_brace (some_tokens grammar 64) ending (some_spelled grammar 64) (refl, (refl, refl))

    -- the parts of a query, one after the other
    query_spelled : (cs : List RawColumn) (f : F) (h1 h2 x : Tokens) → Spells (One (sym_part OpenBrace) tt) h1 → Spells (head_text cs) h2 → Spells (from_bar f) x → Spells (query_text (made_of cs f)) (h1 ++ (h2 ++ x))
    query_spelled cs f h1 h2 x one two rest = made_spelled cs f (h1 ++ (h2 ++ x)) [] (spells_join (One (sym_part OpenBrace) tt) (from_head cs f) h1 (h2 ++ x) one (spells_join (head_text cs) (from_bar f) h2 x two rest))

    -- the tokens before a fault of a query begin one
    pub query_viable : (turns : ℕ) (ts : Tokens) (e : Fault × Tokens) → length ts < turns → query_with (trees grammar) after_it turns ts ≡ Err e → Stops (TextOf query_text grammar.FitsQuery) ts e
    unfolding query_with query_over
    query_viable turns ts e lt h =
        let R : Bool → Tokens → Type 0 = TextOf query_text grammar.FitsQuery in
        let some_body : F = some_formula grammar 64 in
        sub_short (expect OpenBrace) _ (One (sym_part OpenBrace)) (λ u. Unit {0}) R ts e (symbol_sound OpenBrace) (symbol_viable OpenBrace ts e) h
        (λ c u x spelled fit. (bar_tokens, (made_of [] some_body, always (grammar.FitsQuery (made_of [] some_body)) c (lawful [] some_body (some_fits grammar 64)), query_spelled [] some_body x [] bar_tokens spelled refl (refl, body_spelled))))
        (λ u h1 us s1 f1 l1 d1. sub_short (listed column (is_symbol Comma) (is_symbol Bar) turns) _ head_text (AllByRecursion (λ c. Unit {0})) (λ c x. R c (h1 ++ x)) us e (head_sound turns) (λ k. listed_viable column column_text (λ c. Unit {0}) comma (is_symbol Comma) (is_symbol Bar) (symbol_told Comma) column_sound column_viable turns us e (omega arith) k) d1
        (λ c cs x spelled fit. (bar_tokens, (made_of cs some_body, always (grammar.FitsQuery (made_of cs some_body)) c (lawful cs some_body (some_fits grammar 64)), query_spelled cs some_body h1 x bar_tokens s1 spelled (refl, body_spelled))))
        (λ cs h2 vs s2 f2 l2 d2. sub_short (expect Bar) _ (One (sym_part Bar)) (λ u. Unit {0}) (λ c x. R c (h1 ++ (h2 ++ x))) vs e (symbol_sound Bar) (symbol_viable Bar vs e) d2
        (λ c v x spelled fit. (body_tokens, (made_of cs some_body, always (grammar.FitsQuery (made_of cs some_body)) c (lawful cs some_body (some_fits grammar 64)), query_spelled cs some_body h1 h2 (x ++ body_tokens) s1 s2 (spells_join (One (sym_part Bar) v) (from_body some_body) x body_tokens spelled body_spelled))))
        (λ v h3 ws s3 f3 l3 d3. sub_short (formula_rule 64 turns) _ grammar.text (grammar.Fits 64) (λ c x. R c (h1 ++ (h2 ++ (h3 ++ x)))) ws e (formula_rules 64 turns).sound (λ k. (formula_rules 64 turns).viable ws e (omega arith) k) d3
        (λ c f x spelled fit. (ending, (made_of cs f, fits_as (grammar.Fits 64 f) (grammar.FitsQuery (made_of cs f)) c (lawful cs f) fit, query_spelled cs f h1 h2 (h3 ++ (x ++ ending)) s1 s2 (spells_join (One (sym_part Bar) v) (from_body f) h3 (x ++ ending) s3 (spells_join (grammar.text f) from_brace x ending spelled (refl, (refl, refl)))))))
        (λ f h4 xs s4 f4 l4 d4. sub_short (expect CloseBrace) _ (One (sym_part CloseBrace)) (λ u. Unit {0}) (λ c x. R c (h1 ++ (h2 ++ (h3 ++ (h4 ++ x))))) xs e (symbol_sound CloseBrace) (symbol_viable CloseBrace xs e) d4
        (λ c w x spelled fit. (record { token = end_token; place = start } ∷ [], (made_of cs f, always (grammar.FitsQuery (made_of cs f)) c (lawful cs f f4), query_spelled cs f h1 h2 (h3 ++ (h4 ++ (x ++ record { token = end_token; place = start } ∷ []))) s1 s2 (spells_join (One (sym_part Bar) v) (from_body f) h3 (h4 ++ (x ++ record { token = end_token; place = start } ∷ [])) s3 (spells_join (grammar.text f) from_brace h4 (x ++ record { token = end_token; place = start } ∷ []) s4 (spells_join (One (sym_part CloseBrace) w) (any end_token ∷ []) x (record { token = end_token; place = start } ∷ []) spelled (refl, refl)))))))
        (λ w h5 ys s5 f5 l5 d5. sub_short expect_end _ (One end_part) (λ u. Unit {0}) (λ c x. R c (h1 ++ (h2 ++ (h3 ++ (h4 ++ (h5 ++ x)))))) ys e end_sound (end_viable ys e) d5
        (λ c z x spelled fit. ([], (made_of cs f, always (grammar.FitsQuery (made_of cs f)) c (lawful cs f f4), query_spelled cs f h1 h2 (h3 ++ (h4 ++ (h5 ++ (x ++ [])))) s1 s2 (spells_join (One (sym_part Bar) v) (from_body f) h3 (h4 ++ (h5 ++ (x ++ []))) s3 (spells_join (grammar.text f) from_brace h4 (h5 ++ (x ++ [])) s4 (spells_join (One (sym_part CloseBrace) w) (any end_token ∷ []) h5 (x ++ []) s5 (subst (λ y. Spells (One end_part z) y) (sym (append-nil x)) spelled)))))))
        (λ z h6 zs s6 f6 l6 d6. absurd cc))))))

    -- ---- refused exactly where the grammar says

    module _ (local : (inner : Parser F) → Local inner → (turns : ℕ) (n : Identifier) (p : Place) → Local (after_it inner turns n p)) where
      -- the rule of queries has all that a rule owes
      query_rule : Rule (query_with (trees grammar) after_it) query_text grammar.FitsQuery
      query_rule = record { local = query_local (trees grammar) after_it local; complete = query_complete; viable = query_viable }

      -- the tokens of no lawful query are refused where the grammar says, for its cause
      pub query_refused : (ts : Tokens) (k : Fault) (bad : Placed) (tail : Tokens) → ((n : ℕ) → length ts < n → query_with (trees grammar) after_it n ts ≡ Err (k, bad ∷ tail)) → IsRefusedAt (TextOf query_text grammar.FitsQuery) ts k bad tail
      query_refused = refused_at (query_with (trees grammar) after_it) query_text grammar.FitsQuery query_rule

    -- ---- one tree

    -- a tree that took all tokens
    abbrev whole : Q → Q × Tokens
    whole a = (a, [])

    -- the same outcome gives one tree
    one_answer : (o : ParseOutcome Q) (a b : Q) (L M : Type 0) → L → Answers o a [] L → Answers o b [] M → a ≡ b
    one_answer o a b L M l (inl e) (inl d) = let h : whole a ≡ whole b = cc in ap (λ p. p.0) h
    one_answer o a b L M l (inl e) (inr d) = cc d.is
    one_answer o a b L M l (inr e) d = absurd (e.unlawful l)

    -- tokens that spell a lawful query spell no other
    pub one_tree : (a b : Q) (ts : Tokens) → grammar.FitsQuery a → Spells (query_text a) ts → Spells (query_text b) ts → a ≡ b
    one_tree a b ts fits h k =
        let n = suc (length ts) in
        one_answer (query_with (trees grammar) after_it n ts) a b (grammar.FitsQuery a) (grammar.FitsQuery b) fits (query_complete n a ts (omega arith) h) (query_complete n b ts (omega arith) k)
