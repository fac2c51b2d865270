-- The rule for columns: local, complete, sound and viable.
use Rattle.std.proofs.Common.{◌≡◌, inl, Bool, true, false, List, [], ◌∷◌, ◌++◌, refl, ap, subst, Ok, Err}
use Rattle.lrp_model.specs.declared.tokens.Symbol.TheVariants.{Colon}
use Rattle.lrp_model.specs.declared.tokens.Word.TheVariants.{Time, Data}
use Rattle.lrp_model.specs.declared.tokens.Place.{Place}
use Rattle.lrp_model.specs.declared.tokens.Fault.{Fault}
use Rattle.lrp_model.specs.declared.tokens.Fault.TheVariants.{Syntax}
use Rattle.lrp_model.specs.Tokens.{Token, Placed, Tokens, Part, IsPart, Takes}
use Rattle.lrp_model.specs.Tokens.Token.{name_token, word_token, symbol_token}
use Rattle.lrp_model.specs.Tokens.Part.{at, any}
use Rattle.lrp_text.specs.Parsers.{accept}
use Rattle.lrp_model.specs.Refused.{TextOf, Fitting}
use Rattle.lrp_text.specs.Taking.{with_place, name, expect}
use Rattle.lrp_model.specs.Lexing.{start}
use Rattle.lrp_model.specs.declared.raw.RawColumn.{RawColumn}
use Rattle.lrp_model.specs.declared.relations.Sort.{Sort}
use Rattle.lrp_model.specs.declared.relations.Sort.TheVariants.{Time as time_sort, Data as data_sort, Named as named_sort}
use Rattle.lrp_model.specs.Columns.{sort_token, column_text}
use Rattle.lrp_text.specs.ColumnRule.{sort_of, column}
use Rattle.lrp_text.proofs.Local.{Local, bind_local, accept_local, pure_local}
use Rattle.lrp_text.proofs.Complete.{ReadsBack, Anything, then_back, pure_back, accepts_back}
use Rattle.lrp_text.proofs.Sound.{Sound, bind_ok, accept_sound, takes_join}
use Rattle.lrp_text.proofs.Viable.{Viable, TestStops, One, accept_viable, sub_step, spells_join}
use Rattle.lrp_text.proofs.TokenTests.{placed_is, placed_err, name_part, name_told, name_seen, name_stops, expect_told, expect_seen, expect_stops}

-- the part that a sort with its place is
abbrev pub sort_part : Sort × Place → Part
sort_part q = at q.1 (sort_token q.0)

-- what a sort was read from
sort_is : (k : Token) (s : Sort) → sort_of k ≡ Ok s → k ≡ sort_token s
sort_is (word_token Time) s e = let h : time_sort ≡ s = cc in ap sort_token h
sort_is (word_token Data) s e = let h : data_sort ≡ s = cc in ap sort_token h
sort_is (name_token n) s e = let h : named_sort n ≡ s = cc in ap sort_token h
sort_is _ s e = absurd cc

-- a sort is read from its token
sort_again : (s : Sort) → sort_of (sort_token s) ≡ Ok s
sort_again time_sort = refl
sort_again data_sort = refl
sort_again (named_sort n) = refl

-- a token that is no sort is a syntax fault
sort_err : (t : Token) (k : Fault) → sort_of t ≡ Err k → k ≡ Syntax
sort_err (word_token Time) k e = absurd cc
sort_err (word_token Data) k e = absurd cc
sort_err (name_token n) k e = absurd cc
sort_err _ k e = cc

-- the token of a sort that was read, with its place
pub sort_told : (t : Placed) (q : Sort × Place) → with_place t.place (sort_of t.token) ≡ Ok q → IsPart (sort_part q) t
sort_told t q e = let k = placed_is (sort_of t.token) t.place q e in (sort_is t.token q.0 k.0, k.1)

-- the sort of a token with its place
pub sort_seen : (q : Sort × Place) (t : Placed) → IsPart (sort_part q) t → with_place t.place (sort_of t.token) ≡ Ok q
sort_seen q t h = rw (h.0, h.1, sort_again q.0) refl

-- a sort stops for its syntax alone
pub sort_stops : TestStops (λ t. with_place t.place (sort_of t.token)) sort_part (λ q. Unit {0})
sort_stops = record { token = record { token = word_token Time; place = start }; value = (time_sort, start); fits = tt; is = (refl, refl); fault = λ t k e. inl (sort_err t.token k (placed_err (sort_of t.token) t.place k e)) }

-- a column depends on its tokens and the next one alone
pub column_local : Local column
unfolding column
column_local =
    bind_local name _ (accept_local _) (λ n.
    bind_local (expect Colon) _ (accept_local _) (λ u.
    bind_local (accept (λ t. with_place t.place (sort_of t.token))) _ (accept_local _) (λ s. pure_local _)))

-- the tokens of a column are read back
pub column_back : (c : RawColumn) → ReadsBack column (column_text c) c (Unit {0}) Anything
unfolding column
column_back c =
    then_back _ (accepts_back _ _ (c.name, c.place) _ (name_seen (c.name, c.place)))
    (then_back _ (accepts_back _ _ tt _ (expect_seen Colon))
    (then_back _ (accepts_back _ _ (c.sort, c.sort_place) _ (sort_seen (c.sort, c.sort_place))) (pure_back c _ Anything)))

-- a column that is read is spelled so
pub column_sound : Sound column column_text (λ c. Unit {0})
unfolding column
column_sound ts q e =
    let n = bind_ok (name ts) _ q e in
    let u = bind_ok (expect Colon n.0.1) _ q n.2 in
    let s = bind_ok (accept (λ t. with_place t.place (sort_of t.token)) u.0.1) _ q u.2 in
    let made : RawColumn = record { name = n.0.0.0; place = n.0.0.1; sort = s.0.0.0; sort_place = s.0.0.1 } in
    let h : (made, s.0.1) ≡ q = cc in
    subst (λ y. Takes (column_text y.0) ts y.1 × Unit {0}) h (
      takes_join (name_part n.0.0 ∷ []) (any (symbol_token Colon) ∷ sort_part s.0.0 ∷ []) ts n.0.1 s.0.1 (accept_sound _ name_part name_told ts n.0 n.1)
          (takes_join (any (symbol_token Colon) ∷ []) (sort_part s.0.0 ∷ []) n.0.1 u.0.1 s.0.1 (accept_sound _ (λ v. any (symbol_token Colon)) (expect_told Colon) n.0.1 u.0 u.1)
          (accept_sound _ sort_part sort_told u.0.1 s.0 s.1)),
      tt,
    )

-- a token at the first place
abbrev placed_at : Token → Placed
placed_at k = record { token = k; place = start }

-- every column is lawful
no_more : (c : Bool) → Fitting c (Unit {0})
no_more true = tt
no_more false = tt

-- an unknown rest of a column
abbrev sort_rest : List Part
sort_rest = at start (word_token Time) ∷ []

-- an unknown rest of a column, from its colon on
abbrev colon_rest : List Part
colon_rest = any (symbol_token Colon) ∷ sort_rest

-- tokens of such a rest
abbrev sort_tokens : Tokens
sort_tokens = placed_at (word_token Time) ∷ []

-- tokens of such a rest, from the colon on
abbrev colon_tokens : Tokens
colon_tokens = placed_at (symbol_token Colon) ∷ sort_tokens

-- the part that a colon is
abbrev colon_part : Unit {0} → Part
colon_part u = any (symbol_token Colon)

-- the tokens before the fault of a column begin one
pub column_viable : Viable column column_text (λ c. Unit {0})
unfolding column
column_viable ts e h =
    let R : Bool → Tokens → Type 0 = TextOf column_text (λ c. Unit {0}) in
    sub_step name _ (One name_part) (λ q. Unit {0}) R ts e (λ us q d. (accept_sound _ name_part name_told us q d, tt)) (accept_viable _ name_part _ name_stops) h
    (λ c n x spelled fit. (colon_tokens, (record { name = n.0; place = n.1; sort = time_sort; sort_place = start }, no_more c, spells_join (One name_part n) colon_rest x colon_tokens spelled (refl, ((refl, refl), refl)))))
    (λ n h1 us s1 f1 d1.
    let R1 : Bool → Tokens → Type 0 = λ c x. R c (h1 ++ x) in
    sub_step (expect Colon) _ (One colon_part) (λ u. Unit {0}) R1 us e (λ vs q d. (accept_sound _ colon_part (expect_told Colon) vs q d, tt)) (accept_viable _ colon_part _ (expect_stops Colon)) d1
    (λ c u x spelled fit. (sort_tokens, (record { name = n.0; place = n.1; sort = time_sort; sort_place = start }, no_more c, spells_join (One name_part n) colon_rest h1 (x ++ sort_tokens) s1 (spells_join (One colon_part u) sort_rest x sort_tokens spelled ((refl, refl), refl)))))
    (λ u h2 vs s2 f2 d2.
    sub_step (accept (λ t. with_place t.place (sort_of t.token))) _ (One sort_part) (λ q. Unit {0}) (λ c x. R1 c (h2 ++ x)) vs e (λ ws q d. (accept_sound _ sort_part sort_told ws q d, tt)) (accept_viable _ sort_part _ sort_stops) d2
    (λ c s x spelled fit. ([], (record { name = n.0; place = n.1; sort = s.0; sort_place = s.1 }, no_more c, spells_join (One name_part n) (colon_part u ∷ sort_part s ∷ []) h1 (h2 ++ (x ++ [])) s1 (spells_join (One colon_part u) (One sort_part s) h2 (x ++ []) s2 (spells_join (One sort_part s) [] x [] spelled refl)))))
    (λ s h3 ws s3 f3 d3. absurd cc)))
