-- Texts of the other languages say the same in the wide language, where a query is a file without definitions.
use Rattle.std.proofs.Common.{◌≡◌, ◌≤◌, ℕ, zero, suc, Bool, true, false, List, [], ◌∷◌, ◌++◌, map, length, refl, ap, sym, ◌∙◌, subst, ◌==◌, if◌then◌else◌, arith}
use Rattle.std.specs.List.{AllByRecursion}
use Rattle.std.specs.Char.{is_ascii_digit}
use Rattle.lrp_model.specs.declared.tokens.Symbol.TheVariants.{Open, Close, OpenBrace, CloseBrace, Comma, Colon, Semicolon, Bar, Plus, Minus, Le, Ge, Lt, Gt, Equals}
use Rattle.lrp_model.specs.declared.tokens.Word.{Word}
use Rattle.lrp_model.specs.declared.tokens.Word.TheVariants.{And, Or, Implies, Not, Exists, Forall}
use Rattle.lrp_model.specs.declared.tokens.Place.{Place}
use Rattle.lrp_model.specs.declared.written.Located.{Located}
use Rattle.lrp_model.specs.Lexing.{is_letter, is_name_byte, run, after_run, word_or_name, Scanned, text_from, text_scanned, one, one_or_two, further_symbol, no_symbol, symbol_in, scan_in, after, skip, start, headed, tokens_in_from, tokens_in}
use Rattle.std.specs.Str.Parse.{digits_value}
use Rattle.lrp_model.specs.Tokens.{Token, Placed, Tokens, Part, Takes, Spells, located_text, separated, from}
use Rattle.lrp_model.specs.Tokens.Token.{name_token, word_token, number_token, text_token, symbol_token, end_token, bad_token, hole_token}
use Rattle.lrp_model.specs.Tokens.Part.{at, any}
use Rattle.lrp_model.specs.Columns.{column_text}
use Rattle.lrp_model.specs.Databases.{comma}
use Rattle.lrp_model.specs.Queries.{Language, TakesWide, WrittenFormula, FurtherMembers, WrittenArgument, WrittenQuery, formula_text, members_text, argument_text, query_text, looseness, IsOrdered, AreOrdered, FitsArgument, FitsSizes, FitSizes, FitsDepth, FitDepth, Deeper, operator_text, interval_text, ranged_word, paired_word}
use Rattle.lrp_model.specs.Queries.Language.{wide}
use Rattle.lrp_model.specs.Queries.WrittenArgument.{argument, star}
use Rattle.lrp_model.specs.Queries.WrittenFormula.{atom_formula, compared, member, denied, all_of, any_of, implied, group, some, every, ranged, paired, differing, several, bare_all, bare_any, bare_chain, chain, hole}
use Rattle.lrp_model.specs.Queries.FurtherMembers.{last, more}
use Rattle.lrp_model.specs.QueryMeaning.{raw_argument, raw_form, raw_forms}
use Rattle.lrp_model.specs.QueryReading.{IsQueryIn, IsFile}
use Rattle.lrp_model.specs.RawQueries.{RawQuestion, raw, raw_atom, raw_not, raw_and, raw_or, raw_implies, raw_group, raw_exists, raw_forall, raw_ranged, raw_paired, no_raws}
use Rattle.lrp_model.specs.DatabaseMeaning.{integer_of}
use Rattle.lrp_text.proofs.Sound.{takes_split, takes_front}
use Rattle.lrp_query.specs.Reading.{query_alone}
use Rattle.lrp_query.proofs.WideWritten.{Formula, Further}

-- ---- the same tokens

-- a token that is no bad byte
abbrev Real : Token → Type 0
Real bad_token = ⊥
Real _ = Unit {0}

abbrev AllReal : Tokens → Type 0
AllReal = AllByRecursion (λ t. Real t.token)

-- what the symbols of the wide language alone don't change
either_way : (b : Bool) (x y z : Scanned) → (Real z.token → y ≡ z) → Real (if b then x else z).token → (if b then x else y) ≡ (if b then x else z)
either_way true x y z same real = refl
either_way false x y z same real = same real

symbol_alike : (b : ℕ) (bs : List ℕ) → Real (symbol_in false b bs).token → symbol_in true b bs ≡ symbol_in false b bs
unfolding symbol_in
symbol_alike b bs =
    either_way (b == 40) (one Open b bs) _ _ (either_way (b == 41) (one Close b bs) _ _ (either_way (b == 123) (one OpenBrace b bs) _ _
    (either_way (b == 125) (one CloseBrace b bs) _ _ (either_way (b == 44) (one Comma b bs) _ _ (either_way (b == 58) (one Colon b bs) _ _
    (either_way (b == 59) (one Semicolon b bs) _ _ (either_way (b == 124) (one Bar b bs) _ _ (either_way (b == 43) (one Plus b bs) _ _
    (either_way (b == 45) (one Minus b bs) _ _ (either_way (b == 61) (one Equals b bs) _ _ (either_way (b == 60) (one_or_two Lt Le b bs) _ _
    (either_way (b == 62) (one_or_two Gt Ge b bs) (further_symbol b bs) (no_symbol b bs) (λ real. absurd real)))))))))))))

scan_alike : (bs : List ℕ) → Real (scan_in false bs).token → scan_in true bs ≡ scan_in false bs
unfolding scan_in
scan_alike [] real = refl
scan_alike (b ∷ bs) real =
    either_way (is_letter b) (record { token = word_or_name (run is_name_byte (b ∷ bs)); taken = run is_name_byte (b ∷ bs); left = after_run is_name_byte (b ∷ bs) }) _ _
    (either_way (is_ascii_digit b) (record { token = number_token (digits_value 10 (run is_ascii_digit (b ∷ bs))); taken = run is_ascii_digit (b ∷ bs); left = after_run is_ascii_digit (b ∷ bs) }) _ _
    (either_way (b == 34) (text_scanned (text_from false bs)) (symbol_in true b bs) (symbol_in false b bs) (symbol_alike b bs))) real

first_real : (p : Place) (s : Scanned) (k : Token) (rest : Tokens) → AllReal (headed p s k rest) → Real k
first_real p s bad_token rest h = h.0
first_real p s (name_token n) rest h = tt
first_real p s (word_token w) rest h = tt
first_real p s (number_token n) rest h = tt
first_real p s (text_token t) rest h = tt
first_real p s (symbol_token y) rest h = tt
first_real p s end_token rest h = tt
first_real p s hole_token rest h = tt

headed_alike : (p : Place) (s : Scanned) (k : Token) (xs ys : Tokens) → AllReal (headed p s k ys) → (AllReal ys → xs ≡ ys) → headed p s k xs ≡ headed p s k ys
headed_alike p s bad_token xs ys h same = refl
headed_alike p s end_token xs ys h same = refl
headed_alike p s (name_token n) xs ys h same = ap (λ r. record { token = name_token n; place = p } ∷ r) (same h.1)
headed_alike p s (word_token w) xs ys h same = ap (λ r. record { token = word_token w; place = p } ∷ r) (same h.1)
headed_alike p s (number_token n) xs ys h same = ap (λ r. record { token = number_token n; place = p } ∷ r) (same h.1)
headed_alike p s (text_token t) xs ys h same = ap (λ r. record { token = text_token t; place = p } ∷ r) (same h.1)
headed_alike p s (symbol_token y) xs ys h same = ap (λ r. record { token = symbol_token y; place = p } ∷ r) (same h.1)
headed_alike p s hole_token xs ys h same = ap (λ r. record { token = hole_token; place = p } ∷ r) (same h.1)

from_alike : (n : ℕ) (p : Place) (bs : List ℕ) → AllReal (tokens_in_from false n p bs) → tokens_in_from true n p bs ≡ tokens_in_from false n p bs
unfolding tokens_in_from
from_alike zero p bs h = refl
from_alike (suc n) p bs h =
    let a = skip false p bs in
    let s = scan_in false a.bytes in
    ap (λ x. headed a.place x x.token (tokens_in_from true n (after a.place x.taken) x.left)) (scan_alike a.bytes (first_real a.place s s.token (tokens_in_from false n (after a.place s.taken) s.left) h))
    ∙ headed_alike a.place s s.token (tokens_in_from true n (after a.place s.taken) s.left) (tokens_in_from false n (after a.place s.taken) s.left) h (from_alike n (after a.place s.taken) s.left)

-- ---- tokens that come to their end

abbrev ComesToEnd : Tokens → Type 0
ComesToEnd [] = ⊥
ComesToEnd (t ∷ []) = t.token ≡ end_token
ComesToEnd (t ∷ u ∷ ts) = ComesToEnd (u ∷ ts)

after_ends : (head us : Tokens) → ComesToEnd us → ComesToEnd (head ++ us)
after_ends [] us e = e
after_ends (t ∷ []) [] e = absurd e
after_ends (t ∷ []) (u ∷ us) e = e
after_ends (t ∷ u ∷ head) us e = after_ends (u ∷ head) us e

taken_ends : (ps : List Part) (ts us : Tokens) → Takes ps ts us → ComesToEnd us → ComesToEnd ts
taken_ends ps ts us h e = let f = takes_front ps ts us h in subst ComesToEnd (sym f.whole) (after_ends f.head us e)

-- nothing after a bad byte
one_more : (t : Placed) (rest : Tokens) → Real t.token → (t.token ≡ end_token → ⊥) → ComesToEnd (t ∷ rest) → (ComesToEnd rest → AllReal rest) → AllReal (t ∷ rest)
one_more t [] real no_end e all = absurd (no_end e)
one_more t (u ∷ us) real no_end e all = (real, all e)

headed_real : (p : Place) (s : Scanned) (k : Token) (rest : Tokens) → ComesToEnd (headed p s k rest) → (ComesToEnd rest → AllReal rest) → AllReal (headed p s k rest)
headed_real p s bad_token rest e all = absurd cc
headed_real p s end_token rest e all = (tt, tt)
headed_real p s (name_token n) rest e all = one_more (record { token = name_token n; place = p }) rest tt (λ x. absurd cc) e all
headed_real p s (word_token w) rest e all = one_more (record { token = word_token w; place = p }) rest tt (λ x. absurd cc) e all
headed_real p s (number_token n) rest e all = one_more (record { token = number_token n; place = p }) rest tt (λ x. absurd cc) e all
headed_real p s (text_token t) rest e all = one_more (record { token = text_token t; place = p }) rest tt (λ x. absurd cc) e all
headed_real p s (symbol_token y) rest e all = one_more (record { token = symbol_token y; place = p }) rest tt (λ x. absurd cc) e all
headed_real p s hole_token rest e all = one_more (record { token = hole_token; place = p }) rest tt (λ x. absurd cc) e all

from_real : (n : ℕ) (p : Place) (bs : List ℕ) → ComesToEnd (tokens_in_from false n p bs) → AllReal (tokens_in_from false n p bs)
unfolding tokens_in_from
from_real zero p bs e = tt
from_real (suc n) p bs e =
    let a = skip false p bs in
    let s = scan_in false a.bytes in
    headed_real a.place s s.token (tokens_in_from false n (after a.place s.taken) s.left) e (from_real n (after a.place s.taken) s.left)

-- the tokens of a text that comes to its end are those of the wide language
tokens_alike : (bytes : List ℕ) → ComesToEnd (tokens_in false bytes) → tokens_in true bytes ≡ tokens_in false bytes
tokens_alike bytes e = from_alike (suc (length bytes)) start bytes (from_real (suc (length bytes)) start bytes e)

-- a query comes to its end
query_ends : {l : Language} (q : WrittenQuery l) (ts : Tokens) → Spells (query_text q) ts → ComesToEnd ts
query_ends q [] s = absurd s
query_ends q (t ∷ ts) s =
    let ending : List Part = any (symbol_token CloseBrace) ∷ any end_token ∷ [] in
    let a = takes_split (separated comma column_text q.head) (any (symbol_token Bar) ∷ (formula_text q.body ++ ending)) ts [] s.1 in
    after_ends (t ∷ []) ts (taken_ends (separated comma column_text q.head) ts a.0 a.1 (barred a.0 a.2))
  where
    closed : (ks : Tokens) → Takes (any (symbol_token CloseBrace) ∷ any end_token ∷ []) ks [] → ComesToEnd ks
    closed [] h = absurd h
    closed (x ∷ []) h = absurd h.1
    closed (x ∷ y ∷ []) h = h.1.0
    closed (x ∷ y ∷ z ∷ ks) h = absurd cc

    barred : (ms : Tokens) → Takes (any (symbol_token Bar) ∷ (formula_text q.body ++ any (symbol_token CloseBrace) ∷ any end_token ∷ [])) ms [] → ComesToEnd ms
    barred [] h = absurd h
    barred (x ∷ ms) h =
        let b = takes_split (formula_text q.body) (any (symbol_token CloseBrace) ∷ any end_token ∷ []) ms [] h.1 in
        after_ends (x ∷ []) ms (taken_ends (formula_text q.body) ms b.0 b.1 (closed b.0 b.2))

-- ---- the same trees

-- a tree of the wide language that says the same in the same words
record Alike {l : Language} (f : WrittenFormula l) : Type 0 where
  tree : Formula
  tight : looseness tree ≤ 0
  ordered : IsOrdered tree
  text : formula_text tree ≡ formula_text f
  means : raw_form tree ≡ raw_form f
  sizes : FitsSizes f → FitsSizes tree
  depth : (d : ℕ) → FitsDepth f d → FitsDepth tree d

record AlikeMembers {l : Language} (fs : FurtherMembers l) : Type 0 where
  members : Further
  ordered : (most : ℕ) → AreOrdered members most
  text : (w : Word) → members_text w members ≡ members_text w fs
  means : raw_forms members ≡ raw_forms fs
  sizes : FitSizes fs → FitSizes members
  depth : (d : ℕ) → FitDepth fs d → FitDepth members d

record AlikeArguments {l : Language} (xs : List (Located (WrittenArgument l))) : Type 0 where
  items : List (Located (WrittenArgument wide))
  text : separated comma (located_text argument_text) items ≡ separated comma (located_text argument_text) xs
  means : map raw_argument items ≡ map raw_argument xs
  sizes : AllByRecursion (λ a. FitsArgument a.item) xs → AllByRecursion (λ a. FitsArgument a.item) items

deeper_as : (d : ℕ) (P Q : ℕ → Type 0) → ((m : ℕ) → P m → Q m) → Deeper d P → Deeper d Q
deeper_as zero P Q f h = h
deeper_as (suc d) P Q f h = f d h

module _ {l : Language} (narrow : TakesWide l → ⊥) where
  -- one argument, which is a term
  same_item : (a : WrittenArgument l) → (b : WrittenArgument wide) × ((p : Place) → from p (argument_text b) ≡ from p (argument_text a)) × ((p : Place) → raw_argument (record { item = b; place = p }) ≡ raw_argument (record { item = a; place = p })) × (FitsArgument a → FitsArgument b)
  same_item (argument t) = (argument t, (λ p. refl), (λ p. refl), λ h. h)
  same_item (star t) = absurd (narrow t)

  -- one argument or more
  some_arguments : (x : Located (WrittenArgument l)) (xs : List (Located (WrittenArgument l))) → (i : Located (WrittenArgument wide)) × (is : List (Located (WrittenArgument wide))) × (separated comma (located_text argument_text) (i ∷ is) ≡ separated comma (located_text argument_text) (x ∷ xs)) × (map raw_argument (i ∷ is) ≡ map raw_argument (x ∷ xs)) × (AllByRecursion (λ a. FitsArgument a.item) (x ∷ xs) → AllByRecursion (λ a. FitsArgument a.item) (i ∷ is))
  some_arguments x [] = let s = same_item x.item in (record { item = s.0; place = x.place }, [], s.1 x.place, ap (λ r. r ∷ []) (s.2 x.place), λ h. (s.3 h.0, tt))
  some_arguments x (y ∷ xs) =
      let s = same_item x.item in
      let r = some_arguments y xs in (
        record { item = s.0; place = x.place },
        r.0 ∷ r.1,
        ap (λ q. q ++ comma ∷ separated comma (located_text argument_text) (r.0 ∷ r.1)) (s.1 x.place) ∙ ap (λ q. located_text argument_text x ++ comma ∷ q) r.2,
        ap (λ z. z ∷ map raw_argument (r.0 ∷ r.1)) (s.2 x.place) ∙ ap (λ z. raw_argument x ∷ z) r.3,
        (λ h. (s.3 h.0, r.4 h.1)),
      )

  same_arguments : (xs : List (Located (WrittenArgument l))) → AlikeArguments xs
  same_arguments [] = record { items = []; text = refl; means = refl; sizes = λ h. h }
  same_arguments (x ∷ xs) = let r = some_arguments x xs in record { items = r.0 ∷ r.1; text = r.2; means = r.3; sizes = r.4 }

  mutual
    alike : (f : WrittenFormula l) → Alike f
    alike (atom_formula p n xs) =
        let s = same_arguments xs in
        record { tree = atom_formula p n s.items; tight = omega arith; ordered = tt; text = ap (λ q. at p (name_token n) ∷ any (symbol_token Open) ∷ (q ++ any (symbol_token Close) ∷ [])) s.text; means = ap (raw_atom p n) s.means; sizes = s.sizes; depth = λ d h. h }
    alike (compared x op r) = record { tree = compared x op r; tight = omega arith; ordered = tt; text = refl; means = refl; sizes = λ h. h; depth = λ d h. h }
    alike (member t i k) = record { tree = member t i k; tight = omega arith; ordered = tt; text = refl; means = refl; sizes = λ h. h; depth = λ d h. h }
    alike (denied p f) = let s = alike f in record { tree = denied p s.tree; tight = omega arith; ordered = (s.tight, s.ordered); text = ap (λ q. at p (word_token Not) ∷ q) s.text; means = ap (raw_not p) s.means; sizes = s.sizes; depth = λ d. deeper_as d (FitsDepth f) (FitsDepth s.tree) s.depth }
    alike (all_of p f fs) =
        let s = alike f in
        let r = alike_members fs in
        record { tree = all_of p s.tree r.members; tight = omega arith; ordered = (s.tight, s.ordered, r.ordered 0); text = ap (λ q. at p (symbol_token Open) ∷ (q ++ (members_text And r.members ++ any (symbol_token Close) ∷ []))) s.text ∙ ap (λ q. at p (symbol_token Open) ∷ (formula_text f ++ (q ++ any (symbol_token Close) ∷ []))) (r.text And); means = ap (λ q. raw_and p (raw q (raw_forms r.members))) s.means ∙ ap (λ q. raw_and p (raw (raw_form f) q)) r.means; sizes = λ h. (s.sizes h.0, r.sizes h.1); depth = λ d. deeper_as d (λ m. FitsDepth f m × FitDepth fs m) (λ m. FitsDepth s.tree m × FitDepth r.members m) (λ m h. (s.depth m h.0, r.depth m h.1)) }
    alike (any_of p f fs) =
        let s = alike f in
        let r = alike_members fs in
        record { tree = any_of p s.tree r.members; tight = omega arith; ordered = (omega (arith, s.tight), s.ordered, r.ordered 1); text = ap (λ q. at p (symbol_token Open) ∷ (q ++ (members_text Or r.members ++ any (symbol_token Close) ∷ []))) s.text ∙ ap (λ q. at p (symbol_token Open) ∷ (formula_text f ++ (q ++ any (symbol_token Close) ∷ []))) (r.text Or); means = ap (λ q. raw_or p (raw q (raw_forms r.members))) s.means ∙ ap (λ q. raw_or p (raw (raw_form f) q)) r.means; sizes = λ h. (s.sizes h.0, r.sizes h.1); depth = λ d. deeper_as d (λ m. FitsDepth f m × FitDepth fs m) (λ m. FitsDepth s.tree m × FitDepth r.members m) (λ m h. (s.depth m h.0, r.depth m h.1)) }
    alike (implied p f g) =
        let s = alike f in
        let r = alike g in
        record { tree = implied p s.tree r.tree; tight = omega arith; ordered = (omega (arith, s.tight), s.ordered, omega (arith, r.tight), r.ordered); text = ap (λ q. at p (symbol_token Open) ∷ (q ++ any (word_token Implies) ∷ (formula_text r.tree ++ any (symbol_token Close) ∷ []))) s.text ∙ ap (λ q. at p (symbol_token Open) ∷ (formula_text f ++ any (word_token Implies) ∷ (q ++ any (symbol_token Close) ∷ []))) r.text; means = ap (λ q. raw_implies p q (raw_form r.tree)) s.means ∙ ap (raw_implies p (raw_form f)) r.means; sizes = λ h. (s.sizes h.0, r.sizes h.1); depth = λ d. deeper_as d (λ m. FitsDepth f m × FitsDepth g m) (λ m. FitsDepth s.tree m × FitsDepth r.tree m) (λ m h. (s.depth m h.0, r.depth m h.1)) }
    alike (group p f) = let s = alike f in record { tree = group p s.tree; tight = omega arith; ordered = (s.tight, s.ordered); text = ap (λ q. at p (symbol_token Open) ∷ (q ++ any (symbol_token Close) ∷ [])) s.text; means = ap (raw_group p) s.means; sizes = s.sizes; depth = λ d. deeper_as d (FitsDepth f) (FitsDepth s.tree) s.depth }
    alike (some p b f) = let s = alike f in record { tree = some p b s.tree; tight = omega arith; ordered = (s.tight, s.ordered); text = ap (λ q. at p (word_token Exists) ∷ (column_text b ++ q)) s.text; means = ap (raw_exists p b) s.means; sizes = s.sizes; depth = λ d. deeper_as d (FitsDepth f) (FitsDepth s.tree) s.depth }
    alike (every p b f) = let s = alike f in record { tree = every p b s.tree; tight = omega arith; ordered = (s.tight, s.ordered); text = ap (λ q. at p (word_token Forall) ∷ (column_text b ++ q)) s.text; means = ap (raw_forall p b) s.means; sizes = s.sizes; depth = λ d. deeper_as d (FitsDepth f) (FitsDepth s.tree) s.depth }
    alike (ranged t w o a b f) = let s = alike f in record { tree = ranged tt w o a b s.tree; tight = omega arith; ordered = (s.tight, s.ordered); text = ap (λ q. operator_text (ranged_word w) o ++ (interval_text a b ++ q)) s.text; means = ap (raw_ranged w o (integer_of a) (integer_of b)) s.means; sizes = λ h. (h.0, h.1, s.sizes h.2); depth = λ d. deeper_as d (FitsDepth f) (FitsDepth s.tree) s.depth }
    alike (paired t w o f g) =
        let s = alike f in
        let r = alike g in
        record { tree = paired tt w o s.tree r.tree; tight = omega arith; ordered = (s.ordered, r.ordered); text = ap (λ q. operator_text (paired_word w) o ++ (q ++ any (symbol_token Comma) ∷ (formula_text r.tree ++ any (symbol_token Close) ∷ []))) s.text ∙ ap (λ q. operator_text (paired_word w) o ++ (formula_text f ++ any (symbol_token Comma) ∷ (q ++ any (symbol_token Close) ∷ []))) r.text; means = ap (λ q. raw_paired w o q (raw_form r.tree)) s.means ∙ ap (raw_paired w o (raw_form f)) r.means; sizes = λ h. (s.sizes h.0, r.sizes h.1); depth = λ d. deeper_as d (λ m. FitsDepth f m × FitsDepth g m) (λ m. FitsDepth s.tree m × FitsDepth r.tree m) (λ m h. (s.depth m h.0, r.depth m h.1)) }
    alike (hole p) = record { tree = hole p; tight = omega arith; ordered = tt; text = refl; means = refl; sizes = λ h. h; depth = λ d h. h }
    alike (differing t x r) = absurd (narrow t)
    alike (several t q p ns b f) = absurd (narrow t)
    alike (bare_all t f fs) = absurd (narrow t)
    alike (bare_any t f fs) = absurd (narrow t)
    alike (bare_chain t f fs) = absurd (narrow t)
    alike (chain t p f g fs) = absurd (narrow t)

    alike_members : (fs : FurtherMembers l) → AlikeMembers fs
    alike_members (last f) = let s = alike f in record { members = last s.tree; ordered = λ most. (omega (arith, s.tight), s.ordered); text = λ w. ap (λ q. any (word_token w) ∷ q) s.text; means = ap (λ q. raw q no_raws) s.means; sizes = s.sizes; depth = s.depth }
    alike_members (more f fs) =
        let s = alike f in
        let r = alike_members fs in
        record { members = more s.tree r.members; ordered = λ most. (omega (arith, s.tight), s.ordered, r.ordered most); text = λ w. ap (λ q. any (word_token w) ∷ (q ++ members_text w r.members)) s.text ∙ ap (λ q. any (word_token w) ∷ (formula_text f ++ q)) (r.text w); means = ap (λ q. raw q (raw_forms r.members)) s.means ∙ ap (raw (raw_form f)) r.means; sizes = λ h. (s.sizes h.0, r.sizes h.1); depth = λ d h. (s.depth d h.0, r.depth d h.1) }

  -- ---- queries

  pub narrow_alike : (bytes : List ℕ) (q : RawQuestion) → IsQueryIn l bytes q → IsFile bytes (query_alone q)
  narrow_alike bytes q t =
      let s = alike t.tree.body in
      let tree : WrittenQuery wide = record { head = t.tree.head; body = s.tree; formula = s.ordered } in
      let words : query_text tree ≡ query_text t.tree = ap (λ ps. any (symbol_token OpenBrace) ∷ (separated comma column_text t.tree.head ++ any (symbol_token Bar) ∷ (ps ++ any (symbol_token CloseBrace) ∷ any end_token ∷ []))) s.text in
      let spelled : Spells (query_text tree) (tokens_in false bytes) = subst (λ ps. Spells ps (tokens_in false bytes)) (sym words) t.text.spelled in
      let again : tokens_in true bytes ≡ tokens_in false bytes = tokens_alike bytes (query_ends t.tree (tokens_in false bytes) t.text.spelled) in
      record {
        tree = record { definitions = []; query = tree };
        text = record { utf8 = t.text.utf8; spelled = subst (Spells (query_text tree)) (sym again) spelled; lawful = record { definitions = tt; query = record { sizes = s.sizes t.text.lawful.sizes; depth = s.depth 64 t.text.lawful.depth } } };
        meant = ap query_alone (t.meant ∙ ap (λ f. record { head = t.tree.head; body = f }) (sym s.means));
      }
