-- The rules for edits: local, complete, sound and viable, so that they refuse exactly where the grammar says, and never for depth.
use Rattle.std.proofs.Common.{◌≡◌, ◌<◌, ◌+◌, ℕ, Bool, true, false, List, [], ◌∷◌, ◌++◌, inl, refl, sym, subst, Ok, Err, if◌then◌else◌, length, arith, append-nil}
use Rattle.lrp_model.specs.declared.tokens.Symbol.{Symbol}
use Rattle.lrp_model.specs.declared.tokens.Symbol.TheVariants.{Open, Close, Semicolon, Plus, Minus}
use Rattle.lrp_model.specs.declared.tokens.Fault.{Fault}
use Rattle.lrp_model.specs.declared.written.Located.{Located}
use Rattle.lrp_model.specs.declared.written.RawRow.{RawRow}
use Rattle.lrp_model.specs.Texts.{Identifier}
use Rattle.lrp_model.specs.Lexing.{start}
use Rattle.lrp_model.specs.Tokens.{Placed, Tokens, Part, Takes, Spells, located_text}
use Rattle.lrp_model.specs.Tokens.Token.{name_token, symbol_token}
use Rattle.lrp_model.specs.Tokens.Part.{any}
use Rattle.lrp_model.specs.Refused.{Stops, TextOf, IsRefusedAt}
use Rattle.lrp_model.specs.Databases.{name_part, row_text, FitsRow}
use Rattle.lrp_text.specs.Parsers.{◌>>=◌, pure, eat, until_from}
use Rattle.lrp_text.specs.Taking.{is_symbol, is_symbol_token, is_end, is_end_token, expect, expect_end, located}
use Rattle.lrp_text.proofs.Local.{Local, bind_local, accept_local, pure_local, eat_local, if_local}
use Rattle.lrp_text.proofs.Complete.{Answers, ReadsBack, Anything, Sees, bind_back, then_back, pure_back, accepts_back, eat_back, eat_none, answers_then, first_sees_any, first_is_not, MemberUntil}
use Rattle.lrp_text.proofs.Sound.{Sound, bind_ok, eat_sound, eaten_parts, takes_join, takes_split, takes_shorter}
use Rattle.lrp_text.proofs.Viable.{Viable, One, sub_step, sub_short, eat_step, spells_join, always}
use Rattle.lrp_text.proofs.TokenTests.{symbol_told, symbol_seen, expect_seen}
use Rattle.lrp_text.proofs.LocatedRule.{located_local, located_answers, located_sound, located_stops}
use Rattle.lrp_text.proofs.Refusal.{Rule, refused_at}
use Rattle.lrp_edits.specs.declared.edits.RawEdit.{RawEdit}
use Rattle.lrp_rel.specs.Rules.{label, row}
use Rattle.lrp_edits.specs.EditTexts.{change_part, edit_text, edits_text, FitsEdit, FitsEdits}
use Rattle.lrp_edits.specs.EditRules.{change, edit, edits}
use Rattle.lrp_rel.proofs.Labels.{label_local, label_back, label_sound, label_viable}
use Rattle.lrp_rel.proofs.LocalRules.{row_local}
use Rattle.lrp_rel.proofs.RowRules.{row_answers, row_sound, row_viable, sym_part, symbol_sound, symbol_viable}
use Rattle.lrp_rel.proofs.RelationRules.{row_leads}
use Rattle.lrp_rel.proofs.UntilEnd.{ItemRule, items_once, items_rule, items_sound}
use Rattle.lrp_rel.proofs.Shallow.{Shallow, bind_shallow, if_shallow, pure_shallow, eat_shallow, until_shallow, located_shallow, expects, label_shallow, row_shallow}

-- ---- local

-- a sign depends on its tokens and on the next one alone
pub change_local : Local change
unfolding change
change_local =
    bind_local (eat (is_symbol Plus)) _ (eat_local _) (λ plus.
    if_local plus _ _ (pure_local _) (bind_local (expect Minus) _ (accept_local _) (λ u. pure_local _)))

-- an edit depends on its tokens and on the next one alone
edit_local : (n : ℕ) → Local (edit n)
unfolding edit
edit_local n =
    bind_local change _ change_local (λ add.
    bind_local label _ label_local (λ who.
    bind_local (located (row n)) _ (located_local (row n) (row_local n)) (λ r. pure_local _)))

-- ---- complete

-- the token of a sign is read back
change_back : (add : Bool) (L : Type 0) → ReadsBack change (One change_part add) add L Anything
unfolding change
change_back true L = then_back _ (eat_back (is_symbol Plus) (any (symbol_token Plus)) L (symbol_seen Plus)) (pure_back true L Anything)
change_back false L =
    bind_back _ (eat_none (is_symbol Plus) L)
    (then_back _ (accepts_back _ (any (symbol_token Minus)) tt L (expect_seen Minus)) (pure_back false L Anything))
    (λ ts left h g. first_is_not (is_symbol_token Plus) (symbol_token Minus) [] ts left refl h)

-- the parts of an edit from its name on
abbrev pub from_name : Located Identifier → Located RawRow → List Part
from_name n r = name_part n ∷ located_text row_text r

-- an edit that fewer tokens spell than the number of turns is read
edit_answers : (n : ℕ) (e : RawEdit) (ts left : Tokens) → length ts < n → Takes (edit_text e) ts left → Answers (edit n ts) e left (FitsEdit e)
unfolding edit
edit_answers n e ts left lt h =
    let L : Type 0 = FitsEdit e in
    let k = takes_split (One change_part e.add) (from_name e.relation e.row) ts left h in
    let m = takes_split (One name_part e.relation) (located_text row_text e.row) k.0 left k.2 in
    let one : length k.0 + length (One change_part e.add) ≡ length ts = takes_shorter (One change_part e.add) ts k.0 k.1 in
    let two : length m.0 + length (One name_part e.relation) ≡ length k.0 = takes_shorter (One name_part e.relation) k.0 m.0 m.1 in
    answers_then (change ts) _ e.add k.0 e left L ((change_back e.add L).reads ts k.0 k.1 tt)
    (answers_then (label k.0) _ e.relation m.0 e left L ((label_back e.relation L).reads k.0 m.0 m.1 tt)
    (answers_then (located (row n) m.0) _ e.row left e left L
    (located_answers (row n) row_text e.row L m.0 left tt m.2 (λ d. row_answers n e.row.item m.0 left (omega (arith, one, two, lt)) d)) (inl refl)))

-- a sign is not the end
change_sees : (add : Bool) (ps : List Part) (ts left : Tokens) → Takes (change_part add ∷ ps) ts left → Sees false is_end false ts
change_sees true ps ts left h = first_sees_any false is_end_token (symbol_token Plus) ps ts left h
change_sees false ps ts left h = first_sees_any false is_end_token (symbol_token Minus) ps ts left h

-- an edit as a member of a list
edits_member : (n : ℕ) → MemberUntil (edit n) edit_text FitsEdit Anything is_end n
edits_member n = record {
  one = λ a ts left lt h g. edit_answers n a ts left lt h;
  begins = λ a ts left h. (change_sees a.add (from_name a.relation a.row) ts left h, tt);
}

-- an edit has a token
edit_has_token : (e : RawEdit) → 0 < length (edit_text e)
edit_has_token e = omega arith

-- ---- sound

-- after a plus, or where there is none
after_plus : (plus : Bool) (ts us : Tokens) (q : Bool × Tokens) → (if plus then pure true else (expect Minus >>= (λ u. pure false))) us ≡ Ok q → Takes (eaten_parts (any (symbol_token Plus)) plus) ts us → Takes (One change_part q.0) ts q.1 × Unit {0}
after_plus true ts us q e eaten = let h : (true, us) ≡ q = cc in subst (λ y. Takes (One change_part y.0) ts y.1 × Unit {0}) h (eaten, tt)
after_plus false ts us q e eaten =
    let m = bind_ok (expect Minus us) _ q e in
    let h : (false, m.0.1) ≡ q = cc in
    let one = symbol_sound Minus us m.0 m.1 in
    subst (λ y. Takes (One change_part y.0) ts y.1 × Unit {0}) h (subst (λ x. Takes (One change_part false) x m.0.1) (sym eaten) one.0, tt)

-- a sign that is read is spelled so
change_sound : Sound change (One change_part) (λ add. Unit {0})
unfolding change
change_sound ts q e =
    let p = bind_ok (eat (is_symbol Plus) ts) _ q e in
    after_plus p.0.0 ts p.0.1 q p.2 (eat_sound (is_symbol Plus) (any (symbol_token Plus)) (symbol_told Plus) ts p.0 p.1)

-- a row with its place that is read is spelled so, and is lawful
placed_sound : (n : ℕ) → Sound (located (row n)) (located_text row_text) (λ r. FitsRow r.item)
placed_sound n = located_sound (row n) row_text FitsRow row_leads (row_sound n)

-- an edit by its parts
abbrev made_of : Bool → Located Identifier → Located RawRow → RawEdit
made_of add n r = record { add = add; relation = n; row = r }

-- an edit that is read is spelled so, and is lawful
edit_sound : (n : ℕ) → Sound (edit n) edit_text FitsEdit
unfolding edit
edit_sound n ts q e =
    let c = bind_ok (change ts) _ q e in
    let m = bind_ok (label c.0.1) _ q c.2 in
    let r = bind_ok (located (row n) m.0.1) _ q m.2 in
    let h : (made_of c.0.0 m.0.0 r.0.0, r.0.1) ≡ q = cc in
    let one = placed_sound n m.0.1 r.0 r.1 in
    subst (λ y. Takes (edit_text y.0) ts y.1 × FitsEdit y.0) h (
      takes_join (One change_part c.0.0) (from_name m.0.0 r.0.0) ts c.0.1 r.0.1 (change_sound ts c.0 c.1).0
          (takes_join (One name_part m.0.0) (located_text row_text r.0.0) c.0.1 m.0.1 r.0.1 (label_sound c.0.1 m.0 m.1).0 one.0),
      one.1,
    )

-- ---- viable

-- the tokens before a fault of a sign begin one
change_viable : Viable change (One change_part) (λ add. Unit {0})
unfolding change
change_viable ts e h =
    let R : Bool → Tokens → Type 0 = TextOf (One change_part) (λ add. Unit {0}) in
    eat_step (is_symbol Plus) _ R ts e h (λ t vs told d. absurd cc)
    (λ d. sub_step (expect Minus) _ (One (sym_part Minus)) (λ u. Unit {0}) R ts e (symbol_sound Minus) (symbol_viable Minus) d
    (λ c u x spelled fit. ([], (false, always (Unit {0}) c tt, subst (λ y. Spells (One change_part false) y) (sym (append-nil x)) spelled)))
    (λ u head us s f k. absurd cc))

-- a symbol at the first place
abbrev symbol_at : Symbol → Placed
symbol_at s = record { token = symbol_token s; place = start }

-- a row of no values, and its tokens
abbrev some_row : Located RawRow
some_row = record { place = start; item = record { values = []; bounds = [] } }

abbrev row_tokens : Tokens
row_tokens = symbol_at Open ∷ symbol_at Close ∷ symbol_at Semicolon ∷ []

row_spelled : Spells (located_text row_text some_row) row_tokens
row_spelled = ((refl, refl), (refl, (refl, refl)))

-- a name for what is not written yet, and the tokens from it on
abbrev some_name : Located Identifier
some_name = record { place = start; item = [] }

abbrev name_tokens : Tokens
name_tokens = record { token = name_token []; place = start } ∷ row_tokens

-- the tokens before a fault of an edit begin one
edit_viable : (n : ℕ) (ts : Tokens) (e : Fault × Tokens) → length ts < n → edit n ts ≡ Err e → Stops (TextOf edit_text FitsEdit) ts e
unfolding edit
edit_viable n ts e lt h =
    let R : Bool → Tokens → Type 0 = TextOf edit_text FitsEdit in
    sub_short change _ (One change_part) (λ add. Unit {0}) R ts e change_sound (change_viable ts e) h
    (λ c add x spelled fit. (name_tokens, (made_of add some_name some_row, always (FitsRow some_row.item) c (tt, tt), spells_join (One change_part add) (from_name some_name some_row) x name_tokens spelled ((refl, refl), row_spelled))))
    (λ add h1 us s1 f1 l1 d1. sub_short label _ (One name_part) (λ m. Unit {0}) (λ c x. R c (h1 ++ x)) us e label_sound (label_viable us e) d1
    (λ c m x spelled fit. (row_tokens, (made_of add m some_row, always (FitsRow some_row.item) c (tt, tt), spells_join (One change_part add) (from_name m some_row) h1 (x ++ row_tokens) s1 (spells_join (One name_part m) (located_text row_text some_row) x row_tokens spelled row_spelled))))
    (λ m h2 vs s2 f2 l2 d2. sub_short (located (row n)) _ (located_text row_text) (λ r. FitsRow r.item) (λ c x. R c (h1 ++ (h2 ++ x))) vs e (placed_sound n) (λ d. located_stops (row n) row_text FitsRow vs e row_leads (λ k. row_viable n vs e (omega arith) k) d) d2
    (λ c r x spelled fit. ([], (made_of add m r, fit, spells_join (One change_part add) (from_name m r) h1 (h2 ++ (x ++ [])) s1 (spells_join (One name_part m) (located_text row_text r) h2 (x ++ []) s2 (subst (λ y. Spells (located_text row_text r) y) (sym (append-nil x)) spelled)))))
    (λ r h3 ws s3 f3 l3 d3. absurd cc)))

-- ---- all edits

-- the rule of an edit has all that an item's owes
pub edit_rule : ItemRule edit edit_text FitsEdit
edit_rule = record { local = edit_local; member = edits_member; sound = edit_sound; viable = edit_viable; some = edit_has_token }

-- what is read as edits is lawful, and the tokens spell it
pub edits_sound : (n : ℕ) → Sound (edits n) edits_text FitsEdits
unfolding edits
edits_sound n = items_sound edit edit_text FitsEdit edit_rule n

-- the rule of edits has all that a rule owes
pub edits_rule : Rule edits edits_text FitsEdits
unfolding edits
edits_rule = let r = items_rule edit edit_text FitsEdit edit_rule in record { local = r.local; complete = r.complete; viable = r.viable }

-- the tokens of no lawful edits are refused where the grammar says, for its cause
pub edits_refused : (ts : Tokens) (k : Fault) (bad : Placed) (tail : Tokens) → ((n : ℕ) → length ts < n → edits n ts ≡ Err (k, bad ∷ tail)) → IsRefusedAt (TextOf edits_text FitsEdits) ts k bad tail
edits_refused = refused_at edits edits_text FitsEdits edits_rule

-- tokens that spell lawful edits spell no others
pub same_edits : (a b : List RawEdit) (ts : Tokens) → FitsEdits a → Spells (edits_text a) ts → Spells (edits_text b) ts → a ≡ b
same_edits = items_once edit edit_text FitsEdit edit_rule

-- ---- never for depth

-- a sign is not refused for depth
change_shallow : Shallow change
unfolding change
change_shallow =
    bind_shallow (eat (is_symbol Plus)) _ (eat_shallow _) (λ plus.
    if_shallow plus _ _ (pure_shallow _) (bind_shallow (expect Minus) _ (expects (is_symbol Minus)) (λ u. pure_shallow _)))

-- an edit is not refused for depth
edit_shallow : (n : ℕ) → Shallow (edit n)
unfolding edit
edit_shallow n =
    bind_shallow change _ change_shallow (λ add.
    bind_shallow label _ label_shallow (λ who.
    bind_shallow (located (row n)) _ (located_shallow (row n) (row_shallow n)) (λ r. pure_shallow _)))

-- edits are not refused for depth
pub edits_shallow : (n : ℕ) → Shallow (edits n)
unfolding edits
edits_shallow n =
    bind_shallow (until_from (edit n) is_end n []) _ (until_shallow _ _ (edit_shallow n) n []) (λ es.
    bind_shallow expect_end _ (expects is_end) (λ u. pure_shallow _))
