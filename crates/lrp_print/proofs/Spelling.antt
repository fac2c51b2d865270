-- The parts that bytes spell from a place on, piece by piece.
use Rattle.std.proofs.Common.{◌≡◌, ◌==◌, ℕ, true, false, List, [], ◌∷◌, ◌++◌, refl, ap, ◌∙◌, sym, subst, append_assoc}
use Rattle.lrp_model.specs.declared.tokens.Place.{Place}
use Rattle.lrp_model.specs.Tokens.{Token, Tokens, Part, Takes}
use Rattle.lrp_model.specs.Tokens.Part.{at, any}
use Rattle.lrp_model.specs.Lexing.{Remainder, Scanned, is_blank, moved, after, skip, scan, headed}
use Rattle.lrp_text.specs.Sources.{next_at, next_of, after_next, tokens_left, HasTokensAfter}
use Rattle.lrp_text.proofs.Following.{next_tokens}
use Rattle.lrp_text.proofs.Standing.{tokens_go}
use Rattle.lrp_text.proofs.Sound.{takes_join}

-- the tokens of bytes from a place on
abbrev pub tokens_at : Place → List ℕ → Tokens
tokens_at p bs = tokens_left false (record { place = p; bytes = bs })

-- from a place on, the bytes spell the parts, and after them stand the tokens of the rest
pub record Spelled (parts : List Part) (place : Place) (bytes rest : List ℕ) : Type 0 where
  pub takes : Takes parts (tokens_at place (bytes ++ rest)) (tokens_at (after place bytes) rest)

-- the place after bytes and others
pub after_both : (p : Place) (v w : List ℕ) → after p (v ++ w) ≡ after (after p v) w
unfolding after
after_both p [] w = refl
after_both p (b ∷ v) w = after_both (moved p b) v w

-- no bytes spell no parts
pub nothing : (p : Place) (rest : List ℕ) → Spelled [] p [] rest
unfolding after
nothing p rest = record { takes = refl }

-- one piece and another after it
pub both : {ps qs : List Part} {p : Place} {v w rest : List ℕ} → Spelled ps p v (w ++ rest) → Spelled qs (after p v) w rest → Spelled (ps ++ qs) p (v ++ w) rest
both {ps} {qs} {p} {v} {w} {rest} f g =
    let P : List ℕ → Type 0 = λ x. Takes (ps ++ qs) (tokens_at p x) (tokens_at (after p (v ++ w)) rest) in
    let Q : Place → Type 0 = λ q. Takes (ps ++ qs) (tokens_at p (v ++ (w ++ rest))) (tokens_at q rest) in
    let joined : Takes (ps ++ qs) (tokens_at p (v ++ (w ++ rest))) (tokens_at (after (after p v) w) rest) =
    takes_join ps qs (tokens_at p (v ++ (w ++ rest))) (tokens_at (after p v) (w ++ rest)) (tokens_at (after (after p v) w) rest) f.takes g.takes in
    record { takes = subst P (sym (append_assoc v w rest)) (subst Q (sym (after_both p v w)) joined) }

-- what is taken of bytes, and what is left
abbrev pub took : Token → List ℕ → List ℕ → Scanned
took k taken left = record { token = k; taken = taken; left = left }

-- a byte that begins a token
pub record Begins (b : ℕ) : Type 0 where
  pub plain : (b == 35) ≡ false
  pub dark : is_blank b ≡ false

-- where a token begins, none are skipped
not_skipped : (p : Place) (b : ℕ) (bs : List ℕ) → Begins b → skip false p (b ∷ bs) ≡ record { place = p; bytes = b ∷ bs }
unfolding skip
not_skipped p b bs s = rw (s.plain, s.dark) refl

-- the token that stands first
next_token : (p : Place) (k : Token) (b : ℕ) (bs rest : List ℕ) → HasTokensAfter k → Begins b → scan (b ∷ (bs ++ rest)) ≡ took k (b ∷ bs) rest → tokens_at p (b ∷ (bs ++ rest)) ≡ record { token = k; place = p } ∷ tokens_at (after p (b ∷ bs)) rest
next_token p k b bs rest g s e =
    let old : Remainder = record { place = p; bytes = b ∷ (bs ++ rest) } in
    let here : next_at old ≡ old = not_skipped p b (bs ++ rest) s in
    let found : next_of false old ≡ took k (b ∷ bs) rest = ap (λ a. scan a.bytes) here ∙ e in
    let new : Remainder = record { place = after p (b ∷ bs); bytes = rest } in
    let afterwards : after_next false old ≡ new = ap (λ (a : Remainder). record { place = after a.place (next_of false old).taken; bytes = (next_of false old).left }) here ∙ ap (λ (x : Scanned). record { place = after p x.taken; bytes = x.left }) found in
    tokens_go false old p k (ap (λ x. x.token) found) g (sym (ap (λ a. a.place) here)) ∙ ap (λ a. record { token = k; place = p } ∷ tokens_left false a) afterwards

-- a token at its place
pub token_at : (k : Token) (p : Place) (b : ℕ) (bs rest : List ℕ) → HasTokensAfter k → Begins b → scan (b ∷ (bs ++ rest)) ≡ took k (b ∷ bs) rest → Spelled (at p k ∷ []) p (b ∷ bs) rest
token_at k p b bs rest g s e =
    let P : Tokens → Type 0 = λ ts. Takes (at p k ∷ []) ts (tokens_at (after p (b ∷ bs)) rest) in
    record { takes = subst P (sym (next_token p k b bs rest g s e)) ((refl, refl), refl) }

-- a token at any place
pub token_any : (k : Token) (p : Place) (b : ℕ) (bs rest : List ℕ) → HasTokensAfter k → Begins b → scan (b ∷ (bs ++ rest)) ≡ took k (b ∷ bs) rest → Spelled (any k ∷ []) p (b ∷ bs) rest
token_any k p b bs rest g s e =
    let P : Tokens → Type 0 = λ ts. Takes (any k ∷ []) ts (tokens_at (after p (b ∷ bs)) rest) in
    record { takes = subst P (sym (next_token p k b bs rest g s e)) (refl, refl) }

-- the tokens from a place on, by what stands there after blanks
abbrev tokens_from_next : Remainder → Tokens
tokens_from_next a = headed a.place (scan a.bytes) (scan a.bytes).token (tokens_left false (record { place = after a.place (scan a.bytes).taken; bytes = (scan a.bytes).left }))

-- a blank is skipped
blank_skipped : (p : Place) (b : ℕ) (bs : List ℕ) → (b == 35) ≡ false → is_blank b ≡ true → skip false p (b ∷ bs) ≡ skip false (moved p b) bs
unfolding skip
blank_skipped p b bs e d = rw (e, d) refl

-- a blank spells nothing
pub blank : (p : Place) (b : ℕ) (rest : List ℕ) → (b == 35) ≡ false → is_blank b ≡ true → Spelled [] p (b ∷ []) rest
unfolding after
blank p b rest e d =
    let old : Remainder = record { place = p; bytes = b ∷ rest } in
    let new : Remainder = record { place = moved p b; bytes = rest } in
    record { takes = next_tokens false old ∙ ap tokens_from_next (blank_skipped p b rest e d) ∙ sym (next_tokens false new) }
