-- The tokens of a source are the one that stands next and those of what is left after it.
use Rattle.std.proofs.Common.{◌≡◌, ◌<◌, ◌+◌, ◌⊎◌, inl, inr, ℕ, zero, suc, false, List, [], refl, ap, ◌∙◌, sym, subst, length, arith, Bool}
use Rattle.std.proofs.lemmas.List.{length-append}
use Rattle.lrp_model.specs.declared.tokens.Place.{Place}
use Rattle.lrp_model.specs.Tokens.{Token, Tokens}
use Rattle.lrp_model.specs.Tokens.Token.{end_token, bad_token}
use Rattle.lrp_model.specs.Lexing.{Remainder, Scanned, after, skip, scan_in, headed, tokens_in_from}
use Rattle.lrp_text.specs.Sources.{next_at, next_of, after_next, tokens_left}
use Rattle.lrp_text.proofs.Scans.{StopsPlain, EndsPlain, ends_some, scan_taken_in}
use Rattle.lrp_text.proofs.Cuts.{skip_shorter}

-- after a bad byte or the end none follow, so the others may differ there
headed_same : (p : Place) (s : Scanned) (k : Token) (xs ys : Tokens) → (k ≡ bad_token) ⊎ ((k ≡ end_token) ⊎ (xs ≡ ys)) → headed p s k xs ≡ headed p s k ys
headed_same p s k xs ys (inl e) = subst (λ t. headed p s t xs ≡ headed p s t ys) (sym e) refl
headed_same p s k xs ys (inr (inl e)) = subst (λ t. headed p s t xs ≡ headed p s t ys) (sym e) refl
headed_same p s k xs ys (inr (inr e)) = ap (headed p s k) e

-- a token that takes some bytes leaves fewer
fewer : (wide : Bool) (bs : List ℕ) → EndsPlain (scan_in wide bs).taken → length (scan_in wide bs).left < length bs
fewer wide bs k =
    let size : length bs ≡ length (scan_in wide bs).taken + length (scan_in wide bs).left = ap length (sym (scan_taken_in wide bs).whole) ∙ length-append (scan_in wide bs).taken (scan_in wide bs).left in
    let some = ends_some (scan_in wide bs).taken k in
    omega (arith, some, size)

-- what follows is the same, or nothing does
follows : (wide : Bool) (bs : List ℕ) (xs ys : Tokens) → (length (scan_in wide bs).left < length bs → xs ≡ ys) → (((scan_in wide bs).token ≡ bad_token) × StopsPlain (scan_in wide bs).taken (scan_in wide bs).left) ⊎ ((((scan_in wide bs).token ≡ end_token) × ((scan_in wide bs).taken ≡ [])) ⊎ EndsPlain (scan_in wide bs).taken) → ((scan_in wide bs).token ≡ bad_token) ⊎ (((scan_in wide bs).token ≡ end_token) ⊎ (xs ≡ ys))
follows wide bs xs ys f (inl e) = inl e.0
follows wide bs xs ys f (inr (inl e)) = inr (inl e.0)
follows wide bs xs ys f (inr (inr k)) = inr (inr (f (fewer wide bs k)))

-- more turns than bytes give the same tokens
pub enough : (wide : Bool) (n m : ℕ) (p : Place) (bs : List ℕ) → length bs < n → length bs < m → tokens_in_from wide n p bs ≡ tokens_in_from wide m p bs
unfolding tokens_in_from
enough wide zero m p bs lt lt2 = absurd (omega arith)
enough wide (suc n) zero p bs lt lt2 = absurd (omega arith)
enough wide (suc n) (suc m) p bs lt lt2 =
    let a = skip false p bs in
    let s = scan_in wide a.bytes in
    let short = skip_shorter p bs in
    let q = after a.place s.taken in
    headed_same a.place s s.token (tokens_in_from wide n q s.left) (tokens_in_from wide m q s.left)
    (follows wide a.bytes (tokens_in_from wide n q s.left) (tokens_in_from wide m q s.left) (λ less. enough wide n m q s.left (omega (arith, short, less)) (omega (arith, short, less))) (scan_taken_in wide a.bytes).ends)

-- the tokens that are left, one at a time
pub next_tokens : (wide : Bool) (s : Remainder) → tokens_left wide s ≡ headed (next_at s).place (next_of wide s) (next_of wide s).token (tokens_left wide (after_next wide s))
unfolding tokens_in_from
next_tokens wide s =
    let a = next_at s in
    let t = scan_in wide a.bytes in
    let short = skip_shorter s.place s.bytes in
    let q = after a.place t.taken in
    headed_same a.place t t.token (tokens_in_from wide (length s.bytes) q t.left) (tokens_in_from wide (suc (length t.left)) q t.left)
    (follows wide a.bytes (tokens_in_from wide (length s.bytes) q t.left) (tokens_in_from wide (suc (length t.left)) q t.left) (λ less. enough wide (length s.bytes) (suc (length t.left)) q t.left (omega (arith, short, less)) (omega arith)) (scan_taken_in wide a.bytes).ends)
