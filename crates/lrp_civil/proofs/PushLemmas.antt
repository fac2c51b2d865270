-- What is appended to a text, piece by piece.
use Rattle.std.proofs.Common.{◌≡◌, ◌<◌, ◌+◌, ◌-◌, ℕ, pos, true, List, ◌++◌, length, take, take_all, replicate, Result, Ok, Err, OnOk, sym, ap, ap₂, ◌∙◌, codes, append_assoc, arith}
use Rattle.std.specs.Fmt.{decimal}
use Rattle.std.proofs.lemmas.List.{length-append}
use Rattle.lrp_model.specs.Printed.{point_bytes}
use Rattle.lrp_civil.specs.declared.values.CivilValue.{CivilValue}
use Rattle.lrp_civil.specs.CivilValues.{is_civil, padded_bytes, plain_bytes, spelled}
use Rattle.lrp_civil.proofs.PlainSizes.{plain_size, point_is}

pub on_ok : {T E : Type 0} (r : Result T E) (P Q : Type 0) → (P → Q) → OnOk r P → OnOk r Q
on_ok (Ok t) P Q f h = f h
on_ok (Err e) P Q f h = h

-- a point in four pieces
pub point_pieces : (old one two three four a b : List ℕ) (n k : ℕ) → n < k → one ≡ old ++ a → a ≡ decimal n → two ≡ one ++ codes "+" → three ≡ two ++ b → b ≡ decimal k → four ≡ three ++ codes "n"
    → four ≡ old ++ point_bytes (record { offset = pos n; period = pos k })
point_pieces old one two three four a b n k h e f g i j l =
    let first : one ≡ old ++ decimal n = e ∙ ap (λ x. old ++ x) f in
    let second : two ≡ (old ++ decimal n) ++ codes "+" = g ∙ ap (λ x. x ++ codes "+") first in
    let third : three ≡ ((old ++ decimal n) ++ codes "+") ++ decimal k = i ∙ ap₂ (λ x y. x ++ y) second j in
    l ∙ ap (λ x. x ++ codes "n") third
    ∙ append_assoc ((old ++ decimal n) ++ codes "+") (decimal k) (codes "n")
    ∙ append_assoc (old ++ decimal n) (codes "+") (decimal k ++ codes "n")
    ∙ append_assoc old (decimal n) (codes "+" ++ (decimal k ++ codes "n"))
    ∙ ap (λ x. old ++ x) (sym (point_is n k h))

-- a plain value, filled up with blanks
pub padded_is : (old made new : List ℕ) (v : CivilValue) (end now : ℕ) → is_civil v ≡ true → made ≡ old ++ plain_bytes v → end ≡ length old + length (spelled v) → now ≡ length made
    → new ≡ take end made ++ replicate (end - now) 32 → new ≡ old ++ padded_bytes v
padded_is old made new v end now h e f g k =
    let size : length made ≡ length old + length (plain_bytes v) = ap length e ∙ length-append old (plain_bytes v) in
    let short = plain_size v h in
    let all : take end made ≡ made = take_all end made (omega arith) in
    let more : end - now ≡ length (spelled v) - length (plain_bytes v) = omega arith in
    k ∙ ap₂ (λ x n. x ++ replicate n 32) (all ∙ e) more ∙ append_assoc old (plain_bytes v) (replicate (length (spelled v) - length (plain_bytes v)) 32)

-- ---- the whole text

pub piece_on : (text before padded after whole now next : List ℕ) → text ++ now ≡ whole → now ≡ before ++ (padded ++ after) → next ≡ (text ++ before) ++ padded → next ++ after ≡ whole
piece_on text before padded after whole now next e f g =
    ap (λ x. x ++ after) g ∙ append_assoc (text ++ before) padded after ∙ append_assoc text before (padded ++ after) ∙ ap (λ x. text ++ x) (sym f) ∙ e

pub piece_end : (text rest whole now new : List ℕ) → text ++ now ≡ whole → now ≡ rest → new ≡ text ++ rest → new ≡ whole
piece_end text rest whole now new e f g = g ∙ ap (λ x. text ++ x) (sym f) ∙ e
