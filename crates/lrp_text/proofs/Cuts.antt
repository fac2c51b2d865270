-- Where a source is cut, after blanks and comments and after a token.
use Rattle.std.proofs.Common.{◌≡◌, ◌<◌, ◌≤◌, ◌+◌, ◌-◌, ◌⊎◌, inl, inr, ℕ, Bool, true, false, ◌==◌, List, [], ◌∷◌, ◌++◌, refl, ap, ◌∙◌, sym, subst, length, take, drop, arith, append-nil}
use Rattle.std.proofs.lemmas.Bool.{eqb-true}
use Rattle.std.proofs.lemmas.Bool.Decides.{nat_tests}
use Rattle.std.proofs.lemmas.List.{length-append}
use Rattle.std.proofs.Math.Seq.{drop-append_seam}
use Rattle.std.specs.Str.{IsUtf8, IsCharBoundary}
use Rattle.std.proofs.lemmas.Str.{IsCharBoundary-start, IsCharBoundary-end}
use Rattle.lrp_model.specs.declared.tokens.Place.{Place}
use Rattle.lrp_model.specs.Tokens.{Token}
use Rattle.lrp_model.specs.Tokens.Token.{end_token, bad_token}
use Rattle.lrp_model.specs.Lexing.{Remainder, moved, after, is_blank, skip, scan_in, scan}
use Rattle.lrp_text.proofs.Runs.{front_of}
use Rattle.lrp_text.proofs.Scans.{chosen, EndsPlain, ends_more, ends_boundary, StopsPlain, goes_boundary, scan_taken_in, after_line}

-- where the bytes in front may end: nowhere else than a text may be cut
abbrev Ends : Bool → List ℕ → List ℕ → Type 0
Ends true front rest = (rest ≡ []) ⊎ EndsPlain front
Ends false front rest = (front ≡ []) ⊎ ((rest ≡ []) ⊎ EndsPlain front)

-- what blanks and comments take
pub record IsSkipped (comment : Bool) (p : Place) (bs : List ℕ) (a : Remainder) : Type 0 where
  pub front : List ℕ
  pub whole : front ++ a.bytes ≡ bs
  pub place : a.place ≡ after p front
  pub ends : Ends comment front a.bytes

-- one more byte of ASCII in front
plain_more : (comment : Bool) (b : ℕ) (front rest : List ℕ) → b < 128 → Ends false front rest → Ends comment (b ∷ front) rest
plain_more true b front rest small (inl n) = inr ([], b, ap (λ x. b ∷ x) n, small)
plain_more true b front rest small (inr (inl n)) = inl n
plain_more true b front rest small (inr (inr k)) = inr (ends_more b front k)
plain_more false b front rest small (inl n) = inr (inr ([], b, ap (λ x. b ∷ x) n, small))
plain_more false b front rest small (inr (inl n)) = inr (inl n)
plain_more false b front rest small (inr (inr k)) = inr (inr (ends_more b front k))

-- one more byte in front of a comment's
comment_more : (comment : Bool) (b : ℕ) (front rest : List ℕ) → Ends true front rest → Ends comment (b ∷ front) rest
comment_more true b front rest (inl n) = inl n
comment_more true b front rest (inr k) = inr (ends_more b front k)
comment_more false b front rest (inl n) = inr (inl n)
comment_more false b front rest (inr k) = inr (inr (ends_more b front k))

-- after a byte of ASCII
after_plain : (comment : Bool) (p : Place) (b : ℕ) (bs : List ℕ) (a : Remainder) → b < 128 → IsSkipped false (moved p b) bs a → IsSkipped comment p (b ∷ bs) a
unfolding after
after_plain comment p b bs a small k = record { front = b ∷ k.front; whole = ap (λ x. b ∷ x) k.whole; place = k.place; ends = plain_more comment b k.front a.bytes small k.ends }

-- after a byte of a comment, or one that begins it
after_comment : (comment : Bool) (p : Place) (b : ℕ) (bs : List ℕ) (a : Remainder) → IsSkipped true (moved p b) bs a → IsSkipped comment p (b ∷ bs) a
unfolding after
after_comment comment p b bs a k = record { front = b ∷ k.front; whole = ap (λ x. b ∷ x) k.whole; place = k.place; ends = comment_more comment b k.front a.bytes k.ends }

-- a blank is a byte of ASCII
blank_small : (b : ℕ) → is_blank b ≡ true → b < 128
blank_small b e = grind (arith, nat_tests)

-- what blanks and comments take of bytes
pub skipped : (comment : Bool) (p : Place) (bs : List ℕ) → IsSkipped comment p bs (skip comment p bs)
unfolding skip after
skipped true p [] = record { front = []; whole = refl; place = refl; ends = inl refl }
skipped false p [] = record { front = []; whole = refl; place = refl; ends = inl refl }
skipped true p (b ∷ bs) =
    chosen (IsSkipped true p (b ∷ bs)) (b == 10) (skip false (moved p b) bs) (skip true (moved p b) bs)
    (λ e. let feed : b ≡ 10 = eqb-true b 10 e in after_plain true p b bs (skip false (moved p b) bs) (omega arith) (skipped false (moved p b) bs))
    (λ e. after_comment true p b bs (skip true (moved p b) bs) (skipped true (moved p b) bs))
skipped false p (b ∷ bs) =
    chosen (IsSkipped false p (b ∷ bs)) (b == 35) (skip true (moved p b) bs) _
    (λ e. after_comment false p b bs (skip true (moved p b) bs) (skipped true (moved p b) bs))
    (λ n. chosen (IsSkipped false p (b ∷ bs)) (is_blank b) (skip false (moved p b) bs) _
    (λ e. after_plain false p b bs (skip false (moved p b) bs) (blank_small b e) (skipped false (moved p b) bs))
    (λ m. record { front = []; whole = refl; place = refl; ends = inl refl }))

-- the bytes in front of others end where a text may be cut
ends_cut : (front rest : List ℕ) → IsUtf8 (front ++ rest) → Ends false front rest → IsCharBoundary (front ++ rest) (length front)
ends_cut front rest u (inl n) = subst (λ x. IsCharBoundary (front ++ rest) (length x)) (sym n) (IsCharBoundary-start (front ++ rest) u)
ends_cut front rest u (inr (inl n)) =
    let size : length (front ++ rest) ≡ length front = ap (λ x. length (front ++ x)) n ∙ ap length (append-nil front) in
    subst (IsCharBoundary (front ++ rest)) size (IsCharBoundary-end (front ++ rest))
ends_cut front rest u (inr (inr k)) = ends_boundary front rest u k

-- the length of the bytes in front
front_length : (front rest bs : List ℕ) → front ++ rest ≡ bs → length front ≡ length bs - length rest
front_length front rest bs e =
    let size : length bs ≡ length front + length rest = ap length (sym e) ∙ length-append front rest in
    omega arith

-- the bytes after those in front
after_front : (front rest bs : List ℕ) → front ++ rest ≡ bs → drop (length bs - length rest) bs ≡ rest
after_front front rest bs e = ap (λ n. drop n bs) (sym (front_length front rest bs e)) ∙ ap (drop (length front)) (sym e) ∙ drop-append_seam front rest

-- a text may be cut after blanks and comments
pub skip_cut : (p : Place) (bs : List ℕ) → IsUtf8 bs → IsCharBoundary bs (length bs - length (skip false p bs).bytes)
skip_cut p bs u =
    let k = skipped false p bs in
    let rest = (skip false p bs).bytes in
    let cut : IsCharBoundary (k.front ++ rest) (length k.front) = ends_cut k.front rest (subst IsUtf8 (sym k.whole) u) k.ends in
    subst (IsCharBoundary bs) (front_length k.front rest bs k.whole) (subst (λ x. IsCharBoundary x (length k.front)) k.whole cut)

-- what is left after blanks and comments
pub skip_rest : (p : Place) (bs : List ℕ) → drop (length bs - length (skip false p bs).bytes) bs ≡ (skip false p bs).bytes
skip_rest p bs = let k = skipped false p bs in after_front k.front (skip false p bs).bytes bs k.whole

-- blanks and comments take no more than there is
pub skip_shorter : (p : Place) (bs : List ℕ) → length (skip false p bs).bytes ≤ length bs
skip_shorter p bs =
    let k = skipped false p bs in
    let size : length bs ≡ length k.front + length (skip false p bs).bytes = ap length (sym k.whole) ∙ length-append k.front (skip false p bs).bytes in
    omega arith

-- a token takes no more than there is
pub scan_shorter : (wide : Bool) (bs : List ℕ) → length (scan_in wide bs).left ≤ length bs
scan_shorter wide bs =
    let k = scan_taken_in wide bs in
    let size : length bs ≡ length (scan_in wide bs).taken + length (scan_in wide bs).left = ap length (sym k.whole) ∙ length-append (scan_in wide bs).taken (scan_in wide bs).left in
    omega arith

-- the length of what a token takes and leaves
pub scan_size : (wide : Bool) (bs : List ℕ) → length (scan_in wide bs).taken + length (scan_in wide bs).left ≡ length bs
scan_size wide bs = sym (length-append (scan_in wide bs).taken (scan_in wide bs).left) ∙ ap length (scan_taken_in wide bs).whole

-- the slice of a token
pub scan_slice : (wide : Bool) (bs : List ℕ) → take (length bs - length (scan_in wide bs).left) bs ≡ (scan_in wide bs).taken
scan_slice wide bs = subst (λ x. take (length x - length (scan_in wide bs).left) x ≡ (scan_in wide bs).taken) (scan_taken_in wide bs).whole (front_of (scan_in wide bs).taken (scan_in wide bs).left)

-- what is left after a token
pub scan_rest_in : (wide : Bool) (bs : List ℕ) → drop (length bs - length (scan_in wide bs).left) bs ≡ (scan_in wide bs).left
scan_rest_in wide bs = after_front (scan_in wide bs).taken (scan_in wide bs).left bs (scan_taken_in wide bs).whole

-- the place after what a token takes
pub scan_place : (wide : Bool) (p : Place) (bs : List ℕ) → after p (scan_in wide bs).taken ≡ record { line = p.line; column = p.column + length (scan_in wide bs).taken }
scan_place wide p bs = after_line p (scan_in wide bs).taken (scan_taken_in wide bs).line

-- a text may be cut after a token, and before a bad byte
cut_after : (xs ys : List ℕ) (k : Token) → IsUtf8 (xs ++ ys) → ((k ≡ bad_token) × StopsPlain xs ys) ⊎ (((k ≡ end_token) × (xs ≡ [])) ⊎ EndsPlain xs) → IsCharBoundary (xs ++ ys) (length xs)
cut_after xs ys k u (inl (e, inl n)) = subst (λ x. IsCharBoundary (xs ++ ys) (length x)) (sym n) (IsCharBoundary-start (xs ++ ys) u)
cut_after xs ys k u (inl (e, inr g)) = goes_boundary xs ys g
cut_after xs ys k u (inr (inl e)) = subst (λ x. IsCharBoundary (xs ++ ys) (length x)) (sym e.1) (IsCharBoundary-start (xs ++ ys) u)
cut_after xs ys k u (inr (inr e)) = ends_boundary xs ys u e

-- the same by the bytes that are left
pub scan_cut_in : (wide : Bool) (bs : List ℕ) → IsUtf8 bs → IsCharBoundary bs (length bs - length (scan_in wide bs).left)
scan_cut_in wide bs u =
    let k = scan_taken_in wide bs in
    let cut = cut_after (scan_in wide bs).taken (scan_in wide bs).left (scan_in wide bs).token (subst IsUtf8 (sym k.whole) u) k.ends in
    subst (IsCharBoundary bs) (front_length (scan_in wide bs).taken (scan_in wide bs).left bs k.whole) (subst (λ x. IsCharBoundary x (length (scan_in wide bs).taken)) k.whole cut)

-- of the other languages
pub scan_cut : (bs : List ℕ) → IsUtf8 bs → IsCharBoundary bs (length bs - length (scan bs).left)
scan_cut = scan_cut_in false

pub scan_rest : (bs : List ℕ) → drop (length bs - length (scan bs).left) bs ≡ (scan bs).left
scan_rest = scan_rest_in false
