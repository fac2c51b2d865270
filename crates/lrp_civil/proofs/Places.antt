-- The plain text has line feeds where the text has them, so each place is the same.
use Rattle.std.proofs.Common.{◌≡◌, ◌+◌, ℕ, zero, suc, Bool, true, false, ◌==◌, List, [], ◌∷◌, ◌++◌, length, take, drop, Option, None, Some, refl, sym, ap, ◌∙◌, subst, if◌then◌else◌, arith}
use Rattle.std.specs.Str.{is_utf8}
use Rattle.lrp_model.specs.declared.tokens.Place.{Place}
use Rattle.lrp_model.specs.Lexing.{after, moved, scan_in, start}
use Rattle.lrp_text.proofs.Scans.{OneLine, scan_taken_in}
use Rattle.std.proofs.Math.Seq.{drop-append_seam}
use Rattle.lrp_civil.specs.declared.values.CivilValue.{CivilValue}
use Rattle.lrp_civil.specs.declared.values.CivilText.{CivilText}
use Rattle.lrp_civil.specs.CivilValues.{padded_bytes, spelled}
use Rattle.lrp_civil.specs.Tokens.{after_blanks, is_last}
use Rattle.lrp_civil.specs.PlainText.{HasSamePlaces, blanks, plain_as, plain_bytes_of, plain_from, plain_value, signs_of, value_in}
use Rattle.lrp_civil.proofs.PlainLemmas.{blanks_whole}
use Rattle.lrp_civil.proofs.PlainSizes.{padded_line, padded_size, spelled_line}
use Rattle.lrp_civil.proofs.Spelled.{value_spelled}
use Rattle.lrp_civil.proofs.ValueLemmas.{as_civil}

-- equally long, with line feeds at the same places
abbrev SameFeeds : List ℕ → List ℕ → Type 0
SameFeeds [] [] = Unit {0}
SameFeeds [] (y ∷ ys) = ⊥
SameFeeds (x ∷ xs) [] = ⊥
SameFeeds (x ∷ xs) (y ∷ ys) = ((x == 10) ≡ (y == 10)) × SameFeeds xs ys

feeds_refl : (xs : List ℕ) → SameFeeds xs xs
feeds_refl [] = tt
feeds_refl (x ∷ xs) = (refl, feeds_refl xs)

feeds_append : (xs ys us vs : List ℕ) → SameFeeds xs ys → SameFeeds us vs → SameFeeds (xs ++ us) (ys ++ vs)
feeds_append [] [] us vs h k = k
feeds_append [] (y ∷ ys) us vs h k = absurd h
feeds_append (x ∷ xs) [] us vs h k = absurd h
feeds_append (x ∷ xs) (y ∷ ys) us vs h k = (h.0, feeds_append xs ys us vs h.1 k)

-- two texts of one line
feeds_lines : (xs ys : List ℕ) → OneLine xs → OneLine ys → length xs ≡ length ys → SameFeeds xs ys
feeds_lines [] [] h k e = tt
feeds_lines [] (y ∷ ys) h k e = absurd (omega arith)
feeds_lines (x ∷ xs) [] h k e = absurd (omega arith)
feeds_lines (x ∷ xs) (y ∷ ys) h k e = (h.0 ∙ sym k.0, feeds_lines xs ys h.1 k.1 (omega arith))

feeds_size : (xs ys : List ℕ) → SameFeeds xs ys → length xs ≡ length ys
feeds_size [] [] h = refl
feeds_size [] (y ∷ ys) h = absurd h
feeds_size (x ∷ xs) [] h = absurd h
feeds_size (x ∷ xs) (y ∷ ys) h = ap suc (feeds_size xs ys h.1)

feeds_place : (xs ys : List ℕ) → SameFeeds xs ys → (p : Place) (n : ℕ) → after p (take n xs) ≡ after p (take n ys)
unfolding after
feeds_place [] [] h p n = refl
feeds_place [] (y ∷ ys) h p n = absurd h
feeds_place (x ∷ xs) [] h p n = absurd h
feeds_place (x ∷ xs) (y ∷ ys) h p zero = refl
feeds_place (x ∷ xs) (y ∷ ys) h p (suc n) =
    let same : moved p x ≡ moved p y = ap (λ c. if c then record { line = p.line + 1; column = 1 } else record { line = p.line; column = p.column + 1 }) h.0 in
    ap (λ q. after q (take n xs)) same ∙ feeds_place xs ys h.1 (moved p y) n

-- ---- the plain text

token_feeds : (kind : CivilText) (f : List ℕ → List ℕ) (here : List ℕ) (last : Bool) → ((rest : List ℕ) → SameFeeds (f rest) rest) → SameFeeds (if last then here else (scan_in (signs_of kind) here).taken ++ f (scan_in (signs_of kind) here).left) here
token_feeds kind f here true same = feeds_refl here
token_feeds kind f here false same = subst (SameFeeds ((scan_in (signs_of kind) here).taken ++ f (scan_in (signs_of kind) here).left)) (scan_taken_in (signs_of kind) here).whole (feeds_append (scan_in (signs_of kind) here).taken (scan_in (signs_of kind) here).taken (f (scan_in (signs_of kind) here).left) (scan_in (signs_of kind) here).left (feeds_refl (scan_in (signs_of kind) here).taken) (same (scan_in (signs_of kind) here).left))

value_feeds : (kind : CivilText) (f : List ℕ → List ℕ) (here : List ℕ) (o : Option CivilValue) → value_in kind here ≡ o → ((rest : List ℕ) → SameFeeds (f rest) rest) → SameFeeds (plain_value kind f here o) here
value_feeds kind f here (Some v) e same =
    let s = as_civil kind here v (value_spelled kind here v e) in
    let rest = drop (length (spelled v)) here in
    let left : rest ≡ s.rest = ap (drop (length (spelled v))) s.read.whole ∙ drop-append_seam (spelled v) s.rest in
    let whole : spelled v ++ rest ≡ here = ap (λ x. spelled v ++ x) left ∙ sym s.read.whole in
    subst (SameFeeds (padded_bytes v ++ f rest)) whole (feeds_append (padded_bytes v) (spelled v) (f rest) rest (feeds_lines (padded_bytes v) (spelled v) (padded_line v s.read.is) (spelled_line v s.read.is) (padded_size v s.read.is)) (same rest))
value_feeds kind f here None e same = token_feeds kind f here (is_last (scan_in (signs_of kind) here).token) same

turns_feeds : (kind : CivilText) (n : ℕ) (bytes : List ℕ) → SameFeeds (plain_from kind n bytes) bytes
unfolding plain_from
turns_feeds kind zero bytes = feeds_refl bytes
turns_feeds kind (suc n) bytes =
    let here = after_blanks bytes in
    subst (SameFeeds (blanks bytes ++ plain_value kind (plain_from kind n) here (value_in kind here))) (blanks_whole bytes)
    (feeds_append (blanks bytes) (blanks bytes) (plain_value kind (plain_from kind n) here (value_in kind here)) here (feeds_refl (blanks bytes)) (value_feeds kind (plain_from kind n) here (value_in kind here) refl (turns_feeds kind n)))

plain_feeds : (kind : CivilText) (bytes : List ℕ) → SameFeeds (plain_bytes_of kind bytes) bytes
unfolding plain_bytes_of
plain_feeds kind bytes = turns_feeds kind (suc (length bytes)) bytes

chosen_feeds : (kind : CivilText) (b : Bool) (bytes : List ℕ) → SameFeeds (if b then plain_bytes_of kind bytes else bytes) bytes
chosen_feeds kind true bytes = plain_feeds kind bytes
chosen_feeds kind false bytes = feeds_refl bytes

pub same_places : (kind : CivilText) (bytes : List ℕ) → HasSamePlaces bytes (plain_as kind bytes)
unfolding plain_as
same_places kind bytes =
    let same = chosen_feeds kind (is_utf8 bytes) bytes in
    record { size = feeds_size (if is_utf8 bytes then plain_bytes_of kind bytes else bytes) bytes same; place = feeds_place (if is_utf8 bytes then plain_bytes_of kind bytes else bytes) bytes same start }
