-- What a text means: bytes that a data text may have, and UTF-8 where its slice is.
use Rattle.std.proofs.Common.{◌≡◌, ◌≢◌, ◌<◌, ◌≤◌, ◌+◌, ℕ, zero, suc, Bool, true, false, ◌||◌, ◌==◌, Option, Some, None, List, [], ◌∷◌, ◌++◌, refl, ap, ◌∙◌, sym, subst, if◌then◌else◌, Result, Ok, Err, length, get_or, drop, arith, append_assoc, append-nil}
use Rattle.std.specs.Prelude.{EachIndex, slice_index}
use Rattle.std.specs.List.{AllByRecursion}
use Rattle.std.specs.Option.{option_map}
use Rattle.std.proofs.lemmas.Bool.{eqb-true}
use Rattle.std.proofs.lemmas.Bool.Decides.{nat_tests}
use Rattle.std.proofs.lemmas.List.{length-append}
use Rattle.std.proofs.Math.Seq.{get_or-append_seam, take-append_seam, drop-append_seam}
use Rattle.std.specs.Str.{IsUtf8, IsCharBoundary}
use Rattle.std.proofs.lemmas.Str.{IsUtf8-append, IsUtf8-take, IsUtf8-drop, IsCharBoundary-before_ascii, IsCharBoundary-after_ascii}
use Rattle.lrp_model.specs.Texts.{FitsText}
use Rattle.lrp_model.specs.Tokens.Token.{text_token, number_token}
use Rattle.std.specs.Str.Parse.{digits_value}
use Rattle.lrp_model.specs.Lexing.{is_letter, is_name_byte, is_forbidden, run, after_run, word_or_name, Scanned, QuotedText as TextRead, longer, more_taken, bad_at, text_from, text_scanned, symbol_from, scan, scan_in}
use Rattle.std.specs.Char.{is_ascii_digit}
use Rattle.lrp_text.specs.Lexemes.{read_of, text_read, ended}
use Rattle.lrp_text.proofs.Scans.{chosen}
use Rattle.lrp_text.proofs.Alone.{NoText, word_no_text, symbol_no_text}

-- a byte that a data text may have
abbrev IsPlain : ℕ → Type 0
IsPlain b = (32 ≤ b) × (b ≢ 127)

-- a byte that is not forbidden is one
not_forbidden : (b : ℕ) → is_forbidden b ≡ false → IsPlain b
not_forbidden b e = grind (arith, nat_tests)

-- so is what an escape means
escaped_plain : (b : ℕ) → ((b == 34) || (b == 92)) ≡ true → IsPlain b
escaped_plain b e = grind (arith, nat_tests)

-- the bytes that a text means are such bytes
abbrev MeansPlain : Result TextRead Scanned → Type 0
MeansPlain (Ok t) = AllByRecursion IsPlain t.meant
MeansPlain (Err s) = Unit {0}

-- one more of them
plain_longer : (b : ℕ) (r : Result TextRead Scanned) → IsPlain b → MeansPlain r → MeansPlain (longer b b r)
plain_longer b (Ok t) p k = (p, k)
plain_longer b (Err s) p k = tt

-- one more of them after a backslash
plain_more : (r : Result TextRead Scanned) → MeansPlain r → MeansPlain (more_taken 92 r)
plain_more (Ok t) k = k
plain_more (Err s) k = tt

-- a text means bytes that a data text may have
meant_plain : (slash : Bool) (bs : List ℕ) → MeansPlain (text_from slash bs)
unfolding text_from
meant_plain true [] = tt
meant_plain true (b ∷ bs) = chosen MeansPlain ((b == 34) || (b == 92)) (more_taken 92 (longer b b (text_from false bs))) (bad_at (92 ∷ b ∷ bs)) (λ e. plain_more (longer b b (text_from false bs)) (plain_longer b (text_from false bs) (escaped_plain b e) (meant_plain false bs))) (λ e. tt)
meant_plain false [] = tt
meant_plain false (b ∷ bs) =
    chosen MeansPlain (b == 34) (Ok (record { meant = []; taken = b ∷ []; left = bs })) _ (λ e. tt)
    (λ n. chosen MeansPlain (b == 92) (text_from true bs) _ (λ e. meant_plain true bs)
    (λ m. chosen MeansPlain (is_forbidden b) (bad_at (b ∷ bs)) (longer b b (text_from false bs)) (λ e. tt) (λ e. plain_longer b (text_from false bs) (not_forbidden b e) (meant_plain false bs))))

-- the same of each place
each_plain : (t : List ℕ) → AllByRecursion IsPlain t → EachIndex t (λ i. (32 ≤ slice_index t i) × (slice_index t i ≢ 127))
each_plain [] a k lt = absurd (omega arith)
each_plain (b ∷ t) a zero lt = a.0
each_plain (b ∷ t) a (suc k) lt = each_plain t a.1 k (omega arith)

-- bytes before one of ASCII are UTF-8
front_utf8 : (front : List ℕ) (b : ℕ) (rest : List ℕ) → b < 128 → IsUtf8 (front ++ b ∷ rest) → IsUtf8 front × IsUtf8 (b ∷ rest)
front_utf8 front b rest small u =
    let here : get_or (front ++ b ∷ rest) (length front) 0 ≡ b = get_or-append_seam front b rest 0 in
    let all : length (front ++ b ∷ rest) ≡ length front + length (b ∷ rest) = length-append front (b ∷ rest) in
    let cut : IsCharBoundary (front ++ b ∷ rest) (length front) = IsCharBoundary-before_ascii (front ++ b ∷ rest) (length front) (omega arith) (omega (arith, here, small)) in
    (subst IsUtf8 (take-append_seam front (b ∷ rest)) (IsUtf8-take (front ++ b ∷ rest) (length front) u cut), subst IsUtf8 (drop-append_seam front (b ∷ rest)) (IsUtf8-drop (front ++ b ∷ rest) (length front) u cut))

-- what a text means is UTF-8 after these bytes
abbrev MeansUtf8 : List ℕ → Result TextRead Scanned → Type 0
MeansUtf8 front (Ok t) = IsUtf8 (front ++ t.meant)
MeansUtf8 front (Err s) = Unit {0}

-- one more byte of them
utf8_longer : (front : List ℕ) (b : ℕ) (r : Result TextRead Scanned) → MeansUtf8 (front ++ b ∷ []) r → MeansUtf8 front (longer b b r)
utf8_longer front b (Ok t) k = subst IsUtf8 (append_assoc front (b ∷ []) t.meant) k
utf8_longer front b (Err s) k = tt

-- one more byte after a backslash
utf8_more : (front : List ℕ) (r : Result TextRead Scanned) → MeansUtf8 front r → MeansUtf8 front (more_taken 92 r)
utf8_more front (Ok t) k = k
utf8_more front (Err s) k = tt

-- the bytes from the backslash on, where there was one
abbrev from_slash : Bool → List ℕ → List ℕ
from_slash true bs = 92 ∷ bs
from_slash false bs = bs

-- a quote or a backslash is a byte of ASCII
escaped_small : (b : ℕ) → ((b == 34) || (b == 92)) ≡ true → b < 128
escaped_small b e = grind (arith, nat_tests)

-- what a text of UTF-8 means is UTF-8
meant_utf8 : (slash : Bool) (front bs : List ℕ) → IsUtf8 (front ++ from_slash slash bs) → MeansUtf8 front (text_from slash bs)
unfolding text_from
meant_utf8 true front [] u = tt
meant_utf8 true front (b ∷ bs) u =
    chosen (MeansUtf8 front) ((b == 34) || (b == 92)) (more_taken 92 (longer b b (text_from false bs))) (bad_at (92 ∷ b ∷ bs))
    (λ e.
    let halves = front_utf8 front 92 (b ∷ bs) (omega arith) u in
    let after = front_utf8 (92 ∷ []) b bs (escaped_small b e) halves.1 in
    let both : IsUtf8 (front ++ b ∷ bs) = IsUtf8-append front (b ∷ bs) halves.0 after.1 in
    utf8_more front (longer b b (text_from false bs)) (utf8_longer front b (text_from false bs) (meant_utf8 false (front ++ b ∷ []) bs (subst IsUtf8 (sym (append_assoc front (b ∷ []) bs)) both))))
    (λ e. tt)
meant_utf8 false front [] u = tt
meant_utf8 false front (b ∷ bs) u =
    chosen (MeansUtf8 front) (b == 34) (Ok (record { meant = []; taken = b ∷ []; left = bs })) _
    (λ e. let quote : b ≡ 34 = eqb-true b 34 e in subst IsUtf8 (sym (append-nil front)) (front_utf8 front b bs (omega arith) u).0)
    (λ n. chosen (MeansUtf8 front) (b == 92) (text_from true bs) _
    (λ e. meant_utf8 true front bs (subst (λ x. IsUtf8 (front ++ x ∷ bs)) (eqb-true b 92 e) u))
    (λ m. chosen (MeansUtf8 front) (is_forbidden b) (bad_at (b ∷ bs)) (longer b b (text_from false bs)) (λ e. tt)
    (λ e. utf8_longer front b (text_from false bs) (meant_utf8 false (front ++ b ∷ []) bs (subst IsUtf8 (sym (append_assoc front (b ∷ []) bs)) u)))))

-- what is read of a text whose meaning is known
read_fits : (r : Result TextRead Scanned) (t : List ℕ) → (read_of r).0 ≡ Some t → MeansPlain r → length t ≤ 255 → FitsText t
read_fits (Ok u) t e k short = let same : u.meant ≡ t = cc in record { short = short; plain = each_plain t (subst (AllByRecursion IsPlain) same k) }
read_fits (Err s) t e k short = absurd cc

-- the same of its UTF-8
read_utf8 : (r : Result TextRead Scanned) (t : List ℕ) → (read_of r).0 ≡ Some t → MeansUtf8 [] r → IsUtf8 t
read_utf8 (Ok u) t e k = let same : u.meant ≡ t = cc in subst IsUtf8 same k
read_utf8 (Err s) t e k = absurd cc

-- the text that bytes after an opening quote mean is a data text
pub text_fits_data : (bs t : List ℕ) → (text_read bs).0 ≡ Some t → length t ≤ 255 → FitsText t
text_fits_data bs t e short = read_fits (text_from false bs) t e (meant_plain false bs) short

-- and UTF-8 where they are
pub text_is_utf8 : (bs t : List ℕ) → (text_read bs).0 ≡ Some t → IsUtf8 bs → IsUtf8 t
text_is_utf8 bs t e u = read_utf8 (text_from false bs) t e (meant_utf8 false [] bs u)

-- a slice whose token is a text, after its opening quote
pub record IsQuoted (slice t : List ℕ) : Type 0 where
  pub rest : List ℕ
  pub whole : slice ≡ 34 ∷ rest
  pub read : (text_read rest).0 ≡ Some t

-- no text is quoted otherwise
none_quoted : (slice t : List ℕ) (s : Scanned) → NoText s.token → s.token ≡ text_token t → IsQuoted slice t
none_quoted slice t s n e = absurd (subst NoText e n)

-- a text that was read after its quote
quoted_of : (bs t : List ℕ) (r : Result TextRead Scanned) → text_from false bs ≡ r → (text_scanned r).token ≡ text_token t → IsQuoted (34 ∷ bs) t
quoted_of bs t (Ok u) is e = let same : u.meant ≡ t = cc in record { rest = bs; whole = refl; read = ap (λ r. (read_of r).0) is ∙ ap Some same }
quoted_of bs t (Err s) is e = absurd cc

-- a slice whose token is a text begins with a quote
pub scan_quoted : (slice t : List ℕ) → (scan slice).token ≡ text_token t → IsQuoted slice t
unfolding scan_in
scan_quoted [] t = λ e. absurd cc
scan_quoted (b ∷ bs) t =
    let P : Scanned → Type 0 = λ s. s.token ≡ text_token t → IsQuoted (b ∷ bs) t in
    chosen P (is_letter b) _ _ (λ e. none_quoted (b ∷ bs) t (record { token = word_or_name (run is_name_byte (b ∷ bs)); taken = run is_name_byte (b ∷ bs); left = after_run is_name_byte (b ∷ bs) }) (word_no_text (run is_name_byte (b ∷ bs))))
    (λ n. chosen P (is_ascii_digit b) _ _ (λ e. none_quoted (b ∷ bs) t (record { token = number_token (digits_value 10 (run is_ascii_digit (b ∷ bs))); taken = run is_ascii_digit (b ∷ bs); left = after_run is_ascii_digit (b ∷ bs) }) tt)
    (λ m. chosen P (b == 34) (text_scanned (text_from false bs)) (symbol_from b bs)
    (λ e h. subst (λ x. IsQuoted (x ∷ bs) t) (sym (eqb-true b 34 e)) (quoted_of bs t (text_from false bs) refl h))
    (λ o. none_quoted (b ∷ bs) t (symbol_from b bs) (symbol_no_text false b bs))))

-- the end of a text, where its meaning so far is known
ended_at : (made : List ℕ) (b : ℕ) (bs t : List ℕ) (c : Bool) → option_map (λ x. made ++ x) (if◌then◌else◌ {A = Option (List ℕ) × List ℕ} c (Some [], bs) (None, b ∷ bs)).0 ≡ Some t → made ≡ t
ended_at made b bs t true e = let k : made ++ [] ≡ t = cc in sym (append-nil made) ∙ k
ended_at made b bs t false e = absurd cc

-- the same of all that is left
pub ended_means : (made rest t : List ℕ) → option_map (λ x. made ++ x) (ended rest).0 ≡ Some t → made ≡ t
ended_means made [] t e = absurd cc
ended_means made (b ∷ bs) t e = ended_at made b bs t (b == 34) e

-- the bytes after the opening quote, of the whole slice
read_after : (slice t : List ℕ) → IsQuoted slice t → (text_read (drop 1 slice)).0 ≡ Some t
read_after slice t q = ap (λ x. (text_read (drop 1 x)).0) q.whole ∙ q.read

-- what was made of a text, up to its end, is the text
pub made_is : (slice t made rest : List ℕ) → (scan slice).token ≡ text_token t → (text_read (drop 1 slice)).0 ≡ option_map (λ x. made ++ x) (text_read rest).0 → text_read rest ≡ ended rest → made ≡ t
made_is slice t made rest e so_far d = ended_means made rest t (ap (λ r. option_map (λ x. made ++ x) r.0) (sym d) ∙ sym so_far ∙ read_after slice t (scan_quoted slice t e))

-- the text of a slice is a data text
pub slice_fits : (slice t : List ℕ) → (scan slice).token ≡ text_token t → length t ≤ 255 → FitsText t
slice_fits slice t e short = text_fits_data (drop 1 slice) t (read_after slice t (scan_quoted slice t e)) short

-- and UTF-8
pub slice_utf8 : (slice t : List ℕ) → (scan slice).token ≡ text_token t → IsUtf8 slice → IsUtf8 t
slice_utf8 slice t e u =
    let q = scan_quoted slice t e in
    let all : IsUtf8 (34 ∷ q.rest) = subst IsUtf8 q.whole u in
    let after : IsUtf8 (drop 1 (34 ∷ q.rest)) = IsUtf8-drop (34 ∷ q.rest) 1 all (IsCharBoundary-after_ascii (34 ∷ q.rest) 0 all (omega arith) (omega arith)) in
    text_is_utf8 q.rest t q.read after
