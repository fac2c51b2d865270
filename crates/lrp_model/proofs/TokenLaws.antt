-- Each token spells one digest and one tuple: no separator stands inside a part, and each part spells one value.
use Rattle.std.proofs.Common.{◌≡◌, ◌≢◌, ℕ, zero, suc, ◌+◌, ◌/◌, ◌%◌, ◌<◌, ◌^◌, Bool, true, false, List, [], ◌∷◌, ◌++◌, length, map, drop, Option, Some, None, refl, sym, ap, ap₂, subst, ◌∙◌, arith}
use Rattle.std.specs.Prelude.{ℤ, pos, negsuc, nat_lt, if◌then◌else◌, slice_index}
use Rattle.std.specs.List.{AllByRecursion}
use Rattle.std.specs.Fmt.{decimal, signed_decimal}
use Rattle.std.proofs.lemmas.Fmt.{decimal_digit, decimal-digits_of, decimal_nonempty, signed_decimal_injective}
use Rattle.std.proofs.lemmas.Bool.{ltb-true}
use Rattle.lrp_model.specs.Texts.{Text}
use Rattle.lrp_model.specs.Printed.{joined_by}
use Rattle.lrp_model.specs.PrintedPages.{hex_digit, hex, text_part, tuple_text, token_text, IsToken, IsSmall}
use Rattle.lrp_model.proofs.Logic.{all_append}

-- no element of the list is this byte
abbrev pub Lacks : ℕ → List ℕ → Type 0
Lacks c xs = AllByRecursion (λ b. b ≢ c) xs

pub lacks_append : (c : ℕ) (xs ys : List ℕ) → Lacks c xs → Lacks c ys → Lacks c (xs ++ ys)
lacks_append c xs ys h k = (all_append (λ b. b ≢ c) xs ys).1 (h, k)

-- ---- where a separator stands

-- a text is cut in one way at the first place of a byte
split : (c : ℕ) (xs ys us bs : List ℕ) → Lacks c xs → Lacks c ys → xs ++ c ∷ us ≡ ys ++ c ∷ bs → (xs ≡ ys) × (us ≡ bs)
split c [] [] us bs h k e = (refl, cc)
split c [] (y ∷ ys) us bs h k e = let d : c ≡ y = cc in absurd (k.0 (sym d))
split c (x ∷ xs) [] us bs h k e = let d : x ≡ c = cc in absurd (h.0 d)
split c (x ∷ xs) (y ∷ ys) us bs h k e =
    let d : x ≡ y = cc in
    let f : xs ++ c ∷ us ≡ ys ++ c ∷ bs = cc in
    let r : (xs ≡ ys) × (us ≡ bs) = split c xs ys us bs h.1 k.1 f in
    (ap₂ (λ z zs. z ∷ zs) d r.0, r.1)

inside : (c : ℕ) (xs us : List ℕ) → Lacks c (xs ++ c ∷ us) → ⊥
inside c [] us h = h.0 refl
inside c (x ∷ xs) us h = inside c xs us h.1

front_empty : (xs zs : List ℕ) → xs ++ zs ≡ [] → xs ≡ []
front_empty [] zs e = refl
front_empty (x ∷ xs) zs e = cc

-- ---- parts joined by commas

module _ {A : Type 0} (P : A → Type 0) (f : A → List ℕ) (some : (a : A) → P a → f a ≡ [] → ⊥) where
  joined_some : (a : A) (us : List A) → P a → joined_by (44 ∷ []) f (a ∷ us) ≡ [] → ⊥
  joined_some a [] h e = some a h e
  joined_some a (b ∷ us) h e = some a h (front_empty (f a) (44 ∷ joined_by (44 ∷ []) f (b ∷ us)) e)

  joined_lacks : (c : ℕ) → 44 ≢ c → ((a : A) → P a → Lacks c (f a)) → (us : List A) → AllByRecursion P us → Lacks c (joined_by (44 ∷ []) f us)
  joined_lacks c ne free [] h = tt
  joined_lacks c ne free (a ∷ []) h = free a h.0
  joined_lacks c ne free (a ∷ b ∷ us) h = lacks_append c (f a) (44 ∷ joined_by (44 ∷ []) f (b ∷ us)) (free a h.0) (ne, joined_lacks c ne free (b ∷ us) h.1)

  joined_once : ((a : A) → P a → Lacks 44 (f a)) → ((a b : A) → P a → P b → f a ≡ f b → a ≡ b) → (us bs : List A) → AllByRecursion P us → AllByRecursion P bs → joined_by (44 ∷ []) f us ≡ joined_by (44 ∷ []) f bs → us ≡ bs
  joined_once free once [] [] h k e = refl
  joined_once free once [] (b ∷ bs) h k e = absurd (joined_some b bs k.0 (sym e))
  joined_once free once (a ∷ us) [] h k e = absurd (joined_some a us h.0 e)
  joined_once free once (a ∷ []) (b ∷ []) h k e = ap (λ z. z ∷ []) (once a b h.0 k.0 e)
  joined_once free once (a ∷ []) (b ∷ c ∷ bs) h k e = absurd (inside 44 (f b) (joined_by (44 ∷ []) f (c ∷ bs)) (subst (Lacks 44) e (free a h.0)))
  joined_once free once (a ∷ b ∷ us) (c ∷ []) h k e = absurd (inside 44 (f a) (joined_by (44 ∷ []) f (b ∷ us)) (subst (Lacks 44) (sym e) (free c k.0)))
  joined_once free once (a ∷ b ∷ us) (c ∷ d ∷ bs) h k e =
      let r : (f a ≡ f c) × (joined_by (44 ∷ []) f (b ∷ us) ≡ joined_by (44 ∷ []) f (d ∷ bs)) = split 44 (f a) (f c) (joined_by (44 ∷ []) f (b ∷ us)) (joined_by (44 ∷ []) f (d ∷ bs)) (free a h.0) (free c k.0) e in
      ap₂ (λ z zs. z ∷ zs) (once a c h.0 k.0 r.0) (joined_once free once (b ∷ us) (d ∷ bs) h.1 k.1 r.1)

-- ---- numbers

glyphs_lack : (c : ℕ) → c < 48 → (ds : List ℕ) → Lacks c (map (λ d. 48 + d) ds)
glyphs_lack c lt [] = tt
glyphs_lack c lt (d ∷ ds) = ((λ e. absurd (above d e)), glyphs_lack c lt ds)
  where
    above : (d : ℕ) → 48 + d ≡ c → ⊥
    above d e = omega arith

decimal_lacks : (c n : ℕ) → c < 48 → n < 2 ^ 64 → Lacks c (decimal n)
decimal_lacks c zero lt h = subst (Lacks c) (sym (decimal_digit 0 (omega arith))) (glyphs_lack c lt (0 ∷ []))
decimal_lacks c (suc n) lt h = subst (Lacks c) (sym (decimal-digits_of (suc n) (omega arith) h)) (glyphs_lack c lt _)

pub number_lacks : (c : ℕ) → c < 48 → 45 ≢ c → (x : ℤ) → IsSmall x → Lacks c (signed_decimal x)
number_lacks c lt ne (pos n) h = decimal_lacks c n lt (omega (arith, h))
number_lacks c lt ne (negsuc n) h = (ne, decimal_lacks c (suc n) lt (omega (arith, h)))

some_length : (xs : List ℕ) → 0 < length xs → xs ≡ [] → ⊥
some_length [] h e = omega (arith, h)
some_length (x ∷ xs) h e = cc

number_some : (x : ℤ) → IsSmall x → signed_decimal x ≡ [] → ⊥
number_some (pos n) h e = some_length (decimal n) (decimal_nonempty n (omega (arith, h))) e
number_some (negsuc n) h e = cc

number_once : (x y : ℤ) → IsSmall x → IsSmall y → signed_decimal x ≡ signed_decimal y → x ≡ y
number_once (pos m) (pos n) h k e = signed_decimal_injective (pos m) (pos n) (omega (arith, h)) (omega (arith, k)) e
number_once (pos m) (negsuc n) h k e = signed_decimal_injective (pos m) (negsuc n) (omega (arith, h)) (omega (arith, k)) e
number_once (negsuc m) (pos n) h k e = signed_decimal_injective (negsuc m) (pos n) (omega (arith, h)) (omega (arith, k)) e
number_once (negsuc m) (negsuc n) h k e = signed_decimal_injective (negsuc m) (negsuc n) (omega (arith, h)) (omega (arith, k)) e

-- ---- bytes in hex

pub digit_not : (t : Bool) (c d : ℕ) → c < 48 → (if t then 48 + d else 87 + d) ≡ c → ⊥
digit_not true c d lt e = omega arith
digit_not false c d lt e = omega arith

digit_once : (t u : Bool) (d e : ℕ) → nat_lt d 10 ≡ t → nat_lt e 10 ≡ u → (if t then 48 + d else 87 + d) ≡ (if u then 48 + e else 87 + e) → d ≡ e
digit_once true true d e h k q = omega arith
digit_once true false d e h k q = let lt : d < 10 = ltb-true d 10 h in absurd (omega arith)
digit_once false true d e h k q = let lt : e < 10 = ltb-true e 10 k in absurd (omega arith)
digit_once false false d e h k q = omega arith

byte_once : (b c : ℕ) → b / 16 ≡ c / 16 → b % 16 ≡ c % 16 → b ≡ c
byte_once b c e f = omega arith

pub hex_lacks : (c : ℕ) → c < 48 → (bs : List ℕ) → Lacks c (hex bs)
hex_lacks c lt [] = tt
hex_lacks c lt (b ∷ bs) = (digit_not (nat_lt (b / 16) 10) c (b / 16) lt, (digit_not (nat_lt (b % 16) 10) c (b % 16) lt, hex_lacks c lt bs))

two_same : (a b c d : ℕ) (xs ys : List ℕ) → a ∷ b ∷ xs ≡ c ∷ d ∷ ys → (a ≡ c) × (b ≡ d) × (xs ≡ ys)
two_same a b c d xs ys e = (cc, cc, cc)

hex_once : (bs cs : List ℕ) → hex bs ≡ hex cs → bs ≡ cs
hex_once [] [] e = refl
hex_once [] (c ∷ cs) e = cc
hex_once (b ∷ bs) [] e = cc
hex_once (b ∷ bs) (c ∷ cs) e =
    let r = two_same (hex_digit (b / 16)) (hex_digit (b % 16)) (hex_digit (c / 16)) (hex_digit (c % 16)) (hex bs) (hex cs) e in
    let high : b / 16 ≡ c / 16 = digit_once (nat_lt (b / 16) 10) (nat_lt (c / 16) 10) (b / 16) (c / 16) refl refl r.0 in
    let low : b % 16 ≡ c % 16 = digit_once (nat_lt (b % 16) 10) (nat_lt (c % 16) 10) (b % 16) (c % 16) refl refl r.1 in
    ap₂ (λ z zs. z ∷ zs) (byte_once b c high low) (hex_once bs cs r.2)

-- ---- tuples and tokens

abbrev Any : Text → Type 0
Any t = Unit {0}

any_all : (ts : List Text) → AllByRecursion Any ts
any_all [] = tt
any_all (t ∷ ts) = (tt, any_all ts)

text_lacks : (t : Text) → Any t → Lacks 44 (text_part t)
text_lacks t h = ((λ e. omega (arith, e)), hex_lacks 44 (omega arith) t)

text_once : (t u : Text) → Any t → Any u → text_part t ≡ text_part u → t ≡ u
text_once t u h k e = hex_once t u (ap (drop 1) e)

tuple_once : (xs ys : List ℤ) (ts us : List Text) → AllByRecursion IsSmall xs → AllByRecursion IsSmall ys → tuple_text xs ts ≡ tuple_text ys us → (xs ≡ ys) × (ts ≡ us)
tuple_once xs ys ts us h k e =
    let r : (joined_by (44 ∷ []) signed_decimal xs ≡ joined_by (44 ∷ []) signed_decimal ys) × (joined_by (44 ∷ []) text_part ts ≡ joined_by (44 ∷ []) text_part us) =
    split 47 (joined_by (44 ∷ []) signed_decimal xs) (joined_by (44 ∷ []) signed_decimal ys) (joined_by (44 ∷ []) text_part ts) (joined_by (44 ∷ []) text_part us)
    (joined_lacks IsSmall signed_decimal number_some 47 (λ e. omega (arith, e)) (number_lacks 47 (omega arith) (λ e. omega (arith, e))) xs h)
    (joined_lacks IsSmall signed_decimal number_some 47 (λ e. omega (arith, e)) (number_lacks 47 (omega arith) (λ e. omega (arith, e))) ys k) e in (
      joined_once IsSmall signed_decimal number_some (number_lacks 44 (omega arith) (λ e. omega (arith, e))) number_once xs ys h k r.0,
      joined_once Any text_part (λ t h e. cc) text_lacks text_once ts us (any_all ts) (any_all us) r.1,
    )

abbrev second : List ℕ → ℕ
second bytes = slice_index bytes 1

not_one : (m n : ℕ) → m ≡ n → n ≡ suc m → ⊥
not_one m n e f = omega arith

-- the versions differ in their second byte
token_once : (d e : Option (List ℕ)) (xs ys : List ℤ) (ts us : List Text) → AllByRecursion IsSmall xs → AllByRecursion IsSmall ys → token_text d xs ts ≡ token_text e ys us → (d ≡ e) × (xs ≡ ys) × (ts ≡ us)
token_once None None xs ys ts us h k q = let r = tuple_once xs ys ts us h k (ap (drop 3) q) in (refl, r.0, r.1)
token_once None (Some e) xs ys ts us h k q = absurd (not_one 49 50 (ap second q) refl)
token_once (Some d) None xs ys ts us h k q = absurd (not_one 49 50 (sym (ap second q)) refl)
token_once (Some d) (Some e) xs ys ts us h k q =
    let r : (hex d ≡ hex e) × (tuple_text xs ts ≡ tuple_text ys us) = split 47 (hex d) (hex e) (tuple_text xs ts) (tuple_text ys us) (hex_lacks 47 (omega arith) d) (hex_lacks 47 (omega arith) e) (ap (drop 3) q) in
    let s = tuple_once xs ys ts us h k r.1 in
    (ap Some (hex_once d e r.0), s.0, s.1)

pub one_token : (token : List ℕ) (d e : Option (List ℕ)) (xs ys : List ℤ) (ts us : List Text) → IsToken token d xs ts → IsToken token e ys us → (d ≡ e) × (xs ≡ ys) × (ts ≡ us)
one_token token d e xs ys ts us p q = token_once d e xs ys ts us p.small q.small (sym p.spelled ∙ q.spelled)
