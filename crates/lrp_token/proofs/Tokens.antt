-- Tokens, cut at their first slash.
use Rattle.std.proofs.Common.{◌≡◌, ◌≢◌, ◌⊎◌, inl, inr, ℕ, ℤ, true, false, eqb, List, [], ◌∷◌, ◌++◌, get_or, drop, Option, Some, None, MatchOption, refl, ap, sym, subst, ◌∙◌, arith, codes, lit<}
use Rattle.std.specs.Borrow.{Bor}
use Rattle.std.specs.List.{AllByRecursion}
use Rattle.std.specs.Fmt.{signed_decimal}
use Rattle.std.proofs.lemmas.Str.Pattern.{IsSplitOnceResult, split_after}
use Rattle.lrp_model.specs.Texts.{Text}
use Rattle.lrp_model.specs.DataTexts.{IsDataText}
use Rattle.lrp_model.specs.Printed.{joined_by}
use Rattle.lrp_model.specs.PrintedPages.{IsToken, IsDigest, hex, text_part, tuple_text, IsSmall}
use Rattle.lrp_token.specs.Parts.{HasDigest, IsListOf, IsTuple}
use Rattle.lrp_token.proofs.Lists.{Lacks, lacks_append, lacks_at}
use Rattle.lrp_token.proofs.Numbers.{number_lacks}
use Rattle.lrp_token.proofs.HexLaws.{hex_lacks}

-- ---- lists without slashes

joined_lacks : {A : Type 0} (P : A → Type 0) (f : A → List ℕ) (c : ℕ) → 44 ≢ c → ((a : A) → P a → Lacks c (f a)) → (all : List A) → AllByRecursion P all → Lacks c (joined_by (44 ∷ []) f all)
joined_lacks P f c ne free [] h = tt
joined_lacks P f c ne free (a ∷ []) h = free a h.0
joined_lacks P f c ne free (a ∷ b ∷ all) h = lacks_append c (f a) (44 ∷ joined_by (44 ∷ []) f (b ∷ all)) (free a h.0) (ne, joined_lacks P f c ne free (b ∷ all) h.1)

times_lack : (times : List ℤ) → AllByRecursion IsSmall times → Lacks 47 (joined_by (44 ∷ []) signed_decimal times)
times_lack times h = joined_lacks IsSmall signed_decimal 47 (λ e. omega (arith, e)) (number_lacks 47 (omega arith) (λ e. omega (arith, e))) times h

-- ---- cut at the first slash

-- after a first part without a slash, what `split_once` gives
pub cut : (bs front back : List ℕ) (r : Option (Bor (List ℕ) × Bor (List ℕ))) → IsSplitOnceResult 47 bs r → bs ≡ front ++ 47 ∷ back → Lacks 47 front → MatchOption r ⊥ (λ x. (x.0.now ≡ front) × (x.1.now ≡ back))
cut bs front back r h e free = split_after 47 bs front back r h (lit< tt) e (lacks_at 47 front free)

-- the times and texts of a tuple
pub of_tuple : (text : List ℕ) (times : List ℤ) (texts : List Text) → IsTuple text times texts → (a : List ℕ) × (b : List ℕ) × IsListOf IsSmall signed_decimal a times × IsListOf IsDataText text_part b texts × (text ≡ a ++ 47 ∷ b) × Lacks 47 a
of_tuple text times texts h = (
  joined_by (44 ∷ []) signed_decimal times,
  joined_by (44 ∷ []) text_part texts,
  record { fit = h.small; spelled = refl },
  record { fit = h.whole; spelled = refl },
  h.spelled,
  times_lack times h.small,
)

pub to_tuple : (text a b : List ℕ) (times : List ℤ) (texts : List Text) → IsListOf IsSmall signed_decimal a times → IsListOf IsDataText text_part b texts → text ≡ a ++ 47 ∷ b → IsTuple text times texts
to_tuple text a b times texts h k e = record { small = h.fit; whole = k.fit; spelled = e ∙ ap (λ x. x ++ 47 ∷ b) h.spelled ∙ ap (λ x. joined_by (44 ∷ []) signed_decimal times ++ 47 ∷ x) k.spelled }

-- the versions of a token
pub alone_token : (text rest : List ℕ) (times : List ℤ) (texts : List Text) → text ≡ codes "T1" ++ 47 ∷ rest → IsTuple rest times texts → IsToken text None times texts
alone_token text rest times texts e h = record { spelled = e ∙ ap (λ x. codes "T1/" ++ x) h.spelled; digest_is = tt; small = h.small; whole = h.whole }

pub both_token : (text rest : List ℕ) (digest : Option (List ℕ)) (times : List ℤ) (texts : List Text) → text ≡ codes "T2" ++ 47 ∷ rest → HasDigest rest digest times texts → IsToken text digest times texts
both_token text rest None times texts e h = absurd h
both_token text rest (Some digest) times texts e h =
    let tail = h.1 in
    record { spelled = e ∙ ap (λ x. codes "T2/" ++ x) (tail.2 ∙ ap (λ x. hex digest ++ 47 ∷ x) tail.1.spelled); digest_is = h.0; small = tail.1.small; whole = tail.1.whole }

-- a token is cut at its first slash after its version
pub token_cut : (text : List ℕ) (digest : Option (List ℕ)) (times : List ℤ) (texts : List Text) → IsToken text digest times texts
    → ((rest : List ℕ) × (text ≡ codes "T1" ++ 47 ∷ rest) × (digest ≡ None) × IsTuple rest times texts) ⊎ ((rest : List ℕ) × (text ≡ codes "T2" ++ 47 ∷ rest) × HasDigest rest digest times texts)
token_cut text None times texts h = inl (tuple_text times texts, h.spelled, refl, record { small = h.small; whole = h.whole; spelled = refl })
token_cut text (Some digest) times texts h = inr (hex digest ++ 47 ∷ tuple_text times texts, h.spelled, (h.digest_is, (tuple_text times texts, record { small = h.small; whole = h.whole; spelled = refl }, refl)))

pub version_lacks : (version : List ℕ) → (version ≡ codes "T1") ⊎ (version ≡ codes "T2") → Lacks 47 version
version_lacks version (inl e) = subst (Lacks 47) (sym e) ((λ k. omega (arith, k)), ((λ k. omega (arith, k)), tt))
version_lacks version (inr e) = subst (Lacks 47) (sym e) ((λ k. omega (arith, k)), ((λ k. omega (arith, k)), tt))

-- the digest before the first slash, and the tuple after it
pub record Parted (text : List ℕ) (digest : Option (List ℕ)) (times : List ℤ) (texts : List Text) : Type 0 where
  pub front : List ℕ
  pub back : List ℕ
  pub is : digest ≡ Some front
  pub fits : IsDigest front
  pub tuple : IsTuple back times texts
  pub spelled : text ≡ hex front ++ 47 ∷ back
  pub free : Lacks 47 (hex front)

pub of_digest : (text : List ℕ) (digest : Option (List ℕ)) (times : List ℤ) (texts : List Text) → HasDigest text digest times texts → Parted text digest times texts
of_digest text None times texts h = absurd h
of_digest text (Some d) times texts h = record { front = d; back = h.1.0; is = refl; fits = h.0; tuple = h.1.1; spelled = h.1.2; free = hex_lacks 47 (omega arith) d }

two_versions : (front back : List ℕ) → 84 ∷ 49 ∷ front ≡ 84 ∷ 50 ∷ back → ⊥
two_versions front back e = let same : true ≡ false = ap (λ l. eqb (get_or l 1 0) 49) e in cc

-- a token after `T2/`
pub both_parts : (text rest : List ℕ) (digest : Option (List ℕ)) (times : List ℤ) (texts : List Text) → text ≡ codes "T2" ++ 47 ∷ rest → IsToken text digest times texts → HasDigest rest digest times texts
both_parts text rest digest times texts e h = elim (token_cut text digest times texts h) [
  | inl p ↦ absurd (two_versions (47 ∷ p.0) (47 ∷ rest) (sym p.1 ∙ e))
  | inr p ↦
      let same : p.0 ≡ rest = ap (drop 3) (sym p.1 ∙ e) in
      subst (λ x. HasDigest x digest times texts) same p.2
]
