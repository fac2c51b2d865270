-- What a parser of a grammar leaves of the tokens of bytes: it reads all of them, or they are a text all the same, or something stands where it stops.
use Rattle.std.proofs.Common.{◌≡◌, ◌≤◌, ◌⊎◌, inl, inr, ℕ, zero, suc, Bool, true, false, List, [], ◌∷◌, ◌++◌, refl, sym, subst, ◌∙◌, length, take, take_all, append-nil, arith}
use Rattle.std.specs.Str.{IsUtf8, is_utf8, IsValidUpTo}
use Rattle.std.proofs.lemmas.Str.{IsUtf8-from_is_utf8, is_utf8-from_IsUtf8, IsUtf8-nil}
use Rattle.lrp_model.specs.declared.tokens.Fault.{Fault}
use Rattle.lrp_model.specs.declared.tokens.Fault.TheVariants.{Memory}
use Rattle.lrp_model.specs.declared.tokens.Place.{Place}
use Rattle.lrp_model.specs.DatabaseReading.{IsNoUtf8}
use Rattle.lrp_model.specs.Lexing.{after, start, tokens_in}
use Rattle.lrp_model.specs.Refused.{Stops, Through, TextOf, IsLawfulTextIn}
use Rattle.lrp_model.specs.Tokens.{Placed, Tokens, Part, Takes, Spells}
use Rattle.lrp_reading_laws.proofs.LastTokens.{AllGo, Something, something_left, not_all_go, closed_tokens}
use Rattle.lrp_reading_laws.proofs.InnerParts.{EndsText, goes_before, takes_all}

-- ---- UTF-8

-- bytes of which no front from a length on is UTF-8 have a longest front that is
longest_front : (bytes : List ℕ) (n : ℕ) → n ≤ length bytes → ((m : ℕ) → n ≤ m → IsUtf8 (take m bytes) → ⊥) → (valid : ℕ) × IsValidUpTo bytes valid
longest_front bytes zero low none = absurd (none 0 (omega arith) IsUtf8-nil)
longest_front bytes (suc n) low none = by (is_utf8 (take n bytes)) refl (λ further. longest_front bytes n (omega (arith, low)) further)
  where
    split : (k m : ℕ) → k ≤ m → (k ≡ m) ⊎ (suc k ≤ m)
    split k m le = grind arith

    by : (b : Bool) → is_utf8 (take n bytes) ≡ b → (((m : ℕ) → n ≤ m → IsUtf8 (take m bytes) → ⊥) → (valid : ℕ) × IsValidUpTo bytes valid) → (valid : ℕ) × IsValidUpTo bytes valid
    by true e go = (n, record { short = omega (arith, low); front = IsUtf8-from_is_utf8 (take n bytes) e; longest = λ m lt. none m (omega (arith, lt)) })
    by false e go = go (λ m le u. elim (split n m le) [
      | inl same ↦ let t : is_utf8 (take n bytes) ≡ true = is_utf8-from_IsUtf8 (take n bytes) (subst (λ k. IsUtf8 (take k bytes)) (sym same) u) in cc
      | inr lt ↦ none m lt u
    ])

-- bytes are UTF-8, or cut at a place
pub utf8_or_cut : (bytes : List ℕ) → IsUtf8 bytes ⊎ ((place : Place) × IsNoUtf8 bytes place)
utf8_or_cut bytes = by (is_utf8 bytes) refl
  where
    by : (b : Bool) → is_utf8 bytes ≡ b → IsUtf8 bytes ⊎ ((place : Place) × IsNoUtf8 bytes place)
    by true e = inl (IsUtf8-from_is_utf8 bytes e)
    by false e =
        let cut = longest_front bytes (length bytes) (omega arith) (λ m le u. let t : is_utf8 bytes ≡ true = is_utf8-from_IsUtf8 bytes (subst IsUtf8 (take_all m bytes le) u) in cc) in
        inr (after start (take cut.0 bytes), record { valid = cut.0; longest = cut.1; place_is = refl })

-- ---- texts of a grammar

module _ {A : Type 0} (wide : Bool) (spell : A → List Part) (Fits : A → Type 0) (ends : (a : A) → EndsText (spell a)) (bytes : List ℕ) (utf8 : IsUtf8 bytes) where
  -- a tree that a front of the tokens spells is that of all of them
  pub read_whole : (a : A) (left : Tokens) → Takes (spell a) (tokens_in wide bytes) left → Fits a → IsLawfulTextIn wide spell Fits bytes a
  read_whole a left taken fits =
      let none : left ≡ [] = takes_all (spell a) (tokens_in wide bytes) left (ends a) taken (closed_tokens wide bytes) in
      record { utf8 = utf8; spelled = subst (Takes (spell a) (tokens_in wide bytes)) none taken; lawful = fits }

  -- where a parser stops after all of them they are a text
  pub stopped_after_all : (k : Fault) → Stops (TextOf spell Fits) (tokens_in wide bytes) (k, []) → (a : A) × IsLawfulTextIn wide spell Fits bytes a
  stopped_after_all k s = by s.more s.begins
    where
      by : (more : Tokens) → TextOf spell Fits true (s.front ++ more) → (a : A) × IsLawfulTextIn wide spell Fits bytes a
      by [] t = (t.0, record { utf8 = utf8; spelled = subst (Spells (spell t.0)) (sym s.whole) t.2; lawful = t.1 })
      by (m ∷ more) t = absurd (not_all_go wide bytes (subst AllGo (sym (s.whole ∙ append-nil s.front)) (goes_before (spell t.0) s.front m more (ends t.0) t.2)))

  -- else something stands there
  pub stands_there : (k : Fault) (b : Placed) (us : Tokens) → Stops (TextOf spell Fits) (tokens_in wide bytes) (k, b ∷ us) → Something (b ∷ us)
  stands_there k b us s = something_left wide bytes s.front (b ∷ us) s.whole (λ e. cc)

-- and the fault is none of memory
pub never_memory : (T : Bool → Tokens → Type 0) (ts us : Tokens) (k : Fault) → Stops T ts (k, us) → k ≡ Memory → ⊥
never_memory T ts us k s e = let g = subst (λ j. Through (T false) s.front j us) e s.through in g.cause
