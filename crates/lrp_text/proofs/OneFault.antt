-- Bytes are no lawful text where they are refused, and are refused at most once.
use Rattle.std.proofs.Common.{◌≡◌, ◌⊎◌, inl, inr, ℕ, Bool, List, ap, ◌∙◌, sym, subst}
use Rattle.std.specs.Str.{IsUtf8}
use Rattle.lrp_model.specs.declared.tokens.Place.{Place}
use Rattle.lrp_model.specs.declared.tokens.Fault.{Fault}
use Rattle.lrp_model.specs.Tokens.{Tokens, Part, Spells}
use Rattle.lrp_model.specs.Lexing.{tokens}
use Rattle.lrp_model.specs.Refused.{TextOf, IsLawfulText, IsRefusedText}
use Rattle.lrp_model.specs.DatabaseReading.{IsNoUtf8}
use Rattle.lrp_text.proofs.LongestFront.{not_cut, same_cut}
use Rattle.lrp_text.proofs.OneCause.{same_token, same_kind, IsShown}

-- a lawful text is refused nowhere
pub not_refused : {A : Type 0} (spell : A → List Part) (Fits : A → Type 0) (bytes : List ℕ) (tree : A) (k : Fault) (p : Place) → IsLawfulText spell Fits bytes tree → IsRefusedText (TextOf spell Fits) bytes k p → ⊥
not_refused spell Fits bytes tree k p t r = r.refused.first r.tail (tree, t.lawful, subst (Spells (spell tree)) r.refused.whole t.spelled)

-- two refusals of one text
module _ (Text : Bool → Tokens → Type 0) (bytes : List ℕ) (k l : Fault) (p q : Place) (r : IsRefusedText Text bytes k p) (s : IsRefusedText Text bytes l q) where
  -- they stand at one token
  pub at_token : r.bad ≡ s.bad
  at_token = same_token Text (tokens bytes) k l r.bad s.bad r.tail s.tail r.refused s.refused

  -- and at one place
  pub same_place : p ≡ q
  same_place = r.place_is ∙ ap (λ t. t.place) at_token ∙ sym s.place_is

  -- kinds that tokens show by themselves are one
  pub shown_kind : IsShown k → IsShown l → k ≡ l
  shown_kind = same_kind Text (tokens bytes) k l r.bad s.bad r.tail s.tail r.refused s.refused

  -- they are one fault, where tokens show both kinds
  pub shown_once : IsShown k → IsShown l → (k ≡ l) × (p ≡ q)
  shown_once m n = (shown_kind m n, same_place)

-- a fault is one of the bytes, or one of these that was met while the text was read
abbrev pub IsCutOrMet : {K : Type 0} → K → (Fault → K) → (Fault → Place → Type 0) → List ℕ → K → Place → Type 0
IsCutOrMet utf8 kind_met Met bytes k p = ((k ≡ utf8) × IsNoUtf8 bytes p) ⊎ ((j : Fault) × (k ≡ kind_met j) × Met j p)

-- two of them are one, where those that were met are of UTF-8 and are one
module _ {K : Type 0} (utf8 : K) (kind_met : Fault → K) (Met : Fault → Place → Type 0) (bytes : List ℕ) (whole : (j : Fault) (p : Place) → Met j p → IsUtf8 bytes) (once : (j i : Fault) (p q : Place) → Met j p → Met i q → (j ≡ i) × (p ≡ q)) where
  pub both_once : (k l : K) (p q : Place) → IsCutOrMet utf8 kind_met Met bytes k p → IsCutOrMet utf8 kind_met Met bytes l q → (k ≡ l) × (p ≡ q)
  both_once k l p q (inl (e, a)) (inl (d, b)) = (e ∙ sym d, same_cut bytes p q a b)
  both_once k l p q (inl (e, a)) (inr (j, d, s)) = absurd (not_cut bytes p (whole j q s) a)
  both_once k l p q (inr (j, e, r)) (inl (d, b)) = absurd (not_cut bytes q (whole j p r) b)
  both_once k l p q (inr (j, e, r)) (inr (i, d, s)) = let h = once j i p q r s in (e ∙ ap kind_met h.0 ∙ sym d, h.1)
