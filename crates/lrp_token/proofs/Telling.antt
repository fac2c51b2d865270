-- What follows from what an answer tells, since a text is a token of one tuple and digest alone.
use Rattle.std.proofs.Common.{◌≡◌, ◌⊎◌, inl, inr, ℕ, ℤ, List, Option, Result, Ok, Err, refl, sym, subst}
use Rattle.std.specs.Prelude.{IsErrAnd, MatchResult}
use Rattle.lrp_model.specs.Texts.{Text}
use Rattle.lrp_model.specs.PrintedPages.{IsToken}
use Rattle.lrp_model.specs.declared.tuples.Shape.{Shape}
use Rattle.lrp_model.proofs.TokenLaws.{one_token}
use Rattle.lrp_token.specs.declared.resume.Resume.{Resume}
use Rattle.lrp_token.specs.declared.resume.TokenFault.{TokenFault}
use Rattle.lrp_token.specs.declared.resume.TokenFault.TheVariants.{Form, Shape as OtherShape, Memory}
use Rattle.lrp_token.specs.Parts.{IsPartRead}
use Rattle.lrp_token.specs.Reading.{HasCounts, Tells}
use Rattle.lrp_token.proofs.Refusals.{same_err}

-- what is read is a token
abbrev pub IsResume : List ℕ → Resume → Type 0
IsResume text resume = IsToken text resume.digest resume.tuple.times resume.tuple.texts

told : (text : List ℕ) (shape : Shape) (e : TokenFault) → IsPartRead {A = Resume} (IsResume text) (Err e) → Tells text shape (Err e)
told text shape Form h = λ digest times texts t. h (record { tuple = record { times = times; texts = texts }; digest = digest }) t
told text shape OtherShape h = absurd h
told text shape Memory h = tt

-- a text that is not read is told of
pub told_err : (text : List ℕ) (shape : Shape) (r : Result Resume TokenFault) (e : TokenFault) → IsErrAnd r (λ x. x ≡ e) → IsPartRead {A = Resume} (IsResume text) (Err e) → Tells text shape r
told_err text shape r e h k = subst (Tells text shape) (sym (same_err r e h)) (told text shape e k)

module _ (text : List ℕ) (shape : Shape) (digest : Option (List ℕ)) (times : List ℤ) (texts : List Text) (token : IsToken text digest times texts) where
  -- of a token of the shape
  pub of_token : (r : Result Resume TokenFault) → Tells text shape r → HasCounts shape times texts → MatchResult r (λ resume. (resume.digest ≡ digest) × (resume.tuple.times ≡ times) × (resume.tuple.texts ≡ texts)) (λ fault. fault ≡ Memory)
  of_token (Ok resume) h counts = one_token text resume.digest digest resume.tuple.times times resume.tuple.texts texts h.0 token
  of_token (Err Form) h counts = absurd (h digest times texts token)
  of_token (Err OtherShape) h counts =
      let same = one_token text digest h.digest times h.times texts h.texts token h.token in
      absurd (h.other (subst (λ x. HasCounts shape h.times x) same.2 (subst (λ x. HasCounts shape x texts) same.1 counts)))
  of_token (Err Memory) h counts = refl

  -- of a token of another shape
  pub of_other : (r : Result Resume TokenFault) → Tells text shape r → (HasCounts shape times texts → ⊥) → MatchResult r (λ resume. ⊥) (λ fault. (fault ≡ OtherShape) ⊎ (fault ≡ Memory))
  of_other (Ok resume) h other =
      let same = one_token text resume.digest digest resume.tuple.times times resume.tuple.texts texts h.0 token in
      other (subst (λ x. HasCounts shape times x) same.2 (subst (λ x. HasCounts shape x resume.tuple.texts) same.1 h.1))
  of_other (Err Form) h other = absurd (h digest times texts token)
  of_other (Err OtherShape) h other = inl refl
  of_other (Err Memory) h other = inr refl
