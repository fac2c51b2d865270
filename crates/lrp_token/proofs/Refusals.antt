-- A call's refusal as the refusal of its caller.
use Rattle.std.proofs.Common.{◌≡◌, ℕ, Bool, false, eqb, List, [], ◌∷◌, length, Result, Ok, Err, sym, subst, ap}
use Rattle.std.specs.Prelude.{IsErrAnd}
use Rattle.lrp_token.specs.declared.resume.TokenFault.{TokenFault}
use Rattle.lrp_token.specs.declared.resume.TokenFault.TheVariants.{Form, Shape, Memory}
use Rattle.lrp_token.specs.Parts.{IsPartRead}

-- what the error is
pub same_err : {A : Type 0} (r : Result A TokenFault) (e : TokenFault) → IsErrAnd r (λ x. x ≡ e) → r ≡ Err e
same_err (Ok a) e h = absurd h
same_err (Err x) e h = ap Err h

same_refusal : {A B : Type 0} (Is : A → Type 0) (Was : B → Type 0) (e : TokenFault) → (((b : B) → Was b → ⊥) → (a : A) → Is a → ⊥) → IsPartRead {A = B} Was (Err e) → IsPartRead {A = A} Is (Err e)
same_refusal Is Was Form none w = none w
same_refusal Is Was Shape none w = w
same_refusal Is Was Memory none w = tt

-- where the part that was refused spells nothing, neither does the whole
pub refused : {A B : Type 0} (Is : A → Type 0) (Was : B → Type 0) (r : Result A TokenFault) (e : TokenFault) → IsErrAnd r (λ x. x ≡ e) → IsPartRead {A = B} Was (Err e) → (((b : B) → Was b → ⊥) → (a : A) → Is a → ⊥) → IsPartRead Is r
refused Is Was r e h w none = subst (IsPartRead Is) (sym (same_err r e h)) (same_refusal Is Was e none w)

-- a text that was not called empty
pub some_bytes : (text : List ℕ) (b : Bool) → b ≡ eqb (length text) 0 → b ≡ false → text ≡ [] → ⊥
some_bytes [] b e f g = cc
some_bytes (t ∷ ts) b e f g = cc

-- what is read, said in another way
pub read_as : {A : Type 0} (Is Was : A → Type 0) (r : Result A TokenFault) → ((a : A) → Was a → Is a) → ((a : A) → Is a → Was a) → IsPartRead Was r → IsPartRead Is r
read_as Is Was (Ok a) to from h = to a h
read_as Is Was (Err Form) to from h = λ a k. h a (from a k)
read_as Is Was (Err Shape) to from h = h
read_as Is Was (Err Memory) to from h = tt
