-- Equivalences, what holds of each element of two lists, and choices between two names.
use Rattle.std.proofs.Common.{◌≡◌, ◌≢◌, ◌↔◌, Bool, true, false, cond, List, [], ◌∷◌, ◌++◌, refl, bytes_eq}
use Rattle.std.specs.List.{AllByRecursion}
use Rattle.std.specs.Cmp.Lexicographic.{bytes_decides}
use Rattle.lrp_model.specs.Texts.{Identifier}

pub same : {p : Type 0} → p ↔ p
same = ((λ x. x), λ x. x)

pub then_iff : {p q r : Type 0} → p ↔ q → q ↔ r → p ↔ r
then_iff a b = ((λ x. b.0 (a.0 x)), λ x. a.1 (b.1 x))

pub not_iff : {p q : Type 0} → p ↔ q → (p → ⊥) ↔ (q → ⊥)
not_iff a = ((λ n x. n (a.1 x)), λ n x. n (a.0 x))

-- each element of both lists is each of the one and each of the other
pub all_append : {X : Type 0} (p : X → Type 0) (xs ys : List X) → AllByRecursion p (xs ++ ys) ↔ (AllByRecursion p xs × AllByRecursion p ys)
all_append p [] ys = ((λ h. (tt, h)), λ h. h.1)
all_append p (x ∷ xs) ys = let r : AllByRecursion p (xs ++ ys) ↔ (AllByRecursion p xs × AllByRecursion p ys) = all_append p xs ys in ((λ h. ((h.0, (r.0 h.1).0), (r.0 h.1).1)), λ h. (h.0.0, r.1 (h.0.1, h.1)))

-- what holds of either branch holds of the choice between two names
pub choose : {A : Type 0} (P : A → Type 0) (v w : Identifier) (x y : A) → (v ≡ w → P x) → (v ≢ w → P y) → P (cond (bytes_eq v w) x y)
choose {A} P v w x y f g = at_test (bytes_eq v w) refl
  where
    at_test : (b : Bool) → bytes_eq v w ≡ b → P (cond b x y)
    at_test true e = f ((bytes_decides v w).0 e)
    at_test false e = g (λ same. let t : bytes_eq v w ≡ true = (bytes_decides v w).1 same in cc)
