-- The order of texts and of those with some numbers, one after the other.
use Rattle.std.proofs.Common.{◌≡◌, ◌≤◌, ◌-◌, ℕ, zero, suc, length, take, drop, get_or, take_all, arith, List, [], ◌∷◌, Some, Greater, refl, ap₂}
use Rattle.std.specs.Prelude.{slice_get}
use Rattle.std.specs.Ordering.{nat_cmp, ordering_then}
use Rattle.std.specs.Cmp.Lexicographic.{slice_cmp}
use Rattle.lrp_model.specs.Texts.{Text, text_cmp}
use Rattle.lrp_model.specs.Tuples.{text_at, texts_at}

-- some texts come after none
pub no_numbers : (domain : List Text) (ts : List Text) (ns : List ℕ) → 1 ≤ length ts → length ns ≡ 0 → Greater ≡ slice_cmp text_cmp ts (texts_at domain ns)
no_numbers domain [] ns l e = absurd (omega arith)
no_numbers domain (t ∷ ts) [] l e = refl
no_numbers domain (t ∷ ts) (n ∷ ns) l e = absurd (omega arith)

rest_is : {A : Type 0} (x : A) (xs : List A) → take (length (x ∷ xs) - 1) xs ≡ xs
rest_is x xs = take_all (length (x ∷ xs) - 1) xs (omega arith)

at_is : (domain : List Text) (n : ℕ) (t : Text) → slice_get domain n ≡ Some t → t ≡ text_at domain n
at_is [] n t e = cc
at_is (d ∷ ds) zero t e = cc
at_is (d ∷ ds) (suc n) t e = at_is ds n t e

-- the first texts, and then the others
pub texts_more : (domain : List Text) (ts : List Text) (ns : List ℕ) (t u : Text) → 1 ≤ length ts → 1 ≤ length ns → t ≡ get_or ts 0 t → slice_get domain (get_or ns 0 0) ≡ Some u
    → ordering_then (slice_cmp nat_cmp t u) (slice_cmp text_cmp (take (length ts - 1) (drop 1 ts)) (texts_at domain (take (length ns - 1) (drop 1 ns)))) ≡ slice_cmp text_cmp ts (texts_at domain ns)
texts_more domain [] ns t u l m e g = absurd (omega arith)
texts_more domain (s ∷ ts) [] t u l m e g = absurd (omega arith)
texts_more domain (s ∷ ts) (n ∷ ns) t u l m e g =
    ap₂ ordering_then (ap₂ text_cmp e (at_is domain n u g)) (ap₂ (λ us ms. slice_cmp text_cmp us (texts_at domain ms)) (rest_is s ts) (rest_is n ns))
