-- Bounds as numbers: the number of a bound, and the greatest one of its type for no bound.
use Rattle.std.specs.Prelude.{◌≡◌, ℤ, ◌^◌, ◌-◌, ◌<ℤ◌, pos, List, [], ◌∷◌, map, Option, Some, None, true, false, if◌then◌else◌, refl}
use Rattle.std.specs.Ordering.{int_eq}
use Rattle.std.specs.Cmp.{signed_Decides}
use Rattle.std.proofs.Common.{sym, ap, ◌∙◌}

-- the number that stands where there is no bound
abbrev pub no_bound : ℤ
no_bound = pos (2 ^ 63 - 1)

-- the bound that a number stands for
abbrev pub bound_from_number : ℤ → Option ℤ
bound_from_number a = if int_eq a no_bound then None else Some a

-- the number that stands for a bound
abbrev pub number_for_bound : Option ℤ → ℤ
number_for_bound None = no_bound
number_for_bound (Some a) = a

-- a number can stand for the bound
abbrev pub FitsNumber : Option ℤ → Type 0
FitsNumber None = Unit {0}
FitsNumber (Some a) = a <ℤ no_bound

-- the number of a number's bound is that number
pub number_again : (a : ℤ) → number_for_bound (bound_from_number a) ≡ a
number_again a =
    elim (int_eq a no_bound) as (λ t. int_eq a no_bound ≡ t → number_for_bound (if t then None else Some a) ≡ a) [
      | true ↦ λ e. sym ((signed_Decides a no_bound).0 e)
      | false ↦ λ e. refl
    ] refl

-- and so are those of a list
pub numbers_again : (numbers : List ℤ) → map number_for_bound (map bound_from_number numbers) ≡ numbers
numbers_again [] = refl
numbers_again (a ∷ numbers) = ap (λ b. b ∷ map number_for_bound (map bound_from_number numbers)) (number_again a) ∙ ap (λ bs. a ∷ bs) (numbers_again numbers)
