-- Numbers that stand for bounds.
use Rattle.std.proofs.Common.{◌≡◌, inl, inr, ℕ, ◌+◌, ◌<◌, ◌^◌, true, false, List, length, map, set, Option, Some, None, refl, sym, ap, subst, ◌∙◌, arith, get_or, get_or-set_same, get_or-set_other, below_more, if◌then◌else◌}
use Rattle.std.specs.Prelude.{ℤ, pos, ◌≤ℤ◌, ◌<ℤ◌}
use Rattle.std.specs.Ordering.{int_eq}
use Rattle.std.specs.Cmp.{signed_Decides}
use Rattle.std.proofs.lemmas.Int.{ints, by_lt_z}
use Rattle.std.proofs.lemmas.List.{get_or-map, length-map, map-set}
use Rattle.lrp_theory.specs.Bounds.{Within}
use Rattle.lrp_theory.specs.Entries.{AtMost, IsLesser}
use Rattle.lrp_zone.specs.Numbers.{no_bound, bound_from_number, number_for_bound, FitsNumber}

-- a number below the greatest is a bound
pub bound_is : (a : ℤ) → a <ℤ no_bound → bound_from_number a ≡ Some a
bound_is a low =
    elim (int_eq a no_bound) as (λ t. int_eq a no_bound ≡ t → (if t then None else Some a) ≡ Some a) [
      | true ↦ λ e. absurd (unlike a low ((signed_Decides a no_bound).0 e))
      | false ↦ λ e. refl
    ] refl
  where
    unlike : (a : ℤ) → a <ℤ no_bound → a ≡ no_bound → ⊥
    unlike a low e = omega (arith, ints)

-- the greatest one is none
pub bound_none : (a : ℤ) → a ≡ no_bound → bound_from_number a ≡ None
bound_none a is =
    elim (int_eq a no_bound) as (λ t. int_eq a no_bound ≡ t → (if t then None else Some a) ≡ None) [
      | true ↦ λ e. refl
      | false ↦ λ e. absurd (both ((signed_Decides a no_bound).1 is) e)
    ] refl
  where
    both : {t : _} → t ≡ true → t ≡ false → ⊥
    both e f = cc

-- the bound of a bound's number is that bound
pub bound_again : (e : Option ℤ) → FitsNumber e → bound_from_number (number_for_bound e) ≡ e
bound_again None h = bound_none no_bound refl
bound_again (Some a) h = bound_is a h

-- a small bound can stand
pub stands_small : (e : Option ℤ) → AtMost (2 ^ 62) e → FitsNumber e
stands_small None h = tt
stands_small (Some a) h = let l = h.1 in omega (arith, ints)

-- and so can the lesser of two
pub stands_lesser : (e f g : Option ℤ) → IsLesser e f g → FitsNumber f → FitsNumber g → FitsNumber e
stands_lesser e f g l hf hg = elim l.one [
  | inl is ↦ subst FitsNumber (sym is) hf
  | inr is ↦ subst FitsNumber (sym is) hg
]

-- the lesser number is that of the lesser bound
pub lower_within : (a b d : ℤ) → a ≤ℤ b → b ≤ℤ no_bound → Within d (bound_from_number a) → Within d (bound_from_number b)
lower_within a b d le high h =
    by_lt_z b no_bound
    (λ low. subst (λ e. Within d e) (sym (bound_is b low)) (step a b d le (subst (λ e. Within d e) (bound_is a (under a b le low)) h)))
    (λ top. subst (λ e. Within d e) (sym (bound_none b (same b high top))) tt)
  where
    under : (a b : ℤ) → a ≤ℤ b → b <ℤ no_bound → a <ℤ no_bound
    under a b le low = omega (arith, ints)

    step : (a b d : ℤ) → a ≤ℤ b → d ≤ℤ a → d ≤ℤ b
    step a b d le h = omega (arith, ints)

    same : (b : ℤ) → b ≤ℤ no_bound → no_bound ≤ℤ b → b ≡ no_bound
    same b high top = omega (arith, ints)

-- of two numbers the first is the lesser
pub lesser_left : (a b : ℤ) → a ≤ℤ b → b ≤ℤ no_bound → IsLesser (bound_from_number a) (bound_from_number a) (bound_from_number b)
lesser_left a b le high = record { below = λ d h. (h, lower_within a b d le high h); one = inl refl }

-- or the second
pub lesser_right : (a b : ℤ) → b ≤ℤ a → a ≤ℤ no_bound → IsLesser (bound_from_number b) (bound_from_number a) (bound_from_number b)
lesser_right a b le high = record { below = λ d h. (lower_within b a d le high h, h); one = inr refl }

-- a place of the list of the bounds
pub read_bound : (numbers : List ℤ) (now : List (Option ℤ)) (p : ℕ) (d a : ℤ) (e : Option ℤ) → length numbers ≡ 81 → p < 81 → map bound_from_number numbers ≡ now → a ≡ get_or numbers p d → e ≡ bound_from_number a → e ≡ get_or now p None
read_bound numbers now p d a e size low view is made = made ∙ ap bound_from_number is ∙ sym (get_or-map bound_from_number numbers p d None (subst (λ n. p < n) (sym size) low)) ∙ ap (λ t. get_or t p None) view

-- a number that was written
pub write_bound : (numbers : List ℤ) (now : List (Option ℤ)) (p : ℕ) (v : ℤ) (e : Option ℤ) → map bound_from_number numbers ≡ now → v ≡ number_for_bound e → FitsNumber e → map bound_from_number (set numbers p v) ≡ set now p e
write_bound numbers now p v e view is stands = map-set bound_from_number numbers p v ∙ ap (λ t. set t p (bound_from_number v)) view ∙ ap (set now p) (ap bound_from_number is ∙ bound_again e stands)

-- the list of the bounds is as long
pub view_size : (numbers : List ℤ) (now : List (Option ℤ)) → length numbers ≡ 81 → map bound_from_number numbers ≡ now → length now ≡ 81
view_size numbers now size view = ap length (sym view) ∙ length-map numbers bound_from_number ∙ size

-- one more lesser number is written
pub number_more : (numbers na nb : List ℤ) (a b : List (Option ℤ)) (i : ℕ) (v x y : ℤ) → length numbers ≡ 81 → length na ≡ 81 → length nb ≡ 81 → i < 81 → map bound_from_number na ≡ a → map bound_from_number nb ≡ b → x ≡ get_or na i (pos 0) → y ≡ get_or nb i (pos 0)
    → IsLesser (bound_from_number v) (bound_from_number x) (bound_from_number y) → ((p : ℕ) → p < i → IsLesser (bound_from_number (get_or numbers p (pos 0))) (get_or a p None) (get_or b p None)) → (p : ℕ) → p < i + 1 → IsLesser (bound_from_number (get_or (set numbers i v) p (pos 0))) (get_or a p None) (get_or b p None)
number_more numbers na nb a b i v x y size sa sb low va vb xa yb less old = below_more (λ p. IsLesser (bound_from_number (get_or (set numbers i v) p (pos 0))) (get_or a p None) (get_or b p None)) i
    (λ p q. subst (λ e. IsLesser (bound_from_number e) (get_or a p None) (get_or b p None)) (sym (get_or-set_other numbers i p v (pos 0) (omega arith))) (old p q))
    (subst (λ e. IsLesser (bound_from_number e) (get_or a i None) (get_or b i None)) (sym (get_or-set_same numbers i v (pos 0) (omega arith)))
    (subst (λ e. IsLesser (bound_from_number v) e (get_or b i None)) (read_bound na a i (pos 0) x (bound_from_number x) sa low va xa refl) (subst (λ e. IsLesser (bound_from_number v) (bound_from_number x) e) (read_bound nb b i (pos 0) y (bound_from_number y) sb low vb yb refl) less)))

-- all are written
pub numbers_all : (numbers : List ℤ) (a b : List (Option ℤ)) (n : ℕ) → length numbers ≡ 81 → n ≡ 81 → ((p : ℕ) → p < n → IsLesser (bound_from_number (get_or numbers p (pos 0))) (get_or a p None) (get_or b p None)) → (p : ℕ) → p < 81 → IsLesser (get_or (map bound_from_number numbers) p None) (get_or a p None) (get_or b p None)
numbers_all numbers a b n size e each p low = subst (λ y. IsLesser y (get_or a p None) (get_or b p None)) (sym (get_or-map bound_from_number numbers p (pos 0) None (omega arith))) (each p (omega arith))
