-- The names of the weekdays: three bytes each, and no two the same.
use Rattle.std.proofs.Common.{◌≡◌, ℕ, zero, suc, true, List, ◌∷◌, ◌++◌, length, take, drop, refl, sym, ap, ◌∙◌, cond, codes, arith}
use Rattle.std.specs.Str.{bytes_eq}
use Rattle.std.proofs.lemmas.Bool.Decides.{nat_tests}
use Rattle.std.proofs.Math.Seq.{take-append_seam, drop-append_seam}
use Rattle.lrp_text.proofs.Scans.{OneLine}
use Rattle.lrp_civil.specs.CivilValues.{day_name, is_weekday}

-- the number of a name
abbrev number : List ℕ → ℕ
number name =
    cond (bytes_eq name (codes "mon")) 0 (cond (bytes_eq name (codes "tue")) 1 (cond (bytes_eq name (codes "wed")) 2
    (cond (bytes_eq name (codes "thu")) 3 (cond (bytes_eq name (codes "fri")) 4 (cond (bytes_eq name (codes "sat")) 5 6)))))

-- what is known of each
record IsName (day : ℕ) : Type 0 where
  back : number (day_name day) ≡ day
  size : length (day_name day) ≡ 3

none : (n : ℕ) → is_weekday (suc (suc (suc (suc (suc (suc (suc n))))))) ≡ true → ⊥
none n h = absurd (grind (arith, nat_tests))

name_is : (day : ℕ) → is_weekday day ≡ true → IsName day
name_is zero h = record { back = refl; size = refl }
name_is (suc zero) h = record { back = refl; size = refl }
name_is (suc (suc zero)) h = record { back = refl; size = refl }
name_is (suc (suc (suc zero))) h = record { back = refl; size = refl }
name_is (suc (suc (suc (suc zero)))) h = record { back = refl; size = refl }
name_is (suc (suc (suc (suc (suc zero))))) h = record { back = refl; size = refl }
name_is (suc (suc (suc (suc (suc (suc zero)))))) h = record { back = refl; size = refl }
name_is (suc (suc (suc (suc (suc (suc (suc n))))))) h = absurd (none n h)

pub name_size : (day : ℕ) → is_weekday day ≡ true → length (day_name day) ≡ 3
name_size day h = (name_is day h).size

-- bytes begin with one name at most
pub name_unique : (a b : ℕ) (x y : List ℕ) → is_weekday a ≡ true → is_weekday b ≡ true → day_name a ++ x ≡ day_name b ++ y → (a ≡ b) × (x ≡ y)
name_unique a b x y h k e =
    let p = name_is a h in
    let q = name_is b k in
    let front : day_name a ≡ day_name b =
    sym (take-append_seam (day_name a) x) ∙ ap (λ n. take n (day_name a ++ x)) (p.size ∙ sym q.size) ∙ ap (take (length (day_name b))) e ∙ take-append_seam (day_name b) y in (
      sym p.back ∙ ap number front ∙ q.back,
      sym (drop-append_seam (day_name a) x) ∙ ap (λ n. drop n (day_name a ++ x)) (p.size ∙ sym q.size) ∙ ap (drop (length (day_name b))) e ∙ drop-append_seam (day_name b) y,
    )

-- what stands after a name and a blank
pub after_name : (day : ℕ) (rest : List ℕ) → is_weekday day ≡ true → drop 4 (day_name day ++ (32 ∷ rest)) ≡ rest
after_name zero rest h = refl
after_name (suc zero) rest h = refl
after_name (suc (suc zero)) rest h = refl
after_name (suc (suc (suc zero))) rest h = refl
after_name (suc (suc (suc (suc zero)))) rest h = refl
after_name (suc (suc (suc (suc (suc zero))))) rest h = refl
after_name (suc (suc (suc (suc (suc (suc zero)))))) rest h = refl
after_name (suc (suc (suc (suc (suc (suc (suc n))))))) rest h = absurd (none n h)

-- a name is of one line
pub name_line : (day : ℕ) → is_weekday day ≡ true → OneLine (day_name day)
name_line zero h = (refl, (refl, (refl, tt)))
name_line (suc zero) h = (refl, (refl, (refl, tt)))
name_line (suc (suc zero)) h = (refl, (refl, (refl, tt)))
name_line (suc (suc (suc zero))) h = (refl, (refl, (refl, tt)))
name_line (suc (suc (suc (suc zero)))) h = (refl, (refl, (refl, tt)))
name_line (suc (suc (suc (suc (suc zero))))) h = (refl, (refl, (refl, tt)))
name_line (suc (suc (suc (suc (suc (suc zero)))))) h = (refl, (refl, (refl, tt)))
name_line (suc (suc (suc (suc (suc (suc (suc n))))))) h = absurd (none n h)
