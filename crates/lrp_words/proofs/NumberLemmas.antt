-- Numbers in words as `parse` reads them, and integers by their sign.
use Rattle.std.proofs.Common.{◌≡◌, ◌≢◌, ℕ, ◌^◌, ◌<◌, ◌≤◌, ◌⊎◌, inl, inr, [], ◌∷◌, Bool, true, false, cond, Option, Some, None, Result, Ok, Err, length, arith, rules, refl, sym, ap, subst, ◌∙◌}
use Rattle.std.specs.Prelude.{pos, neg_ℤ, option_map, nat_le, nat_eq, IfSome, ◌&&◌}
use Rattle.std.specs.List.{list_all}
use Rattle.std.specs.Char.{is_ascii_digit}
use Rattle.std.specs.Str.Parse.{ParsesUnsigned, digits_value}
use Rattle.std.specs.Result.{OkIff}
use Rattle.std.proofs.lemmas.Bool.{eqb-true}
use Rattle.std.proofs.lemmas.Bool.Decides.{nat_tests}
use Rattle.std.proofs.lemmas.Str.Parse.{IsNumeralModel, numerals_by_value, parse_digits}
use Rattle.lrp_model.specs.Texts.{Text}
use Rattle.lrp_words.specs.Numbers.{is_numeral, natural, within, integer_up_to}

-- a test for digits
digits : IsNumeralModel (λ ds. list_all is_ascii_digit ds ≡ true) (digits_value 10)
digits = numerals_by_value (λ ds. list_all is_ascii_digit ds ≡ true) (search rules)

-- a numeral consists of digits, and has one
numeral_digits : (bs : Text) → is_numeral bs ≡ true → (list_all is_ascii_digit bs ≡ true) × (0 < length bs)
numeral_digits [] h = cc
numeral_digits (b ∷ bs) h = (by (nat_eq b 48) refl h, omega arith)
  where
    by : (t : Bool) → nat_eq b 48 ≡ t → cond t (nat_eq (length bs) 0) (list_all is_ascii_digit (b ∷ bs)) ≡ true → list_all is_ascii_digit (b ∷ bs) ≡ true
    by false e h = h
    by true e h = subst (λ x. list_all is_ascii_digit (x ∷ bs) ≡ true) (sym (eqb-true b 48 e)) (rest bs (eqb-true (length bs) 0 h))
      where
        rest : (bs : Text) → length bs ≡ 0 → list_all is_ascii_digit (48 ∷ bs) ≡ true
        rest [] e = refl
        rest (c ∷ cs) e = absurd (omega arith)

-- a number is below a power, or it is not
below_or : (n m : ℕ) → (n < m) ⊎ (m ≤ n)
below_or n m = grind arith

-- what `parse` reads
pub parsed : {E : Type 0} (bs : Text) (r : Result ℕ E) → ParsesUnsigned 64 10 bs r → is_numeral bs ≡ true → OkIff r ((0 < length bs) × (digits_value 10 bs < 2 ^ 64)) (digits_value 10 bs)
parsed bs r h p = parse_digits digits 64 bs r h (numeral_digits bs p).0

-- a number that it reads is the one that the text spells
pub parsed_ok : {E : Type 0} (bs : Text) (r : Result ℕ E) (n : ℕ) → ParsesUnsigned 64 10 bs r → is_numeral bs ≡ true → r ≡ Ok n → natural bs ≡ Some n
parsed_ok {E} bs r n h p e =
    let k : OkIff {E = E} (Ok n) ((0 < length bs) × (digits_value 10 bs < 2 ^ 64)) (digits_value 10 bs) = subst (λ s. OkIff s ((0 < length bs) × (digits_value 10 bs < 2 ^ 64)) (digits_value 10 bs)) e (parsed bs r h p) in
    ap (λ t. cond t (Some (digits_value 10 bs)) None) p ∙ ap Some (sym k.1)

-- and what it does not read is too large
pub parsed_err : {E : Type 0} (bs : Text) (r : Result ℕ E) (x : E) (low high : ℕ) → ParsesUnsigned 64 10 bs r → is_numeral bs ≡ true → r ≡ Err x → high < 2 ^ 64 → within low high (natural bs) ≡ None
parsed_err {E} bs r x low high h p e l =
    let k : OkIff {T = ℕ} (Err x) ((0 < length bs) × (digits_value 10 bs < 2 ^ 64)) (digits_value 10 bs) = subst (λ s. OkIff s ((0 < length bs) × (digits_value 10 bs < 2 ^ 64)) (digits_value 10 bs)) e (parsed bs r h p) in
    ap (λ t. within low high (cond t (Some (digits_value 10 bs)) None)) p ∙ elim (below_or (digits_value 10 bs) (2 ^ 64)) [
      | inl a ↦ absurd (k ((numeral_digits bs p).1, a))
      | inr b ↦ too_large low high (digits_value 10 bs) (omega arith)
    ]
  where
    too_large : (low high n : ℕ) → high < n → within low high (Some n) ≡ None
    too_large low high n l = grind (arith, nat_tests)

-- a number within bounds
pub within_high : (low high : ℕ) (o : Option ℕ) → IfSome (within low high o) (λ n. n ≤ high)
within_high low high None = tt
within_high low high (Some n) = by (nat_le low n && nat_le n high) refl
  where
    by : (t : Bool) → (nat_le low n && nat_le n high) ≡ t → IfSome (cond t (Some n) None) (λ m. m ≤ high)
    by true e = grind (arith, nat_tests)
    by false e = tt

-- with a `-` in front, and without
pub with_minus : (limit : ℕ) (bs ds : Text) → bs ≡ 45 ∷ ds → integer_up_to limit bs ≡ option_map (λ n. neg_ℤ (pos n)) (within 1 limit (natural ds))
with_minus limit bs ds e = ap (integer_up_to limit) e

pub without_minus : (limit : ℕ) (bs : Text) → ((rest : Text) → bs ≢ 45 ∷ rest) → integer_up_to limit bs ≡ option_map (λ n. pos n) (within 0 limit (natural bs))
without_minus limit [] h = refl
without_minus limit (b ∷ bs) h = by (nat_eq b 45) refl
  where
    by : (t : Bool) → nat_eq b 45 ≡ t → cond t (option_map (λ n. neg_ℤ (pos n)) (within 1 limit (natural bs))) (option_map (λ n. pos n) (within 0 limit (natural (b ∷ bs)))) ≡ option_map (λ n. pos n) (within 0 limit (natural (b ∷ bs)))
    by false e = refl
    by true e = absurd (h bs (ap (λ x. x ∷ bs) (eqb-true b 45 e)))

-- digits of which the first is not 0
pub other_numeral : (bs : Text) (b : ℕ) (rest : Text) (r : Bool) → bs ≡ b ∷ rest → b ≢ 48 → r ≡ list_all is_ascii_digit bs → r ≡ is_numeral bs
other_numeral bs b rest r e ne f = f ∙ subst (λ x. list_all is_ascii_digit x ≡ is_numeral x) (sym e) (by (nat_eq b 48) refl)
  where
    by : (t : Bool) → nat_eq b 48 ≡ t → list_all is_ascii_digit (b ∷ rest) ≡ cond t (nat_eq (length rest) 0) (list_all is_ascii_digit (b ∷ rest))
    by false e = refl
    by true e = absurd (ne (eqb-true b 48 e))
