-- Whole numbers in words.
use Rattle.std.specs.Prelude.{ℕ, ℤ, pos, neg_ℤ, [], ◌∷◌, length, Bool, false, ◌&&◌, ◌==◌, nat_le, Option, Some, None, option_map, if◌then◌else◌}
use Rattle.std.specs.Char.{is_ascii_digit}
use Rattle.std.specs.List.{list_all}
use Rattle.std.specs.Str.Parse.{digits_value}
use Rattle.lrp_model.specs.Texts.{Text}

-- `0`, or digits of which the first is not 0
abbrev pub is_numeral : Text → Bool
is_numeral [] = false
is_numeral (b ∷ bs) = if b == 48 then length bs == 0 else list_all is_ascii_digit (b ∷ bs)

-- the number that a text spells
abbrev pub natural : Text → Option ℕ
natural text = if is_numeral text then Some (digits_value 10 text) else None

-- the number, where it is one from low to high
abbrev pub within : ℕ → ℕ → Option ℕ → Option ℕ
within low high None = None
within low high (Some n) = if nat_le low n && nat_le n high then Some n else None

-- the integer that a text spells, of a magnitude of at most this number: a number, or a `-` before a number that is not 0
abbrev pub integer_up_to : ℕ → Text → Option ℤ
integer_up_to most [] = None
integer_up_to most (b ∷ bs) = if b == 45 then option_map (λ n. neg_ℤ (pos n)) (within 1 most (natural bs)) else option_map (λ n. pos n) (within 0 most (natural (b ∷ bs)))
