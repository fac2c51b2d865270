-- Times as dates where they have one.
use Rattle.std.proofs.Common.{◌≡◌, ◌∙◌, Bool, true, false, refl, sym, ap, ap₂, subst, arith}
use Rattle.std.specs.Prelude.{ℤ, pos, negsuc, ◌≤ℤ◌, ◌↔◌, ◌&&◌, int_le, IsTrue, if◌then◌else◌}
use Rattle.std.specs.Fmt.{signed_decimal}
use Rattle.std.proofs.lemmas.Int.{ints}
use Rattle.jiff_core.specs.Calendar.{days_from_civil, day_count, days_of_years, days_of_months}
use Rattle.lrp_civil.specs.Dated.{dated_bytes, is_civil_minute}
use Rattle.lrp_calendar.specs.Moments.{IsCivilMinute, minute_at, moment_bytes}

pub dated_is : (x : ℤ) (civil : Bool) → is_civil_minute x ≡ civil → (if civil then moment_bytes x else signed_decimal x) ≡ dated_bytes x
dated_is x civil e = ap (λ b. if b then moment_bytes x else signed_decimal x) (sym e)

-- ---- the first minute of the year 1, and the last one of the year 9999

first_is : minute_at (record { year = 1; month = 1; day = 1 }) 0 ≡ negsuc 1035593279
unfolding days_from_civil day_count days_of_years days_of_months
first_is = refl

last_is : minute_at (record { year = 9999; month = 12; day = 31 }) 1439 ≡ pos 4223371679
unfolding days_from_civil day_count days_of_years days_of_months
last_is = refl

le_true : (a b : ℤ) → a ≤ℤ b → int_le a b ≡ true
le_true a b h = grind (arith, ints)

true_le : (a b : ℤ) → int_le a b ≡ true → a ≤ℤ b
true_le a b h = grind (arith, ints)

not_both : {P : Type 0} (b : Bool) → b ≡ false → b ≡ true → P
not_both b e f = cc

-- ---- a minute, by its word, that is tested against both

is_tested : (x : ℤ) (b : Bool) → int_le (negsuc 1035593279) x ≡ b → is_civil_minute x ≡ b && int_le x (pos 4223371679)
is_tested x b h = ap₂ (λ f l. int_le f x && int_le x l) first_is last_is ∙ ap (λ t. t && int_le x (pos 4223371679)) h

pub value_late : (x y : ℤ) → y ≡ x → int_le (negsuc 1035593279) y ≡ true → int_le y (pos 4223371679) ≡ is_civil_minute x
value_late x y e h = subst (λ z. int_le z (pos 4223371679) ≡ is_civil_minute x) (sym e) (sym (is_tested x true (subst (λ z. int_le (negsuc 1035593279) z ≡ true) e h)))

pub value_early : (x y : ℤ) → y ≡ x → int_le (negsuc 1035593279) y ≡ false → int_le (negsuc 1035593279) y ≡ is_civil_minute x
value_early x y e h = h ∙ sym (is_tested x false (subst (λ z. int_le (negsuc 1035593279) z ≡ false) e h))

minute_late : (x : ℤ) → int_le (negsuc 1035593279) x ≡ true → IsTrue (int_le x (pos 4223371679)) ↔ IsCivilMinute x
minute_late x h = (
  (λ k. (subst (λ f. f ≤ℤ x) (sym first_is) (true_le (negsuc 1035593279) x h), subst (λ l. x ≤ℤ l) (sym last_is) (true_le x (pos 4223371679) k))),
  (λ m. le_true x (pos 4223371679) (subst (λ l. x ≤ℤ l) last_is m.1)),
)

pub civil_late : (x y : ℤ) → y ≡ x → int_le (negsuc 1035593279) y ≡ true → IsTrue (int_le y (pos 4223371679)) ↔ IsCivilMinute x
civil_late x y e h = subst (λ z. IsTrue (int_le z (pos 4223371679)) ↔ IsCivilMinute x) (sym e) (minute_late x (subst (λ z. int_le (negsuc 1035593279) z ≡ true) e h))

pub civil_early : (x y : ℤ) → y ≡ x → int_le (negsuc 1035593279) y ≡ false → IsTrue (int_le (negsuc 1035593279) y) ↔ IsCivilMinute x
civil_early x y e h = (
  (λ k. not_both (int_le (negsuc 1035593279) y) h k),
  (λ m. not_both (int_le (negsuc 1035593279) x) (subst (λ z. int_le (negsuc 1035593279) z ≡ false) e h) (le_true (negsuc 1035593279) x (subst (λ f. f ≤ℤ x) first_is m.0))),
)
