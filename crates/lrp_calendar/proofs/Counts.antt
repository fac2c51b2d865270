-- How many numbers pass a test that only the first ones pass.
use Rattle.std.proofs.Common.{◌≡◌, ◌≤◌, ◌<◌, ◌+◌, ◌⊎◌, inl, inr, ℕ, zero, suc, Bool, true, false, refl, arith}
use Rattle.std.proofs.lemmas.Bool.{cases_order}
use Rattle.lrp_calendar.specs.Dates.{count_to}

-- the test of a number holds of each lesser one, from 1 on
pub record OnlyFirst (test : ℕ → Bool) : Type 0 where
  pub down : (i j : ℕ) → 1 ≤ i → i ≤ j → test j ≡ true → test i ≡ true

pub either : (b : Bool) → (b ≡ true) ⊎ (b ≡ false)
either true = inl refl
either false = inr refl

one_more : (n : ℕ) (test : ℕ → Bool) → test (suc n) ≡ true → count_to (suc n) test ≡ count_to n test + 1
unfolding count_to
one_more n test e = rw e

no_more : (n : ℕ) (test : ℕ → Bool) → test (suc n) ≡ false → count_to (suc n) test ≡ count_to n test
unfolding count_to
no_more n test e = rw e

none : (test : ℕ → Bool) → count_to 0 test ≡ 0
unfolding count_to
none test = refl

-- all of them pass
all_pass : (n : ℕ) (test : ℕ → Bool) → OnlyFirst test → (1 ≤ n → test n ≡ true) → count_to n test ≡ n
all_pass zero test first e = none test
all_pass (suc n) test first e =
    let last : test (suc n) ≡ true = e (omega arith) in
    let before : 1 ≤ n → test n ≡ true = λ h. first.down n (suc n) h (omega arith) last in
    omega (arith, one_more n test last, all_pass n test first before)

-- the count is that of the last that passes
pub record IsLast (n : ℕ) (test : ℕ → Bool) : Type 0 where
  pub few : count_to n test ≤ n
  pub pass : 1 ≤ count_to n test → test (count_to n test) ≡ true
  pub fail : count_to n test < n → test (suc (count_to n test)) ≡ false

pub count_is : (n : ℕ) (test : ℕ → Bool) → OnlyFirst test → IsLast n test
count_is zero test first = let e = none test in record { few = omega (arith, e); pass = λ h. absurd (omega (arith, e)); fail = λ h. absurd (omega (arith, e)) }
count_is (suc n) test first =
    elim (either (test (suc n))) [
      | inl e ↦ let all : count_to (suc n) test ≡ suc n = all_pass (suc n) test first (λ h. e) in
          record { few = omega (arith, all); pass = λ h. rw all e; fail = λ h. absurd (omega (arith, all)) }
      | inr e ↦ let same = no_more n test e in
          let k = count_is n test first in
          record {
            few = omega (arith, same, k.few);
            pass = λ h. rw same (k.pass (omega (arith, same, h)));
            fail = λ h. elim (cases_order (count_to n test) n) [
              | inl here ↦ rw (same, here) e
              | inr (inl lt) ↦ rw same (k.fail lt)
              | inr (inr gt) ↦ absurd (omega (arith, k.few))
            ];
          }
    ]
