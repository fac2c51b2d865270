-- Atoms in the order of their places, and what they sum to.
use Rattle.std.proofs.Common.{◌≡◌, ℕ, zero, suc, ◌+◌, ◌-◌, ◌<◌, ◌≤◌, ◌^◌, Bool, true, false, cond, Option, Some, None, List, [], ◌∷◌, ◌++◌, map, length, get_or, take, min, refl, ap, ap₂, sym, ◌∙◌, arith}
use Rattle.std.specs.Prelude.{slice_get, sum_by}
use Rattle.std.specs.List.{AllWithin}
use Rattle.std.proofs.lemmas.List.{get_or_default, take_more}
use Rattle.std.proofs.lemmas.List.Sums.{sum_by-cons}
use Rattle.lrp_model.specs.declared.tokens.Place.{Place}
use Rattle.lrp_tense.specs.Expanding.{is_before}
use Rattle.lrp_wide.specs.Inlining.{Counted, numbers_before, numbers_of}
use Rattle.lrp_wide.specs.Counts.{AreAscending, IsFirstAfter, SumTo, counted_of, end_before, stopped}
use Rattle.lrp_wide.specs.declared.numbering.Counted.{Counted as CountedAtom}
use Rattle.lrp_wide.proofs.NumberPlaces.{before-through}

-- ---- one atom more

pub sums-more : (sum : ℕ) (atoms : List CountedAtom) (total : ℕ) (a : CountedAtom) → SumTo sum atoms total → a.before ≡ total → SumTo sum (atoms ++ a ∷ []) (stopped (total + a.numbers))
sums-more sum [] total a h e = let t : total ≡ stopped sum = h in (e ∙ t, omega (arith, t))
sums-more sum (b ∷ atoms) total a h e = (h.0, sums-more (sum + b.numbers) atoms total a h.1 e)

pub ascending-more : (atoms : List CountedAtom) (a : CountedAtom) → AreAscending atoms → end_before atoms a.place ≡ true → AreAscending (atoms ++ a ∷ [])
ascending-more [] a h e = tt
ascending-more (b ∷ []) a h e = (e, tt)
ascending-more (b ∷ (c ∷ atoms)) a h e = (h.0, ascending-more (c ∷ atoms) a h.1 e)

-- the last atom tells
pub end-some : (atoms : List CountedAtom) (l : CountedAtom) (p : Place) → slice_get atoms (length atoms - 1) ≡ Some l → end_before atoms p ≡ is_before l.place p
end-some [] l p e = cc
end-some (a ∷ []) l p e = let s : Some a ≡ Some l = e in let same : a ≡ l = cc in ap (λ x. is_before x.place p) same
end-some (a ∷ (b ∷ atoms)) l p e =
    let at : length (a ∷ (b ∷ atoms)) - 1 ≡ suc (length (b ∷ atoms) - 1) = omega arith in
    end-some (b ∷ atoms) l p (sym (ap (slice_get (a ∷ (b ∷ atoms))) at) ∙ e)

pub end-none : (atoms : List CountedAtom) (p : Place) → slice_get atoms (length atoms - 1) ≡ None → end_before atoms p ≡ true
end-none [] p e = refl
end-none (a ∷ []) p e = let s : Some a ≡ None = e in cc
end-none (a ∷ (b ∷ atoms)) p e =
    let at : length (a ∷ (b ∷ atoms)) - 1 ≡ suc (length (b ∷ atoms) - 1) = omega arith in
    end-none (b ∷ atoms) p (sym (ap (slice_get (a ∷ (b ∷ atoms))) at) ∙ e)

-- ---- sums

pub total-is : (sum : ℕ) (atoms : List CountedAtom) (total : ℕ) → SumTo sum atoms total → total ≡ stopped (sum + numbers_of (counted_of atoms))
total-is sum [] total h = let e : total ≡ stopped sum = h in omega (arith, e)
total-is sum (a ∷ atoms) total h =
    let rest : total ≡ stopped (sum + a.numbers + numbers_of (counted_of atoms)) = total-is (sum + a.numbers) atoms total h.1 in
    let one : numbers_of (counted_of (a ∷ atoms)) ≡ a.numbers + numbers_of (counted_of atoms) = sum_by-cons (λ (c : Counted). c.numbers) (record { place = a.place; numbers = a.numbers }) (counted_of atoms) in
    omega (arith, rest, one)

pub total-of : (atoms : List CountedAtom) (total : ℕ) → SumTo 0 atoms total → total ≡ stopped (numbers_of (counted_of atoms))
total-of atoms total h = let all = total-is 0 atoms total h in omega (arith, all)

-- the first number of the atom with an index, or the total
pub at_index : List CountedAtom → ℕ → ℕ → ℕ
at_index [] n total = total
at_index (a ∷ atoms) zero total = a.before
at_index (a ∷ atoms) (suc n) total = at_index atoms n total

pub at-read : (atoms : List CountedAtom) (n total : ℕ) (d : CountedAtom) → n < length atoms → at_index atoms n total ≡ (get_or atoms n d).before
unfolding at_index
at-read [] n total d lt = absurd (omega (arith, lt))
at-read (b ∷ atoms) zero total d lt = refl
at-read (b ∷ atoms) (suc n) total d lt = at-read atoms n total d (omega (arith, lt))

pub at-end : (atoms : List CountedAtom) (total : ℕ) → at_index atoms (length atoms) total ≡ total
unfolding at_index
at-end [] total = refl
at-end (a ∷ atoms) total = at-end atoms total

one_before : (a : CountedAtom) (atoms : List CountedAtom) (p : Place) → numbers_before (counted_of (a ∷ atoms)) p ≡ cond (is_before a.place p) a.numbers 0 + numbers_before (counted_of atoms) p
one_before a atoms p = sum_by-cons (λ (c : Counted). cond (is_before c.place p) c.numbers 0) (record { place = a.place; numbers = a.numbers }) (counted_of atoms)

-- none of them stands before the place
none_before : (atoms : List CountedAtom) (p : Place) → AllWithin (λ a. is_before a.place p ≡ false) atoms 0 (length atoms) → numbers_before (counted_of atoms) p ≡ 0
none_before [] p h = refl
none_before (a ∷ atoms) p h =
    let first : is_before a.place p ≡ false = h 0 a (omega arith) (omega arith) in
    let rest : numbers_before (counted_of atoms) p ≡ 0 = none_before atoms p (λ k d low lt. h (suc k) d (omega arith) (omega (arith, lt))) in
    one_before a atoms p ∙ ap₂ (λ b n. cond b a.numbers 0 + n) first rest

-- where the first n stand before a place and the others don't, they take what the next one keeps
pub before-point : (sum : ℕ) (atoms : List CountedAtom) (total : ℕ) (p : Place) (n : ℕ) → SumTo sum atoms total → n ≤ length atoms
    → AllWithin (λ a. is_before a.place p ≡ true) atoms 0 n → AllWithin (λ a. is_before a.place p ≡ false) atoms n (length atoms) → at_index atoms n total ≡ stopped (sum + numbers_before (counted_of atoms) p)
unfolding at_index
before-point sum [] total p n h le yes' no' = let e : total ≡ stopped sum = h in omega (arith, e)
before-point sum (a ∷ atoms) total p zero h le yes' no' = let e : a.before ≡ stopped sum = h.0 in let z = none_before (a ∷ atoms) p no' in omega (arith, e, z)
before-point sum (a ∷ atoms) total p (suc n) h le yes' no' =
    let first : is_before a.place p ≡ true = yes' 0 a (omega arith) (omega arith) in
    let rest : at_index atoms n total ≡ stopped (sum + a.numbers + numbers_before (counted_of atoms) p) =
    before-point (sum + a.numbers) atoms total p n h.1 (omega (arith, le)) (λ k d low lt. yes' (suc k) d (omega arith) (omega (arith, lt))) (λ k d low lt. no' (suc k) d (omega (arith, low)) (omega (arith, lt))) in
    let one : numbers_before (counted_of (a ∷ atoms)) p ≡ a.numbers + numbers_before (counted_of atoms) p = one_before a atoms p ∙ ap (λ b. cond b a.numbers 0 + numbers_before (counted_of atoms) p) first in
    omega (arith, rest, one)

pub before-first : (atoms : List CountedAtom) (total : ℕ) (p : Place) (n : ℕ) → SumTo 0 atoms total → IsFirstAfter atoms p n → at_index atoms n total ≡ stopped (numbers_before (counted_of atoms) p)
before-first atoms total p n h f = let e = before-point 0 atoms total p n h f.bound f.before f.after in omega (arith, e)

-- ---- what stands before a place is a first part

after_first : (a : CountedAtom) (atoms : List CountedAtom) → AreAscending (a ∷ atoms) → (j : ℕ) (d : CountedAtom) → j < length atoms → is_before a.place (get_or atoms j d).place ≡ true
after_first a [] h j d lt = absurd (omega (arith, lt))
after_first a (b ∷ atoms) h zero d lt = h.0
after_first a (b ∷ atoms) h (suc j) d lt = before-through a.place b.place (get_or atoms j d).place h.0 (after_first b atoms h.1 j d (omega (arith, lt)))

without_first : (a : CountedAtom) (atoms : List CountedAtom) → AreAscending (a ∷ atoms) → AreAscending atoms
without_first a [] h = tt
without_first a (b ∷ atoms) h = h.1

pub partitioned : (atoms : List CountedAtom) (p : Place) → AreAscending atoms → (i j : ℕ) (d : CountedAtom) → i ≤ j → j < length atoms → is_before (get_or atoms j d).place p ≡ true → is_before (get_or atoms i d).place p ≡ true
partitioned [] p h i j d le lt e = absurd (omega (arith, lt))
partitioned (a ∷ atoms) p h zero zero d le lt e = e
partitioned (a ∷ atoms) p h zero (suc j) d le lt e = before-through a.place (get_or atoms j d).place p (after_first a atoms h j d (omega (arith, lt))) e
partitioned (a ∷ atoms) p h (suc i) zero d le lt e = absurd (omega (arith, le))
partitioned (a ∷ atoms) p h (suc i) (suc j) d le lt e = partitioned atoms p (without_first a atoms h) i j d (omega (arith, le)) (omega (arith, lt)) e

-- where one doesn't stand before a place, and those before it do, it is the first that doesn't
pub first-at : (atoms : List CountedAtom) (p : Place) (n : ℕ) (x : CountedAtom) → AreAscending atoms → n < length atoms → is_before (get_or atoms n x).place p ≡ false
    → ((k : ℕ) (d : CountedAtom) → k < n → is_before (get_or atoms k d).place p ≡ true) → IsFirstAfter atoms p n
first-at atoms p n x h within own earlier = record { bound = omega (arith, within); before = λ k d low lt. earlier k d lt; after = λ k d low lt. later k d low lt }
  where
    later : (k : ℕ) (d : CountedAtom) → n ≤ k → k < length atoms → is_before (get_or atoms k d).place p ≡ false
    later k d low lt = by (is_before (get_or atoms k d).place p) refl
      where
        by : (b : Bool) → is_before (get_or atoms k d).place p ≡ b → b ≡ false
        by false e = refl
        by true e =
            let first : is_before (get_or atoms n d).place p ≡ true = partitioned atoms p h n k d low lt e in
            let same : get_or atoms n x ≡ get_or atoms n d = get_or_default atoms n x d within in
            let both : is_before (get_or atoms n x).place p ≡ true = ap (λ (a : CountedAtom). is_before a.place p) same ∙ first in
            absurd (grind (arith, own, both))

-- where the one before it does, all those before it do
pub before-last : (atoms : List CountedAtom) (p : Place) (n : ℕ) (x : CountedAtom) → AreAscending atoms → n ≤ length atoms → 1 ≤ n → is_before (get_or atoms (n - 1) x).place p ≡ true
    → (k : ℕ) (d : CountedAtom) → k < n → is_before (get_or atoms k d).place p ≡ true
before-last atoms p n x h within some own k d lt =
    let low : n - 1 < length atoms = omega (arith, within, some) in
    let same : get_or atoms (n - 1) d ≡ get_or atoms (n - 1) x = get_or_default atoms (n - 1) d x low in
    partitioned atoms p h k (n - 1) d (omega (arith, lt)) low (ap (λ (a : CountedAtom). is_before a.place p) same ∙ own)

-- ---- in any order

-- those before a place are not more than all
pub before-few : (cs : List Counted) (p : Place) → numbers_before cs p ≤ numbers_of cs
before-few [] p = omega arith
before-few (c ∷ cs) p =
    let rest : numbers_before cs p ≤ numbers_of cs = before-few cs p in
    let one = sum_by-cons (λ (x : Counted). cond (is_before x.place p) x.numbers 0) c cs in
    let all = sum_by-cons (λ (x : Counted). x.numbers) c cs in
    by_test (is_before c.place p) c.numbers (numbers_before cs p) (numbers_of cs) (numbers_before (c ∷ cs) p) (numbers_of (c ∷ cs)) one all rest
  where
    by_test : (b : Bool) (n m k x y : ℕ) → x ≡ cond b n 0 + m → y ≡ n + k → m ≤ k → x ≤ y
    by_test true n m k x y e f le = omega (arith, e, f, le)
    by_test false n m k x y e f le = omega (arith, e, f, le)

-- the atoms so far and one more
joined_before : (xs ys : List CountedAtom) (p : Place) → numbers_before (counted_of (xs ++ ys)) p ≡ numbers_before (counted_of xs) p + numbers_before (counted_of ys) p
joined_before [] ys p = let none : numbers_before (counted_of []) p ≡ 0 = refl in omega (arith, none)
joined_before (x ∷ xs) ys p =
    let rest = joined_before xs ys p in
    let all = one_before x (xs ++ ys) p in
    let own = one_before x xs p in
    omega (arith, rest, all, own)

pub before-more : (atoms : List CountedAtom) (i : ℕ) (d : CountedAtom) (p : Place) (sum one next : ℕ) → i < length atoms → sum ≡ stopped (numbers_before (counted_of (take i atoms)) p)
    → one ≡ cond (is_before (get_or atoms i d).place p) (get_or atoms i d).numbers 0 → next ≡ min (sum + one) (2 ^ 64 - 1) → next ≡ stopped (numbers_before (counted_of (take (i + 1) atoms)) p)
before-more atoms i d p sum one next lt now e n =
    let a : CountedAtom = get_or atoms i d in
    let so : take (i + 1) atoms ≡ take i atoms ++ a ∷ [] = take_more atoms i d lt in
    let all : numbers_before (counted_of (take (i + 1) atoms)) p ≡ numbers_before (counted_of (take i atoms)) p + numbers_before (counted_of (a ∷ [])) p =
    ap (λ l. numbers_before (counted_of l) p) so ∙ joined_before (take i atoms) (a ∷ []) p in
    let last : numbers_before (counted_of (a ∷ [])) p ≡ cond (is_before a.place p) a.numbers 0 + 0 = one_before a [] p in
    omega (arith, now, all, last, e, n)
