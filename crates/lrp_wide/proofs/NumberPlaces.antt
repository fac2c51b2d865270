-- The order of places.
use Rattle.std.proofs.Common.{◌≡◌, ◌⊎◌, inl, inr, ⊎_elim, ℕ, ◌<◌, ◌≤◌, Bool, true, false, ◌||◌, ◌&&◌, refl, ap, ap₂, ◌∙◌, arith}
use Rattle.std.specs.Prelude.{nat_lt, ◌==◌}
use Rattle.std.proofs.lemmas.Bool.{ltb-true, ltb-false, eqb-true, eqb-false}
use Rattle.lrp_model.specs.declared.tokens.Place.{Place}
use Rattle.lrp_tense.specs.Expanding.{is_before}

lt_test : (m n : ℕ) → m < n → nat_lt m n ≡ true
lt_test m n lt = at_test (nat_lt m n) refl
  where
    at_test : (b : Bool) → nat_lt m n ≡ b → b ≡ true
    at_test true e = refl
    at_test false e = let k : n ≤ m = ltb-false m n e in absurd (omega arith)

eq_test : (m n : ℕ) → m ≡ n → (m == n) ≡ true
eq_test m n same = at_test (m == n) refl
  where
    at_test : (b : Bool) → (m == n) ≡ b → b ≡ true
    at_test true e = refl
    at_test false e = absurd (eqb-false m n e same)

abbrev IsEarlier : Place → Place → Type 0
IsEarlier p q = (p.line < q.line) ⊎ ((p.line ≡ q.line) × (p.column < q.column))

by_tests : (a b c : Bool) → (a || (b && c)) ≡ true → (a ≡ true) ⊎ ((b ≡ true) × (c ≡ true))
by_tests true b c e = inl refl
by_tests false true true e = inr (refl, refl)
by_tests false true false e = cc
by_tests false false true e = cc
by_tests false false false e = cc

earlier : (p q : Place) → is_before p q ≡ true → IsEarlier p q
earlier p q e =
    ⊎_elim (λ a. inl (ltb-true p.line q.line a)) (λ b. inr (eqb-true p.line q.line b.0, ltb-true p.column q.column b.1))
    (by_tests (nat_lt p.line q.line) (p.line == q.line) (nat_lt p.column q.column) e)

or_true : (a : Bool) → (a || true) ≡ true
or_true true = refl
or_true false = refl

before : (p q : Place) → IsEarlier p q → is_before p q ≡ true
before p q (inl lt) = ap (λ a. a || ((p.line == q.line) && nat_lt p.column q.column)) (lt_test p.line q.line lt)
before p q (inr h) =
    ap₂ (λ b c. nat_lt p.line q.line || (b && c)) (eq_test p.line q.line h.0) (lt_test p.column q.column h.1) ∙ or_true (nat_lt p.line q.line)

through : (p q r : Place) → IsEarlier p q → IsEarlier q r → IsEarlier p r
through p q r (inl a) (inl b) = inl (omega arith)
through p q r (inl a) (inr b) = inl (let e : q.line ≡ r.line = b.0 in omega arith)
through p q r (inr a) (inl b) = inl (let e : p.line ≡ q.line = a.0 in omega arith)
through p q r (inr a) (inr b) = let c : p.column < q.column = a.1 in let d : q.column < r.column = b.1 in inr (a.0 ∙ b.0, omega arith)

not_earlier : (p : Place) → IsEarlier p p → ⊥
not_earlier p (inl lt) = omega (arith, lt)
not_earlier p (inr h) = let lt : p.column < p.column = h.1 in omega (arith, lt)

-- no place is before itself
pub before-itself : (p : Place) → is_before p p ≡ false
before-itself p = at_test (is_before p p) refl
  where
    at_test : (b : Bool) → is_before p p ≡ b → b ≡ false
    at_test false e = refl
    at_test true e = absurd (not_earlier p (earlier p p e))

-- a place before one that is before another is before that one
pub before-through : (p q r : Place) → is_before p q ≡ true → is_before q r ≡ true → is_before p r ≡ true
before-through p q r a b = before p r (through p q r (earlier p q a) (earlier q r b))
