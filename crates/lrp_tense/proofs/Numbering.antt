-- Operators at different places have different numbers, none greater than how many they are.
use Rattle.std.proofs.Common.{◌≡◌, ◌≢◌, ◌⊎◌, inl, inr, ⊎_elim, ℕ, suc, ◌<◌, ◌≤◌, ◌^◌, Bool, true, false, ◌||◌, ◌&&◌, cond, List, [], ◌∷◌, length, filter, Contains, refl, sym, ap, ap₂, subst, ◌∙◌, arith}
use Rattle.std.specs.Prelude.{nat_lt, ◌==◌}
use Rattle.std.specs.List.{AllByRecursion}
use Rattle.std.proofs.lemmas.Bool.{ltb-true, ltb-false, eqb-true, eqb-false}
use Rattle.lrp_model.specs.declared.tokens.Place.{Place}
use Rattle.lrp_model.proofs.Decided.{cons_cases, contains_first, contains_later, contains_none}
use Rattle.lrp_tense.specs.Expanding.{is_before, operator_number, AllDiffer}
use Rattle.lrp_tense.proofs.Scoping.{AreNumbered}

-- ---- the order of places

lt_test : (m n : ℕ) → m < n → nat_lt m n ≡ true
lt_test m n lt = at_test (nat_lt m n) refl
  where
    at_test : (b : Bool) → nat_lt m n ≡ b → b ≡ true
    at_test true e = refl
    at_test false e = let k : n ≤ m = ltb-false m n e in absurd (omega arith)

eq_test : (m n : ℕ) → m ≡ n → (m == n) ≡ true
eq_test m n same = at_test (m == n) refl
  where
    at_test : (b : Bool) → (m == n) ≡ b → b ≡ true
    at_test true e = refl
    at_test false e = absurd (eqb-false m n e same)

abbrev pub IsEarlier : Place → Place → Type 0
IsEarlier p q = (p.line < q.line) ⊎ ((p.line ≡ q.line) × (p.column < q.column))

by_tests : (a b c : Bool) → (a || (b && c)) ≡ true → (a ≡ true) ⊎ ((b ≡ true) × (c ≡ true))
by_tests true b c e = inl refl
by_tests false true true e = inr (refl, refl)
by_tests false true false e = cc
by_tests false false true e = cc
by_tests false false false e = cc

pub earlier : (p q : Place) → is_before p q ≡ true → IsEarlier p q
earlier p q e =
    ⊎_elim (λ a. inl (ltb-true p.line q.line a)) (λ b. inr (eqb-true p.line q.line b.0, ltb-true p.column q.column b.1))
    (by_tests (nat_lt p.line q.line) (p.line == q.line) (nat_lt p.column q.column) e)

or_true : (a : Bool) → (a || true) ≡ true
or_true true = refl
or_true false = refl

pub before : (p q : Place) → IsEarlier p q → is_before p q ≡ true
before p q (inl lt) = ap (λ a. a || ((p.line == q.line) && nat_lt p.column q.column)) (lt_test p.line q.line lt)
before p q (inr h) =
    ap₂ (λ b c. nat_lt p.line q.line || (b && c)) (eq_test p.line q.line h.0) (lt_test p.column q.column h.1) ∙ or_true (nat_lt p.line q.line)

pub through : (p q r : Place) → IsEarlier p q → IsEarlier q r → IsEarlier p r
through p q r (inl a) (inl b) = inl (omega arith)
through p q r (inl a) (inr b) = inl (let e : q.line ≡ r.line = b.0 in omega arith)
through p q r (inr a) (inl b) = inl (let e : p.line ≡ q.line = a.0 in omega arith)
through p q r (inr a) (inr b) = let c : p.column < q.column = a.1 in let d : q.column < r.column = b.1 in inr (a.0 ∙ b.0, omega arith)

pub not_itself : (p : Place) → IsEarlier p p → ⊥
not_itself p (inl lt) = omega arith
not_itself p (inr h) = let lt : p.column < p.column = h.1 in omega arith

itself : (p : Place) → is_before p p ≡ false
itself p = at_test (is_before p p) refl
  where
    at_test : (b : Bool) → is_before p p ≡ b → b ≡ false
    at_test true e = absurd (not_itself p (earlier p p e))
    at_test false e = refl

transitive : (p q r : Place) → is_before p q ≡ true → is_before q r ≡ true → is_before p r ≡ true
transitive p q r e f = before p r (through p q r (earlier p q e) (earlier q r f))

pub trichotomy : (m n : ℕ) → ((m < n) ⊎ (n < m)) ⊎ (m ≡ n)
trichotomy m n = at_test (nat_lt m n) (nat_lt n m) refl refl
  where
    at_test : (a b : Bool) → nat_lt m n ≡ a → nat_lt n m ≡ b → ((m < n) ⊎ (n < m)) ⊎ (m ≡ n)
    at_test true b e f = inl (inl (ltb-true m n e))
    at_test false true e f = inl (inr (ltb-true n m f))
    at_test false false e f = let x : n ≤ m = ltb-false m n e in let y : m ≤ n = ltb-false n m f in inr (omega arith)

one_first : (p q : Place) → p ≢ q → (is_before p q ≡ true) ⊎ (is_before q p ≡ true)
one_first p q ne =
    ⊎_elim (λ s. ⊎_elim (λ lt. inl (before p q (inl lt))) (λ gt. inr (before q p (inl gt))) s)
    (λ e. ⊎_elim (λ s. ⊎_elim (λ lt. inl (before p q (inr (e, lt)))) (λ gt. inr (before q p (inr (sym e, gt)))) s) (λ f. absurd (ne (ap₂ (λ l c. record { line = l; column = c }) e f))) (trichotomy p.column q.column))
    (trichotomy p.line q.line)

-- ---- counts

module _ (a b : Place) (h : is_before a b ≡ true) where
  below : (ps : List Place) → length (filter (λ q. is_before q a) ps) ≤ length (filter (λ q. is_before q b) ps)
  below [] = omega arith
  below (q ∷ ps) = at_test (is_before q a) (is_before q b) refl refl (below ps)
    where
      at_test : (x y : Bool) → is_before q a ≡ x → is_before q b ≡ y → length (filter (λ q. is_before q a) ps) ≤ length (filter (λ q. is_before q b) ps) → length (cond x (q ∷ filter (λ q. is_before q a) ps) (filter (λ q. is_before q a) ps)) ≤ length (cond y (q ∷ filter (λ q. is_before q b) ps) (filter (λ q. is_before q b) ps))
      at_test true true e f k = omega (arith, k)
      at_test true false e f k = let t : is_before q b ≡ true = transitive q a b e h in cc
      at_test false true e f k = omega (arith, k)
      at_test false false e f k = k

  fewer : (ps : List Place) → Contains ps a → length (filter (λ q. is_before q a) ps) < length (filter (λ q. is_before q b) ps)
  fewer [] c = absurd (contains_none a c)
  fewer (q ∷ ps) c = at_test (is_before q a) (is_before q b) refl refl (cons_cases q a ps c) (fewer ps)
    where
      at_test : (x y : Bool) → is_before q a ≡ x → is_before q b ≡ y → ((q ≡ a) ⊎ Contains ps a) → (Contains ps a → length (filter (λ q. is_before q a) ps) < length (filter (λ q. is_before q b) ps)) → length (cond x (q ∷ filter (λ q. is_before q a) ps) (filter (λ q. is_before q a) ps)) < length (cond y (q ∷ filter (λ q. is_before q b) ps) (filter (λ q. is_before q b) ps))
      at_test true true e f (inl s) r = let t : is_before a a ≡ true = subst (λ z. is_before z a ≡ true) s e in let u : is_before a a ≡ false = itself a in cc
      at_test true true e f (inr d) r = let k = r d in omega (arith, k)
      at_test true false e f s r = let t : is_before q b ≡ true = transitive q a b e h in cc
      at_test false true e f s r = let k = below ps in omega (arith, k)
      at_test false false e f (inl s) r = let t : is_before q b ≡ true = subst (λ z. is_before z b ≡ true) (sym s) h in cc
      at_test false false e f (inr d) r = r d

no_more : (p : Place) (ps : List Place) → length (filter (λ q. is_before q p) ps) ≤ length ps
no_more p [] = omega arith
no_more p (q ∷ ps) = at_test (is_before q p) (no_more p ps)
  where
    at_test : (x : Bool) → length (filter (λ q. is_before q p) ps) ≤ length ps → length (cond x (q ∷ filter (λ q. is_before q p) ps) (filter (λ q. is_before q p) ps)) ≤ suc (length ps)
    at_test true k = omega (arith, k)
    at_test false k = omega (arith, k)

less_than_all : (p : Place) (ps : List Place) → Contains ps p → length (filter (λ q. is_before q p) ps) < length ps
less_than_all p [] c = absurd (contains_none p c)
less_than_all p (q ∷ ps) c = at_test (is_before q p) refl (cons_cases q p ps c) (less_than_all p ps)
  where
    at_test : (x : Bool) → is_before q p ≡ x → ((q ≡ p) ⊎ Contains ps p) → (Contains ps p → length (filter (λ q. is_before q p) ps) < length ps) → length (cond x (q ∷ filter (λ q. is_before q p) ps) (filter (λ q. is_before q p) ps)) < suc (length ps)
    at_test true e (inl s) r = let t : is_before p p ≡ true = subst (λ z. is_before z p ≡ true) s e in let u : is_before p p ≡ false = itself p in cc
    at_test true e (inr d) r = let k = r d in omega (arith, k)
    at_test false e s r = let k = no_more p ps in omega (arith, k)

-- ---- numbers

numbers_differ : (all : List Place) (p q : Place) → Contains all p → Contains all q → p ≢ q → operator_number all p ≢ operator_number all q
numbers_differ all p q c d ne e =
    ⊎_elim (λ h. let k = fewer p q h all c in omega (arith, k, e)) (λ h. let k = fewer q p h all d in omega (arith, k, e)) (one_first p q ne)

module _ (all : List Place) (small : length all < 2 ^ 64) where
  differ_from : (p : Place) → Contains all p → (ps : List Place) → AllByRecursion (Contains all) ps → AllByRecursion (λ q. p ≢ q) ps → AllByRecursion (λ q. operator_number all p ≢ operator_number all q) ps
  differ_from p c [] d ne = tt
  differ_from p c (q ∷ ps) d ne = (numbers_differ all p q c d.0 ne.0, differ_from p c ps d.1 ne.1)

  numbered : (ps : List Place) → AllByRecursion (Contains all) ps → AllDiffer ps → AreNumbered (operator_number all) ps
  numbered [] c d = tt
  numbered (p ∷ ps) c d = ((let k = less_than_all p all c.0 in omega (arith, k, small)), (differ_from p c.0 ps c.1 d.0, numbered ps c.1 d.1))

all_later : (a : Place) (ps qs : List Place) → AllByRecursion (Contains ps) qs → AllByRecursion (Contains (a ∷ ps)) qs
all_later a ps [] c = tt
all_later a ps (q ∷ qs) c = (contains_later a q ps c.0, all_later a ps qs c.1)

all_there : (ps : List Place) → AllByRecursion (Contains ps) ps
all_there [] = tt
all_there (p ∷ ps) = (contains_first p ps, all_later p ps ps (all_there ps))

pub are_numbered : (ps : List Place) → length ps < 2 ^ 64 → AllDiffer ps → AreNumbered (operator_number ps) ps
are_numbered ps small d = numbered ps small ps (all_there ps) d
