-- What formulas are made of is decided: membership in a point, order of integers, equality of texts, and holding.
use Rattle.std.proofs.Common.{◌≡◌, ℕ, zero, suc, ◌<◌, ◌⊎◌, inl, inr, refl, sym, ap, subst, ◌∙◌, arith, List, [], ◌∷◌, length, Contains, Bool, true, false, bytes_eq, ⊎_elim, get_or}
use Rattle.std.specs.Prelude.{Some, ℤ, pos, negsuc, ◌-ℤ◌, ◌≤ℤ◌, ◌<ℤ◌, ◌*ℤ◌, neg_ℤ}
use Rattle.std.proofs.Math.IntN.{zero-*ℤ, *ℤ_comm}
use Rattle.std.specs.Cmp.Lexicographic.{bytes_decides}
use Rattle.std.specs.List.{AllByRecursion}
use Rattle.std.proofs.lemmas.Int.{ints, by_lt_z}
use Rattle.lrp_model.specs.Texts.{Text, Identifier}
use Rattle.lrp_theory.specs.Divides.{Divides}
use Rattle.lrp_model.specs.Rows.{Datum, time, text, IsOf, MeetsBound, times_of, IsInRow, Holds, rows_of}
use Rattle.lrp_model.specs.declared.relations.Value.{Value}
use Rattle.lrp_model.specs.declared.relations.Value.TheVariants.{Point, Const}
use Rattle.lrp_model.specs.declared.relations.Row.{Row}
use Rattle.lrp_model.specs.declared.relations.Relation.{Relation}
use Rattle.lrp_theory.proofs.Modulo.{times_neg}
pub use Rattle.lrp_theory.proofs.Decided.{Decided}
use Rattle.lrp_theory.proofs.Decided.{decided_within, decided_divides as from_one, decided_both as both_decided}

pub stable_of : {p : Type 0} → Decided p → ((p → ⊥) → ⊥) → p
stable_of (inl a) h = a
stable_of (inr n) h = absurd (h n)

-- with the statements left to be found
pub decided_both : {p q : Type 0} → Decided p → Decided q → Decided (p × q)
decided_both {p} {q} a b = both_decided p q a b

pub decided_iff : {p q : Type 0} → (p → q) → (q → p) → Decided p → Decided q
decided_iff f g (inl a) = inl (f a)
decided_iff f g (inr n) = inr (λ b. n (g b))

pub decided_le : (a b : ℤ) → Decided (a ≤ℤ b)
decided_le a b = decided_within a (Some b)

pub decided_lt : (a b : ℤ) → Decided (a <ℤ b)
decided_lt a b = by_lt_z a b (λ lt. inl lt) (λ le. inr (λ lt. absurd (omega (arith, ints))))

pub decided_eq : (a b : ℤ) → Decided (a ≡ b)
decided_eq a b =
    by_lt_z a b (λ lt. inr (λ e. absurd (omega (arith, ints))))
    (λ le. by_lt_z b a (λ lt. inr (λ e. absurd (omega (arith, ints)))) (λ ge. inl (omega (arith, ints))))

by_test : (b : Bool) (t u : Text) → bytes_eq t u ≡ b → Decided (t ≡ u)
by_test true t u e = inl ((bytes_decides t u).0 e)
by_test false t u e = inr (λ same. let yes_so : bytes_eq t u ≡ true = (bytes_decides t u).1 same in cc)

pub decided_text : (t u : Text) → Decided (t ≡ u)
decided_text t u = by_test (bytes_eq t u) t u refl

by_zero : (z : ℤ) → Decided (z ≡ pos 0) → Decided (Divides (pos 0) z)
by_zero z (inl e) = inl (record { times = pos 0; is = e ∙ sym (zero-*ℤ (pos 0)) })
by_zero z (inr n) = inr (λ d. n (d.is ∙ zero-*ℤ d.times))

-- at a negative number, as at its magnitude
flip : (n : ℕ) (m : ℤ) → negsuc n *ℤ m ≡ pos (suc n) *ℤ neg_ℤ m
flip n m = *ℤ_comm (negsuc n) m ∙ times_neg m (pos (suc n)) ∙ ap neg_ℤ (*ℤ_comm m (pos (suc n))) ∙ sym (times_neg (pos (suc n)) m)

twice : (m : ℤ) → neg_ℤ (neg_ℤ m) ≡ m
twice m = omega (arith, ints)

flip_back : (n : ℕ) (m : ℤ) → pos (suc n) *ℤ m ≡ negsuc n *ℤ neg_ℤ m
flip_back n m = ap (λ k. pos (suc n) *ℤ k) (sym (twice m)) ∙ sym (flip n (neg_ℤ m))

at_least_one : (n : ℕ) → pos 1 ≤ℤ pos (suc n)
at_least_one n = omega (arith, ints)

pub decided_divides : (k z : ℤ) → Decided (Divides k z)
decided_divides (pos zero) z = by_zero z (decided_eq z (pos 0))
decided_divides (pos (suc n)) z = from_one (pos (suc n)) z (at_least_one n)
decided_divides (negsuc n) z =
    decided_iff (λ d. record { times = neg_ℤ d.times; is = d.is ∙ flip_back n d.times })
    (λ d. record { times = neg_ℤ d.times; is = d.is ∙ flip n d.times })
    (from_one (pos (suc n)) z (at_least_one n))

-- ---- lists

cons_cases_at : {X : Type 0} (x z : X) (xs : List X) (k : ℕ) → k < length (x ∷ xs) → get_or (x ∷ xs) k z ≡ z → (x ≡ z) ⊎ Contains xs z
cons_cases_at x z xs zero l e = inl e
cons_cases_at x z xs (suc k) l e = inr (k, omega arith, e)

pub cons_cases : {X : Type 0} (x z : X) (xs : List X) → Contains (x ∷ xs) z → (x ≡ z) ⊎ Contains xs z
cons_cases x z xs c = cons_cases_at x z xs c.0 c.1 c.2

pub contains_first : {X : Type 0} (x : X) (xs : List X) → Contains (x ∷ xs) x
contains_first x xs = (0, omega arith, refl)

pub contains_later : {X : Type 0} (x z : X) (xs : List X) → Contains xs z → Contains (x ∷ xs) z
contains_later x z xs c = (suc c.0, omega (arith, c.1), c.2)

pub contains_none : {X : Type 0} (z : X) → Contains [] z → ⊥
contains_none z c = omega (arith, c.1)

pub decided_all : {X : Type 0} (p : X → Type 0) → ((x : X) → Decided (p x)) → (xs : List X) → Decided (AllByRecursion p xs)
decided_all p d [] = inl tt
decided_all p d (x ∷ xs) = decided_both (d x) (decided_all p d xs)

pub decided_contains : (ts : List Text) (t : Text) → Decided (Contains ts t)
decided_contains [] t = inr (contains_none t)
decided_contains (u ∷ us) t =
    elim (decided_text u t) [
      | inl e ↦ inl (subst (λ w. Contains (u ∷ us) w) e (contains_first u us))
      | inr n ↦ elim (decided_contains us t) [
        | inl c ↦ inl (contains_later u t us c)
        | inr m ↦ inr (λ c. ⊎_elim n m (cons_cases u t us c))
      ]
    ]

-- some element passes
pub decided_some : {X : Type 0} (p : X → Type 0) → ((x : X) → Decided (p x)) → (xs : List X) → Decided ((x : X) × Contains xs x × p x)
decided_some p d [] = inr (λ h. contains_none h.0 h.1)
decided_some p d (x ∷ xs) =
    elim (d x) [
      | inl a ↦ inl (x, contains_first x xs, a)
      | inr n ↦ elim (decided_some p d xs) [
        | inl h ↦ inl (h.0, contains_later x h.0 xs h.1, h.2)
        | inr m ↦ inr (λ h. ⊎_elim (λ e. n (subst p (sym e) h.2)) (λ c. m (h.0, c, h.2)) (cons_cases x h.0 xs h.1))
      ]
    ]

-- ---- rows

pub decided_of : (vs : List Value) (ds : List Datum) → Decided (IsOf vs ds)
decided_of [] [] = inl tt
decided_of [] (d ∷ ds) = inr (λ h. h)
decided_of (Point at ∷ vs) [] = inr (λ h. h)
decided_of (Const c ∷ vs) [] = inr (λ h. h)
decided_of (Point at ∷ vs) (time x ∷ ds) = decided_both (decided_divides at.period (x -ℤ at.offset)) (decided_of vs ds)
decided_of (Point at ∷ vs) (text t ∷ ds) = inr (λ h. h)
decided_of (Const c ∷ vs) (time x ∷ ds) = inr (λ h. h)
decided_of (Const c ∷ vs) (text t ∷ ds) = decided_both (decided_text t c) (decided_of vs ds)

pub decided_in_row : (row : Row) (tuple : List Datum) → Decided (IsInRow row tuple)
decided_in_row row tuple =
    decided_iff {p = IsOf row.values tuple × AllByRecursion (MeetsBound (times_of tuple)) row.bounds} (λ h. record { values = h.0; bounds = h.1 }) (λ h. (h.values, h.bounds))
    (decided_both (decided_of row.values tuple) (decided_all (MeetsBound (times_of tuple)) (λ b. decided_le _ _) row.bounds))

pub decided_holds : (relations : List Relation) (name : Identifier) (tuple : List Datum) → Decided (Holds relations name tuple)
decided_holds relations name tuple = decided_some (λ row. IsInRow row tuple) (λ row. decided_in_row row tuple) (rows_of relations name)
