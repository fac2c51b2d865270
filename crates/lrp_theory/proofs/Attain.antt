-- Each bound of a system that is closed under triangles is met with equality by integers, or passed by any number where there is none.
use Rattle.std.proofs.Common.{◌≡◌, ℕ, ◌<◌, ◌≢◌, Option, Some, None, Bool, true, false, cond, eqb, arith, subst, ◌⊎◌, inl, inr, ◌∙◌}
use Rattle.std.specs.Prelude.{ℤ, pos, ◌-ℤ◌, ◌≤ℤ◌}
use Rattle.std.proofs.lemmas.Int.{ints, by_lt_z}
use Rattle.std.proofs.lemmas.Bool.Decides.{nat_tests}
use Rattle.lrp_theory.specs.Bounds.{Within, plus, Meets, IsTriangle, HasNoNegativeCycle, MeetsOn, AgreeOn}
use Rattle.lrp_theory.proofs.Lattice.{Anything, any_integer}
use Rattle.lrp_theory.proofs.Extend.{completed, self_within}

-- the nodes p and q
abbrev pub pair_of : ℕ → ℕ → ℕ → Bool
pair_of p q i = cond (eqb i p) true (eqb i q)

-- d at p and 0 elsewhere
abbrev pub at_node : ℕ → ℤ → ℕ → ℤ
at_node p d i = cond (eqb i p) d (pos 0)

-- a number that is at least d, at most the bound e, and at least what f asks
apart : (d : ℤ) (e f : Option ℤ) → Within d e → Within (pos 0) (plus e f) → (v : ℤ) × (d ≤ℤ v) × Within v e × Within (pos 0 -ℤ v) f
apart d None None h k = (d, omega (arith, ints), tt, tt)
apart d None (Some c) h k =
    by_lt_z d (pos 0 -ℤ c)
    (λ lt. (pos 0 -ℤ c, omega (arith, ints), tt, omega (arith, ints)))
    (λ le. (d, omega (arith, ints), tt, omega (arith, ints)))
apart d (Some a) None h k = (d, omega (arith, ints), h, tt)
apart d (Some a) (Some c) h k = (a, h, omega (arith, ints), omega (arith, ints))

-- an equal number meets the bound too
same_within : (v w : ℤ) (e : Option ℤ) → v ≡ w → Within v e → Within w e
same_within v w e eq h = subst (λ z. Within z e) eq h

-- the number at p
at_here : (p : ℕ) (d : ℤ) → at_node p d p ≡ d
at_here p d = let e : eqb p p ≡ true = grind (arith, nat_tests) in rw e

-- and elsewhere
at_other : (p q : ℕ) (d : ℤ) → p ≢ q → at_node p d q ≡ pos 0
at_other p q d ne = let e : eqb q p ≡ false = grind (arith, nat_tests) in rw e

-- a node of the pair is p or q
pair_cases : (p q i : ℕ) → pair_of p q i ≡ true → p ≢ q → ((i ≡ p) × (eqb i p ≡ true)) ⊎ ((i ≡ q) × (eqb i p ≡ false))
pair_cases p q i h ne = grind (arith, nat_tests)

-- v at p and 0 at q meet the bounds between them
pair_meets : (n : ℕ) (b : ℕ → ℕ → Option ℤ) (p q : ℕ) (v : ℤ) → p < n → q < n → p ≢ q → HasNoNegativeCycle n b → Within v (b p q) → Within (pos 0 -ℤ v) (b q p) → MeetsOn n (pair_of p q) b (at_node p v)
pair_meets n b p q v pn qn ne cyc h k i j ilt jlt si sj =
    elim (pair_cases p q i si ne) [
      | inl w ↦ elim (pair_cases p q j sj ne) [
        | inl z ↦ rw (w.1, z.1) (let ei : i ≡ p = w.0 in let ej : j ≡ p = z.0 in rw (ei, ej) (self_within v (b p p) (cyc p pn)))
        | inr z ↦ rw (w.1, z.1) (let ei : i ≡ p = w.0 in let ej : j ≡ q = z.0 in rw (ei, ej) (same_within v (v -ℤ pos 0) (b p q) (omega (arith, ints)) h))
      ]
      | inr w ↦ elim (pair_cases p q j sj ne) [
        | inl z ↦ rw (w.1, z.1) (let ei : i ≡ q = w.0 in let ej : j ≡ p = z.0 in rw (ei, ej) k)
        | inr z ↦ rw (w.1, z.1) (let ei : i ≡ q = w.0 in let ej : j ≡ q = z.0 in rw (ei, ej) (self_within (pos 0) (b q q) (cyc q qn)))
      ]
    ]

-- integers that meet the bounds, with p at least d above q, where d is at most the bound
pub attained : (n : ℕ) (b : ℕ → ℕ → Option ℤ) (p q : ℕ) (d : ℤ) → IsTriangle n b → HasNoNegativeCycle n b → p < n → q < n → p ≢ q → Within d (b p q)
    → (y : ℕ → ℤ) × Meets n b y × (d ≤ℤ (y p -ℤ y q))
attained n b p q d tri cyc pn qn ne h =
    let a : (v : ℤ) × (d ≤ℤ v) × Within v (b p q) × Within (pos 0 -ℤ v) (b q p) =
    apart d (b p q) (b q p) h (tri p p q pn pn qn (pos 0) (cyc p pn)) in
    let r : (y : ℕ → ℤ) × Meets n b y × ((i : ℕ) → i < n → Anything i (y i)) × AgreeOn n (pair_of p q) (at_node p a.0) y =
    completed n b Anything (any_integer n b) tri cyc (pair_of p q) (at_node p a.0) (pair_meets n b p q a.0 pn qn ne cyc a.2 a.3) (λ i ilt si. tt) in
    let yp : r.0 p ≡ a.0 = r.3 p pn (grind (arith, nat_tests)) ∙ at_here p a.0 in
    let yq : r.0 q ≡ pos 0 = r.3 q qn (grind (arith, nat_tests)) ∙ at_other p q a.0 ne in
    let le : d ≤ℤ a.0 = a.1 in
    (r.0, r.1, rw (yp, yq) (omega (arith, ints)))
