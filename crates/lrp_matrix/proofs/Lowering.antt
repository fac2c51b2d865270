-- Bounds that were lowered, and prefixes with one integer more: what callers need in order to close and to go on.
use Rattle.std.proofs.Common.{◌≡◌, ℕ, zero, suc, ◌+◌, ◌*◌, ◌<◌, ◌≤◌, Option, Some, None, List, [], ◌∷◌, ◌++◌, length, get_or, replicate, arith, refl, sym, subst, inl, inr, ◌⊎◌}
use Rattle.std.specs.Prelude.{ℤ, pos, ◌-ℤ◌}
use Rattle.lrp_theory.specs.Bounds.{Within}
use Rattle.lrp_theory.specs.Entries.{entry, node, AtMost, AllSmall}
use Rattle.lrp_matrix.specs.Matrices.{MatrixView, IsLowered}
use Rattle.lrp_matrix.specs.Ranges.{MayHave, MeetsBefore}
use Rattle.lrp_matrix.proofs.RangeLemmas.{AtMost-one}

-- a list of one value has it at each place, where it is the default too
get_or-replicate : (n k : ℕ) (e : Option ℤ) → get_or (replicate n e) k e ≡ e
get_or-replicate zero k e = refl
get_or-replicate (suc n) zero e = refl
get_or-replicate (suc n) (suc k) e = get_or-replicate n k e

-- so the magnitudes of no bounds are at most any h
pub free_small : (m : MatrixView) (n h : ℕ) → m.cells ≡ replicate 81 None → AllSmall n h m.cells
free_small m n h e = record { each = λ i j il jl. rw e (none (entry (replicate 81 None) i j) (get_or-replicate 81 (9 * i + j) None)) }
  where
    none : (f : Option ℤ) → f ≡ None → AtMost h f
    none f q = rw q tt

-- whether a place is (i, j)
here_or : (p q i j : ℕ) → ((p ≡ i) × (q ≡ j)) ⊎ (p ≡ i → q ≡ j → ⊥)
here_or p q i j = grind arith

-- a bound of magnitude at most h keeps the magnitudes at most h
pub lowered_small : (m w : MatrixView) (i j h : ℕ) (a : ℤ) → IsLowered m w i j a → i ≤ m.columns → j ≤ m.columns → AtMost h (Some a) → AllSmall (m.columns + 1) h m.cells → AllSmall (w.columns + 1) h w.cells
lowered_small m w i j h a low il jl small all =
    let e : w.columns ≡ m.columns = low.columns in
    record { each = λ p q pl ql. at p q (omega arith) (omega arith) (here_or p q i j) }
  where
    at : (p q : ℕ) → p ≤ m.columns → q ≤ m.columns → ((p ≡ i) × (q ≡ j)) ⊎ (p ≡ i → q ≡ j → ⊥) → AtMost h (entry w.cells p q)
    at p q pl ql (inl both) = rw (both.0, both.1) (AtMost-one h (entry w.cells i j) (entry m.cells i j) (Some a) (all.each i j (omega arith) (omega arith)) small low.here)
    at p q pl ql (inr other) = subst (λ e. AtMost h e) (sym (low.others p q pl ql other)) (all.each p q (omega arith) (omega arith))

-- an integer at the end of a list
get_or-end : (xs : List ℤ) (v : ℤ) → get_or (xs ++ v ∷ []) (length xs) (pos 0) ≡ v
get_or-end [] v = refl
get_or-end (x ∷ xs) v = get_or-end xs v

-- and those before it
get_or-front : (xs : List ℤ) (v : ℤ) (p : ℕ) → p < length xs → get_or (xs ++ v ∷ []) p (pos 0) ≡ get_or xs p (pos 0)
get_or-front [] v p h = absurd (omega arith)
get_or-front (x ∷ xs) v zero h = refl
get_or-front (x ∷ xs) v (suc p) h = get_or-front xs v p (omega arith)

-- the nodes of a prefix with one integer more
node-front : (xs : List ℤ) (v : ℤ) (p : ℕ) → p < length xs + 1 → node (xs ++ v ∷ []) p ≡ node xs p
node-front xs v zero h = refl
node-front xs v (suc p) h = get_or-front xs v p (omega arith)

-- and the last one
node-end : (xs : List ℤ) (v : ℤ) (i : ℕ) → i ≡ suc (length xs) → node (xs ++ v ∷ []) i ≡ v
node-end xs v i e = rw e (get_or-end xs v)

-- a prefix with a possible integer more meets the bounds before the next column
pub longer_prefix : (m : MatrixView) (i : ℕ) (prefix : List ℤ) (v : ℤ) → length prefix + 1 ≡ i → i ≤ m.columns → MayHave m i prefix v → MeetsBefore m (i + 1) (prefix ++ v ∷ [])
longer_prefix m i prefix v count high have = record {
  each = λ p q pl ql. subst (λ d. Within d (entry m.cells p q)) (same p q pl ql) (have.meet.each p q (omega arith) (omega arith));
}
  where
    is : (p : ℕ) → (p < i) ⊎ (p ≡ i) → node have.integers p ≡ node (prefix ++ v ∷ []) p
    is p (inl lt) = let a : node have.integers p ≡ node prefix p = have.before p lt in let b : node (prefix ++ v ∷ []) p ≡ node prefix p = node-front prefix v p (omega arith) in (cc)
    is p (inr e) = let a : node have.integers i ≡ v = have.here in let b : node (prefix ++ v ∷ []) i ≡ v = node-end prefix v i (omega arith) in rw e (cc)

    below_or : (p : ℕ) → p < i + 1 → (p < i) ⊎ (p ≡ i)
    below_or p h = grind arith

    same : (p q : ℕ) → p < i + 1 → q < i + 1 → node have.integers p -ℤ node have.integers q ≡ node (prefix ++ v ∷ []) p -ℤ node (prefix ++ v ∷ []) q
    same p q pl ql = let a = is p (below_or p pl) in let b = is q (below_or q ql) in rw (a, b) refl
