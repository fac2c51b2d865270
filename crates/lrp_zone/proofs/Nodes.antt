-- Numbers of nodes with one left out, and lists with one value put in.
use Rattle.std.proofs.Common.{◌≡◌, ℕ, zero, suc, ◌+◌, ◌-◌, ◌<◌, ◌≤◌, ◌≢◌, List, arith, sym, subst, ap, ◌∙◌, length, take, get_or, inl, inr, ◌⊎◌}
use Rattle.std.specs.Prelude.{ℤ, pos}
use Rattle.std.proofs.lemmas.Bool.Decides.{nat_tests}
use Rattle.std.specs.List.{insert, remove}
use Rattle.std.proofs.lemmas.List.{get_or-take, length-take-le, ext_get_or}
use Rattle.std.proofs.lemmas.List.Edits.{get_or-insert_at, get_or-insert_below, get_or-insert_above, length-insert, get_or-remove_below, get_or-remove_above, length-remove}
use Rattle.lrp_theory.specs.Entries.{node}
use Rattle.lrp_zone.specs.Columns.{past_node, with_column_value}

-- a node before k keeps its number
past-low : (k p : ℕ) → p < k → past_node k p ≡ p
past-low k p h = grind (arith, nat_tests)

-- a node from k on is one further
past-high : (k p : ℕ) → k ≤ p → past_node k p ≡ suc p
past-high k p h = grind (arith, nat_tests)

-- a number is below another, or it is not
low_or_high : (p k : ℕ) → (p < k) ⊎ (k ≤ p)
low_or_high p k = grind arith

-- the old numbers are in range
pub past_below : (k p n : ℕ) → p < n → past_node k p ≤ n
past_below k p n h = elim (low_or_high p k) [ inl l ↦ let f : past_node k p ≡ p = past-low k p l in omega arith | inr g ↦ let f : past_node k p ≡ suc p = past-high k p g in omega arith ]

-- each node but k is past k p for some p
pub from_past : (k m n : ℕ) → m ≢ k → m ≤ n → k ≤ n → (p : ℕ) × (past_node k p ≡ m) × (p < n)
from_past k zero n ne ml kl = (zero, past-low k zero (omega arith), (omega arith))
from_past k (suc m) n ne ml kl =
    elim (low_or_high (suc m) k) [
      | inl l ↦ (suc m, past-low k (suc m) l, (omega arith))
      | inr h ↦ (m, past-high k m (omega arith), (omega arith))
    ]

-- the value that was put in stands at its node
pub node_at : (k : ℕ) (v : ℤ) (xs : List ℤ) → 0 < k → k ≤ length xs + 1 → node (with_column_value k v xs) k ≡ v
node_at zero v xs h l = absurd (omega arith)
node_at (suc j) v xs h l = let e : suc j - 1 ≡ j = omega arith in subst (λ i. get_or (insert xs i v) j (pos 0) ≡ v) (sym e) (get_or-insert_at xs j v (pos 0) (omega arith))

-- the nodes around it keep their values
node_past : (j p : ℕ) (v : ℤ) (xs : List ℤ) → j ≤ length xs → node (insert xs j v) (past_node (suc j) p) ≡ node xs p
node_past j zero v xs h = ap (node (insert xs j v)) (past-low (suc j) zero (omega arith))
node_past j (suc p) v xs h =
    elim (low_or_high (suc p) (suc j)) [
      | inl l ↦ ap (node (insert xs j v)) (past-low (suc j) (suc p) l) ∙ get_or-insert_below xs j v (pos 0) p (omega arith) h
      | inr g ↦ ap (node (insert xs j v)) (past-high (suc j) (suc p) g) ∙ (let e : suc p ≡ p + 1 = omega arith in subst (λ i. get_or (insert xs j v) i (pos 0) ≡ get_or xs p (pos 0)) (sym e) (get_or-insert_above xs j v (pos 0) p (omega arith) h))
    ]

-- the other nodes keep their values
pub node_past_at : (k p : ℕ) (v : ℤ) (xs : List ℤ) → 0 < k → k ≤ length xs + 1 → node (with_column_value k v xs) (past_node k p) ≡ node xs p
node_past_at zero p v xs h l = absurd (omega arith)
node_past_at (suc j) p v xs h l = let e : suc j - 1 ≡ j = omega arith in subst (λ i. node (insert xs i v) (past_node (suc j) p) ≡ node xs p) (sym e) (node_past j p v xs (omega arith))

-- the tuple is one longer
pub length_with : (k : ℕ) (v : ℤ) (xs : List ℤ) → 0 < k → k ≤ length xs + 1 → length (with_column_value k v xs) ≡ length xs + 1
length_with k v xs h l = length-insert xs (k - 1) v (omega arith)

-- the values without that of node k
pub node_remove : (k p : ℕ) (xs : List ℤ) → 0 < k → k ≤ length xs → node (remove xs (k - 1)) p ≡ node xs (past_node k p)
node_remove k zero xs h l = sym (ap (node xs) (past-low k zero h))
node_remove k (suc p) xs h l =
    elim (low_or_high (suc p) k) [
      | inl a ↦ get_or-remove_below xs (k - 1) (pos 0) p (omega arith) (omega arith) ∙ sym (ap (node xs) (past-low k (suc p) a))
      | inr b ↦ get_or-remove_above xs (k - 1) (pos 0) p (omega arith) (omega arith) ∙ (let e : p + 1 ≡ suc p = omega arith in ap (λ i. get_or xs i (pos 0)) e) ∙ sym (ap (node xs) (past-high k (suc p) b))
    ]

-- an array that has those values begins with them
pub take_without : (k : ℕ) (xs out : List ℤ) → 0 < k → k ≤ length xs → length xs ≤ 8 → length out ≡ 8 → ((p : ℕ) → p < length xs → node out p ≡ node xs (past_node k p)) → take (length xs - 1) out ≡ remove xs (k - 1)
take_without k xs out h l high size same =
    ext_get_or (pos 0) (take (length xs - 1) out) (remove xs (k - 1)) (taken ∙ sym removed)
    (λ i il. get_or-take (length xs - 1) out i (pos 0) (omega (arith, taken)) ∙ same (suc i) (omega (arith, taken)) ∙ sym (node_remove k (suc i) xs h l))
  where
    taken : length (take (length xs - 1) out) ≡ length xs - 1
    taken = length-take-le (length xs - 1) out (omega arith)

    removed : length (remove xs (k - 1)) ≡ length xs - 1
    removed = let e : length (remove xs (k - 1)) + 1 ≡ length xs = length-remove xs (k - 1) (omega arith) in omega arith

-- for a copy rs of the values
pub take_rest : (k columns : ℕ) (xs rs out : List ℤ) → columns ≡ length xs → rs ≡ xs → 0 < k → k ≤ length xs → length xs ≤ 8 → length out ≡ 8 → ((p : ℕ) → p < length rs → node out p ≡ node rs (past_node k p)) → take (columns - 1) out ≡ remove xs (k - 1)
take_rest k columns xs rs out e f h l high size same = rw e (take_without k xs out h l high size (rw (← f) same))
