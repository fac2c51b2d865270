-- The lists of pairs, one pair and one row after another.
use Rattle.std.proofs.Common.{◌≡◌, ℕ, suc, ◌+◌, ◌-◌, ◌<◌, ◌≤◌, [], ◌∷◌, ◌++◌, length, arith, refl, sym, subst, ap, ◌∙◌, add-one, zero-add}
use Rattle.std.specs.Prelude.{map, flat_map, Contains}
use Rattle.std.specs.List.{range_with_len}
use Rattle.std.proofs.lemmas.List.{append-nil}
use Rattle.std.proofs.lemmas.List.FromFn.{map-range_with_len_more, length-map-range_with_len, get_or-map-range_with_len}
use Rattle.std.proofs.lemmas.Grind.{flat_map-append}
use Rattle.lrp_cutting.specs.declared.pairs.NodePair.{NodePair}
use Rattle.lrp_cutting.specs.Thresholds.{row_of_pairs, pairs_below}
use Rattle.lrp_cutting.proofs.Lists.{range_more, in_flat, in_range, from_flat}

-- the pair of two numbers
abbrev pair : ℕ → ℕ → NodePair
pair i j = record { left = i; right = j }

pub row_more : (i r : ℕ) → i + 1 ≤ r → row_of_pairs (r + 1) i ≡ row_of_pairs r i ++ pair i r ∷ []
row_more i r l =
    let e : (r + 1) - (i + 1) ≡ (r - (i + 1)) + 1 = omega arith in
    ap (λ n. map (pair i) (range_with_len (i + 1) n)) e ∙ map-range_with_len_more (pair i) (i + 1) (r - (i + 1)) r (omega arith)

front_range : (i : ℕ) → range_with_len 0 (i + 1) ≡ range_with_len 0 i ++ i ∷ []
front_range i =
    let t : range_with_len 0 (suc i) ≡ range_with_len 0 i ++ (0 + i) ∷ [] = range_more 0 i in
    rw add-one (t ∙ ap (λ j. range_with_len 0 i ++ j ∷ []) (zero-add i))

pub rows_more : (n i : ℕ) → flat_map (row_of_pairs n) (range_with_len 0 (i + 1)) ≡ flat_map (row_of_pairs n) (range_with_len 0 i) ++ row_of_pairs n i
rows_more n i =
    ap (flat_map (row_of_pairs n)) (front_range i)
    ∙ flat_map-append (row_of_pairs n) (range_with_len 0 i) (i ∷ [])
    ∙ ap (λ l. flat_map (row_of_pairs n) (range_with_len 0 i) ++ l) (append-nil (row_of_pairs n i))

-- ---- which pairs are listed
in_row : (n i j : ℕ) → i < j → j < n → Contains (row_of_pairs n i) (pair i j)
in_row n i j l h = (
  j - (i + 1),
  (let a : j - (i + 1) < n - (i + 1) = omega arith in rw (length-map-range_with_len (pair i) (i + 1) (n - (i + 1))) a),
  get_or-map-range_with_len (pair i) (i + 1) (n - (i + 1)) (j - (i + 1)) j (pair i j) (omega arith) (omega arith),
)

pub in_pairs : (n : ℕ) (p : NodePair) → p.left < p.right → p.right < n → Contains (pairs_below n) p
in_pairs n p l h = in_flat (row_of_pairs n) (range_with_len 0 n) p.left p (in_range n p.left (omega arith)) (in_row n p.left p.right l h)

from_row : (n i : ℕ) (p : NodePair) → Contains (row_of_pairs n i) p → (p.left < p.right) × (p.right < n)
from_row n i p h =
    let low : h.0 < n - (i + 1) = let k : h.0 < length (row_of_pairs n i) = h.1 in omega (arith, length-map-range_with_len (pair i) (i + 1) (n - (i + 1))) in
    let same : pair i (i + 1 + h.0) ≡ p = sym (get_or-map-range_with_len (pair i) (i + 1) (n - (i + 1)) h.0 (i + 1 + h.0) p low refl) ∙ h.2 in
    subst (λ q. (q.left < q.right) × (q.right < n)) same (omega arith, omega arith)

pub from_pairs : (n : ℕ) (p : NodePair) → Contains (pairs_below n) p → (p.left < p.right) × (p.right < n)
from_pairs n p h = let r : (i : ℕ) × Contains (range_with_len 0 n) i × Contains (row_of_pairs n i) p = from_flat (row_of_pairs n) (range_with_len 0 n) p h in from_row n r.0 p r.2
