-- Lists: what is in them, and pairs of their elements.
use Rattle.std.proofs.Common.{◌≡◌, ℕ, zero, suc, ◌+◌, ◌<◌, ◌≤◌, ◌∙◌, inl, inr, List, [], ◌∷◌, Less, length, arith, sym, subst, zero-add}
use Rattle.std.specs.Prelude.{Contains, AllPairs}
use Rattle.std.specs.List.{flat_map, range_with_len, AllByRecursion}
use Rattle.std.specs.List.Sorted.{IsStrictlySortedBy}
use Rattle.std.proofs.lemmas.List.FromFn.{length-range_with_len, get_or-range_with_len}
use Rattle.lrp_model.specs.declared.tuples.Cell.{Cell}
use Rattle.lrp_slots.specs.Lists.{cell_cmp}
pub use Rattle.lrp_theory.proofs.Members.{pairs_append, below_or, in_none, in_one, one_in, in_cons, later, head_in, in_flat, from_flat, in_map, from_map}

-- the numbers below n are listed
pub in_range : (n i : ℕ) → i < n → Contains (range_with_len 0 n) i
in_range n i l = (i, rw (length-range_with_len 0 n) l, get_or-range_with_len 0 n i i l ∙ zero-add i)

-- what holds of all that is listed, and back
pub all_in : {X : Type 0} (P : X → Type 0) (xs : List X) → ((x : X) → Contains xs x → P x) → AllByRecursion P xs
all_in P [] h = tt
all_in P (x ∷ xs) h = (h x (head_in x xs), all_in P xs (λ y k. h y (later x xs y k)))

pub in_all : {X : Type 0} (P : X → Type 0) (xs : List X) → AllByRecursion P xs → (x : X) → Contains xs x → P x
in_all P [] h y k = absurd (in_none y k)
in_all P (x ∷ xs) h y k = elim (in_cons x xs y k) [ inl e ↦ subst P e h.0 | inr m ↦ in_all P xs h.1 y m ]

-- only the numbers below n are listed
pub from_range : (n i : ℕ) → Contains (range_with_len 0 n) i → i < n
from_range n i h =
    let l : h.0 < n = subst (λ m. h.0 < m) (length-range_with_len 0 n) h.1 in
    let e : i ≡ 0 + h.0 = sym h.2 ∙ get_or-range_with_len 0 n h.0 i l in
    omega arith

-- ---- pairs

-- a relation holds of each element and each later one
abbrev pub Ascend : {X : Type 0} → (X → X → Type 0) → List X → Type 0
Ascend S [] = Unit {0}
Ascend S (x ∷ xs) = AllByRecursion (S x) xs × Ascend S xs

above : (a b n : ℕ) → a < b → AllByRecursion (λ c. a < c) (range_with_len b n)
above a b zero l = tt
above a b (suc n) l = (l, above a (b + 1) n (omega arith))

range_ascends : (a n : ℕ) → Ascend ◌<◌ (range_with_len a n)
range_ascends a zero = tt
range_ascends a (suc n) = (above a (a + 1) n (omega arith), range_ascends (a + 1) n)

-- the numbers below n ascend
pub numbers_ascend : (n : ℕ) → Ascend ◌<◌ (range_with_len 0 n)
numbers_ascend n = range_ascends 0 n

-- so do cells that are sorted
pub cells_ascend : (cells : List Cell) → IsStrictlySortedBy cell_cmp cells → Ascend (λ c d. cell_cmp c d ≡ Less) cells
unfolding IsStrictlySortedBy
cells_ascend [] h = tt
cells_ascend (c ∷ cells) h = (h.0, cells_ascend cells h.1)

-- each two of the lists that ascending elements are mapped to
pub pairs_flat : {X Y : Type 0} (R : Y → Y → Type 0) (f : X → List Y) (S : X → X → Type 0) (xs : List X) → Ascend S xs → ((x : X) → Contains xs x → AllPairs R (f x))
    → ((x y : X) → Contains xs x → Contains xs y → S x y → (u v : Y) → Contains (f x) u → Contains (f y) v → R u v) → AllPairs R (flat_map f xs)
pairs_flat R f S [] s own across = λ i j d il jl. let l : j < 0 = jl in absurd (omega arith)
pairs_flat R f S (x ∷ xs) s own across =
    pairs_append R (f x) (flat_map f xs) (own x (head_in x xs))
    (pairs_flat R f S xs s.1 (λ y k. own y (later x xs y k)) (λ y z k m. across y z (later x xs y k) (later x xs z m)))
    (λ u v k m. let r = from_flat f xs v m in across x r.0 (head_in x xs) (later x xs r.0 r.1) (in_all (S x) xs s.0 r.0 r.1) u v k r.2)

-- at most one element has no pairs
pub pairs_few : {X : Type 0} (R : X → X → Type 0) (xs : List X) → length xs ≤ 1 → AllPairs R xs
pairs_few R xs l i j d il jl = absurd (omega arith)
