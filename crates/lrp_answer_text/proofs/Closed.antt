-- Closed bounds: they are listed in order, met and reached by the tuples of their zone, and small where it has room.
use Rattle.std.proofs.Common.{◌≡◌, ◌≢◌, ◌<◌, ◌≤◌, ◌+◌, ◌*◌, ◌^◌, ◌∙◌, ℕ, List, [], ◌∷◌, Option, Some, None, Bool, true, false, cond, Less, Equal, refl, sym, ap, ap₂, subst, arith, inl, inr, length, map, ◌/◌, ◌%◌}
use Rattle.std.specs.Prelude.{ℤ, pos, ◌-ℤ◌, ◌≤ℤ◌, ◌==◌, Contains, AllPairs}
use Rattle.std.specs.Ordering.{nat_cmp, ordering_then}
use Rattle.std.specs.List.{range_with_len}
use Rattle.std.proofs.lemmas.Int.{ints}
use Rattle.std.proofs.lemmas.Bool.Decides.{nat_tests}
use Rattle.std.proofs.lemmas.Cmp.{ranked, by_ranked}
use Rattle.std.proofs.lemmas.List.FromFn.{get_or-map-range_with_len, length-map-range_with_len}
use Rattle.lrp_theory.specs.Bounds.{Within, Meets}
use Rattle.lrp_theory.specs.Divides.{Divides}
use Rattle.lrp_theory.specs.Entries.{entry, node, AllSmall, AtMost, IsLeastBound, IsClosure}
use Rattle.lrp_theory.proofs.Floor.{reached_in_cell}
use Rattle.lrp_theory.proofs.Lists.{listed, difference}
use Rattle.lrp_theory.proofs.Small.{small_closure}
use Rattle.lrp_matrix.specs.Matrices.{MatrixView, IsClosed, HaveSameIntegers}
use Rattle.lrp_matrix.proofs.Lists.{closes as closes_matrix}
use Rattle.lrp_model.specs.AnswerTexts.{ComesBefore}
use Rattle.lrp_model.specs.declared.relations.Bound.{Bound}
use Rattle.lrp_zone.specs.Zones.{ZoneView, IsZone, IsInCell, IsMember, IsTight, columns_of}
use Rattle.lrp_zone.proofs.Cases.{eq_or}
use Rattle.lrp_zone.proofs.Members.{tight_all, period_one, list_member, member_meets}
use Rattle.lrp_store.specs.Least.{IsRoom, matrix_of}
use Rattle.lrp_answer_text.specs.AnswerText.{bound_between, bounds_in, bounds_in_row, shortest}
use Rattle.lrp_answer_text.proofs.Lists.{in_flat, from_flat, in_range, from_range, in_none, in_one, one_in, numbers_ascend, pairs_flat, pairs_few}
use Rattle.lrp_answers.proofs.Orders.{then_from_first}
use Rattle.lrp_answer_text.proofs.Shortest.{room_small, zone_closes}

-- ---- lists of bounds

-- what a test of two numbers tells
same_numbers : (i j : ℕ) → (i == j) ≡ true → i ≡ j
same_numbers i j h = grind (arith, nat_tests)

other_numbers : (i j : ℕ) → (i == j) ≡ false → i ≢ j
other_numbers i j h e = grind (arith, nat_tests)

-- the one bound between two nodes
one_between : (i j : ℕ) (a : ℤ) → i ≢ j → bound_between i j (Some a) ≡ record { left = i; right = j; most = a } ∷ []
one_between i j a ne = by (i == j) refl
  where
    by : (b : Bool) → (i == j) ≡ b → bound_between i j (Some a) ≡ record { left = i; right = j; most = a } ∷ []
    by true h = absurd (ne (same_numbers i j h))
    by false h = ap (λ b. cond b [] (record { left = i; right = j; most = a } ∷ [])) h

-- what a listed bound between two nodes is
record IsBetween (i j : ℕ) (e : Option ℤ) (b : Bound) : Type 0 where
  apart : i ≢ j
  left : b.left ≡ i
  right : b.right ≡ j
  most : e ≡ Some b.most

from_between : (i j : ℕ) (e : Option ℤ) (b : Bound) → Contains (bound_between i j e) b → IsBetween i j e b
from_between i j None b h = absurd (in_none b h)
from_between i j (Some a) b h = by (i == j) refl h
  where
    by : (t : Bool) → (i == j) ≡ t → Contains (cond t [] (record { left = i; right = j; most = a } ∷ [])) b → IsBetween i j (Some a) b
    by true p k = absurd (in_none b k)
    by false p k = let e : record { left = i; right = j; most = a } ≡ b = in_one (record { left = i; right = j; most = a }) b k in record { apart = other_numbers i j p; left = sym (ap (λ c. c.left) e); right = sym (ap (λ c. c.right) e); most = ap (λ c. Some c.most) e }

few_between : (i j : ℕ) (e : Option ℤ) → length (bound_between i j e) ≤ 1
few_between i j None = omega arith
few_between i j (Some a) = by (i == j)
  where
    by : (t : Bool) → length {A = Bound} (cond t [] (record { left = i; right = j; most = a } ∷ [])) ≤ 1
    by true = omega arith
    by false = omega arith

-- a bound of a table is listed
pub in_bounds : (n : ℕ) (table : ℕ → ℕ → Option ℤ) (i j : ℕ) (a : ℤ) → i < n → j < n → i ≢ j → table i j ≡ Some a → Contains (bounds_in n table) (record { left = i; right = j; most = a })
in_bounds n table i j a il jl ne e =
    let b : Bound = record { left = i; right = j; most = a } in
    let between : Contains (bound_between i j (table i j)) b = subst (λ f. Contains (bound_between i j f) b) (sym e) (subst (λ bs. Contains bs b) (sym (one_between i j a ne)) (one_in b)) in
    in_flat (bounds_in_row n table) (range_with_len 0 n) i b (in_range n i il) (in_flat (λ k. bound_between i k (table i k)) (range_with_len 0 n) j b (in_range n j jl) between)

-- what a listed bound is
pub record IsListed (n : ℕ) (table : ℕ → ℕ → Option ℤ) (b : Bound) : Type 0 where
  pub left : b.left < n
  pub right : b.right < n
  pub apart : b.left ≢ b.right
  pub most : table b.left b.right ≡ Some b.most

pub from_bounds : (n : ℕ) (table : ℕ → ℕ → Option ℤ) (b : Bound) → Contains (bounds_in n table) b → IsListed n table b
from_bounds n table b h =
    let r = from_flat (bounds_in_row n table) (range_with_len 0 n) b h in
    let s = from_flat (λ k. bound_between r.0 k (table r.0 k)) (range_with_len 0 n) b r.2 in
    let w = from_between r.0 s.0 (table r.0 s.0) b s.2 in
    record {
      left = subst (λ k. k < n) (sym w.left) (from_range n r.0 r.1);
      right = subst (λ k. k < n) (sym w.right) (from_range n s.0 s.1);
      apart = λ e. w.apart (sym w.left ∙ e ∙ w.right);
      most = ap₂ table w.left w.right ∙ w.most;
    }

-- ---- their order

number_less : (x y : ℕ) → x < y → nat_cmp x y ≡ Less
number_less x y h = by_ranked (x < y) (x ≡ y) (y < x) (nat_cmp x y) (ranked x y (nat_cmp x y) refl) (λ e l. e) (λ e l. absurd (omega arith)) (λ e l. absurd (omega arith))

number_same : (x y : ℕ) → x ≡ y → nat_cmp x y ≡ Equal
number_same x y h = by_ranked (x < y) (x ≡ y) (y < x) (nat_cmp x y) (ranked x y (nat_cmp x y) refl) (λ e l. absurd (omega arith)) (λ e l. e) (λ e l. absurd (omega arith))

row_ordered : (n : ℕ) (table : ℕ → ℕ → Option ℤ) (i : ℕ) → AllPairs ComesBefore (bounds_in_row n table i)
row_ordered n table i =
    pairs_flat ComesBefore (λ j. bound_between i j (table i j)) ◌<◌ (range_with_len 0 n) (numbers_ascend n)
    (λ j k. pairs_few ComesBefore (bound_between i j (table i j)) (few_between i j (table i j)))
    (λ j k jl kl l b c hb hc.
    let v = from_between i j (table i j) b hb in
    let w = from_between i k (table i k) c hc in
    let right : nat_cmp b.right c.right ≡ Less = ap₂ nat_cmp v.right w.right ∙ number_less j k l in
    ap₂ ordering_then (number_same b.left c.left (v.left ∙ sym w.left)) right)

pub bounds_ordered : (n : ℕ) (table : ℕ → ℕ → Option ℤ) → AllPairs ComesBefore (bounds_in n table)
bounds_ordered n table =
    pairs_flat ComesBefore (bounds_in_row n table) ◌<◌ (range_with_len 0 n) (numbers_ascend n) (λ i k. row_ordered n table i)
    (λ i j il jl l b c hb hc.
    let r = from_flat (λ k. bound_between i k (table i k)) (range_with_len 0 n) b hb in
    let s = from_flat (λ k. bound_between j k (table j k)) (range_with_len 0 n) c hc in
    let v = from_between i r.0 (table i r.0) b r.2 in
    let w = from_between j s.0 (table j s.0) c s.2 in
    then_from_first (nat_cmp b.left c.left) (nat_cmp b.right c.right) (ap₂ nat_cmp v.left w.left ∙ number_less i j l))

-- ---- the closed bounds of a zone

-- a bound of a number from itself
within_self : (x : ℤ) (e : Option ℤ) → Within (pos 0) e → Within (x -ℤ x) e
within_self x None h = tt
within_self x (Some a) h = omega (arith, ints)

own : (x : ℤ) (e : Option ℤ) → Within (x -ℤ x) e → Within (pos 0) e
own x None h = tt
own x (Some a) h = omega (arith, ints)

module _ (z : ZoneView) (is : IsZone z) where
  -- they are closed
  abbrev pub closed_at : ℕ → ℕ → Option ℤ
  closed_at = shortest z.bounds (columns_of z + 1)

  closes : IsClosure (columns_of z + 1) (entry z.bounds) closed_at
  closes = zone_closes z is

  -- each tuple meets them
  pub closed_met : (i j : ℕ) → i ≤ columns_of z → j ≤ columns_of z → i ≢ j → (xs : List ℤ) → IsMember z xs → Within (node xs i -ℤ node xs j) (closed_at i j)
  closed_met i j il jl ne xs h = (closes.least i j (omega arith) (omega arith) ne).met (node xs) (member_meets z xs h)

  -- what is within one is reached by a tuple
  pub closed_reached : (i j : ℕ) → i ≤ columns_of z → j ≤ columns_of z → i ≢ j → (d : ℤ) → Within d (closed_at i j) → (xs : List ℤ) × IsMember z xs × (d ≤ℤ (node xs i -ℤ node xs j))
  closed_reached i j il jl ne d w =
      let r = (closes.least i j (omega arith) (omega arith) ne).reached d w in
      let s : (y : ℕ → ℤ) × Meets (columns_of z + 1) (entry z.bounds) y × ((k : ℕ) → Divides (pos z.period) (y k -ℤ node z.residues k)) × (d ≤ℤ (y i -ℤ y j)) =
      reached_in_cell (columns_of z + 1) (pos z.period) (node z.residues) (entry z.bounds) i j d (period_one z is.shape) (tight_all z is.shape) r.0 r.1 r.2 in
      (listed s.0 (columns_of z), list_member z s.0 s.1 (λ k l. s.2 k), subst (λ v. d ≤ℤ v) (sym (difference s.0 (columns_of z) i j il jl)) s.3)

  -- a tuple attains a closed bound
  pub closed_attained : (i j : ℕ) (a : ℤ) → i ≤ columns_of z → j ≤ columns_of z → i ≢ j → closed_at i j ≡ Some a → (xs : List ℤ) × IsMember z xs × (node xs i -ℤ node xs j ≡ a)
  closed_attained i j a il jl ne e =
      let r = closed_reached i j il jl ne a (subst (λ f. Within a f) (sym e) (least a)) in
      let met : (node r.0 i -ℤ node r.0 j) ≤ℤ a = subst (λ f. Within (node r.0 i -ℤ node r.0 j) f) e (closed_met i j il jl ne r.0 r.1) in
      let above : a ≤ℤ (node r.0 i -ℤ node r.0 j) = r.2 in
      (r.0, r.1, omega (arith, ints))
    where
      least : (a : ℤ) → a ≤ℤ a
      least a = omega (arith, ints)

  -- what meets them in the cell is a tuple
  pub closed_whole : (xs : List ℤ) → IsInCell z xs → ((i j : ℕ) → i ≤ columns_of z → j ≤ columns_of z → i ≢ j → Within (node xs i -ℤ node xs j) (closed_at i j)) → IsMember z xs
  closed_whole xs cell h =
      let diagonal : (i : ℕ) → i < columns_of z + 1 → Within (pos 0) (closed_at i i) = λ i il. own (node is.some.member i) (closed_at i i) (closes.same.to (node is.some.member) (member_meets z is.some.member is.some.is) i i il il) in
      let meets : Meets (columns_of z + 1) (entry z.bounds) (node xs) = closes.same.from (node xs) (λ i j il jl. elim (eq_or i j) [
        | inl e ↦ subst (λ k. Within (node xs i -ℤ node xs k) (closed_at i k)) e (within_self (node xs i) (closed_at i i) (diagonal i il))
        | inr ne ↦ h i j (omega arith) (omega arith) ne
      ]) in
      record { cell = cell; meets = λ i j il jl. meets i j (omega arith) (omega arith) }

-- ---- tables

-- the table of nine rows of nine with these bounds
pub table_from : (ℕ → ℕ → Option ℤ) → List (Option ℤ)
table_from f = map (λ p. f (p / 9) (p % 9)) (range_with_len 0 81)

pub length-table_from : (f : ℕ → ℕ → Option ℤ) → length (table_from f) ≡ 81
unfolding table_from
length-table_from f = length-map-range_with_len (λ p. f (p / 9) (p % 9)) 0 81

pub entry-table_from : (f : ℕ → ℕ → Option ℤ) (i j : ℕ) → i < 9 → j < 9 → entry (table_from f) i j ≡ f i j
unfolding table_from
entry-table_from f i j il jl =
    let row : (9 * i + j) / 9 ≡ i = omega arith in
    let column : (9 * i + j) % 9 ≡ j = omega arith in
    get_or-map-range_with_len (λ p. f (p / 9) (p % 9)) 0 81 (9 * i + j) (9 * i + j) None (omega arith) (omega arith) ∙ ap₂ f row column

-- ---- closed bounds as a matrix

module _ (z : ZoneView) (is : IsZone z) where
  abbrev matrix : MatrixView
  matrix = record { columns = columns_of z; cells = table_from (closed_at z is) }

  at_place : (i j : ℕ) → i ≤ columns_of z → j ≤ columns_of z → entry (table_from (closed_at z is)) i j ≡ closed_at z is i j
  at_place i j il jl = let few : columns_of z ≤ 8 = is.shape.columns in entry-table_from (closed_at z is) i j (omega arith) (omega arith)

  closed_lists : IsClosure (columns_of z + 1) (entry z.bounds) (entry (table_from (closed_at z is)))
  closed_lists =
      let c = closes z is in
      let n = columns_of z + 1 in
      record {
        solution = c.solution;
        same = record {
          to = λ x h i j il jl. subst (λ e. Within (x i -ℤ x j) e) (sym (at_place i j (omega arith) (omega arith))) (c.same.to x h i j il jl);
          from = λ x h. c.same.from x (λ i j il jl. subst (λ e. Within (x i -ℤ x j) e) (at_place i j (omega arith) (omega arith)) (h i j il jl));
        };
        least = λ i j il jl ne. subst (λ e. IsLeastBound n (entry z.bounds) i j e) (sym (at_place i j (omega arith) (omega arith))) (c.least i j il jl ne);
      }

  stored_small : AllSmall (columns_of z + 1) (2 ^ 62) z.bounds
  stored_small = record { each = λ i j il jl. tight_small (pos z.period) (node z.residues i -ℤ node z.residues j) (entry z.bounds i j) (is.shape.tight i j (omega arith) (omega arith)) }
    where
      tight_small : (k w : ℤ) (e : Option ℤ) → IsTight k w e → AtMost (2 ^ 62) e
      tight_small k w None h = tt
      tight_small k w (Some b) h = h.1

  as_matrix : HaveSameIntegers (matrix_of z) matrix × IsClosed matrix
  as_matrix =
      let made = closes_matrix (matrix_of z) (matrix_of z) refl is.shape.columns (table_from (closed_at z is)) closed_lists (λ h small. small_closure (columns_of z + 1) h z.bounds (table_from (closed_at z is)) small closed_lists) stored_small in
      (made.1, made.2)

  -- where the zone has room, they are small
  pub closed_small : (h : ℕ) → IsRoom z h → (i j : ℕ) → i ≤ columns_of z → j ≤ columns_of z → i ≢ j → AtMost (2 ^ 62) (closed_at z is i j)
  closed_small h room i j il jl ne =
      subst (λ e. AtMost (2 ^ 62) e) (at_place i j il jl) ((room_small z h matrix room as_matrix.1 as_matrix.0).each i j (omega arith) (omega arith) ne)
