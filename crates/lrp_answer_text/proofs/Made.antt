-- A zone of a cell with given bounds.
use Rattle.std.proofs.Common.{◌≡◌, ◌≢◌, ◌<◌, ◌≤◌, ◌+◌, ◌-◌, ◌∙◌, ◌⊎◌, inl, inr, ℕ, List, Option, None, Bool, true, false, cond, refl, sym, ap, subst, arith}
use Rattle.std.specs.Prelude.{ℤ, pos, ◌-ℤ◌, ◌==◌}
use Rattle.std.proofs.lemmas.Bool.Decides.{nat_tests}
use Rattle.lrp_theory.specs.Bounds.{Within}
use Rattle.lrp_theory.specs.Entries.{entry, node}
use Rattle.lrp_zone.specs.Zones.{ZoneView, IsZone, IsInCell, IsMember, IsTight, columns_of}
use Rattle.lrp_zone.specs.Pairs.{IsOfCell}
use Rattle.lrp_zone.proofs.Cases.{eq_or}
use Rattle.lrp_answer_text.proofs.Closed.{table_from, length-table_from, entry-table_from}

-- whether a number is at most another
abbrev at_most : ℕ → ℕ → Bool
at_most i n = i - n == 0

-- the bounds between different nodes up to n
abbrev pub between_nodes : ℕ → (ℕ → ℕ → Option ℤ) → ℕ → ℕ → Option ℤ
between_nodes n f i j = cond (i == j) None (cond (at_most i n) (cond (at_most j n) (f i j) None) None)

same_numbers : (i j : ℕ) → (i == j) ≡ true → i ≡ j
same_numbers i j h = grind (arith, nat_tests)

other_numbers : (i j : ℕ) → (i == j) ≡ false → i ≢ j
other_numbers i j h e = grind (arith, nat_tests)

-- what tests say
is_other : (i j : ℕ) → i ≢ j → (i == j) ≡ false
is_other i j ne = by (i == j) refl
  where
    by : (b : Bool) → (i == j) ≡ b → (i == j) ≡ false
    by true h = absurd (ne (same_numbers i j h))
    by false h = h

is_same : (i j : ℕ) → i ≡ j → (i == j) ≡ true
is_same i j e = by (i == j) refl
  where
    by : (b : Bool) → (i == j) ≡ b → (i == j) ≡ true
    by true h = h
    by false h = absurd (other_numbers i j h e)

is_low : (i n : ℕ) → i ≤ n → at_most i n ≡ true
is_low i n l = is_same (i - n) 0 (omega arith)

is_high : (i n : ℕ) → n < i → at_most i n ≡ false
is_high i n l = is_other (i - n) 0 (λ e. omega arith)

nodes_in : (n : ℕ) (f : ℕ → ℕ → Option ℤ) (i j : ℕ) → i ≤ n → j ≤ n → i ≢ j → between_nodes n f i j ≡ f i j
nodes_in n f i j il jl ne =
    ap (λ b. cond b None (cond (at_most i n) (cond (at_most j n) (f i j) None) None)) (is_other i j ne)
    ∙ ap (λ b. cond b (cond (at_most j n) (f i j) None) None) (is_low i n il)
    ∙ ap (λ b. cond b (f i j) None) (is_low j n jl)

nodes_same : (n : ℕ) (f : ℕ → ℕ → Option ℤ) (i j : ℕ) → i ≡ j → between_nodes n f i j ≡ None
nodes_same n f i j e = ap (λ b. cond b None (cond (at_most i n) (cond (at_most j n) (f i j) None) None)) (is_same i j e)

nothing : (b : Bool) → cond {A = Option ℤ} b None None ≡ None
nothing true = refl
nothing false = refl

nodes_out : (n : ℕ) (f : ℕ → ℕ → Option ℤ) (i j : ℕ) → (n + 1 ≤ i) ⊎ (n + 1 ≤ j) → between_nodes n f i j ≡ None
nodes_out n f i j (inl l) = ap (λ b. cond (i == j) None (cond b (cond (at_most j n) (f i j) None) None)) (is_high i n (omega arith)) ∙ nothing (i == j)
nodes_out n f i j (inr l) =
    ap (λ b. cond (i == j) None (cond (at_most i n) (cond b (f i j) None) None)) (is_high j n (omega arith)) ∙ ap (λ e. cond (i == j) None e) (nothing (at_most i n)) ∙ nothing (i == j)

module _ (z : ZoneView) (is : IsZone z) (f : ℕ → ℕ → Option ℤ) (tight : (i j : ℕ) → i ≤ columns_of z → j ≤ columns_of z → i ≢ j → IsTight (pos z.period) (node z.residues i -ℤ node z.residues j) (f i j)) where
  -- the zone of the cell of z with the bounds f
  abbrev pub made : ZoneView
  made = record { period = z.period; residues = z.residues; bounds = table_from (between_nodes (columns_of z) f) }

  few : columns_of z ≤ 8
  few = is.shape.columns

  entry_at : (i j : ℕ) → i < 9 → j < 9 → entry made.bounds i j ≡ between_nodes (columns_of z) f i j
  entry_at i j il jl = entry-table_from (between_nodes (columns_of z) f) i j il jl

  entry_in : (i j : ℕ) → i ≤ columns_of z → j ≤ columns_of z → i ≢ j → entry made.bounds i j ≡ f i j
  entry_in i j il jl ne = let l : columns_of z ≤ 8 = few in entry_at i j (omega arith) (omega arith) ∙ nodes_in (columns_of z) f i j il jl ne

  entry_same : (i j : ℕ) → i ≤ columns_of z → i ≡ j → entry made.bounds i j ≡ None
  entry_same i j il e = let l : columns_of z ≤ 8 = few in entry_at i j (omega arith) (omega arith) ∙ nodes_same (columns_of z) f i j e

  pub made_cell : IsOfCell z made
  made_cell = record { period = refl; residues = refl }

  -- its tuples meet the bounds
  pub from_made : (xs : List ℤ) → IsMember made xs → (i j : ℕ) → i ≤ columns_of z → j ≤ columns_of z → i ≢ j → Within (node xs i -ℤ node xs j) (f i j)
  from_made xs h i j il jl ne = subst (λ e. Within (node xs i -ℤ node xs j) e) (entry_in i j il jl ne) (h.meets i j il jl)

  -- and what meets them in the cell is one
  pub to_made : (xs : List ℤ) → IsInCell z xs → ((i j : ℕ) → i ≤ columns_of z → j ≤ columns_of z → i ≢ j → Within (node xs i -ℤ node xs j) (f i j)) → IsMember made xs
  to_made xs cell h = record {
    cell = record { count = cell.count; each = cell.each };
    meets = λ i j il jl. elim (eq_or i j) [
      | inl e ↦ subst (λ b. Within (node xs i -ℤ node xs j) b) (sym (entry_same i j il e)) tt
      | inr ne ↦ subst (λ b. Within (node xs i -ℤ node xs j) b) (sym (entry_in i j il jl ne)) (h i j il jl ne)
    ];
  }

  -- with a tuple it is a zone
  pub made_is : (xs : List ℤ) → IsMember made xs → IsZone made
  made_is xs h = record {
    shape = record {
      period_low = is.shape.period_low;
      period_high = is.shape.period_high;
      columns = is.shape.columns;
      residues = is.shape.residues;
      tight = λ i j il jl. elim (eq_or i j) [
        | inl e ↦ subst (IsTight (pos z.period) (node z.residues i -ℤ node z.residues j)) (sym (entry_same i j il e)) tt
        | inr ne ↦ subst (IsTight (pos z.period) (node z.residues i -ℤ node z.residues j)) (sym (entry_in i j il jl ne)) (tight i j il jl ne)
      ];
      diagonal = λ i il. entry_same i i il refl;
      outside = record { none = λ i j il jl o. entry_at i j il jl ∙ nodes_out (columns_of z) f i j o };
    };
    size = length-table_from (between_nodes (columns_of z) f);
    some = record { member = xs; is = h };
  }
