-- The stored bounds of a zone of one column as a list, and the bound that a list has for a place.
use Rattle.std.proofs.Common.{◌≡◌, ◌≢◌, ◌⊎◌, ℕ, zero, suc, ◌+◌, ◌*◌, ◌<◌, ◌≤◌, inl, inr, List, length, drop, get_or, Option, Some, None, cond, eqb, eq-eqb, refl, sym, ap, subst, ◌∙◌, arith}
use Rattle.std.specs.Prelude.{ℤ, pos, neg_ℤ, slice_index_or, ◌+ℤ◌, ◌≤ℤ◌}
use Rattle.std.proofs.lemmas.Bool.{ne_eqb}
use Rattle.std.proofs.lemmas.List.{drop_all, drop_more}
use Rattle.lrp_theory.specs.Entries.{entry, IsBelow}
use Rattle.lrp_model.specs.declared.relations.Bound.{Bound}
use Rattle.lrp_zone.specs.Given.{bound_at}
use Rattle.lrp_store.specs.declared.stored.Entry.{Entry}
use Rattle.lrp_store.specs.Stored.{placed, bound_with, bounds_of, table_place, listed_at, AreListed}
use Rattle.lrp_store.specs.Joined.{AreNear, line_list, line_table}
use Rattle.lrp_store.proofs.Listed.{listed, get_or-table_of}
use Rattle.lrp_store.proofs.Looser.{AreAbove}
use Rattle.lrp_store.proofs.Written.{nothing, place_back}

-- ---- the two bounds

-- what holds of both holds of each that is listed
each_line : (P : Bound → Type 0) (low high : Option ℤ) → ((a : ℤ) → low ≡ Some a → P (placed 1 a)) → ((a : ℤ) → high ≡ Some a → P (placed 9 a)) → (i : ℕ) → i < length (line_list low high) → P (bound_at (line_list low high) i)
each_line P None None f g i h = let l : i < 0 = h in absurd (omega arith)
each_line P None (Some b) f g zero h = g b refl
each_line P None (Some b) f g (suc i) h = let l : suc i < 1 = h in absurd (omega arith)
each_line P (Some a) None f g zero h = f a refl
each_line P (Some a) None f g (suc i) h = let l : suc i < 1 = h in absurd (omega arith)
each_line P (Some a) (Some b) f g zero h = f a refl
each_line P (Some a) (Some b) f g (suc zero) h = g b refl
each_line P (Some a) (Some b) f g (suc (suc i)) h = let l : suc (suc i) < 2 = h in absurd (omega arith)

listed_low : (low high : Option ℤ) → listed_at (line_list low high) 1 ≡ low
listed_low None None = refl
listed_low None (Some b) = refl
listed_low (Some a) None = refl
listed_low (Some a) (Some b) = refl

listed_high : (low high : Option ℤ) → listed_at (line_list low high) 9 ≡ high
listed_high None None = refl
listed_high None (Some b) = refl
listed_high (Some a) None = refl
listed_high (Some a) (Some b) = refl

-- nothing is a bound of none
none_some : (a : ℤ) → None ≡ Some a → ⊥
none_some a e = cc

-- no other bound is listed
listed_else : (low high : Option ℤ) (p : ℕ) → p ≢ 1 → p ≢ 9 → listed_at (line_list low high) p ≡ None
listed_else low high p first second = listed (line_list low high) p None
    (λ i h e. elim (each_line (λ b. (table_place b ≡ 1) ⊎ (table_place b ≡ 9)) low high (λ a is. inl refl) (λ a is. inr refl) i h) [
      | inl one ↦ absurd (first (sym e ∙ one))
      | inr nine ↦ absurd (second (sym e ∙ nine))
    ])
    (λ a e. absurd (none_some a e))

few : (low high : Option ℤ) → length (line_list low high) ≤ 81
few None None = let l : 0 ≤ 81 = omega arith in l
few None (Some b) = let l : 1 ≤ 81 = omega arith in l
few (Some a) None = let l : 1 ≤ 81 = omega arith in l
few (Some a) (Some b) = let l : 2 ≤ 81 = omega arith in l

pub line_listed : (low high : Option ℤ) → AreListed (line_list low high)
line_listed low high = record {
  left = each_line (λ b. b.left < 9) low high (λ a e. omega arith) (λ a e. omega arith);
  right = each_line (λ b. b.right < 9) low high (λ a e. omega arith) (λ a e. omega arith);
  few = few low high;
  one = each_line (λ b. listed_at (line_list low high) (table_place b) ≡ Some b.most) low high (λ a e. listed_low low high ∙ e) (λ a e. listed_high low high ∙ e);
}

-- their table
pub table_low : (low high : Option ℤ) → entry (line_table low high) 0 1 ≡ low
table_low low high = get_or-table_of (line_list low high) 1 (omega arith) ∙ listed_low low high

pub table_high : (low high : Option ℤ) → entry (line_table low high) 1 0 ≡ high
table_high low high = get_or-table_of (line_list low high) 9 (omega arith) ∙ listed_high low high

pub table_else : (low high : Option ℤ) (i j : ℕ) → i < 9 → j < 9 → 9 * i + j ≢ 1 → 9 * i + j ≢ 9 → entry (line_table low high) i j ≡ None
table_else low high i j il jl first second = get_or-table_of (line_list low high) (9 * i + j) (omega arith) ∙ listed_else low high (9 * i + j) first second

-- where they are no less than a table's, all listed ones are
pub line_above : (table : List (Option ℤ)) (low high : Option ℤ) → IsBelow (entry table 0 1) low → IsBelow (entry table 1 0) high → AreAbove table (line_list low high) (length (line_list low high))
line_above table low high b h = record {
  each = each_line (λ x. IsBelow (slice_index_or table (table_place x) None) (Some x.most)) low high (λ a e. subst (λ o. IsBelow (entry table 0 1) o) e b) (λ a e. subst (λ o. IsBelow (entry table 1 0) o) e h);
}

-- ---- reading a list for a place

module _ (es : List Entry) (place : ℕ) where
  -- what is listed for the place is listed from number n on
  abbrev pub StandsFrom : ℕ → Type 0
  StandsFrom n = listed_at (bounds_of es) place ≡ listed_at (bounds_of (drop n es)) place

  pub stands_first : StandsFrom 0
  stands_first = refl

  -- the entry with a number
  abbrev here : ℕ → Entry
  here n = get_or es n nothing

  next_listed : (n : ℕ) → n < length es → listed_at (bounds_of (drop n es)) place ≡ cond (eqb (table_place (bound_with (here n))) place) (Some (bound_with (here n)).most) (listed_at (bounds_of (drop (n + 1) es)) place)
  next_listed n h = ap (λ l. listed_at (bounds_of l) place) (drop_more es n nothing h)

  -- it is that of the next entry
  pub stands_here : (n p : ℕ) → n < length es → p ≡ (here n).place → p ≡ place → StandsFrom n → listed_at (bounds_of es) place ≡ Some (bound_with (here n)).most
  stands_here n p h same is before =
      before ∙ next_listed n h
      ∙ ap (λ b. cond b (Some (bound_with (here n)).most) (listed_at (bounds_of (drop (n + 1) es)) place)) (eq-eqb (table_place (bound_with (here n))) place (sym (place_back (here n)) ∙ sym same ∙ is))

  -- or of a later one
  pub stands_later : (n p : ℕ) → n < length es → p ≡ (here n).place → p ≢ place → StandsFrom n → StandsFrom (n + 1)
  stands_later n p h same apart before =
      before ∙ next_listed n h
      ∙ ap (λ b. cond b (Some (bound_with (here n)).most) (listed_at (bounds_of (drop (n + 1) es)) place)) (ne_eqb (table_place (bound_with (here n))) place (λ e. apart (same ∙ place_back (here n) ∙ e)))

  -- or of none
  pub stands_nowhere : (n : ℕ) → length es ≤ n → StandsFrom n → listed_at (bounds_of es) place ≡ None
  stands_nowhere n h before = before ∙ ap (λ l. listed_at (bounds_of l) place) (drop_all n es h)

-- ---- comparing two bounds

-- two that are there are near where the numbers are
pub some_near : (k : ℕ) (a b : ℤ) (high low : Option ℤ) → high ≡ Some a → low ≡ Some b → neg_ℤ b ≤ℤ (a +ℤ pos k) → AreNear k high low
some_near k a b high low eh el le = record {
  near = λ x y ex ey.
      let p : a ≡ x = cc in
      let q : b ≡ y = cc in
      subst (λ n. neg_ℤ n ≤ℤ (x +ℤ pos k)) q (subst (λ n. neg_ℤ b ≤ℤ (n +ℤ pos k)) p le);
}
