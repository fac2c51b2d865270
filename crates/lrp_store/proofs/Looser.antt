-- A zone whose bounds are at most the listed ones lies within the zone of those.
use Rattle.std.proofs.Common.{◌≡◌, ℕ, ◌+◌, ◌*◌, ◌<◌, ◌≤◌, List, [], ◌∷◌, length, replicate, Option, Some, None, refl, sym, ap, subst, ◌∙◌, arith, get_or, below_more}
use Rattle.std.specs.Prelude.{ℤ, ◌-ℤ◌, slice_index_or}
use Rattle.std.proofs.lemmas.List.{get_or-map, get_or-replicate}
use Rattle.lrp_theory.specs.Bounds.{Within}
use Rattle.lrp_theory.specs.Entries.{node, IsBelow}
use Rattle.lrp_model.specs.declared.relations.Bound.{Bound}
use Rattle.lrp_zone.specs.Given.{bound_at}
use Rattle.lrp_zone.specs.Zones.{ZoneView, IsMember, columns_of}
use Rattle.lrp_zone.specs.Pairs.{IsWithin}
use Rattle.lrp_store.specs.declared.stored.Entry.{Entry}
use Rattle.lrp_store.specs.Stored.{bound_with, bounds_of, table_place, listed_at, table_of, AreListed}
use Rattle.lrp_store.proofs.Listed.{some_listed, get_or-table_of}
use Rattle.lrp_store.proofs.Written.{nothing, none, place_back, written_none, written_all}

-- each of the first n listed bounds is at least the table's bound at its place
pub record AreAbove (table : List (Option ℤ)) (bs : List Bound) (n : ℕ) : Type 0 where
  pub each : (i : ℕ) → i < n → IsBelow (slice_index_or table (table_place (bound_at bs i)) None) (Some (bound_at bs i).most)

-- of none nothing is asked
pub none_above_yet : (table : List (Option ℤ)) (bs : List Bound) → AreAbove table bs 0
none_above_yet table bs = record { each = λ i h. absurd (omega arith) }

-- the next entry is at least the bound at its place
pub one_more_above : (table : List (Option ℤ)) (es : List Entry) (n : ℕ) (place : ℕ) (e : Option ℤ) (most : ℤ) → n < length es → place ≡ (get_or es n nothing).place → e ≡ slice_index_or table place None → most ≡ (bound_with (get_or es n nothing)).most
    → IsBelow e (Some most) → AreAbove table (bounds_of es) n → AreAbove table (bounds_of es) (n + 1)
one_more_above table es n place e most low at is same below before =
    let b : bound_at (bounds_of es) n ≡ bound_with (get_or es n nothing) = get_or-map bound_with es n nothing none low in
    record {
      each = below_more (λ i. IsBelow (slice_index_or table (table_place (bound_at (bounds_of es) i)) None) (Some (bound_at (bounds_of es) i).most)) n before.each
          (subst (λ (x : Bound). IsBelow (slice_index_or table (table_place x) None) (Some x.most)) (sym b)
          (subst (λ p. IsBelow (slice_index_or table p None) (Some (bound_with (get_or es n nothing)).most)) (at ∙ place_back (get_or es n nothing))
          (subst (λ m. IsBelow (slice_index_or table place None) (Some m)) same (subst (λ o. IsBelow o (Some most)) is below))));
    }

-- where all are, each tuple of the zone meets them
pub above_within : (z : ZoneView) (bs : List Bound) → columns_of z ≤ 8 → AreListed bs → AreAbove z.bounds bs (length bs) → IsWithin z (record z { bounds = table_of bs })
above_within z bs columns are above = record {
  each = λ xs m. record { cell = record { count = m.cell.count; each = m.cell.each }; meets = λ i j il jl. at xs m i j il jl (listed_at bs (9 * i + j)) refl };
}
  where
    at : (xs : List ℤ) → IsMember z xs → (i j : ℕ) → i ≤ columns_of z → j ≤ columns_of z → (o : Option ℤ) → listed_at bs (9 * i + j) ≡ o → Within (node xs i -ℤ node xs j) (get_or (table_of bs) (9 * i + j) None)
    at xs m i j il jl None e = subst (λ b. Within (node xs i -ℤ node xs j) b) (sym (get_or-table_of bs (9 * i + j) (omega arith) ∙ e)) tt
    at xs m i j il jl (Some a) e =
        let k = some_listed bs (9 * i + j) a e in
        let most : Some (bound_at bs k.0).most ≡ Some a = sym (are.one k.0 k.1) ∙ ap (listed_at bs) k.2 ∙ e in
        subst (λ b. Within (node xs i -ℤ node xs j) b) (sym (get_or-table_of bs (9 * i + j) (omega arith) ∙ e))
        (subst (λ b. Within (node xs i -ℤ node xs j) b) most
        ((above.each k.0 k.1).below (node xs i -ℤ node xs j) (subst (λ p. Within (node xs i -ℤ node xs j) (get_or z.bounds p None)) (sym k.2) (m.meets i j il jl))))

-- no entries are no bounds
pub free_table : table_of [] ≡ replicate 81 None
free_table = sym (written_all [] nothing_listed (replicate 81 None) (written_none [] (replicate 81 None) refl))
  where
    nothing_listed : AreListed []
    nothing_listed = record { left = λ i h. absurd (omega arith); right = λ i h. absurd (omega arith); few = omega arith; one = λ i h. absurd (omega arith) }

-- and no bounds are no entries
pub free_list : (es : List Entry) → AreListed (bounds_of es) → table_of (bounds_of es) ≡ replicate 81 None → es ≡ []
free_list [] are e = refl
free_list (x ∷ es) are e =
    let low : table_place (bound_with x) < 81 = (let l = are.left 0 (omega arith) in let r = are.right 0 (omega arith) in omega arith) in
    let some : None ≡ Some (bound_with x).most = sym (get_or-replicate 81 (table_place (bound_with x)) None None low) ∙ ap (λ t. get_or t (table_place (bound_with x)) None) (sym e) ∙ get_or-table_of (bounds_of (x ∷ es)) (table_place (bound_with x)) low ∙ are.one 0 (omega arith) in
    cc
