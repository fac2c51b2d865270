-- Bounds that are written one after another into a free table make the table that they stand for.
use Rattle.std.proofs.Common.{◌≡◌, ◌≢◌, ◌⊎◌, ℕ, ◌+◌, ◌/◌, ◌<◌, ◌^◌, inl, inr, List, length, replicate, [], Option, Some, None, to_z, of_z, refl, sym, ap, subst, ◌∙◌, arith, get_or, set, get_or-set_same, get_or-set_other, length-set, below_more}
use Rattle.std.specs.Prelude.{ℤ, pos}
use Rattle.std.specs.Int.{w64}
use Rattle.std.proofs.lemmas.Bool.{cases_eq}
use Rattle.std.proofs.lemmas.List.{ext_get_or, get_or-map, length-map, get_or-replicate, length-replicate}
use Rattle.lrp_model.specs.declared.relations.Bound.{Bound}
use Rattle.lrp_zone.specs.Given.{bound_at}
use Rattle.lrp_theory.specs.Entries.{AtMost}
use Rattle.lrp_zone.specs.Zones.{ZoneView, IsZone}
use Rattle.lrp_store.specs.declared.stored.Entry.{Entry}
use Rattle.lrp_store.specs.Stored.{bound_with, bounds_of, table_place, listed_at, table_of, AreListed, AreStorable}
use Rattle.lrp_store.proofs.Listed.{some_listed, get_or-table_of, length-table_of, place_small, word_bound}

-- the table has the first n bounds, and no bound that is not listed
pub record IsWritten (bs : List Bound) (n : ℕ) (table : List (Option ℤ)) : Type 0 where
  pub size : length table ≡ 81
  pub done : (i : ℕ) → i < n → get_or table (table_place (bound_at bs i)) None ≡ Some (bound_at bs i).most
  pub only : (p : ℕ) → p < 81 → (get_or table p None ≡ None) ⊎ (get_or table p None ≡ listed_at bs p)

-- a free table has none
pub written_none : (bs : List Bound) (table : List (Option ℤ)) → table ≡ replicate 81 None → IsWritten bs 0 table
written_none bs table e = record {
  size = ap length e ∙ length-replicate {A = Option ℤ} 81 None;
  done = λ i h. absurd (omega arith);
  only = λ p low. inl (ap (λ t. get_or t p None) e ∙ get_or-replicate 81 p None None low);
}

module _ (bs : List Bound) (are : AreListed bs) where
  -- the place of a listed bound
  place_low : (i : ℕ) → i < length bs → table_place (bound_at bs i) < 81
  place_low i h = let l = are.left i h in let r = are.right i h in omega arith

  module _ (n : ℕ) (low : n < length bs) (old : List (Option ℤ)) (before : IsWritten bs n old) where
    -- the place of the next bound
    abbrev here : ℕ
    here = table_place (bound_at bs n)

    -- the table with it
    abbrev next : List (Option ℤ)
    next = set old here (Some (bound_at bs n).most)

    here_in : here < length old
    here_in = let s : length old ≡ 81 = before.size in let l : here < 81 = place_low n low in omega arith

    -- a bound that is listed stays, or is written again
    kept : (i : ℕ) → i < length bs → get_or old (table_place (bound_at bs i)) None ≡ Some (bound_at bs i).most → (table_place (bound_at bs i) ≡ here) ⊎ (table_place (bound_at bs i) ≢ here) → get_or next (table_place (bound_at bs i)) None ≡ Some (bound_at bs i).most
    kept i il was (inl e) = ap (λ p. get_or next p None) e ∙ get_or-set_same old here (Some (bound_at bs n).most) None here_in ∙ sym (are.one n low) ∙ ap (listed_at bs) (sym e) ∙ are.one i il
    kept i il was (inr ne) = get_or-set_other old here (table_place (bound_at bs i)) (Some (bound_at bs n).most) None ne ∙ was

    -- no other bound is written
    only_listed : (p : ℕ) → p < 81 → (p ≡ here) ⊎ (p ≢ here) → (get_or next p None ≡ None) ⊎ (get_or next p None ≡ listed_at bs p)
    only_listed p pl (inl e) = inr (ap (λ q. get_or next q None) e ∙ get_or-set_same old here (Some (bound_at bs n).most) None here_in ∙ sym (are.one n low) ∙ ap (listed_at bs) (sym e))
    only_listed p pl (inr ne) = subst (λ y. (y ≡ None) ⊎ (y ≡ listed_at bs p)) (sym (get_or-set_other old here p (Some (bound_at bs n).most) None ne)) (before.only p pl)

    -- one bound more is written
    pub written_next : IsWritten bs (n + 1) next
    written_next = record {
      size = length-set old here (Some (bound_at bs n).most) ∙ before.size;
      done = below_more (λ i. get_or next (table_place (bound_at bs i)) None ≡ Some (bound_at bs i).most) n
          (λ i h. kept i (omega arith) (before.done i h) (cases_eq (table_place (bound_at bs i)) here))
          (get_or-set_same old here (Some (bound_at bs n).most) None here_in);
      only = λ p pl. only_listed p pl (cases_eq p here);
    }

  -- once all are written, it is the table of the bounds
  pub written_all : (table : List (Option ℤ)) → IsWritten bs (length bs) table → table ≡ table_of bs
  written_all table w = ext_get_or None table (table_of bs) (w.size ∙ sym (length-table_of bs)) (λ p h. at p (below p h) (listed_at bs p) refl ∙ sym (get_or-table_of bs p (below p h)))
    where
      below : (p : ℕ) → p < length table → p < 81
      below p h = let s : length table ≡ 81 = w.size in omega arith

      nothing : (p : ℕ) → listed_at bs p ≡ None → (get_or table p None ≡ None) ⊎ (get_or table p None ≡ listed_at bs p) → get_or table p None ≡ listed_at bs p
      nothing p e (inl n) = n ∙ sym e
      nothing p e (inr l) = l

      at : (p : ℕ) → p < 81 → (o : Option ℤ) → listed_at bs p ≡ o → get_or table p None ≡ listed_at bs p
      at p low None e = nothing p e (w.only p low)
      at p low (Some a) e =
          let i = some_listed bs p a e in
          ap (λ q. get_or table q None) (sym i.2) ∙ w.done i.0 i.1 ∙ sym (are.one i.0 i.1) ∙ ap (listed_at bs) i.2

-- an entry in the place of one past the end
abbrev pub nothing : Entry
nothing = record { place = 0; most = [] }

-- and the bound there
abbrev pub none : Bound
none = record { left = 0; right = 0; most = pos 0 }

-- a place is that of its bound
pub place_back : (e : Entry) → e.place ≡ table_place (bound_with e)
place_back e = omega arith

-- the next entry is written
pub entry_written : (es : List Entry) (n : ℕ) (e : Entry) (place : ℕ) (v : Option ℤ) (old new : List (Option ℤ)) → AreListed (bounds_of es) → n < length es → e ≡ get_or es n nothing → place ≡ e.place → v ≡ Some (bound_with e).most → new ≡ set old place v
    → IsWritten (bounds_of es) n old → IsWritten (bounds_of es) (n + 1) new
entry_written es n e place v old new are low is at some made before =
    let many : length (bounds_of es) ≡ length es = length-map es _ in
    let b : bound_at (bounds_of es) n ≡ bound_with e = get_or-map bound_with es n nothing none low ∙ ap bound_with (sym is) in
    subst (λ t. IsWritten (bounds_of es) (n + 1) t) (ap (λ (x : Bound). set old (table_place x) (Some x.most)) b ∙ ap (λ p. set old p (Some (bound_with e).most)) (sym (at ∙ place_back e)) ∙ ap (set old place) (sym some) ∙ sym made)
    (written_next (bounds_of es) are n (omega arith) old before)

-- an entry stands within nine rows of nine
pub entry_low : (es : List Entry) (n : ℕ) → AreListed (bounds_of es) → n < length es → (get_or es n nothing).place < 81
entry_low es n are low =
    let many : length (bounds_of es) ≡ length es = length-map es _ in
    let l : (get_or es n nothing).place / 9 < 9 = subst (λ (x : Bound). x.left < 9) (get_or-map bound_with es n nothing none low) (are.left n (omega arith)) in
    omega arith

-- and its bound is small
pub entry_small : (es : List Entry) (n : ℕ) → AreStorable (bounds_of es) → n < length es → AtMost (2 ^ 62) (Some (bound_with (get_or es n nothing)).most)
entry_small es n small low =
    let many : length (bounds_of es) ≡ length es = length-map es _ in
    subst (λ (x : Bound). AtMost (2 ^ 62) (Some x.most)) (get_or-map bound_with es n nothing none low) (small.each n (omega arith))

-- so it is the same in a word
pub entry_word : (es : List Entry) (n : ℕ) (v : ℤ) → AreStorable (bounds_of es) → n < length es → v ≡ (bound_with (get_or es n nothing)).most → to_z w64 (of_z w64 v) ≡ (bound_with (get_or es n nothing)).most
entry_word es n v small low e = ap (λ a. to_z w64 (of_z w64 a)) e ∙ word_bound (bound_with (get_or es n nothing)).most (entry_small es n small low)

-- the bounds of a zone are small
pub zone_small : (k : ℕ) (rs : List ℤ) (now : List (Option ℤ)) (items slice : List Entry) → slice ≡ items → AreListed (bounds_of items) → table_of (bounds_of items) ≡ now → IsZone (record { period = k; residues = rs; bounds = now }) → AreStorable (bounds_of slice)
zone_small k rs now items slice e are view valid = subst (λ es. AreStorable (bounds_of es)) (sym e) (record { each = λ i h. place_small (record { period = k; residues = rs; bounds = now }) valid (table_place (bound_at (bounds_of items) i)) _ (place_low (bounds_of items) are i h) (sym (are.one i h) ∙ sym (get_or-table_of (bounds_of items) (table_place (bound_at (bounds_of items) i)) (place_low (bounds_of items) are i h)) ∙ ap (λ t. get_or t (table_place (bound_at (bounds_of items) i)) None) view) })

-- once all entries are
pub entries_written : (es : List Entry) (n : ℕ) (table : List (Option ℤ)) → AreListed (bounds_of es) → n ≡ length es → IsWritten (bounds_of es) n table → table ≡ table_of (bounds_of es)
entries_written es n table are e w =
    let many : length (bounds_of es) ≡ length es = length-map es _ in
    written_all (bounds_of es) are table (subst (λ k. IsWritten (bounds_of es) k table) (e ∙ sym many) w)

-- the table that the view shows
pub shown_table : (table now : List (Option ℤ)) (items slice : List Entry) → slice ≡ items → table ≡ table_of (bounds_of slice) → table_of (bounds_of items) ≡ now → table ≡ now
shown_table table now items slice e made view = made ∙ ap (λ es. table_of (bounds_of es)) e ∙ view

-- a zone with another table
abbrev pub with_table : ℕ → List ℤ → List (Option ℤ) → ZoneView
with_table k rs table = record { period = k; residues = rs; bounds = table }
