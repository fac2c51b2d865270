-- A list of bounds that was made of a table stands for that table.
use Rattle.std.proofs.Common.{◌≡◌, ◌≢◌, ℕ, zero, suc, ◌+◌, ◌*◌, ◌<◌, ◌≤◌, ◌⊎◌, inl, inr, List, [], ◌∷◌, ◌++◌, length, take, Option, Some, None, true, false, cond, eqb, refl, sym, ap, subst, ◌∙◌, arith, get_or, to_z, of_z, SFits, ◌/◌, ◌%◌}
use Rattle.std.proofs.lemmas.Int.{ints, to_z-of_z}
use Rattle.std.proofs.lemmas.Nat.{from_le_bytes-to_le_bytes_8}
use Rattle.std.specs.Prelude.{ℤ, nat_abs, ◌^◌, ◌-◌, ◌≤ℤ◌, ◌<ℤ◌, ◌-ℤ◌, neg_ℤ, pos, negsuc, slice_index_or, is_some}
use Rattle.std.specs.Int.{w64, from_le_bytes, to_le_bytes}
use Rattle.std.specs.List.{range_with_len}
use Rattle.std.proofs.lemmas.Bool.{eqb-true, eqb-false, cases_lt}
use Rattle.std.proofs.lemmas.List.{length-map, length-append, ext_get_or, get_or-append_right, get_or_append_left, take_all}
use Rattle.std.proofs.lemmas.List.FromFn.{get_or-map-range_with_len, length-range_with_len}
use Rattle.std.proofs.lemmas.List.Sums.{count_by_more_no, count_by_more_yes, count_by-le-length, sum_by-take-le}
use Rattle.lrp_model.specs.declared.relations.Bound.{Bound}
use Rattle.lrp_theory.specs.Entries.{entry, node, AtMost}
use Rattle.lrp_zone.specs.Given.{bound_at}
use Rattle.lrp_zone.specs.Zones.{ZoneView, IsZone, IsTight, columns_of}
use Rattle.lrp_store.specs.declared.stored.Entry.{Entry}
use Rattle.lrp_store.specs.Stored.{placed, bound_with, bounds_of, table_place, listed_at, table_of, AreListed, count_of}

-- the list has just the bounds of the first n places
pub record AreOf (table : List (Option ℤ)) (n : ℕ) (bs : List Bound) : Type 0 where
  pub left : (i : ℕ) → i < length bs → (bound_at bs i).left < 9
  pub right : (i : ℕ) → i < length bs → (bound_at bs i).right < 9
  pub from : (i : ℕ) → i < length bs → slice_index_or table (table_place (bound_at bs i)) None ≡ Some (bound_at bs i).most
  pub all : (p : ℕ) (a : ℤ) → p < n → slice_index_or table p None ≡ Some a → (i : ℕ) × (i < length bs) × (table_place (bound_at bs i) ≡ p)
  pub count : length bs ≡ count_of (take n table)

-- a bound among the later ones
later : (b : Bound) (bs : List Bound) (p : ℕ) → table_place b ≢ p → (i : ℕ) → i < length (b ∷ bs) → table_place (bound_at (b ∷ bs) i) ≡ p → (j : ℕ) × (j < length bs) × (table_place (bound_at bs j) ≡ p)
later b bs p apart zero h e = absurd (apart e)
later b bs p apart (suc i) h e = (i, omega arith, e)

-- what the bounds for a place say is listed there
pub listed : (bs : List Bound) (p : ℕ) (e : Option ℤ) → ((i : ℕ) → i < length bs → table_place (bound_at bs i) ≡ p → e ≡ Some (bound_at bs i).most)
    → ((a : ℤ) → e ≡ Some a → (i : ℕ) × (i < length bs) × (table_place (bound_at bs i) ≡ p)) → listed_at bs p ≡ e
listed [] p None from all = refl
listed [] p (Some a) from all = let i = all a refl in let h : i.0 < 0 = i.1 in absurd (omega arith)
listed (b ∷ bs) p e from all =
    elim (eqb (table_place b) p) as (λ t. eqb (table_place b) p ≡ t → cond t (Some b.most) (listed_at bs p) ≡ e) [
      | true ↦ λ is. sym (from 0 (omega arith) (eqb-true _ _ is))
      | false ↦ λ is. listed bs p e (λ i h same. from (suc i) (omega arith) same) (λ a some. let w = all a some in later b bs p (eqb-false _ _ is) w.0 w.1 w.2)
    ] refl

-- what is listed for a place is the bound of some listed one
pub some_listed : (bs : List Bound) (p : ℕ) (a : ℤ) → listed_at bs p ≡ Some a → (i : ℕ) × (i < length bs) × (table_place (bound_at bs i) ≡ p)
some_listed [] p a is = absurd (none_some a is)
  where
    none_some : (a : ℤ) → None ≡ Some a → ⊥
    none_some a e = cc
some_listed (b ∷ bs) p a is =
    elim (eqb (table_place b) p) as (λ t. eqb (table_place b) p ≡ t → cond t (Some b.most) (listed_at bs p) ≡ Some a → (i : ℕ) × (i < length (b ∷ bs)) × (table_place (bound_at (b ∷ bs) i) ≡ p)) [
      | true ↦ λ same e. (0, omega arith, eqb-true _ _ same)
      | false ↦ λ same e. let w = some_listed bs p a e in let h : w.0 < length bs = w.1 in (suc w.0, omega arith, w.2)
    ] refl is

-- the table of a list at a place
pub get_or-table_of : (bs : List Bound) (p : ℕ) → p < 81 → get_or (table_of bs) p None ≡ listed_at bs p
unfolding table_of
get_or-table_of bs p h = get_or-map-range_with_len (listed_at bs) 0 81 p p None h (omega arith)

-- a table has 81 places
pub length-table_of : (bs : List Bound) → length (table_of bs) ≡ 81
unfolding table_of
length-table_of bs = length-map (range_with_len 0 81) (listed_at bs) ∙ length-range_with_len 0 81

module _ (table : List (Option ℤ)) (size : length table ≡ 81) where
  -- what holds of each listed bound and of one more
  one_more : (n : ℕ) (bs : List Bound) (b : Bound) → (P : Bound → Type 0) → ((i : ℕ) → i < length bs → P (bound_at bs i)) → P b → (i : ℕ) → i < length (bs ++ b ∷ []) → P (bound_at (bs ++ b ∷ []) i)
  one_more n bs b P old new i h =
      let l : length (bs ++ b ∷ []) ≡ length bs + 1 = length-append bs (b ∷ []) in
      elim (cases_lt i (length bs)) [
        | inl low ↦ subst P (sym (get_or_append_left bs (b ∷ []) _ i low)) (old i low)
        | inr high ↦ let e : i ≡ length bs = omega arith in subst P (sym (get_or-append_right bs (b ∷ []) (length bs) i _ refl high ∙ ap (λ k. bound_at (b ∷ []) k) (nothing i (length bs) e))) new
      ]
    where
      nothing : (i n : ℕ) → i ≡ n → i - n ≡ 0
      nothing i n e = omega arith

  -- the bound of the next place is listed
  pub one_of : (n : ℕ) (bs : List Bound) (b : Bound) → b.left < 9 → b.right < 9 → table_place b ≡ n → get_or table n None ≡ Some b.most → n < 81 → AreOf table n bs → AreOf table (n + 1) (bs ++ b ∷ [])
  one_of n bs b left right place is low of = record {
    left = one_more n bs b (λ x. x.left < 9) of.left left;
    right = one_more n bs b (λ x. x.right < 9) of.right right;
    from = one_more n bs b (λ x. slice_index_or table (table_place x) None ≡ Some x.most) of.from (ap (λ p. get_or table p None) place ∙ is);
    all = λ p a h e.
        let l : length (bs ++ b ∷ []) ≡ length bs + 1 = length-append bs (b ∷ []) in
        elim (cases_lt p n) [
          | inl less ↦ let w = of.all p a less e in let wl : w.0 < length bs = w.1 in (w.0, omega arith, ap table_place (get_or_append_left bs (b ∷ []) _ w.0 w.1) ∙ w.2)
          | inr more ↦ let same : n ≡ p = omega arith in (length bs, omega arith, ap table_place (get_or-append_right bs (b ∷ []) (length bs) (length bs) _ refl (omega arith) ∙ ap (λ k. bound_at (b ∷ []) k) (itself (length bs))) ∙ place ∙ same)
        ];
    count =
        let l : length (bs ++ b ∷ []) ≡ length bs + 1 = length-append bs (b ∷ []) in
        let m : count_of (take (n + 1) table) ≡ count_of (take n table) + 1 = count_by_more_yes is_some table n None (omega arith) (ap is_some is) in
        let c : length bs ≡ count_of (take n table) = of.count in omega arith;
  }
    where
      itself : (n : ℕ) → n - n ≡ 0
      itself n = omega arith

  -- the next place has no bound
  pub none_more : (n : ℕ) (bs : List Bound) → get_or table n None ≡ None → n < 81 → AreOf table n bs → AreOf table (n + 1) bs
  none_more n bs is low of = record {
    left = of.left;
    right = of.right;
    from = of.from;
    all = λ p a h e. elim (cases_lt p n) [
      | inl less ↦ of.all p a less e
      | inr more ↦ let same : p ≡ n = omega arith in absurd (none_some a (sym is ∙ ap (λ q. get_or table q None) (sym same) ∙ e))
    ];
    count =
        let m : count_of (take (n + 1) table) ≡ count_of (take n table) = count_by_more_no is_some table n None (omega arith) (ap is_some is) in
        let c : length bs ≡ count_of (take n table) = of.count in omega arith;
  }
    where
      none_some : (a : ℤ) → None ≡ Some a → ⊥
      none_some a e = cc

  module _ (bs : List Bound) (of : AreOf table 81 bs) where
    listed_there : (p : ℕ) → p < 81 → listed_at bs p ≡ get_or table p None
    listed_there p low = listed bs p (get_or table p None) (λ i h e. ap (λ q. get_or table q None) (sym e) ∙ of.from i h) (λ a e. of.all p a low e)

    -- the list of all bounds of a table stands for it
    pub table_of-all : table_of bs ≡ table
    table_of-all = ext_get_or None (table_of bs) table (length-table_of bs ∙ sym size) (λ p h. get_or-table_of bs p (below p h) ∙ listed_there p (below p h))
      where
        below : (p : ℕ) → p < length (table_of bs) → p < 81
        below p h = let l : length (table_of bs) ≡ 81 = length-table_of bs in omega arith

    pub all_listed : AreListed bs
    all_listed = record {
      left = of.left;
      right = of.right;
      few = let c : length bs ≡ count_of (take 81 table) = of.count in let m : count_of (take 81 table) ≤ length (take 81 table) = count_by-le-length is_some (take 81 table) in let l : length (take 81 table) ≡ 81 = ap length (take_all 81 table (omega arith)) ∙ size in omega arith;
      one = λ i h. listed_there (table_place (bound_at bs i)) (within (bound_at bs i) (of.left i h) (of.right i h)) ∙ of.from i h;
    }
      where
        within : (b : Bound) → b.left < 9 → b.right < 9 → table_place b < 81
        within b l r = omega arith

-- a tight bound is small
pub tight_is_small : (k w : ℤ) (e f : Option ℤ) → f ≡ e → IsTight k w e → AtMost (2 ^ 62) f
tight_is_small k w None f same h = subst (λ y. AtMost (2 ^ 62) y) (sym same) tt
tight_is_small k w (Some a) f same h = subst (λ y. AtMost (2 ^ 62) y) (sym same) h.1

-- after some place no bound stands
rest_empty : (table : List (Option ℤ)) → length table ≡ 81 → (m n : ℕ) (bs : List Bound) → n + m ≡ 81 → ((p : ℕ) → n ≤ p → p < 81 → get_or table p None ≡ None) → AreOf table n bs → AreOf table 81 bs
rest_empty table size zero n bs e none of = subst (λ k. AreOf table k bs) (omega arith) of
rest_empty table size (suc m) n bs e none of = rest_empty table size m (n + 1) bs (omega arith) (λ p low high. none p (omega arith) high) (none_more table size n bs (none n (omega arith) (omega arith)) (omega arith) of)

-- a place of the table of a zone
module _ (z : ZoneView) (valid : IsZone z) where
  -- a row and a column are a place
  at_place : (p : ℕ) → entry z.bounds (p / 9) (p % 9) ≡ get_or z.bounds p None
  at_place p = let e : 9 * (p / 9) + p % 9 ≡ p = omega arith in ap (λ q. get_or z.bounds q None) e

  -- the bounds of the rows of the columns are all bounds
  pub all_rows : (n : ℕ) (bs : List Bound) → n ≡ 9 * (columns_of z + 1) → AreOf z.bounds n bs → AreOf z.bounds 81 bs
  all_rows n bs e of =
      let c : columns_of z ≤ 8 = valid.shape.columns in
      rest_empty z.bounds valid.size (81 - n) n bs (omega arith) (λ p low high. sym (at_place p) ∙ valid.shape.outside.none (p / 9) (p % 9) (omega arith) (omega arith) (inl (omega arith))) of

  -- a tight bound is small, and none stands past the columns
  pub place_small : (p : ℕ) (f : Option ℤ) → p < 81 → f ≡ get_or z.bounds p None → AtMost (2 ^ 62) f
  place_small p f low is = by (cases_lt (columns_of z) (p / 9)) (cases_lt (columns_of z) (p % 9))
    where
      outside : (columns_of z + 1 ≤ p / 9) ⊎ (columns_of z + 1 ≤ p % 9) → AtMost (2 ^ 62) f
      outside o = subst (λ y. AtMost (2 ^ 62) y) (sym (is ∙ sym (at_place p) ∙ valid.shape.outside.none (p / 9) (p % 9) (omega arith) (omega arith) o)) tt

      by : (columns_of z < p / 9) ⊎ (p / 9 ≤ columns_of z) → (columns_of z < p % 9) ⊎ (p % 9 ≤ columns_of z) → AtMost (2 ^ 62) f
      by (inl past) r = outside (inl (omega arith))
      by (inr l) (inl past) = outside (inr (omega arith))
      by (inr l) (inr r) = tight_is_small (pos z.period) (node z.residues (p / 9) -ℤ node z.residues (p % 9)) (entry z.bounds (p / 9) (p % 9)) f (is ∙ sym (at_place p)) (valid.shape.tight (p / 9) (p % 9) l r)

-- the bounds of the entries with one more
pub map_push : (es : List Entry) (e : Entry) → bounds_of (es ++ e ∷ []) ≡ bounds_of es ++ bound_with e ∷ []
map_push [] e = refl
map_push (x ∷ es) e = ap (λ bs. bound_with x ∷ bs) (map_push es e)

-- the front of a table has no more bounds than the table
taken_count : (table : List (Option ℤ)) (n : ℕ) → count_of (take n table) ≤ count_of table
taken_count table n = sum_by-take-le (λ e. cond (is_some e) 1 0) table n

module _ (table : List (Option ℤ)) (size : length table ≡ 81) (n : ℕ) (low : n < 81) (old : List Entry) (of : AreOf table n (bounds_of old)) where
  -- the bound of the next place was pushed
  pub pushed : (a v : ℤ) (e : Entry) (new : List Entry) → get_or table n None ≡ Some a → v ≡ a → bound_with e ≡ placed n v → new ≡ old ++ e ∷ [] → AreOf table (n + 1) (bounds_of new)
  pushed a v e new is same at made =
      subst (λ bs. AreOf table (n + 1) bs) (sym (ap bounds_of made ∙ map_push old e ∙ ap (λ b. bounds_of old ++ b ∷ []) (at ∙ ap (placed n) same)))
      (one_of table size n (bounds_of old) (placed n a) (omega arith) (omega arith) (omega arith) is low of)

  -- nothing is stored there
  pub passed : get_or table n None ≡ None → AreOf table (n + 1) (bounds_of old)
  passed is = none_more table size n (bounds_of old) is low of

  -- there is room for the next bound where eight are enough for all
  pub has_room : (a : ℤ) (capacity : ℕ) → get_or table n None ≡ Some a → count_of table ≤ 8 → 8 ≤ capacity → length old + 1 ≤ capacity
  has_room a capacity is few room =
      let m : count_of (take (n + 1) table) ≡ count_of (take n table) + 1 = count_by_more_yes is_some table n None (omega arith) (ap is_some is) in
      let t : count_of (take (n + 1) table) ≤ count_of table = taken_count table (n + 1) in
      let c : length (bounds_of old) ≡ count_of (take n table) = of.count in
      let l : length (bounds_of old) ≡ length old = length-map old _ in
      omega arith

-- a period is the same in a word with a sign
pub word_period : (k : ℕ) → k ≤ 2 ^ 62 → to_z w64 k ≡ pos k
word_period k h = omega (arith, ints)

-- so is a bound
pub word_bound : (a : ℤ) → AtMost (2 ^ 62) (Some a) → to_z w64 (of_z w64 a) ≡ a
word_bound a h = within a h.0 h.1
  where
    within : (a : ℤ) → neg_ℤ (pos (2 ^ 62)) ≤ℤ a → a ≤ℤ pos (2 ^ 62) → to_z w64 (of_z w64 a) ≡ a
    within a low high = omega (arith, ints)

-- the bits of a word
word_bits : (a : ℤ) → SFits w64 a → of_z w64 a < 2 ^ 64
word_bits (pos n) f = let l : n < 2 ^ 63 = f.sfits in omega arith
word_bits (negsuc n) f = omega arith

-- the bytes of a word are its number
pub bytes_back : (a : ℤ) → SFits w64 a → (bytes : List ℕ) → bytes ≡ to_le_bytes w64 (of_z w64 a) → to_z w64 (from_le_bytes w64 bytes) ≡ a
bytes_back a fits bytes e = ap (λ bs. to_z w64 (from_le_bytes w64 bs)) e ∙ ap (to_z w64) (from_le_bytes-to_le_bytes_8 (of_z w64 a) (word_bits a fits)) ∙ to_z-of_z w64 a fits

-- and its magnitude
pub word_abs : (a : ℤ) → pos 1 ≤ℤ a → a ≤ℤ pos (2 ^ 62) → nat_abs (to_z w64 (of_z w64 a)) ≡ nat_abs a
word_abs a low high = omega (arith, ints)

-- a residue is the same in a word
pub word64_node : (v n : ℤ) (k : ℕ) → v ≡ n → pos 0 ≤ℤ n → n <ℤ pos k → k ≤ 2 ^ 62 → to_z w64 (of_z w64 v) ≡ n
word64_node v n k e a b h = omega (arith, ints)
