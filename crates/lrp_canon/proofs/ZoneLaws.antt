-- The zones of a canonical store begin just where its maximal rows do, so there are as many of them.
use Rattle.std.proofs.Common.{◌≡◌, ◌≢◌, ℕ, zero, suc, ◌+◌, ◌<◌, ◌≤◌, ◌⊎◌, inl, inr, List, [], ◌∷◌, Option, Some, None, length, take, get_or, arith, refl, sym, subst, ap, ap₂, ◌∙◌}
use Rattle.std.specs.Prelude.{ℤ, pos, nat_abs, ◌+ℤ◌, ◌-ℤ◌, ◌≤ℤ◌, ◌<ℤ◌, neg_ℤ, AllPairs, Contains, flat_map}
use Rattle.std.specs.FinMap as finite
use Rattle.std.proofs.lemmas.Int.{ints, by_lt_z}
use Rattle.std.proofs.lemmas.List.{get_or_default, length-map}
use Rattle.std.proofs.lemmas.List.Elements.{Contains-get_or}
use Rattle.lrp_theory.specs.Bounds.{Within}
use Rattle.lrp_theory.specs.Divides.{Divides}
use Rattle.lrp_theory.specs.Entries.{entry, node}
use Rattle.lrp_theory.proofs.Modulo.{Divides--, Divides-is, Divides-neg, Divides-self, Divides-zero, multiple_below, small_multiple}
use Rattle.lrp_model.specs.declared.tuples.Cell.{Cell}
use Rattle.lrp_matrix.specs.Ranges.{negation}
use Rattle.lrp_zone.specs.Pairs.{IsOfCell}
use Rattle.lrp_zone.specs.Zones.{IsMember, IsResidue, IsTight, IsZone, ZoneView, columns_of}
use Rattle.lrp_store.specs.Least.{HasRoom, IsRoom}
use Rattle.lrp_store.specs.Stores.{IsCellOf, LiesInCell, StoreView, tables_at, zone_count, zone_of, zones_at}
use Rattle.lrp_store.proofs.Aligning.{key_of}
use Rattle.lrp_store.proofs.Counted.{one_cell}
use Rattle.lrp_store.proofs.Held.{cell_held, node_take, zone_held}
use Rattle.lrp_answer_text.proofs.Apart.{far_apart, has_of}
use Rattle.lrp_answer_text.proofs.Lists.{from_flat, in_flat}
use Rattle.lrp_spans.specs.Groups.{HoldsNumber}
use Rattle.lrp_spans.proofs.GroupLaws.{zone_column, zone_period}
use Rattle.lrp_zone.proofs.Lines.{in_line, line_cell, line_high, line_low}
use Rattle.lrp_spans.proofs.Lists.{head_in, in_cons, in_none, in_one, later, one_in, pairs_none, pairs_one}
use Rattle.lrp_canon.specs.Canonical.{IsCanonical, IsCanonicalOf}
use Rattle.lrp_canon.specs.Rows.{AreJust, HasRowCount, IsOpenBelow, IsStart, Moment}
use Rattle.lrp_canon.proofs.CountLaws.{count_moved, one_row_count}
use Rattle.lrp_canon.proofs.RowMaking.{deep}
use Rattle.lrp_canon.proofs.TextLaws.{either}
use Rattle.lrp_store.proofs.ZoneCounts.{keys_differ, zones_by_cells}
use Rattle.lrp_canon.proofs.ZoneSums.{flat_length, pairs_flat, sum_of_ones}
use Rattle.lrp_theory.proofs.Members.{from_map, in_map}
use Rattle.lrp_cutting.proofs.IntervalLaws.{less_high, more_low}

-- ---- where a zone of one column begins
abbrev begin_of : ZoneView → Option ℤ
begin_of z = negation (entry z.bounds 0 1)

negated : (e : Option ℤ) (a : ℤ) → negation e ≡ Some a → e ≡ Some (neg_ℤ a)
negated None a e = cc
negated (Some b) a e = let f : neg_ℤ b ≡ a = cc in let g : b ≡ neg_ℤ a = omega (arith, ints, f) in ap Some g

not_negated : (e : Option ℤ) → negation e ≡ None → e ≡ None
not_negated None e = refl
not_negated (Some b) e = cc

module _ (z : ZoneView) (valid : IsZone z) (one : columns_of z ≡ 1) where
  some_number : (x : ℤ) × IsMember z (x ∷ [])
  some_number = (node valid.some.member 1, has_of z valid one valid.some.member valid.some.is)

  first_least : (a : ℤ) → begin_of z ≡ Some a → (x : ℤ) → IsMember z (x ∷ []) → a ≤ℤ x
  first_least a e x m = let l : (pos 0 -ℤ x) ≤ℤ neg_ℤ a = subst (λ f. Within (pos 0 -ℤ x) f) (negated (entry z.bounds 0 1) a e) (line_low z x one m) in omega (arith, ints, l)

  first_in : (a : ℤ) → begin_of z ≡ Some a → IsMember z (a ∷ [])
  first_in a e =
      let f : entry z.bounds 0 1 ≡ Some (neg_ℤ a) = negated (entry z.bounds 0 1) a e in
      let m = some_number in
      let le : a ≤ℤ m.0 = first_least a e m.0 m.1 in
      let tight : IsTight (pos z.period) (pos 0 -ℤ node z.residues 1) (Some (neg_ℤ a)) = subst (λ b. IsTight (pos z.period) (pos 0 -ℤ node z.residues 1) b) f (valid.shape.tight 0 1 (omega arith) (omega (arith, one))) in
      let div : Divides (pos z.period) (a -ℤ node z.residues 1) = Divides-is (pos z.period) (neg_ℤ (neg_ℤ a -ℤ (pos 0 -ℤ node z.residues 1))) _ (omega (arith, ints)) (Divides-neg (pos z.period) _ tight.0) in
      in_line z a valid one div (less_high a m.0 (entry z.bounds 1 0) le (line_high z m.0 one m.1)) (subst (λ b. Within (pos 0 -ℤ a) b) (sym f) (omega (arith, ints)))

  -- what is below a number of a zone without a beginning, and what lies between two numbers
  endless_on : begin_of z ≡ None → (x y : ℤ) → IsMember z (x ∷ []) → y ≤ℤ x → Divides (pos z.period) (y -ℤ node z.residues 1) → IsMember z (y ∷ [])
  endless_on e x y m l d = in_line z y valid one d (less_high y x (entry z.bounds 1 0) l (line_high z x one m)) (subst (λ b. Within (pos 0 -ℤ y) b) (sym (not_negated (entry z.bounds 0 1) e)) tt)

  between : (x g y : ℤ) → IsMember z (x ∷ []) → IsMember z (y ∷ []) → x ≤ℤ g → g ≤ℤ y → Divides (pos z.period) (g -ℤ node z.residues 1) → IsMember z (g ∷ [])
  between x g y mx my l h d = in_line z g valid one d (less_high g y (entry z.bounds 1 0) h (line_high z y one my)) (more_low x g (entry z.bounds 0 1) l (line_low z x one mx))

-- ---- the moments of a zone
abbrev start_in : List ℕ → Option ℤ → List (Moment ℕ)
start_in texts None = []
start_in texts (Some a) = record { number = a; texts = texts } ∷ []

abbrev endless_in : List ℕ → ℤ → Option ℤ → List (Moment ℕ)
endless_in texts r None = record { number = r; texts = texts } ∷ []
endless_in texts r (Some a) = []

in_start : (texts : List ℕ) (e : Option ℤ) (p : Moment ℕ) → Contains (start_in texts e) p → (a : ℤ) × (e ≡ Some a) × (record { number = a; texts = texts } ≡ p)
in_start texts None p c = absurd (in_none p c)
in_start texts (Some a) p c = (a, refl, in_one (record { number = a; texts = texts }) p c)

start_at : (texts : List ℕ) (e : Option ℤ) (a : ℤ) → e ≡ Some a → Contains (start_in texts e) (record { number = a; texts = texts })
start_at texts e a h = subst (λ f. Contains (start_in texts f) (record { number = a; texts = texts })) (sym h) (one_in (record { number = a; texts = texts }))

start_once : (texts : List ℕ) (e : Option ℤ) → AllPairs ◌≢◌ (start_in texts e)
start_once texts None = pairs_none ◌≢◌
start_once texts (Some a) = pairs_one ◌≢◌ (record { number = a; texts = texts })

in_endless : (texts : List ℕ) (r : ℤ) (e : Option ℤ) (p : Moment ℕ) → Contains (endless_in texts r e) p → (e ≡ None) × (record { number = r; texts = texts } ≡ p)
in_endless texts r None p c = (refl, in_one (record { number = r; texts = texts }) p c)
in_endless texts r (Some a) p c = absurd (in_none p c)

endless_at : (texts : List ℕ) (r : ℤ) (e : Option ℤ) → e ≡ None → Contains (endless_in texts r e) (record { number = r; texts = texts })
endless_at texts r e h = subst (λ f. Contains (endless_in texts r f) (record { number = r; texts = texts })) (sym h) (one_in (record { number = r; texts = texts }))

endless_once : (texts : List ℕ) (r : ℤ) (e : Option ℤ) → AllPairs ◌≢◌ (endless_in texts r e)
endless_once texts r None = pairs_one ◌≢◌ (record { number = r; texts = texts })
endless_once texts r (Some a) = pairs_none ◌≢◌

one_of_both : (texts : List ℕ) (r : ℤ) (e : Option ℤ) → length (start_in texts e) + length (endless_in texts r e) ≡ 1
one_of_both texts r None = refl
one_of_both texts r (Some a) = refl

lesser : ℤ → ℤ → ℤ
lesser x y = neg_ℤ (pos (nat_abs x)) -ℤ pos (nat_abs y)

lesser_left : (x y : ℤ) → lesser x y ≤ℤ x
unfolding lesser
lesser_left x y = omega (arith, ints)

lesser_right : (x y : ℤ) → lesser x y ≤ℤ y
unfolding lesser
lesser_right x y = omega (arith, ints)

-- equal moments
abbrev at : ℤ → List ℕ → Moment ℕ
at a texts = record { number = a; texts = texts }

same_numbers : (p q : Moment ℕ) → p ≡ q → p.number ≡ q.number
same_numbers p q e = ap (λ (r : Moment ℕ). r.number) e

same_names : (p q : Moment ℕ) → p ≡ q → p.texts ≡ q.texts
same_names p q e = ap (λ (r : Moment ℕ). r.texts) e

-- what a multiple is greater, by a period at least
period_less : (P : ℕ) (a x : ℤ) → 0 < P → Divides (pos P) (x -ℤ a) → a <ℤ x → a ≤ℤ (x -ℤ pos P)
period_less P a x low d l = by_lt_z (x -ℤ a) (pos P)
    (λ lt. (let z : (x -ℤ a) ≤ℤ pos 0 = multiple_below (pos P) (x -ℤ a) d (omega (arith, ints, low)) lt in absurd (omega (arith, ints, z, l))))
    (λ le. omega (arith, ints, le))

-- ---- the zones of a canonical store
module _ (s : StoreView) (h : IsCanonical s) (room : HasRoom s) where
  abbrev named : Cell → List ℕ
  named c = take s.shape.texts c.texts

  low : 0 < s.period
  low = h.valid.period_low

  is_zone : (c : Cell) (z : ZoneView) → Contains (zones_at s c) z → IsZone z
  is_zone c z m = let t = from_map (zone_of s c) (tables_at s c) z m in subst IsZone t.2 (zone_held s h.valid c t.0 t.1)

  proper : (c : Cell) (z : ZoneView) → Contains (zones_at s c) z → IsCellOf s.shape s.period c
  proper c z m = let t = from_map (zone_of s c) (tables_at s c) z m in cell_held s h.valid c t.0 t.1

  one_column : (c : Cell) (z : ZoneView) → Contains (zones_at s c) z → columns_of z ≡ 1
  one_column c z m = zone_column s h.valid h.column c z m

  room_of : (c : Cell) (z : ZoneView) → Contains (zones_at s c) z → (k : ℕ) × IsRoom z k
  room_of c z m = let t = from_map (zone_of s c) (tables_at s c) z m in subst (λ v. (k : ℕ) × IsRoom v k) t.2 (room.each c t.0 t.1)

  residue_is : (c : Cell) (z : ZoneView) → Contains (zones_at s c) z → node z.residues 1 ≡ node c.residues 1
  residue_is c z m = let t = from_map (zone_of s c) (tables_at s c) z m in ap (λ (v : ZoneView). node v.residues 1) (sym t.2) ∙ node_take s.shape.times c.residues 1 (let e : s.shape.times ≡ 1 = h.column in omega (arith, e))

  -- the numbers of a zone have its cell's residue, and all of it are in its cell
  to_cell : (c : Cell) (z : ZoneView) → Contains (zones_at s c) z → (x : ℤ) → IsMember z (x ∷ []) → Divides (pos s.period) (x -ℤ node c.residues 1)
  to_cell c z m x i = subst (λ k. Divides (pos k) (x -ℤ node c.residues 1)) (zone_period s c z m) (subst (λ r. Divides (pos z.period) (x -ℤ r)) (residue_is c z m) (line_cell z x (one_column c z m) i))

  from_cell : (c : Cell) (z : ZoneView) → Contains (zones_at s c) z → (x : ℤ) → Divides (pos s.period) (x -ℤ node c.residues 1) → Divides (pos z.period) (x -ℤ node z.residues 1)
  from_cell c z m x d = subst (λ k. Divides (pos k) (x -ℤ node z.residues 1)) (sym (zone_period s c z m)) (subst (λ r. Divides (pos s.period) (x -ℤ r)) (sym (residue_is c z m)) d)

  stepped : (c : Cell) (x y : ℤ) → Divides (pos s.period) (y -ℤ x) → Divides (pos s.period) (x -ℤ node c.residues 1) → Divides (pos s.period) (y -ℤ node c.residues 1)
  stepped c x y d e = Divides-is (pos s.period) ((y -ℤ x) -ℤ neg_ℤ (x -ℤ node c.residues 1)) _ (omega (arith, ints)) (Divides-- (pos s.period) (y -ℤ x) (neg_ℤ (x -ℤ node c.residues 1)) d (Divides-neg (pos s.period) (x -ℤ node c.residues 1) e))

  one_before : (x : ℤ) → Divides (pos s.period) ((x -ℤ pos s.period) -ℤ x)
  one_before x = Divides-is (pos s.period) (neg_ℤ (pos s.period)) _ (omega (arith, ints)) (Divides-neg (pos s.period) (pos s.period) (Divides-self (pos s.period)))

  lies : (c : Cell) (x : ℤ) → Divides (pos s.period) (x -ℤ node c.residues 1) → LiesInCell s.shape s.period c (x ∷ []) (named c)
  lies c x d = record { count = sym h.column; residues = λ i l. each i (let e : s.shape.times ≡ 1 = h.column in omega (arith, l, e)); named = refl }
    where
      each : (i : ℕ) → i ≤ 1 → Divides (pos s.period) (node (x ∷ []) i -ℤ node c.residues i)
      each zero l = Divides-is (pos s.period) (pos 0) _ (omega (arith, ints)) (Divides-zero (pos s.period))
      each (suc zero) l = d
      each (suc (suc i)) l = absurd (omega (arith, l))

  in_store : (c : Cell) (z : ZoneView) → Contains (zones_at s c) z → (x : ℤ) → IsMember z (x ∷ []) → HoldsNumber s x (named c)
  in_store c z m x i = let t = from_map (zone_of s c) (tables_at s c) z m in record { cell = c; table = t.0; held = t.1; named = refl; inside = subst (λ v. IsMember v (x ∷ [])) (sym t.2) i }

  -- cells with one residue and the same texts are one
  cells_meet : (c d : Cell) → IsCellOf s.shape s.period c → IsCellOf s.shape s.period d → (x : ℤ) → Divides (pos s.period) (x -ℤ node c.residues 1) → Divides (pos s.period) (x -ℤ node d.residues 1) → named c ≡ named d → c ≡ d
  cells_meet c d pc pd x dc dd e = one_cell s.shape s.period c d (x ∷ []) (named d) pc pd (subst (λ ts. LiesInCell s.shape s.period c (x ∷ []) ts) e (lies c x dc)) (lies d x dd)

  -- the zones of a cell lie apart
  abbrev IsFar : ZoneView → ZoneView → Type 0
  IsFar v w = (x y : ℤ) → IsMember v (x ∷ []) → IsMember w (y ∷ []) → (x +ℤ pos s.period) <ℤ y

  of_cell : (c : Cell) (v w : ZoneView) → Contains (zones_at s c) v → Contains (zones_at s c) w → IsOfCell v w
  of_cell c v w m n =
      let t = from_map (zone_of s c) (tables_at s c) v m in
      let u = from_map (zone_of s c) (tables_at s c) w n in
      record { period = zone_period s c w n ∙ sym (zone_period s c v m); residues = ap (λ (y : ZoneView). y.residues) (sym u.2) ∙ ap (λ (y : ZoneView). y.residues) t.2 }

  zones_far : (c : Cell) → AllPairs IsFar (zones_at s c)
  zones_far c i j d il jl x y mx my =
      let zs : List ZoneView = zones_at s c in
      let v : ZoneView = get_or zs i d in
      let w : ZoneView = get_or zs j d in
      let ii : i < length zs = omega (arith, il, jl) in
      let m : Contains zs v = Contains-get_or zs i d ii in
      let n : Contains zs w = Contains-get_or zs j d jl in
      let rv = room_of c v m in
      let rw = room_of c w n in
      subst (λ k. (x +ℤ pos k) <ℤ y) (zone_period s c v m)
      (far_apart zs ((h.settled c v m).one (one_column c v m)) v w i j il jl (λ e. get_or_default zs i e d ii) (λ e. get_or_default zs j e d jl) (is_zone c v m) (is_zone c w n) (one_column c v m) (one_column c w n) (of_cell c v w m n) rv.0 rw.0 rv.1 rw.1 x y mx my)

  -- ---- starts
  starts_of : Cell → List (Moment ℕ)
  starts_of c = flat_map (λ z. start_in (named c) (begin_of z)) (zones_at s c)

  all_starts : List (Moment ℕ)
  all_starts = flat_map starts_of (finite.keys s.tables)

  record BeginsAt (c : Cell) (p : Moment ℕ) : Type 0 where
    zone : ZoneView
    held : Contains (zones_at s c) zone
    number : ℤ
    begins : begin_of zone ≡ Some number
    is : at number (named c) ≡ p

  begins_at : (c : Cell) (p : Moment ℕ) → Contains (starts_of c) p → BeginsAt c p
  unfolding starts_of
  begins_at c p m =
      let f = from_flat (λ z. start_in (named c) (begin_of z)) (zones_at s c) p m in
      let t = in_start (named c) (begin_of f.0) p f.2 in
      record { zone = f.0; held = f.1; number = t.0; begins = t.1; is = t.2 }

  begins_in : (c : Cell) (p : Moment ℕ) (b : BeginsAt c p) → IsMember b.zone (b.number ∷ [])
  begins_in c p b = first_in b.zone (is_zone c b.zone b.held) (one_column c b.zone b.held) b.number b.begins

  starts_apart : (c : Cell) → AllPairs ◌≢◌ (starts_of c)
  unfolding starts_of
  starts_apart c = pairs_flat ◌≢◌ IsFar (λ z. start_in (named c) (begin_of z)) (zones_at s c) (zones_far c) (λ z m. start_once (named c) (begin_of z)) (λ z w m n far u v cu cv e.
      let a = in_start (named c) (begin_of z) u cu in
      let b = in_start (named c) (begin_of w) v cv in
      let l : (a.0 +ℤ pos s.period) <ℤ b.0 = far a.0 b.0 (first_in z (is_zone c z m) (one_column c z m) a.0 a.1) (first_in w (is_zone c w n) (one_column c w n) b.0 b.1) in
      let k : a.0 ≡ b.0 = same_numbers (at a.0 (named c)) (at b.0 (named c)) (a.2 ∙ e ∙ sym b.2) in
      absurd (omega (arith, ints, l, k)))

  starts_across : (c d : Cell) → c ≢ d → (u v : Moment ℕ) → Contains (starts_of c) u → Contains (starts_of d) v → u ≢ v
  starts_across c d other u v cu cv e =
      let a = begins_at c u cu in
      let b = begins_at d v cv in
      let k : at a.number (named c) ≡ at b.number (named d) = a.is ∙ e ∙ sym b.is in
      other (cells_meet c d (proper c a.zone a.held) (proper d b.zone b.held) a.number (to_cell c a.zone a.held a.number (begins_in c u a))
      (subst (λ x. Divides (pos s.period) (x -ℤ node d.residues 1)) (sym (same_numbers (at a.number (named c)) (at b.number (named d)) k)) (to_cell d b.zone b.held b.number (begins_in d v b)))
      (same_names (at a.number (named c)) (at b.number (named d)) k))

  -- no zone has the number before
  none_before : (c : Cell) (p : Moment ℕ) (b : BeginsAt c p) → HoldsNumber s (b.number -ℤ pos s.period) (named c) → ⊥
  none_before c p b g =
      let d : Cell = g.cell in
      let w : ZoneView = zone_of s d g.table in
      let n : Contains (zones_at s d) w = in_map (zone_of s d) (tables_at s d) g.table g.held in
      let x : ℤ = b.number -ℤ pos s.period in
      let e : d ≡ c = cells_meet d c (proper d w n) (proper c b.zone b.held) x (to_cell d w n x g.inside) (stepped c b.number x (one_before b.number) (to_cell c b.zone b.held b.number (begins_in c p b))) g.named in
      clash w (subst (λ q. Contains (zones_at s q) w) e n) g.inside
    where
      clash : (w : ZoneView) → Contains (zones_at s c) w → IsMember w ((b.number -ℤ pos s.period) ∷ []) → ⊥
      clash w n i = elim (either IsFar (zones_at s c) w b.zone (zones_far c) n b.held) [
        | inl e ↦ (let l : b.number ≤ℤ (b.number -ℤ pos s.period) = first_least b.zone (is_zone c b.zone b.held) (one_column c b.zone b.held) b.number b.begins (b.number -ℤ pos s.period) (subst (λ v. IsMember v ((b.number -ℤ pos s.period) ∷ [])) e i) in
            let z : 0 < s.period = low in absurd (omega (arith, ints, l, z)))
        | inr o ↦ elim o [
          | inl far ↦ (let l : ((b.number -ℤ pos s.period) +ℤ pos s.period) <ℤ b.number = far (b.number -ℤ pos s.period) b.number i (begins_in c p b) in absurd (omega (arith, ints, l)))
          | inr far ↦ (let l : (b.number +ℤ pos s.period) <ℤ (b.number -ℤ pos s.period) = far b.number (b.number -ℤ pos s.period) (begins_in c p b) i in absurd (omega (arith, ints, l)))
        ]
      ]

  start_to : (p : Moment ℕ) → Contains all_starts p → IsStart (HoldsNumber s) s.period p
  unfolding all_starts
  start_to p m =
      let f = from_flat starts_of (finite.keys s.tables) p m in
      let b = begins_at f.0 p f.2 in
      subst (λ q. IsStart (HoldsNumber s) s.period q) b.is (record { inside = in_store f.0 b.zone b.held b.number (begins_in f.0 p b); first = none_before f.0 p b })

  -- a number of a zone before which none is held begins the zone
  begin_found : (c : Cell) (z : ZoneView) → Contains (zones_at s c) z → (x : ℤ) → IsMember z (x ∷ []) → (HoldsNumber s (x -ℤ pos s.period) (named c) → ⊥) → begin_of z ≡ Some x
  begin_found c z m x i first = by (begin_of z) refl
    where
      before : IsMember z ((x -ℤ pos s.period) ∷ []) → ⊥
      before k = first (in_store c z m (x -ℤ pos s.period) k)

      div : Divides (pos z.period) ((x -ℤ pos s.period) -ℤ node z.residues 1)
      div = from_cell c z m (x -ℤ pos s.period) (stepped c x (x -ℤ pos s.period) (one_before x) (to_cell c z m x i))

      by : (e : Option ℤ) → begin_of z ≡ e → begin_of z ≡ Some x
      by None e = absurd (before (endless_on z (is_zone c z m) (one_column c z m) e x (x -ℤ pos s.period) i (omega (arith, ints)) div))
      by (Some a) e =
          let l : a ≤ℤ x = first_least z (is_zone c z m) (one_column c z m) a e x i in
          let j : IsMember z (a ∷ []) = first_in z (is_zone c z m) (one_column c z m) a e in
          let d : Divides (pos s.period) (x -ℤ a) = Divides-is (pos s.period) ((x -ℤ node c.residues 1) -ℤ (a -ℤ node c.residues 1)) _ (omega (arith, ints)) (Divides-- (pos s.period) (x -ℤ node c.residues 1) (a -ℤ node c.residues 1) (to_cell c z m x i) (to_cell c z m a j)) in
          by_lt_z a x
          (λ lt. (let k : a ≤ℤ (x -ℤ pos s.period) = period_less s.period a x low d lt in absurd (before (between z (is_zone c z m) (one_column c z m) a (x -ℤ pos s.period) x j i k (omega (arith, ints)) div))))
          (λ le. (let f : a ≡ x = omega (arith, ints, l, le) in e ∙ ap Some f))

  start_from : (p : Moment ℕ) → IsStart (HoldsNumber s) s.period p → Contains all_starts p
  unfolding all_starts starts_of
  start_from p i =
      let c : Cell = i.inside.cell in
      let z : ZoneView = zone_of s c i.inside.table in
      let m : Contains (zones_at s c) z = in_map (zone_of s c) (tables_at s c) i.inside.table i.inside.held in
      let e : begin_of z ≡ Some p.number = begin_found c z m p.number i.inside.inside (λ g. i.first (subst (HoldsNumber s (p.number -ℤ pos s.period)) i.inside.named g)) in
      let f : at p.number (named c) ≡ p = ap (λ ts. at p.number ts) i.inside.named in
      subst (Contains (flat_map (λ d. flat_map (λ w. start_in (named d) (begin_of w)) (zones_at s d)) (finite.keys s.tables))) f
      (in_flat (λ d. flat_map (λ w. start_in (named d) (begin_of w)) (zones_at s d)) (finite.keys s.tables) c (at p.number (named c)) (key_of s (p.number ∷ []) p.texts i.inside)
      (in_flat (λ w. start_in (named c) (begin_of w)) (zones_at s c) z (at p.number (named c)) m (start_at (named c) (begin_of z) p.number e)))

  begun : AreJust (IsStart (HoldsNumber s) s.period) all_starts
  unfolding all_starts
  begun = record {
    apart = pairs_flat ◌≢◌ ◌≢◌ starts_of (finite.keys s.tables) (keys_differ s) (λ c m. starts_apart c) (λ c d m n other. starts_across c d other);
    to = start_to;
    from = start_from;
  }

  -- ---- residues without a beginning
  endless_of : Cell → List (Moment ℕ)
  endless_of c = flat_map (λ z. endless_in (named c) (node c.residues 1) (begin_of z)) (zones_at s c)

  all_endless : List (Moment ℕ)
  all_endless = flat_map endless_of (finite.keys s.tables)

  record GoesOn (c : Cell) (p : Moment ℕ) : Type 0 where
    zone : ZoneView
    held : Contains (zones_at s c) zone
    endless : begin_of zone ≡ None
    is : at (node c.residues 1) (named c) ≡ p

  goes_on : (c : Cell) (p : Moment ℕ) → Contains (endless_of c) p → GoesOn c p
  unfolding endless_of
  goes_on c p m =
      let f = from_flat (λ z. endless_in (named c) (node c.residues 1) (begin_of z)) (zones_at s c) p m in
      let t = in_endless (named c) (node c.residues 1) (begin_of f.0) p f.2 in
      record { zone = f.0; held = f.1; endless = t.0; is = t.1 }

  -- all numbers of the cell from a number of such a zone down are of the zone
  on_down : (c : Cell) (z : ZoneView) → Contains (zones_at s c) z → begin_of z ≡ None → (x y : ℤ) → IsMember z (x ∷ []) → y ≤ℤ x → Divides (pos s.period) (y -ℤ node c.residues 1) → IsMember z (y ∷ [])
  on_down c z m e x y i l d = endless_on z (is_zone c z m) (one_column c z m) e x y i l (from_cell c z m y d)

  endless_apart : (c : Cell) → AllPairs ◌≢◌ (endless_of c)
  unfolding endless_of
  endless_apart c = pairs_flat ◌≢◌ IsFar (λ z. endless_in (named c) (node c.residues 1) (begin_of z)) (zones_at s c) (zones_far c) (λ z m. endless_once (named c) (node c.residues 1) (begin_of z)) (λ z w m n far u v cu cv e.
      let b = in_endless (named c) (node c.residues 1) (begin_of w) v cv in
      let x = some_number z (is_zone c z m) (one_column c z m) in
      let y = some_number w (is_zone c w n) (one_column c w n) in
      let k = deep s.period y.0 x.0 low in
      let j : IsMember w (k.0 ∷ []) = on_down c w n b.0 y.0 k.0 y.1 k.2 (stepped c y.0 k.0 k.3 (to_cell c w n y.0 y.1)) in
      let l : (x.0 +ℤ pos s.period) <ℤ k.0 = far x.0 k.0 x.1 j in
      let g : k.0 ≤ℤ x.0 = k.1 in
      absurd (omega (arith, ints, l, g)))

  endless_across : (c d : Cell) → c ≢ d → (u v : Moment ℕ) → Contains (endless_of c) u → Contains (endless_of d) v → u ≢ v
  endless_across c d other u v cu cv e =
      let a = goes_on c u cu in
      let b = goes_on d v cv in
      let k : at (node c.residues 1) (named c) ≡ at (node d.residues 1) (named d) = a.is ∙ e ∙ sym b.is in
      let x = some_number a.zone (is_zone c a.zone a.held) (one_column c a.zone a.held) in
      let dc : Divides (pos s.period) (x.0 -ℤ node c.residues 1) = to_cell c a.zone a.held x.0 x.1 in
      other (cells_meet c d (proper c a.zone a.held) (proper d b.zone b.held) x.0 dc
      (subst (λ r. Divides (pos s.period) (x.0 -ℤ r)) (same_numbers (at (node c.residues 1) (named c)) (at (node d.residues 1) (named d)) k) dc)
      (same_names (at (node c.residues 1) (named c)) (at (node d.residues 1) (named d)) k))

  endless_to : (p : Moment ℕ) → Contains all_endless p → IsOpenBelow (HoldsNumber s) s.period p
  unfolding all_endless
  endless_to p m =
      let f = from_flat endless_of (finite.keys s.tables) p m in
      let c : Cell = f.0 in
      let b = goes_on c p f.2 in
      let x = some_number b.zone (is_zone c b.zone b.held) (one_column c b.zone b.held) in
      let one : s.shape.times ≡ 1 = h.column in
      subst (λ q. IsOpenBelow (HoldsNumber s) s.period q) b.is (record {
        residue = (proper c b.zone b.held).range 1 (omega (arith, one));
        bound = x.0;
        all = λ y l d. in_store c b.zone b.held y (on_down c b.zone b.held b.endless x.0 y x.1 l d);
      })

  -- a cell has a zone without a beginning, or all its numbers are after some number
  abbrev LiesAfter : List ZoneView → ℤ → Type 0
  LiesAfter zs l = (z : ZoneView) → Contains zs z → (x : ℤ) → IsMember z (x ∷ []) → l ≤ℤ x

  some_endless : (zs : List ZoneView) → ((z : ZoneView) → Contains zs z → IsZone z × (columns_of z ≡ 1)) → ((z : ZoneView) × Contains zs z × (begin_of z ≡ None)) ⊎ ((l : ℤ) × LiesAfter zs l)
  some_endless [] each = inr (pos 0, λ z c. absurd (in_none z c))
  some_endless (z ∷ zs) each = add_zone z zs (each z (head_in z zs)) (begin_of z) refl (some_endless zs (λ w c. each w (later z zs w c)))
    where
      add_zone : (z : ZoneView) (zs : List ZoneView) → IsZone z × (columns_of z ≡ 1) → (e : Option ℤ) → begin_of z ≡ e → ((w : ZoneView) × Contains zs w × (begin_of w ≡ None)) ⊎ ((l : ℤ) × LiesAfter zs l)
          → ((w : ZoneView) × Contains (z ∷ zs) w × (begin_of w ≡ None)) ⊎ ((l : ℤ) × LiesAfter (z ∷ zs) l)
      add_zone z zs valid None e rest = inl (z, head_in z zs, e)
      add_zone z zs valid (Some a) e (inl w) = inl (w.0, later z zs w.0 w.1, w.2)
      add_zone z zs valid (Some a) e (inr w) = inr (
        lesser a w.0,
        λ v c x i. elim (in_cons z zs v c) [
          | inl f ↦ (let l : a ≤ℤ x = first_least z valid.0 valid.1 a e x (subst (λ u. IsMember u (x ∷ [])) (sym f) i) in let k : lesser a w.0 ≤ℤ a = lesser_left a w.0 in omega (arith, ints, l, k))
          | inr n ↦ (let l : w.0 ≤ℤ x = w.1 v n x i in let k : lesser a w.0 ≤ℤ w.0 = lesser_right a w.0 in omega (arith, ints, l, k))
        ],
      )

  -- the cell of a residue without a bound below has such a zone
  endless_held : (c : Cell) (z : ZoneView) → Contains (zones_at s c) z → (bound : ℤ) → ((x : ℤ) → x ≤ℤ bound → Divides (pos s.period) (x -ℤ node c.residues 1) → HoldsNumber s x (named c)) → (w : ZoneView) × Contains (zones_at s c) w × (begin_of w ≡ None)
  endless_held c z m bound all = elim (some_endless (zones_at s c) (λ w n. (is_zone c w n, one_column c w n))) [
    | inl w ↦ w
    | inr b ↦ (let k = deep s.period (node c.residues 1) (lesser bound (b.0 -ℤ pos 1)) low in
        let l : k.0 ≤ℤ lesser bound (b.0 -ℤ pos 1) = k.1 in
        let f : lesser bound (b.0 -ℤ pos 1) ≤ℤ bound = lesser_left bound (b.0 -ℤ pos 1) in
        let g : lesser bound (b.0 -ℤ pos 1) ≤ℤ (b.0 -ℤ pos 1) = lesser_right bound (b.0 -ℤ pos 1) in
        let o = all k.0 (omega (arith, ints, l, f)) k.3 in
        let n : Contains (zones_at s o.cell) (zone_of s o.cell o.table) = in_map (zone_of s o.cell) (tables_at s o.cell) o.table o.held in
        let e : o.cell ≡ c = cells_meet o.cell c (proper o.cell (zone_of s o.cell o.table) n) (proper c z m) k.0 (to_cell o.cell (zone_of s o.cell o.table) n k.0 o.inside) k.3 o.named in
        let d : b.0 ≤ℤ k.0 = b.1 (zone_of s o.cell o.table) (subst (λ q. Contains (zones_at s q) (zone_of s o.cell o.table)) e n) k.0 o.inside in
        absurd (omega (arith, ints, l, g, d)))
  ]

  -- the residue of a cell is a residue, and two residues of a number are one
  residue_same : (r q x : ℤ) → IsResidue s.period r → IsResidue s.period q → Divides (pos s.period) (x -ℤ r) → Divides (pos s.period) (x -ℤ q) → r ≡ q
  residue_same r q x a b d e =
      let al : pos 0 ≤ℤ r = a.low in
      let ah : r <ℤ pos s.period = a.high in
      let bl : pos 0 ≤ℤ q = b.low in
      let bh : q <ℤ pos s.period = b.high in
      let z : r -ℤ q ≡ pos 0 = small_multiple s.period (r -ℤ q) (Divides-is (pos s.period) ((x -ℤ q) -ℤ (x -ℤ r)) _ (omega (arith, ints)) (Divides-- (pos s.period) (x -ℤ q) (x -ℤ r) e d)) (omega (arith, ints, al, bh, ah, bl)) (omega (arith, ints, al, bh, ah, bl)) in
      omega (arith, ints, z)

  endless_from : (p : Moment ℕ) → IsOpenBelow (HoldsNumber s) s.period p → Contains all_endless p
  unfolding all_endless endless_of
  endless_from p i =
      let k = deep s.period p.number i.bound low in
      let o = i.all k.0 k.1 k.3 in
      let c : Cell = o.cell in
      let z : ZoneView = zone_of s c o.table in
      let m : Contains (zones_at s c) z = in_map (zone_of s c) (tables_at s c) o.table o.held in
      let one : s.shape.times ≡ 1 = h.column in
      let r : node c.residues 1 ≡ p.number = residue_same (node c.residues 1) p.number k.0 ((proper c z m).range 1 (omega (arith, one))) i.residue (to_cell c z m k.0 o.inside) k.3 in
      let w = endless_held c z m i.bound (λ x l d. subst (HoldsNumber s x) (sym o.named) (i.all x l (subst (λ q. Divides (pos s.period) (x -ℤ q)) r d))) in
      let f : at (node c.residues 1) (named c) ≡ p = ap₂ at r o.named in
      subst (Contains (flat_map (λ d. flat_map (λ v. endless_in (named d) (node d.residues 1) (begin_of v)) (zones_at s d)) (finite.keys s.tables))) f
      (in_flat (λ d. flat_map (λ v. endless_in (named d) (node d.residues 1) (begin_of v)) (zones_at s d)) (finite.keys s.tables) c (at (node c.residues 1) (named c)) (key_of s (k.0 ∷ []) p.texts o)
      (in_flat (λ v. endless_in (named c) (node c.residues 1) (begin_of v)) (zones_at s c) w.0 (at (node c.residues 1) (named c)) w.1 (endless_at (named c) (node c.residues 1) (begin_of w.0) w.2)))

  unbegun : AreJust (IsOpenBelow (HoldsNumber s) s.period) all_endless
  unfolding all_endless
  unbegun = record {
    apart = pairs_flat ◌≢◌ ◌≢◌ endless_of (finite.keys s.tables) (keys_differ s) (λ c m. endless_apart c) (λ c d m n other. endless_across c d other);
    to = endless_to;
    from = endless_from;
  }

  -- ---- their number
  cell_count : (c : Cell) → length (starts_of c) + length (endless_of c) ≡ length (tables_at s c)
  unfolding starts_of endless_of
  cell_count c = flat_length (λ z. start_in (named c) (begin_of z)) (λ z. endless_in (named c) (node c.residues 1) (begin_of z)) (λ z. 1) (zones_at s c) (λ z. one_of_both (named c) (node c.residues 1) (begin_of z))
      ∙ sum_of_ones (zones_at s c) ∙ length-map (tables_at s c) (zone_of s c)

  pub zone_row_count : HasRowCount (HoldsNumber s) (zone_count s)
  unfolding all_starts all_endless
  zone_row_count = record {
    period = s.period;
    least = h.period;
    starts = all_starts;
    begun = begun;
    endless = all_endless;
    unbegun = unbegun;
    total = flat_length starts_of endless_of (λ c. length (tables_at s c)) (finite.keys s.tables) cell_count ∙ zones_by_cells s;
  }

-- each canonical store of a set has as many zones as the set has maximal rows
pub canonical_zones : (s made : StoreView) (count : ℕ) → HasRowCount (HoldsNumber s) count → IsCanonicalOf s made → zone_count made ≡ count
canonical_zones s made count rows is = one_row_count (HoldsNumber made) (zone_count made) count (zone_row_count made is.canonical is.room)
    (count_moved (HoldsNumber s) (HoldsNumber made) (λ x texts i. is.same.whole (x ∷ []) texts i) (λ x texts i. is.same.sound (x ∷ []) texts i) count rows)
