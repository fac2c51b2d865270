-- A set that repeats by a period at both its ends is that of finitely many rows of this period.
use Rattle.std.proofs.Common.{◌≡◌, ℕ, zero, suc, ◌+◌, ◌*◌, ◌<◌, ◌≤◌, inl, inr, List, [], ◌∷◌, ◌++◌, Some, None, arith, refl, sym, subst}
use Rattle.std.specs.Prelude.{ℤ, pos, negsuc, nat_abs, ◌+ℤ◌, ◌-ℤ◌, ◌≤ℤ◌, ◌<ℤ◌, neg_ℤ, Contains}
use Rattle.std.specs.Int.{int_rem_euclid}
use Rattle.std.proofs.Math.IntN.{◌*ℤ◌}
use Rattle.std.proofs.lemmas.Int.{ints, by_lt_z}
use Rattle.std.proofs.lemmas.List.Elements.{Contains-append_cases, Contains-append_left, Contains-append_right}
use Rattle.lrp_theory.specs.Divides.{Divides}
use Rattle.lrp_theory.proofs.Decided.{Decided}
use Rattle.lrp_theory.proofs.Modulo.{Divides-is, Divides-neg, Divides-zero, multiple_below, rem_between, rem_divides}
use Rattle.lrp_theory.proofs.Multiples.{Divides-multiple}
use Rattle.lrp_spans.specs.Repeating.{RepeatsAtEnds}
use Rattle.lrp_spans.proofs.Lists.{head_in, in_cons, in_none, later}
use Rattle.lrp_canon.specs.Rows.{IsSetOfRows, PeriodicRow, IsInPeriodicRow}

-- ---- what goes over into itself from a bound on
module _ (S : ℤ → Type 0) (P B : ℕ) (low : 0 < P) (on : (x : ℤ) → pos B ≤ℤ x → S x → S (x +ℤ pos P)) (back : (x : ℤ) → pos B ≤ℤ x → S (x +ℤ pos P) → S x) where
  up_by : (m : ℕ) (x : ℤ) → pos B ≤ℤ x → S x → S (x +ℤ pos (P * m))
  up_by zero x g h = let e : x ≡ x +ℤ pos (P * 0) = omega (arith, ints) in subst S e h
  up_by (suc m) x g h =
      let p : P * suc m ≡ P * m + P = omega arith in
      let e : (x +ℤ pos (P * m)) +ℤ pos P ≡ x +ℤ pos (P * suc m) = omega (arith, ints, p) in
      subst S e (on (x +ℤ pos (P * m)) (omega (arith, ints)) (up_by m x g h))

  down_by : (m : ℕ) (x : ℤ) → pos B ≤ℤ x → S (x +ℤ pos (P * m)) → S x
  down_by zero x g h = let e : x +ℤ pos (P * 0) ≡ x = omega (arith, ints) in subst S e h
  down_by (suc m) x g h =
      let p : P * suc m ≡ P * m + P = omega arith in
      let e : x +ℤ pos (P * suc m) ≡ (x +ℤ pos (P * m)) +ℤ pos P = omega (arith, ints, p) in
      down_by m x g (back (x +ℤ pos (P * m)) (omega (arith, ints)) (subst S e h))

  -- so many periods are between two numbers
  turns : (x y : ℤ) → x ≤ℤ y → Divides (pos P) (y -ℤ x) → (m : ℕ) × (y ≡ x +ℤ pos (P * m))
  turns x y l d = at d.times d.is
    where
      at : (t : ℤ) → y -ℤ x ≡ pos P *ℤ t → (m : ℕ) × (y ≡ x +ℤ pos (P * m))
      at (pos m) e = (m, (let f : y -ℤ x ≡ pos (P * m) = e in omega (arith, ints)))
      at (negsuc m) e =
          let f : y -ℤ x ≡ neg_ℤ (pos (P * suc m)) = e in
          let p : P * suc m ≡ P * m + P = omega arith in
          absurd (omega (arith, ints, p, low))

  pub onward : (x y : ℤ) → pos B ≤ℤ x → x ≤ℤ y → Divides (pos P) (y -ℤ x) → S x → S y
  onward x y g l d h = let t = turns x y l d in subst S (sym t.1) (up_by t.0 x g h)

  pub backward : (x y : ℤ) → pos B ≤ℤ x → x ≤ℤ y → Divides (pos P) (y -ℤ x) → S y → S x
  backward x y g l d h = let t = turns x y l d in down_by t.0 x g (subst S t.1 h)

-- the first number of a residue from a bound on
pub record IsBase (P B : ℕ) (y x : ℤ) : Type 0 where
  pub low : pos B ≤ℤ x
  pub high : x <ℤ (pos B +ℤ pos P)
  pub before : x ≤ℤ y
  pub divides : Divides (pos P) (y -ℤ x)

base : (P B : ℕ) (y : ℤ) → 0 < P → pos B ≤ℤ y → (x : ℤ) × IsBase P B y x
base P B y low g =
    let r : ℤ = int_rem_euclid (y -ℤ pos B) (pos P) in
    let one : pos 1 ≤ℤ pos P = omega (arith, ints, low) in
    let b : (pos 0 ≤ℤ r) × (r <ℤ pos P) = rem_between (pos P) (y -ℤ pos B) r one refl in
    let d : Divides (pos P) ((y -ℤ pos B) -ℤ r) = rem_divides (pos P) (y -ℤ pos B) r one refl in
    let x : ℤ = pos B +ℤ r in
    let b0 : pos 0 ≤ℤ r = b.0 in
    let b1 : r <ℤ pos P = b.1 in
    let e : Divides (pos P) (y -ℤ x) = Divides-is (pos P) ((y -ℤ pos B) -ℤ r) _ (omega (arith, ints)) d in
    let f : Divides (pos P) (x -ℤ y) = Divides-is (pos P) (neg_ℤ (y -ℤ x)) _ (omega (arith, ints)) (Divides-neg (pos P) (y -ℤ x) e) in
    let l : (x -ℤ y) ≤ℤ pos 0 = multiple_below (pos P) (x -ℤ y) f one (omega (arith, ints)) in
    (x, record { low = omega (arith, ints, b0); high = omega (arith, ints, b1); before = omega (arith, ints, l); divides = e })

-- a number of a residue that lies so far down
pub deep : (P : ℕ) (x y : ℤ) → 0 < P → (w : ℤ) × (w ≤ℤ y) × (w ≤ℤ x) × Divides (pos P) (w -ℤ x)
deep P x y low =
    let n : ℕ = nat_abs x + nat_abs y in
    let p : n ≤ P * n = at_least P n low in
    let w : ℤ = x -ℤ pos (P * n) in
    (w, omega (arith, ints, p), omega (arith, ints), Divides-is (pos P) (neg_ℤ (pos (P * n))) _ (omega (arith, ints)) (Divides-neg (pos P) (pos (P * n)) (Divides-multiple P n)))
  where
    at_least : (m n : ℕ) → 0 < m → n ≤ m * n
    at_least zero n p = absurd (omega arith)
    at_least (suc m) n p = omega arith

-- ---- rows of the numbers of a stretch that are in the set
module _ {T : Type 0} (S : ℤ → Type 0) (decide : (x : ℤ) → Decided (S x)) (make : ℤ → PeriodicRow T) where
  pub kept : (p : Type 0) → Decided p → PeriodicRow T → List (PeriodicRow T) → List (PeriodicRow T)
  kept p (inl a) r rs = r ∷ rs
  kept p (inr a) r rs = rs

  pub picked : ℤ → ℕ → List (PeriodicRow T)
  picked from zero = []
  picked from (suc n) = kept (S from) (decide from) (make from) (picked (from +ℤ pos 1) n)

  pub record IsPicked (from : ℤ) (n : ℕ) (row : PeriodicRow T) : Type 0 where
    number : ℤ
    low : from ≤ℤ number
    high : number <ℤ (from +ℤ pos n)
    inside : S number
    is : make number ≡ row

  tail_picked : (n : ℕ) (from : ℤ) (row : PeriodicRow T) → IsPicked (from +ℤ pos 1) n row → IsPicked from (suc n) row
  tail_picked n from row p = record { number = p.number; low = (let l : (from +ℤ pos 1) ≤ℤ p.number = p.low in omega (arith, ints)); high = (let l : p.number <ℤ ((from +ℤ pos 1) +ℤ pos n) = p.high in omega (arith, ints)); inside = p.inside; is = p.is }

  in_kept : (n : ℕ) (from : ℤ) (row : PeriodicRow T) (d : Decided (S from)) (rest : List (PeriodicRow T)) → Contains (kept (S from) d (make from) rest) row → (Contains rest row → IsPicked (from +ℤ pos 1) n row) → IsPicked from (suc n) row
  unfolding kept
  in_kept n from row (inl s) rest c before = elim (in_cons (make from) rest row c) [
    | inl e ↦ record { number = from; low = omega (arith, ints); high = omega (arith, ints); inside = s; is = e }
    | inr m ↦ tail_picked n from row (before m)
  ]
  in_kept n from row (inr s) rest c before = tail_picked n from row (before c)

  pub in_picked : (n : ℕ) (from : ℤ) (row : PeriodicRow T) → Contains (picked from n) row → IsPicked from n row
  unfolding picked
  in_picked zero from row c = absurd (in_none row c)
  in_picked (suc n) from row c = in_kept n from row (decide from) (picked (from +ℤ pos 1) n) c (in_picked n (from +ℤ pos 1) row)

  kept_later : (p : Type 0) (d : Decided p) (r row : PeriodicRow T) (rest : List (PeriodicRow T)) → Contains rest row → Contains (kept p d r rest) row
  unfolding kept
  kept_later p (inl a) r row rest c = later r rest row c
  kept_later p (inr a) r row rest c = c

  kept_here : (p : Type 0) (d : Decided p) (r : PeriodicRow T) (rest : List (PeriodicRow T)) → p → Contains (kept p d r rest) r
  unfolding kept
  kept_here p (inl a) r rest s = head_in r rest
  kept_here p (inr a) r rest s = absurd (a s)

  pub picked_in : (n : ℕ) (from x : ℤ) → from ≤ℤ x → x <ℤ (from +ℤ pos n) → S x → Contains (picked from n) (make x)
  unfolding picked
  picked_in zero from x l h s = absurd (omega (arith, ints))
  picked_in (suc n) from x l h s = by_lt_z from x
      (λ lt. kept_later (S from) (decide from) (make from) (make x) (picked (from +ℤ pos 1) n) (picked_in n (from +ℤ pos 1) x (omega (arith, ints)) (omega (arith, ints)) s))
      (λ le. (let e : from ≡ x = omega (arith, ints) in subst (λ y. Contains (kept (S from) (decide from) (make from) (picked (from +ℤ pos 1) n)) (make y)) e (kept_here (S from) (decide from) (make from) (picked (from +ℤ pos 1) n) (subst S (sym e) s))))

-- ---- the rows of one list of texts
module _ {T : Type 0} (texts : List T) where
  abbrev single : ℤ → PeriodicRow T
  single x = record { texts = texts; residue = x; least = Some x; most = Some x }

  abbrev upper : ℤ → PeriodicRow T
  upper x = record { texts = texts; residue = x; least = Some x; most = None }

  abbrev lower : ℤ → PeriodicRow T
  lower x = record { texts = texts; residue = x; least = None; most = Some x }

module _ {T : Type 0} (texts : List T) (S : ℤ → Type 0) (decide : (x : ℤ) → Decided (S x)) (P B : ℕ) (low : 0 < P) (ends : RepeatsAtEnds S B P) where
  -- the last numbers that a period has below the bound, and those between the bounds
  bottom : ℤ
  bottom = (neg_ℤ (pos B) -ℤ pos P) +ℤ pos 1

  highs : List (PeriodicRow T)
  highs = picked S decide (upper texts) (pos B) P

  lows : List (PeriodicRow T)
  lows = picked S decide (lower texts) bottom P

  middles : List (PeriodicRow T)
  middles = picked S decide (single texts) (neg_ℤ (pos B)) (B + B)

  pub rows_of_texts : List (PeriodicRow T)
  rows_of_texts = highs ++ (lows ++ middles)

  -- the same below
  flip : (x : ℤ) → neg_ℤ (neg_ℤ x) ≡ x
  flip x = omega (arith, ints)

  down_on : (x : ℤ) → pos B ≤ℤ x → S (neg_ℤ x) → S (neg_ℤ (x +ℤ pos P))
  down_on x g h = let e : neg_ℤ x -ℤ pos P ≡ neg_ℤ (x +ℤ pos P) = omega (arith, ints) in subst S e (ends.down (neg_ℤ x) (omega (arith, ints)) h)

  down_back : (x : ℤ) → pos B ≤ℤ x → S (neg_ℤ (x +ℤ pos P)) → S (neg_ℤ x)
  down_back x g h = let e : neg_ℤ (x +ℤ pos P) ≡ neg_ℤ x -ℤ pos P = omega (arith, ints) in ends.up (neg_ℤ x) (omega (arith, ints)) (subst S e h)

  turned : (x y : ℤ) → Divides (pos P) (y -ℤ x) → Divides (pos P) (neg_ℤ y -ℤ neg_ℤ x)
  turned x y d = Divides-is (pos P) (neg_ℤ (y -ℤ x)) _ (omega (arith, ints)) (Divides-neg (pos P) (y -ℤ x) d)

  downward : (x y : ℤ) → x ≤ℤ neg_ℤ (pos B) → y ≤ℤ x → Divides (pos P) (y -ℤ x) → S x → S y
  downward x y g l d h = subst S (flip y) (onward (λ z. S (neg_ℤ z)) P B low down_on down_back (neg_ℤ x) (neg_ℤ y) (omega (arith, ints)) (omega (arith, ints)) (turned x y d) (subst S (sym (flip x)) h))

  -- each of the rows lies in the set
  high_sound : (row : PeriodicRow T) (x : ℤ) (u : List T) → Contains highs row → IsInPeriodicRow P row x u → (texts ≡ u) × S x
  unfolding highs
  high_sound row x u c i =
      let p = in_picked S decide (upper texts) P (pos B) row c in
      let j : IsInPeriodicRow P (upper texts p.number) x u = subst (λ r. IsInPeriodicRow P r x u) (sym p.is) i in
      (j.named, onward S P B low ends.on ends.back p.number x p.low j.low j.residue p.inside)

  low_sound : (row : PeriodicRow T) (x : ℤ) (u : List T) → Contains lows row → IsInPeriodicRow P row x u → (texts ≡ u) × S x
  unfolding lows bottom
  low_sound row x u c i =
      let p = in_picked S decide (lower texts) P bottom row c in
      let j : IsInPeriodicRow P (lower texts p.number) x u = subst (λ r. IsInPeriodicRow P r x u) (sym p.is) i in
      let h : p.number <ℤ (((neg_ℤ (pos B) -ℤ pos P) +ℤ pos 1) +ℤ pos P) = p.high in
      (j.named, downward p.number x (omega (arith, ints, h)) j.high j.residue p.inside)

  middle_sound : (row : PeriodicRow T) (x : ℤ) (u : List T) → Contains middles row → IsInPeriodicRow P row x u → (texts ≡ u) × S x
  unfolding middles
  middle_sound row x u c i =
      let p = in_picked S decide (single texts) (B + B) (neg_ℤ (pos B)) row c in
      let j : IsInPeriodicRow P (single texts p.number) x u = subst (λ r. IsInPeriodicRow P r x u) (sym p.is) i in
      let l : p.number ≤ℤ x = j.low in
      let h : x ≤ℤ p.number = j.high in
      let e : p.number ≡ x = omega (arith, ints) in
      (j.named, subst S e p.inside)

  pub rows_sound : (row : PeriodicRow T) (x : ℤ) (u : List T) → Contains rows_of_texts row → IsInPeriodicRow P row x u → (texts ≡ u) × S x
  unfolding rows_of_texts
  rows_sound row x u c i = elim (Contains-append_cases highs (lows ++ middles) row c) [
    | inl a ↦ high_sound row x u a i
    | inr b ↦ elim (Contains-append_cases lows middles row b) [ inl a ↦ low_sound row x u a i | inr a ↦ middle_sound row x u a i ]
  ]

  -- and each number of the set lies in one of them
  pub record HasRow (x : ℤ) : Type 0 where
    pub row : PeriodicRow T
    pub listed : Contains rows_of_texts row
    pub inside : IsInPeriodicRow P row x texts

  high_whole : (x : ℤ) → S x → pos B ≤ℤ x → HasRow x
  unfolding rows_of_texts highs
  high_whole x s g =
      let b = base P B x low g in
      let z : ℤ = b.0 in
      let i : IsBase P B x z = b.1 in
      let h : S z = backward S P B low ends.on ends.back z x i.low i.before i.divides s in
      record {
        row = upper texts z;
        listed = Contains-append_left highs (lows ++ middles) (upper texts z) (picked_in S decide (upper texts) P (pos B) z i.low i.high h);
        inside = record { named = refl; residue = i.divides; low = i.before; high = tt };
      }

  low_whole : (x : ℤ) → S x → x ≤ℤ neg_ℤ (pos B) → HasRow x
  unfolding rows_of_texts lows bottom
  low_whole x s g =
      let b = base P B (neg_ℤ x) low (omega (arith, ints)) in
      let z : ℤ = b.0 in
      let i : IsBase P B (neg_ℤ x) z = b.1 in
      let il : pos B ≤ℤ z = i.low in
      let ih : z <ℤ (pos B +ℤ pos P) = i.high in
      let ib : z ≤ℤ neg_ℤ x = i.before in
      let h : S (neg_ℤ z) = backward (λ y. S (neg_ℤ y)) P B low down_on down_back z (neg_ℤ x) il ib i.divides (subst S (sym (flip x)) s) in
      record {
        row = lower texts (neg_ℤ z);
        listed = Contains-append_right highs (lows ++ middles) (lower texts (neg_ℤ z)) (Contains-append_left lows middles (lower texts (neg_ℤ z)) (picked_in S decide (lower texts) P bottom (neg_ℤ z) (omega (arith, ints, il, ih)) (omega (arith, ints, il, ih)) h));
        inside = record {
          named = refl;
          residue = Divides-is (pos P) (neg_ℤ (neg_ℤ x -ℤ z)) _ (omega (arith, ints)) (Divides-neg (pos P) (neg_ℤ x -ℤ z) i.divides);
          low = tt;
          high = omega (arith, ints, ib);
        };
      }

  middle_whole : (x : ℤ) → S x → neg_ℤ (pos B) ≤ℤ x → x <ℤ pos B → HasRow x
  unfolding rows_of_texts middles
  middle_whole x s l h = record {
    row = single texts x;
    listed = Contains-append_right highs (lows ++ middles) (single texts x) (Contains-append_right lows middles (single texts x) (picked_in S decide (single texts) (B + B) (neg_ℤ (pos B)) x l (omega (arith, ints, h)) s));
    inside = record { named = refl; residue = Divides-is (pos P) (pos 0) _ (omega (arith, ints)) (Divides-zero (pos P)); low = omega (arith, ints); high = omega (arith, ints) };
  }

  pub rows_whole : (x : ℤ) → S x → HasRow x
  rows_whole x s = by_lt_z x (pos B)
      (λ lt. by_lt_z (neg_ℤ (pos B)) x (λ more. middle_whole x s (omega (arith, ints)) lt) (λ le. low_whole x s le))
      (λ le. high_whole x s le)

-- ---- the rows of finitely many lists of texts
module _ {T : Type 0} where
  all_rows : (names : List (List T)) → ((texts : List T) → Contains names texts → List (PeriodicRow T)) → List (PeriodicRow T)
  all_rows [] f = []
  all_rows (t ∷ ts) f = f t (head_in t ts) ++ all_rows ts (λ u h. f u (later t ts u h))

  record IsOfTexts (names : List (List T)) (f : (texts : List T) → Contains names texts → List (PeriodicRow T)) (row : PeriodicRow T) : Type 0 where
    texts : List T
    named : Contains names texts
    listed : Contains (f texts named) row

  in_all : (names : List (List T)) (f : (texts : List T) → Contains names texts → List (PeriodicRow T)) (row : PeriodicRow T) → Contains (all_rows names f) row → IsOfTexts names f row
  unfolding all_rows
  in_all [] f row c = absurd (in_none row c)
  in_all (t ∷ ts) f row c = elim (Contains-append_cases (f t (head_in t ts)) (all_rows ts (λ u h. f u (later t ts u h))) row c) [
    | inl a ↦ record { texts = t; named = head_in t ts; listed = a }
    | inr b ↦ (let r = in_all ts (λ u h. f u (later t ts u h)) row b in record { texts = r.texts; named = later t ts r.texts r.named; listed = r.listed })
  ]

  all_in : (names : List (List T)) (f : (texts : List T) → Contains names texts → List (PeriodicRow T)) (texts : List T) → Contains names texts → (h : Contains names texts) × ((row : PeriodicRow T) → Contains (f texts h) row → Contains (all_rows names f) row)
  unfolding all_rows
  all_in [] f texts n = absurd (in_none texts n)
  all_in (t ∷ ts) f texts n = elim (in_cons t ts texts n) [
    | inl e ↦ subst (λ u. (h : Contains (t ∷ ts) u) × ((row : PeriodicRow T) → Contains (f u h) row → Contains (f t (head_in t ts) ++ all_rows ts (λ v g. f v (later t ts v g))) row)) e
        (head_in t ts, λ row c. Contains-append_left (f t (head_in t ts)) (all_rows ts (λ v g. f v (later t ts v g))) row c)
    | inr m ↦ (let r = all_in ts (λ v g. f v (later t ts v g)) texts m in (later t ts texts r.0, λ row c. Contains-append_right (f t (head_in t ts)) (all_rows ts (λ v g. f v (later t ts v g))) row (r.1 row c)))
  ]

-- the set has finitely many lists of texts, and for each of them it is decided and repeats at both ends
module _ {T : Type 0} (set : ℤ → List T → Type 0) (P : ℕ) (low : 0 < P) (names : List (List T)) (known : (x : ℤ) (texts : List T) → set x texts → Contains names texts)
    (decide : (texts : List T) → Contains names texts → (x : ℤ) → Decided (set x texts))
    (ends : (texts : List T) → Contains names texts → (bound : ℕ) × RepeatsAtEnds (λ x. set x texts) bound P) where
  rows_at : (texts : List T) → Contains names texts → List (PeriodicRow T)
  rows_at texts n = rows_of_texts texts (λ x. set x texts) (decide texts n) P (ends texts n).0 low (ends texts n).1

  pub rows_of_ends : IsSetOfRows set P
  unfolding rows_at
  rows_of_ends = record {
    positive = low;
    rows = all_rows names rows_at;
    sound = λ x u i. (
        let o = in_all names rows_at i.row i.listed in
        let s = rows_sound o.texts (λ y. set y o.texts) (decide o.texts o.named) P (ends o.texts o.named).0 low (ends o.texts o.named).1 i.row x u o.listed i.inside in
        subst (set x) s.0 s.1);
    whole = λ x u s. (
        let a = all_in names rows_at u (known x u s) in
        let w = rows_whole u (λ y. set y u) (decide u a.0) P (ends u a.0).0 low (ends u a.0).1 x s in
        record { row = w.row; listed = a.1 w.row w.listed; inside = w.inside });
  }
