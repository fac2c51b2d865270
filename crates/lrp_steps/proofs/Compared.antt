-- What the bounds of a comparison stand for.
use Rattle.std.proofs.Common.{◌≡◌, ℕ, zero, suc, ◌+◌, ◌<◌, ◌≤◌, ◌^◌, inl, inr, ◌⊎◌, List, [], ◌∷◌, length, take, replicate, Option, None, Some, refl, sym, ap, subst, ◌∙◌, arith, get_or}
use Rattle.std.specs.Prelude.{ℤ, pos, neg_ℤ, nat_abs, ◌+ℤ◌, ◌-ℤ◌, ◌≤ℤ◌, ◌<ℤ◌, All, IfNone, IfSome}
use Rattle.std.proofs.lemmas.Int.{ints}
use Rattle.std.proofs.Common.{to_z, of_z}
use Rattle.std.specs.Int.{w64, int_rem_euclid}
use Rattle.std.proofs.lemmas.List.{get_or_default}
use Rattle.lrp_theory.specs.Divides.{Divides}
use Rattle.lrp_theory.proofs.Modulo.{Divides-+, Divides--, Divides-is, Divides-self, rem_divides, rem_between}
use Rattle.lrp_theory.specs.Entries.{node}
use Rattle.lrp_model.specs.Satisfaction.{Compares}
use Rattle.lrp_model.specs.declared.relations.Bound.{Bound}
use Rattle.lrp_model.specs.declared.formulas.Op.{Op}
use Rattle.lrp_model.specs.declared.formulas.Op.TheVariants.{Le, Lt, Ge, Gt, Eq}
use Rattle.lrp_zone.specs.Zones.{ZoneView, IsResidue}
use Rattle.lrp_zone.specs.Given.{bound_at, IsGivenZone, HasNone, AreGiven, MeetsGiven}
use Rattle.lrp_steps.specs.declared.comparisons.ShiftedColumn.{ShiftedColumn}
use Rattle.lrp_steps.specs.Comparisons.{side_value, AreBounds, IsCompared, HasNoCompared}

-- one divides every integer
pub one_divides : (z : ℤ) → Divides (pos 1) z
one_divides z = record { times = z; is = omega (arith, ints) }

-- both of two
all_two : (P : Bound → Type 0) (a b : Bound) → P a → P b → All P (a ∷ b ∷ [])
all_two P a b p q zero d h = p
all_two P a b p q (suc zero) d h = q
all_two P a b p q (suc (suc k)) d h = absurd (omega arith)

module _ (left right : ℕ) (most : ℤ) where
  -- the bounds of one comparison
  module _ (op : Op) (a b : Bound) (la : (a.left ≤ left ⊎ a.left ≤ right) × (a.right ≤ left ⊎ a.right ≤ right)) (lb : (b.left ≤ left ⊎ b.left ≤ right) × (b.right ≤ left ⊎ b.right ≤ right)) (sa : nat_abs a.most ≤ 1 + nat_abs most) (sb : nat_abs b.most ≤ 1 + nat_abs most)
      (to : (xs : List ℤ) → (node xs a.left -ℤ node xs a.right) ≤ℤ a.most → (node xs b.left -ℤ node xs b.right) ≤ℤ b.most → Compares op (node xs left) (node xs right +ℤ most))
      (from : (xs : List ℤ) → Compares op (node xs left) (node xs right +ℤ most) → ((node xs a.left -ℤ node xs a.right) ≤ℤ a.most) × ((node xs b.left -ℤ node xs b.right) ≤ℤ b.most)) where
    pub two_bounds : AreBounds op left right most (a ∷ b ∷ [])
    two_bounds = record {
      count = refl;
      between = all_two (λ c. (c.left ≤ left ⊎ c.left ≤ right) × (c.right ≤ left ⊎ c.right ≤ right)) a b la lb;
      small = all_two (λ c. nat_abs c.most ≤ 1 + nat_abs most) a b sa sb;
      to = λ xs h. to xs (h 0 a (omega arith)) (h 1 a (omega arith));
      from = λ xs h. let f = from xs h in all_two (λ c. (node xs c.left -ℤ node xs c.right) ≤ℤ c.most) a b f.0 f.1;
    }

  below : (left ≤ left ⊎ left ≤ right) × (right ≤ left ⊎ right ≤ right)
  below = (inl (omega arith), inr (omega arith))

  above : (right ≤ left ⊎ right ≤ right) × (left ≤ left ⊎ left ≤ right)
  above = (inr (omega arith), inl (omega arith))

  pub le_bounds : AreBounds Le left right most (record { left = left; right = right; most = most } ∷ record { left = left; right = right; most = most } ∷ [])
  le_bounds = two_bounds Le (record { left = left; right = right; most = most }) (record { left = left; right = right; most = most }) below below (omega arith) (omega arith) (λ xs h k. omega (arith, ints)) (λ xs h. (omega (arith, ints), omega (arith, ints)))

  pub lt_bounds : (m : ℤ) → m ≡ most -ℤ pos 1 → AreBounds Lt left right most (record { left = left; right = right; most = m } ∷ record { left = left; right = right; most = m } ∷ [])
  lt_bounds m e = two_bounds Lt (record { left = left; right = right; most = m }) (record { left = left; right = right; most = m }) below below (omega (arith, ints)) (omega (arith, ints)) (λ xs h k. omega (arith, ints)) (λ xs h. (omega (arith, ints), omega (arith, ints)))

  pub ge_bounds : (m : ℤ) → m ≡ neg_ℤ most → AreBounds Ge left right most (record { left = right; right = left; most = m } ∷ record { left = right; right = left; most = m } ∷ [])
  ge_bounds m e = two_bounds Ge (record { left = right; right = left; most = m }) (record { left = right; right = left; most = m }) above above (omega (arith, ints)) (omega (arith, ints)) (λ xs h k. omega (arith, ints)) (λ xs h. (omega (arith, ints), omega (arith, ints)))

  pub gt_bounds : (m : ℤ) → m ≡ neg_ℤ most -ℤ pos 1 → AreBounds Gt left right most (record { left = right; right = left; most = m } ∷ record { left = right; right = left; most = m } ∷ [])
  gt_bounds m e = two_bounds Gt (record { left = right; right = left; most = m }) (record { left = right; right = left; most = m }) above above (omega (arith, ints)) (omega (arith, ints)) (λ xs h k. omega (arith, ints)) (λ xs h. (omega (arith, ints), omega (arith, ints)))

  pub eq_bounds : (m : ℤ) → m ≡ neg_ℤ most → AreBounds Eq left right most (record { left = left; right = right; most = most } ∷ record { left = right; right = left; most = m } ∷ [])
  eq_bounds m e = two_bounds Eq (record { left = left; right = right; most = most }) (record { left = right; right = left; most = m }) below above (omega arith) (omega (arith, ints)) (λ xs h k. omega (arith, ints)) (λ xs h. (omega (arith, ints), omega (arith, ints)))

-- a bound by its parts
same_bound : (b : Bound) (l r : ℕ) (m : ℤ) → b.left ≡ l → b.right ≡ r → b.most ≡ m → record { left = l; right = r; most = m } ≡ b
same_bound b l r m el er em = sym (ap (λ x. record { left = x; right = b.right; most = b.most }) el ∙ ap (λ y. record { left = l; right = y; most = b.most }) er ∙ ap (λ z. record { left = l; right = r; most = z }) em)

-- the bounds as the code makes them
pub one_bound : (op o : Op) (left right l r : ℕ) (most m : ℤ) (b : Bound) → o ≡ op → AreBounds op left right most (record { left = l; right = r; most = m } ∷ record { left = l; right = r; most = m } ∷ []) → b.left ≡ l → b.right ≡ r → b.most ≡ m → AreBounds o left right most (b ∷ b ∷ [])
one_bound op o left right l r most m b e h el er em = subst (λ q. AreBounds q left right most (b ∷ b ∷ [])) (sym e) (subst (λ c. AreBounds op left right most (c ∷ c ∷ [])) (same_bound b l r m el er em) h)

pub both_bounds : (o : Op) (left right : ℕ) (most : ℤ) (a b : Bound) → o ≡ Eq → a.left ≡ left → a.right ≡ right → a.most ≡ most → b.left ≡ right → b.right ≡ left → b.most ≡ neg_ℤ most → AreBounds o left right most (a ∷ b ∷ [])
both_bounds o left right most a b e al ar am bl br bm =
    subst (λ q. AreBounds q left right most (a ∷ b ∷ [])) (sym e) (subst (λ c. AreBounds Eq left right most (c ∷ b ∷ [])) (same_bound a left right most al ar am)
    (subst (λ c. AreBounds Eq left right most (record { left = left; right = right; most = most } ∷ c ∷ [])) (same_bound b right left (neg_ℤ most) bl br bm) (eq_bounds left right most (neg_ℤ most) refl)))

-- a number as it is passed
pub word_is : (m : ℤ) → neg_ℤ (pos (2 ^ 62)) ≤ℤ m → m ≤ℤ pos (2 ^ 62) → to_z w64 (of_z w64 m) ≡ m
word_is m low high = omega (arith, ints)

-- a comparison of sides is one of their columns
pub sides_to : (op : Op) (x y p q m : ℤ) → m ≡ q -ℤ p → Compares op x (y +ℤ m) → Compares op (x +ℤ p) (y +ℤ q)
sides_to Le x y p q m e h = omega (arith, ints)
sides_to Lt x y p q m e h = omega (arith, ints)
sides_to Ge x y p q m e h = omega (arith, ints)
sides_to Gt x y p q m e h = omega (arith, ints)
sides_to Eq x y p q m e h = omega (arith, ints)

pub sides_from : (op : Op) (x y p q m : ℤ) → m ≡ q -ℤ p → Compares op (x +ℤ p) (y +ℤ q) → Compares op x (y +ℤ m)
sides_from Le x y p q m e h = omega (arith, ints)
sides_from Lt x y p q m e h = omega (arith, ints)
sides_from Ge x y p q m e h = omega (arith, ints)
sides_from Gt x y p q m e h = omega (arith, ints)
sides_from Eq x y p q m e h = omega (arith, ints)

module _ (l r : ShiftedColumn) (op : Op) (columns : ℕ) (few : columns ≤ 8) (ll : l.column ≤ columns) (lr : r.column ≤ columns) (room : 1 + nat_abs (l.plus -ℤ r.plus) ≤ 2 ^ 62) (bounds : List Bound) (m : ℤ) (are : AreBounds op l.column r.column m bounds) (em : m ≡ r.plus -ℤ l.plus) (rs : List ℤ) (count : length rs ≡ columns) where
  near : nat_abs m ≡ nat_abs (l.plus -ℤ r.plus)
  near = omega (arith, ints)

  at_bound : (P : Bound → Type 0) (i : ℕ) → i < length bounds → All P bounds → P (bound_at bounds i)
  at_bound P i h all = all i (record { left = 0; right = 0; most = pos 0 }) h

  -- the bounds are given
  pub compare_given : AreGiven (pos 1) rs bounds
  compare_given = record {
    each = λ i h.
        let b = at_bound (λ c. (c.left ≤ l.column ⊎ c.left ≤ r.column) × (c.right ≤ l.column ⊎ c.right ≤ r.column)) i h are.between in
        let s : nat_abs (bound_at bounds i).most ≤ 1 + nat_abs m = at_bound (λ c. nat_abs c.most ≤ 1 + nat_abs m) i h are.small in
        record { left = within (bound_at bounds i).left b.0; right = within (bound_at bounds i).right b.1; fits = record { room = inl (one_divides _, omega (arith, s, near, room)) } };
  }
    where
      within : (n : ℕ) → n ≤ l.column ⊎ n ≤ r.column → n ≤ length rs
      within n h = elim h [ inl a ↦ omega arith | inr a ↦ omega arith ]

  met : (xs : List ℤ) → length xs ≡ columns → Compares op (side_value l xs) (side_value r xs) → MeetsGiven (pos 1) rs bounds xs
  met xs e h = record {
    count = e ∙ sym count;
    residues = record { each = λ p low. one_divides _ };
    meets = λ i low. at_bound (λ b. (node xs b.left -ℤ node xs b.right) ≤ℤ b.most) i low (are.from xs (sides_from op (node xs l.column) (node xs r.column) l.plus r.plus m em h));
  }

  pub compare_none : HasNone (pos 1) rs bounds → HasNoCompared l op r columns
  compare_none none = record { none = λ xs e h. none.none xs (met xs e h) }

  pub compare_some : (z : ZoneView) → IsGivenZone (pos 1) rs bounds z → IsCompared l op r columns z
  compare_some z of = record {
    period = one_is z.period of.period;
    count = ap length of.residues ∙ count;
    to = λ xs h. let g = of.to xs h in sides_to op (node xs l.column) (node xs r.column) l.plus r.plus m em (are.to xs (λ k d low. subst (λ b. (node xs b.left -ℤ node xs b.right) ≤ℤ b.most) (get_or_default bounds k (record { left = 0; right = 0; most = pos 0 }) d low) (g.meets k low)));
    from = λ xs e h. of.from xs (met xs e h);
    reach =
        let w : z.period ≡ 1 = one_is z.period of.period in
        let s = of.reach (1 + nat_abs m) (λ i h. at_bound (λ c. nat_abs c.most ≤ 1 + nat_abs m) i h are.small) in omega (arith, s, near, w);
  }
    where
      one_is : (n : ℕ) → pos n ≡ pos 1 → n ≡ 1
      one_is n e = omega (arith, ints)

-- zeros are residues modulo one
zero_at : (k n i : ℕ) → get_or (take n (replicate k (pos 0))) i (pos 0) ≡ pos 0
zero_at zero zero i = refl
zero_at zero (suc n) i = refl
zero_at (suc k) zero i = refl
zero_at (suc k) (suc n) zero = refl
zero_at (suc k) (suc n) (suc i) = zero_at k n i

pub zeros_modulo_one : (n p : ℕ) → IsResidue 1 (node (take n (replicate 8 (pos 0))) p)
zeros_modulo_one n zero = record { low = omega (arith, ints); high = omega (arith, ints) }
zeros_modulo_one n (suc p) = let e = zero_at 8 n p in record { low = omega (arith, ints, e); high = omega (arith, ints, e) }

-- what an answer says, in other words
pub none_map : {X : Type 0} (o : Option X) (P Q : Type 0) → (P → Q) → IfNone o P → IfNone o Q
none_map None P Q f h = f h
none_map (Some x) P Q f h = tt

pub some_map : {X : Type 0} (o : Option X) (P Q : X → Type 0) → ((x : X) → P x → Q x) → IfSome o P → IfSome o Q
some_map None P Q f h = tt
some_map (Some x) P Q f h = f x h

-- the residue of a point that is shifted, from those of its offset and of the shift
pub shift_to : (c p k a b r : ℤ) → Divides k (c -ℤ a) → Divides k (p -ℤ b) → (r ≡ a -ℤ b) ⊎ (r ≡ (a -ℤ b) +ℤ k) → (x : ℤ) → Divides k (x -ℤ r) → Divides k ((x +ℤ p) -ℤ c)
shift_to c p k a b r da db e x h = elim e [
  | inl f ↦ Divides-is k _ _ (omega (arith, ints)) (Divides-+ k _ _ h (Divides-- k _ _ db da))
  | inr f ↦ Divides-is k _ _ (omega (arith, ints)) (Divides-+ k _ _ (Divides-+ k _ _ h (Divides-self k)) (Divides-- k _ _ db da))
]

pub shift_from : (c p k a b r : ℤ) → Divides k (c -ℤ a) → Divides k (p -ℤ b) → (r ≡ a -ℤ b) ⊎ (r ≡ (a -ℤ b) +ℤ k) → (x : ℤ) → Divides k ((x +ℤ p) -ℤ c) → Divides k (x -ℤ r)
shift_from c p k a b r da db e x h = elim e [
  | inl f ↦ Divides-is k _ _ (omega (arith, ints)) (Divides-- k _ _ h (Divides-- k _ _ db da))
  | inr f ↦ Divides-is k _ _ (omega (arith, ints)) (Divides-- k _ _ (Divides-- k _ _ h (Divides-- k _ _ db da)) (Divides-self k))
]

-- a remainder as it comes
pub rem_fact : (z d k r o : ℤ) → r ≡ int_rem_euclid z d → z ≡ o → d ≡ k → pos 1 ≤ℤ k → Divides k (o -ℤ r) × (pos 0 ≤ℤ r) × (r <ℤ k)
rem_fact z d k r o e f g low =
    let h : r ≡ int_rem_euclid o k = subst (λ y. r ≡ int_rem_euclid y k) f (subst (λ y. r ≡ int_rem_euclid z y) g e) in
    let b = rem_between k o r low h in
    (rem_divides k o r low h, b.0, b.1)

-- numbers as they are passed
wide_is : (m : ℤ) → neg_ℤ (pos (2 ^ 63)) ≤ℤ m → m <ℤ pos (2 ^ 63) → to_z w64 (of_z w64 m) ≡ m
wide_is m low high = omega (arith, ints)

module _ (a b k : ℤ) (al : pos 0 ≤ℤ a) (ah : a <ℤ k) (bl : pos 0 ≤ℤ b) (bh : b <ℤ k) (high : k ≤ℤ pos (2 ^ 62)) where
  pub less_is : to_z w64 (of_z w64 (to_z w64 (of_z w64 a) -ℤ to_z w64 (of_z w64 b))) ≡ a -ℤ b
  less_is = ap (λ x. to_z w64 (of_z w64 (x -ℤ to_z w64 (of_z w64 b)))) (wide_is a (omega (arith, ints)) (omega (arith, ints))) ∙ ap (λ y. to_z w64 (of_z w64 (a -ℤ y))) (wide_is b (omega (arith, ints)) (omega (arith, ints))) ∙ wide_is (a -ℤ b) (omega (arith, ints)) (omega (arith, ints))

  pub more_is : to_z w64 (of_z w64 (to_z w64 (of_z w64 (to_z w64 (of_z w64 a) -ℤ to_z w64 (of_z w64 b))) +ℤ to_z w64 (of_z w64 k))) ≡ (a -ℤ b) +ℤ k
  more_is = ap (λ x. to_z w64 (of_z w64 (x +ℤ to_z w64 (of_z w64 k)))) less_is ∙ ap (λ y. to_z w64 (of_z w64 ((a -ℤ b) +ℤ y))) (wide_is k (omega (arith, ints)) (omega (arith, ints))) ∙ wide_is ((a -ℤ b) +ℤ k) (omega (arith, ints)) (omega (arith, ints))
