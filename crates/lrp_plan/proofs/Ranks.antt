-- A stable sort by a key is the one list in which each element is put in its place after another.
use Rattle.std.proofs.Common.{◌≡◌, ◌<◌, ◌≤◌, ℕ, suc, Bool, true, false, cond, not, ◌&&◌, nat_le, nat_lt, ◌==◌, List, [], ◌∷◌, length, filter, refl, sym, ap, subst, ◌∙◌, arith}
use Rattle.std.specs.List.{AllByRecursion}
use Rattle.std.specs.List.Sorted.{IsNonDecreasingBy, ties}
use Rattle.std.specs.Ordering.{is_lt, nat_cmp}
use Rattle.std.specs.declared.cmp.Ordering.TheVariants.{Less, Equal, Greater}
use Rattle.std.proofs.lemmas.List.Elements.{recursion_from_All}
use Rattle.std.proofs.lemmas.Bool.{ltb-true, ltb-false, leb-true, leb-false}

-- ---- tests of numbers

lt_false_by : (b : Bool) (a c : ℕ) → nat_lt a c ≡ b → (a < c → ⊥) → b ≡ false
lt_false_by true a c e h = absurd (h (ltb-true a c e))
lt_false_by false a c e h = refl

lt_false : (a c : ℕ) → c ≤ a → nat_lt a c ≡ false
lt_false a c le = lt_false_by (nat_lt a c) a c refl (λ lt. omega arith)

is_less_by : (b c : Bool) → is_lt (cond b Less (cond c Equal Greater)) ≡ b
is_less_by true c = refl
is_less_by false true = refl
is_less_by false false = refl

is_less : (a b : ℕ) → is_lt (nat_cmp a b) ≡ nat_lt a b
is_less a b = is_less_by (nat_lt a b) (a == b)

both_by : (a b : Bool) → (not a && not b) ≡ true → (a ≡ false) × (b ≡ false)
both_by true b e = cc
both_by false true e = cc
both_by false false e = (refl, refl)

not_less : (a b : ℕ) → nat_lt a b ≡ false → b ≤ a
not_less a b e = ltb-false a b e

module _ {X : Type 0} (key : X → ℕ) where
  -- ---- elements that tie

  abbrev less : X → X → Bool
  less x y = is_lt (nat_cmp (key x) (key y))

  abbrev tie : X → X → Bool
  tie = ties less

  tie_same : (x y : X) → (key x) ≡ (key y) → tie x y ≡ true
  tie_same x y e =
      let a : less x y ≡ false = is_less (key x) (key y) ∙ lt_false (key x) (key y) (omega arith) in
      let b : less y x ≡ false = is_less (key y) (key x) ∙ lt_false (key y) (key x) (omega arith) in
      ap (λ u. not u && not (less y x)) a ∙ ap not b

  tie_is : (x y : X) → tie x y ≡ true → (key x) ≡ (key y)
  tie_is x y e =
      let h = both_by (less x y) (less y x) e in
      let p : (key y) ≤ (key x) = not_less (key x) (key y) (sym (is_less (key x) (key y)) ∙ h.0) in
      let q : (key x) ≤ (key y) = not_less (key y) (key x) (sym (is_less (key y) (key x)) ∙ h.1) in
      omega arith

  -- ---- lists by rank

  abbrev Rises : List X → Type 0
  Rises [] = Unit {0}
  Rises (y ∷ ys) = AllByRecursion (λ z. (key y) ≤ (key z)) ys × Rises ys

  rises_from : (xs : List X) → IsNonDecreasingBy key xs → Rises xs
  rises_from [] h = tt
  rises_from (x ∷ xs) h = (recursion_from_All (λ (z : X). (key x) ≤ (key z)) xs (λ k d lt. h 0 (suc k) d (omega arith) (omega arith)), rises_from xs (λ i j d le lt. h (suc i) (suc j) d (omega arith) (omega arith)))

  has_by : (P : X → Type 0) (b : Bool) (x y : X) (F rest : List X) → cond b (x ∷ F) F ≡ y ∷ rest → P x → (F ≡ y ∷ rest → P y) → P y
  has_by P true x y F rest e h ih = let d : x ≡ y = cc in subst P d h
  has_by P false x y F rest e h ih = ih e

  filter_has : (P : X → Type 0) (p : X → Bool) (xs : List X) (y : X) (rest : List X) → filter p xs ≡ y ∷ rest → AllByRecursion P xs → P y
  filter_has P p [] y rest e h = cc
  filter_has P p (x ∷ xs) y rest e h = has_by P (p x) x y (filter p xs) rest e h.0 (λ k. filter_has P p xs y rest k h.1)

  drop_cond : (b c : Bool) (y z : X) (F G : List X) → b ≡ c → cond b (y ∷ F) F ≡ cond c (z ∷ G) G → F ≡ G
  drop_cond true true y z F G s e = cc
  drop_cond false false y z F G s e = e
  drop_cond true false y z F G s e = cc
  drop_cond false true y z F G s e = cc

  unique : (ys zs : List X) → Rises ys → Rises zs → ((x : X) → filter (tie x) ys ≡ filter (tie x) zs) → ys ≡ zs
  unique [] [] r s h = refl
  unique [] (z ∷ zs) r s h = let e : [] ≡ z ∷ filter (tie z) zs = h z ∙ ap (λ b. cond b (z ∷ filter (tie z) zs) (filter (tie z) zs)) (tie_same z z refl) in cc
  unique (y ∷ ys) [] r s h = let e : y ∷ filter (tie y) ys ≡ [] = sym (ap (λ b. cond b (y ∷ filter (tie y) ys) (filter (tie y) ys)) (tie_same y y refl)) ∙ h y in cc
  unique (y ∷ ys) (z ∷ zs) r s h =
      let hy : y ∷ filter (tie y) ys ≡ filter (tie y) (z ∷ zs) = sym (ap (λ b. cond b (y ∷ filter (tie y) ys) (filter (tie y) ys)) (tie_same y y refl)) ∙ h y in
      let hz : filter (tie z) (y ∷ ys) ≡ z ∷ filter (tie z) zs = h z ∙ ap (λ b. cond b (z ∷ filter (tie z) zs) (filter (tie z) zs)) (tie_same z z refl) in
      let p : (key z) ≤ (key y) = filter_has (λ w. (key z) ≤ (key w)) (tie y) (z ∷ zs) y (filter (tie y) ys) (sym hy) (omega arith, s.0) in
      let q : (key y) ≤ (key z) = filter_has (λ w. (key y) ≤ (key w)) (tie z) (y ∷ ys) z (filter (tie z) zs) hz (omega arith, r.0) in
      let t : tie y z ≡ true = tie_same y z (omega arith) in
      let k : y ∷ filter (tie y) ys ≡ z ∷ filter (tie y) zs = hy ∙ ap (λ b. cond b (z ∷ filter (tie y) zs) (filter (tie y) zs)) t in
      let same : y ≡ z = cc in
      ap (λ w. w ∷ ys) same ∙ ap (λ l. z ∷ l) (unique ys zs r.1 s.1 (λ x. drop_cond (tie x y) (tie x z) y z (filter (tie x) ys) (filter (tie x) zs) (ap (tie x) same) (h x)))

  -- ---- one element put in its place after another

  abbrev pub put_key : X → List X → List X
  put_key e [] = e ∷ []
  put_key e (f ∷ fs) = cond (nat_le (key e) (key f)) (e ∷ f ∷ fs) (f ∷ put_key e fs)

  abbrev pub by_rank : List X → List X
  by_rank [] = []
  by_rank (e ∷ es) = put_key e (by_rank es)

  swapped : (b c : Bool) (e f : X) (F : List X) → (b ≡ true → c ≡ true → ⊥) → cond b (f ∷ cond c (e ∷ F) F) (cond c (e ∷ F) F) ≡ cond c (e ∷ cond b (f ∷ F) F) (cond b (f ∷ F) F)
  swapped true true e f F h = absurd (h refl refl)
  swapped true false e f F h = refl
  swapped false true e f F h = refl
  swapped false false e f F h = refl

  put_at : (x e f : X) (fs : List X) (b : Bool) → nat_le (key e) (key f) ≡ b → filter (tie x) (put_key e fs) ≡ filter (tie x) (e ∷ fs) → filter (tie x) (cond b (e ∷ f ∷ fs) (f ∷ put_key e fs)) ≡ filter (tie x) (e ∷ f ∷ fs)
  put_at x e f fs true h ih = refl
  put_at x e f fs false h ih =
      ap (λ l. cond (tie x f) (f ∷ l) l) ih
      ∙ swapped (tie x f) (tie x e) e f (filter (tie x) fs) (λ a b. let p : (key x) ≡ (key f) = tie_is x f a in let q : (key x) ≡ (key e) = tie_is x e b in let l : (key f) < (key e) = leb-false (key e) (key f) h in omega arith)

  put_filter : (x e : X) (fs : List X) → filter (tie x) (put_key e fs) ≡ filter (tie x) (e ∷ fs)
  put_filter x e [] = refl
  put_filter x e (f ∷ fs) = put_at x e f fs (nat_le (key e) (key f)) refl (put_filter x e fs)

  rank_filter : (x : X) (es : List X) → filter (tie x) (by_rank es) ≡ filter (tie x) es
  rank_filter x [] = refl
  rank_filter x (e ∷ es) = put_filter x e (by_rank es) ∙ ap (λ l. cond (tie x e) (e ∷ l) l) (rank_filter x es)

  all_by : (P : X → Type 0) (b : Bool) (e f : X) (fs gs : List X) → P e → P f → AllByRecursion P fs → AllByRecursion P gs → AllByRecursion P (cond b (e ∷ f ∷ fs) (f ∷ gs))
  all_by P true e f fs gs h k l m = (h, (k, l))
  all_by P false e f fs gs h k l m = (k, m)

  all_put : (P : X → Type 0) (e : X) (fs : List X) → P e → AllByRecursion P fs → AllByRecursion P (put_key e fs)
  all_put P e [] h k = (h, tt)
  all_put P e (f ∷ fs) h k = all_by P (nat_le (key e) (key f)) e f fs (put_key e fs) h k.0 k.1 (all_put P e fs h k.1)

  above : (e f : X) (fs : List X) → (key e) ≤ (key f) → AllByRecursion (λ z. (key f) ≤ (key z)) fs → AllByRecursion (λ z. (key e) ≤ (key z)) fs
  above e f [] le h = tt
  above e f (g ∷ fs) le h = let k : (key f) ≤ (key g) = h.0 in (omega arith, above e f fs le h.1)

  rises_by : (b : Bool) (e f : X) (fs : List X) → nat_le (key e) (key f) ≡ b → Rises (f ∷ fs) → Rises (put_key e fs) → Rises (cond b (e ∷ f ∷ fs) (f ∷ put_key e fs))
  rises_by true e f fs h r k = let le : (key e) ≤ (key f) = leb-true (key e) (key f) h in ((le, above e f fs le r.0), r)
  rises_by false e f fs h r k = (all_put (λ z. (key f) ≤ (key z)) e fs (let lt : (key f) < (key e) = leb-false (key e) (key f) h in omega arith) r.0, k)

  put_rises : (e : X) (fs : List X) → Rises fs → Rises (put_key e fs)
  put_rises e [] r = (tt, tt)
  put_rises e (f ∷ fs) r = rises_by (nat_le (key e) (key f)) e f fs refl r (put_rises e fs r.1)

  rank_rises : (es : List X) → Rises (by_rank es)
  rank_rises [] = tt
  rank_rises (e ∷ es) = put_rises e (by_rank es) (rank_rises es)

  pub sorted_by_rank : (xs zs : List X) → IsNonDecreasingBy key zs → ((x : X) → filter (ties (λ a b. is_lt (nat_cmp (key a) (key b))) x) zs ≡ filter (ties (λ a b. is_lt (nat_cmp (key a) (key b))) x) xs) → zs ≡ by_rank xs
  sorted_by_rank xs zs r s = unique zs (by_rank xs) (rises_from zs r) (rank_rises xs) (λ x. s x ∙ sym (rank_filter x xs))
