-- Two lists put together entry by entry.
use Rattle.std.proofs.Common.{◌≡◌, ◌⊎◌, inl, inr, ℕ, zero, suc, ◌+◌, ◌<◌, ◌≤◌, List, [], ◌∷◌, ◌++◌, length, take, Some, Ordering, Less, Equal, Greater, Contains, arith, refl, sym, ap, ap₂, subst, ◌∙◌}
use Rattle.std.specs.Prelude.{slice_get}
use Rattle.std.specs.List.{AllByRecursion}
use Rattle.std.specs.Cmp.Lexicographic.{slice_cmp}
use Rattle.std.specs.FinMap.{int_cmp-IsAntisymmetric, nat_cmp-IsAntisymmetric, slice_cmp-IsAntisymmetric}
use Rattle.std.specs.Ordering.{int_cmp, nat_cmp, ordering_then}
use Rattle.std.proofs.lemmas.List.Elements.{Contains-append_cases, Contains-append_left, Contains-append_right}
use Rattle.std.proofs.lemmas.Option.{slice_get_within}
use Rattle.lrp_model.specs.Pairs.{AllPairsByRecursion}
use Rattle.lrp_model.specs.declared.tuples.Spot.{Spot}
use Rattle.lrp_model.proofs.Ascending.{all_at}
use Rattle.lrp_model.proofs.Decided.{contains_first, contains_none, cons_cases}
use Rattle.lrp_store.proofs.Held.{Contains-from_get}
use Rattle.lrp_answers.specs.Cursors.{spot_cmp}
use Rattle.lrp_answers.specs.Merging.{AreMergedLists, IsEarlierSpot, IsNextOf, IsTakenFrom}
use Rattle.lrp_answers.proofs.Orders.{less_equal, turned_back}
use Rattle.lrp_answers.proofs.HeapLaws.{spots_total}
use Rattle.lrp_answers.proofs.Given.{length_more}

-- ---- lists

same_entry : {X : Type 0} (x y : X) → Some x ≡ Some y → x ≡ y
same_entry x y e = cc

-- what holds of each member holds of all
pub all_by : {X : Type 0} (P : X → Type 0) (xs : List X) → ((x : X) → Contains xs x → P x) → AllByRecursion P xs
all_by P [] f = tt
all_by P (x ∷ xs) f = (f x (contains_first x xs), all_by P xs (λ y c. f y (later y c)))
  where
    later : (y : _) → Contains xs y → Contains (x ∷ xs) y
    later y c = (suc c.0, omega (arith, c.1), c.2)

-- one entry more at the end of a front
pub front_more : {X : Type 0} (xs : List X) (n : ℕ) (x : X) → slice_get xs n ≡ Some x → take (suc n) xs ≡ take n xs ++ x ∷ []
front_more [] n x e = cc
front_more (y ∷ ys) zero x e = ap (λ z. z ∷ []) (same_entry y x e)
front_more (y ∷ ys) (suc n) x e = ap (λ zs. y ∷ zs) (front_more ys n x e)

-- an entry that is there
pub entry : {X : Type 0} (xs : List X) (n : ℕ) → n < length xs → (x : X) × (slice_get xs n ≡ Some x)
entry [] n l = absurd (omega arith)
entry (y ∷ ys) zero l = (y, refl)
entry (y ∷ ys) (suc n) l = entry ys n (omega arith)

module _ {K : Type 0} (Earlier : K → K → Type 0) (trans : (x y z : K) → Earlier x y → Earlier y z → Earlier x z) where
  -- of a list in order each entry comes before the later ones
  pub rises_at : (xs : List K) → AllPairsByRecursion Earlier xs → (m n : ℕ) (x y : K) → m < n → slice_get xs m ≡ Some x → slice_get xs n ≡ Some y → Earlier x y
  rises_at [] h m n x y l e f = cc
  rises_at (z ∷ zs) h m zero x y l e f = absurd (omega arith)
  rises_at (z ∷ zs) h zero (suc n) x y l e f = subst (λ w. Earlier w y) (same_entry z x e) (all_at (Earlier z) zs y h.0 (Contains-from_get zs n y f))
  rises_at (z ∷ zs) h (suc m) (suc n) x y l e f = rises_at zs h.1 m n x y (omega arith) e f

  -- an entry after all others
  pub rises_more : (xs : List K) (x : K) → AllPairsByRecursion Earlier xs → ((y : K) → Contains xs y → Earlier y x) → AllPairsByRecursion Earlier (xs ++ x ∷ [])
  rises_more [] x h f = (tt, tt)
  rises_more (z ∷ zs) x h f = (each z zs h.0 (f z (contains_first z zs)), rises_more zs x h.1 (λ y c. f y (suc c.0, omega (arith, c.1), c.2)))
    where
      each : (z : K) (ys : List K) → AllByRecursion (Earlier z) ys → Earlier z x → AllByRecursion (Earlier z) (ys ++ x ∷ [])
      each z [] g k = (k, tt)
      each z (y ∷ ys) g k = (g.0, each z ys g.1 k)

  -- ---- one entry more

  module _ (own : List K) (rises : AllPairsByRecursion Earlier own) (i : ℕ) (made : List K) (is : IsTakenFrom Earlier own i made) (x : K) where
    longer : length (made ++ x ∷ []) ≡ length made + 1
    longer = length_more made x

    -- it is the list's own
    own_taken : slice_get own i ≡ Some x → IsTakenFrom Earlier own (suc i) (made ++ x ∷ [])
    own_taken e = record {
      low = (let l : i < length own = slice_get_within own i x e in omega arith);
      few = (let l : i ≤ length made = is.few in let m : length (made ++ x ∷ []) ≡ length made + 1 = longer in omega arith);
      taken = λ k y l f. taken k y f (by k l);
      later = λ k y z l f c. later k y z (omega arith) f (Contains-append_cases made (x ∷ []) z c) (omega arith);
      alone = λ l.
          let few : i ≤ length made = is.few in
          let m : length (made ++ x ∷ []) ≡ length made + 1 = longer in
          ap (λ zs. zs ++ x ∷ []) (is.alone (omega arith)) ∙ sym (front_more own i x e);
    }
      where
        by : (k : ℕ) → k < suc i → (k < i) ⊎ (k ≡ i)
        by k l = grind arith

        taken : (k : ℕ) (y : K) → slice_get own k ≡ Some y → (k < i) ⊎ (k ≡ i) → Contains (made ++ x ∷ []) y
        taken k y f (inl l) = Contains-append_left made (x ∷ []) y (is.taken k y l f)
        taken k y f (inr s) = Contains-append_right made (x ∷ []) y (subst (λ z. Contains (x ∷ []) z) (same_entry x y (sym e ∙ ap (λ n. slice_get own n) (sym s) ∙ f)) (contains_first x []))

        later : (k : ℕ) (y z : K) → i ≤ k → slice_get own k ≡ Some y → Contains made z ⊎ Contains (x ∷ []) z → i < k → Earlier z y
        later k y z l f (inl c) m = is.later k y z l f c
        later k y z l f (inr c) m = only (cons_cases x z [] c)
          where
            only : (x ≡ z) ⊎ Contains [] z → Earlier z y
            only (inl s) = subst (λ w. Earlier w y) s (rises_at own rises i k x y m e f)
            only (inr n) = absurd (contains_none z n)

    -- or it comes before the list's next one
    other_taken : ((y : K) → slice_get own i ≡ Some y → Earlier x y) → IsTakenFrom Earlier own i (made ++ x ∷ [])
    other_taken before = record {
      low = is.low;
      few = (let l : i ≤ length made = is.few in let m : length (made ++ x ∷ []) ≡ length made + 1 = longer in omega arith);
      taken = λ k y l f. Contains-append_left made (x ∷ []) y (is.taken k y l f);
      later = λ k y z l f c. later k y z l f (Contains-append_cases made (x ∷ []) z c);
      alone = λ l. absurd (let few : i ≤ length made = is.few in let m : length (made ++ x ∷ []) ≡ length made + 1 = longer in omega arith);
    }
      where
        ahead : (k : ℕ) (y : K) → slice_get own k ≡ Some y → (i < k) ⊎ (k ≡ i) → Earlier x y
        ahead k y f (inl l) =
            let n = entry own i (let w : k < length own = slice_get_within own k y f in omega arith) in
            trans x n.0 y (before n.0 n.1) (rises_at own rises i k n.0 y l n.1 f)
        ahead k y f (inr s) = before y (ap (λ n. slice_get own n) (sym s) ∙ f)

        by : (k : ℕ) → i ≤ k → (i < k) ⊎ (k ≡ i)
        by k l = grind arith

        later : (k : ℕ) (y z : K) → i ≤ k → slice_get own k ≡ Some y → Contains made z ⊎ Contains (x ∷ []) z → Earlier z y
        later k y z l f (inl c) = is.later k y z l f c
        later k y z l f (inr c) = only (cons_cases x z [] c)
          where
            only : (x ≡ z) ⊎ Contains [] z → Earlier z y
            only (inl s) = subst (λ w. Earlier w y) s (ahead k y f (by k l))
            only (inr n) = absurd (contains_none z n)

    one_taken : (after : ℕ) → IsNextOf Earlier own i x after → IsTakenFrom Earlier own after (made ++ x ∷ [])
    one_taken after (inl h) = subst (λ n. IsTakenFrom Earlier own n (made ++ x ∷ [])) (let e : suc i ≡ after = (let f : after ≡ i + 1 = h.0 in omega arith) in e) (own_taken h.1)
    one_taken after (inr h) = subst (λ n. IsTakenFrom Earlier own n (made ++ x ∷ [])) (sym h.0) (other_taken h.1)

  -- of both lists
  pub merged_more : (left right : List K) → AllPairsByRecursion Earlier left → AllPairsByRecursion Earlier right → (i j : ℕ) (made : List K) → AreMergedLists Earlier left right i j made → (x : K) (m n : ℕ)
      → IsNextOf Earlier left i x m → IsNextOf Earlier right j x n → (slice_get left i ≡ Some x) ⊎ (slice_get right j ≡ Some x) → AreMergedLists Earlier left right m n (made ++ x ∷ [])
  merged_more left right lefts rights i j made is x m n a b here = record {
    rises = rises_more made x is.rises (last here);
    from = λ y c. from y (Contains-append_cases made (x ∷ []) y c);
    lefts = one_taken left lefts i made is.lefts x m a;
    rights = one_taken right rights j made is.rights x n b;
  }
    where
      last : (slice_get left i ≡ Some x) ⊎ (slice_get right j ≡ Some x) → (y : K) → Contains made y → Earlier y x
      last (inl e) y c = is.lefts.later i x y (omega arith) e c
      last (inr e) y c = is.rights.later j x y (omega arith) e c

      at : (slice_get left i ≡ Some x) ⊎ (slice_get right j ≡ Some x) → Contains left x ⊎ Contains right x
      at (inl e) = inl (Contains-from_get left i x e)
      at (inr e) = inr (Contains-from_get right j x e)

      from : (y : K) → Contains made y ⊎ Contains (x ∷ []) y → Contains left y ⊎ Contains right y
      from y (inl c) = is.from y c
      from y (inr c) = only (cons_cases x y [] c)
        where
          only : (x ≡ y) ⊎ Contains [] y → Contains left y ⊎ Contains right y
          only (inl s) = subst (λ z. Contains left z ⊎ Contains right z) s (at here)
          only (inr k) = absurd (contains_none y k)

  none_taken : (own : List K) → IsTakenFrom Earlier own 0 []
  none_taken own = record { low = omega arith; few = omega arith; taken = λ k x l e. absurd (omega arith); later = λ k x y l e c. absurd (contains_none y c); alone = λ l. refl }

  pub none_merged : (left right : List K) → AreMergedLists Earlier left right 0 0 []
  none_merged left right = record { rises = tt; from = λ x c. absurd (contains_none x c); lefts = none_taken left; rights = none_taken right }

-- ---- spots

pub earlier_trans : (x y z : Spot) → IsEarlierSpot x y → IsEarlierSpot y z → IsEarlierSpot x z
earlier_trans x y z h k = spots_total.trans x y z h k

both_equal : (a b : Ordering) → ordering_then a b ≡ Equal → (a ≡ Equal) × (b ≡ Equal)
both_equal Less b e = absurd (less_equal e)
both_equal Equal b e = (refl, e)
both_equal Greater b e = cc

-- spots that compare equal are one
pub same_spot : (a b : Spot) → spot_cmp a b ≡ Equal → a ≡ b
same_spot a b e =
    let both = both_equal (slice_cmp int_cmp a.times b.times) (slice_cmp nat_cmp a.texts b.texts) e in
    ap₂ (λ xs ns. record { times = xs; texts = ns }) (slice_cmp-IsAntisymmetric int_cmp-IsAntisymmetric a.times b.times both.0) (slice_cmp-IsAntisymmetric nat_cmp-IsAntisymmetric a.texts b.texts both.1)

-- where one compares greater, the other comes before it
pub earlier_turned : (a b : Spot) → spot_cmp a b ≡ Greater → IsEarlierSpot b a
earlier_turned a b e = turned_back spots_total a b e

-- ---- the next spot of a list, by what is read at a place

-- the entry at a place that is read
module _ (own : List Spot) (i : ℕ) (x : Spot) (read : slice_get own i ≡ Some x) where
  -- is the next one
  pub next_own : (after : ℕ) (y : Spot) → after ≡ i + 1 → y ≡ x → IsNextOf IsEarlierSpot own i y after
  next_own after y e s = inl (e, read ∙ ap Some (sym s))

  -- or the next one comes before it
  pub next_other : (y : Spot) → IsEarlierSpot y x → IsNextOf IsEarlierSpot own i y i
  next_other y h = inr (refl, λ z f. subst (λ w. IsEarlierSpot y w) (same_entry x z (sym read ∙ f)) h)

-- a list of which nothing is left has no next one
pub next_none : (own : List Spot) (i : ℕ) (y : Spot) → i ≡ length own → IsNextOf IsEarlierSpot own i y i
next_none own i y e = inr (refl, λ z f. absurd (let l : i < length own = slice_get_within own i z f in omega arith))
