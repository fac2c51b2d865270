-- A stable sort by a key is the ranking of the rules.
use Rattle.std.proofs.Common.{◌≡◌, ℕ, Bool, true, false, cond, nat_le, List, [], ◌∷◌, filter, sym, ap, subst, ◌∙◌}
use Rattle.std.specs.List.{AllZip}
use Rattle.std.specs.List.Sorted.{IsNonDecreasingBy, ties}
use Rattle.std.specs.Ordering.{is_lt, nat_cmp}
use Rattle.lrp_plan.proofs.Ranks.{put_key, by_rank, sorted_by_rank}
use Rattle.lrp_plan_laws.specs.GuardedConjunctions.{put_by as put_into, ranked_by}

module _ {X Y : Type 0} (key : X → ℕ) (count : Y → ℕ) (R S : X → Y → Type 0) (keyed : (x : X) (y : Y) → R x y → key x ≡ count y) (looser : (x : X) (y : Y) → R x y → S x y) where
  zip_by : (b : Bool) (x u : X) (y v : Y) (xs us : List X) (ys vs : List Y) → R x y → R u v → AllZip R xs ys → AllZip R us vs → AllZip R (cond b (x ∷ u ∷ xs) (u ∷ us)) (cond b (y ∷ v ∷ ys) (v ∷ vs))
  zip_by true x u y v xs us ys vs h k l m = (h, (k, l))
  zip_by false x u y v xs us ys vs h k l m = (k, m)

  zip_put : (x : X) (y : Y) (xs : List X) (ys : List Y) → R x y → AllZip R xs ys → AllZip R (put_key key x xs) (put_into count y ys)
  zip_put x y [] [] h k = (h, tt)
  zip_put x y [] (v ∷ ys) h k = absurd k
  zip_put x y (u ∷ xs) [] h k = absurd k
  zip_put x y (u ∷ xs) (v ∷ ys) h k =
      subst (λ b. AllZip R (cond (nat_le (key x) (key u)) (x ∷ u ∷ xs) (u ∷ put_key key x xs)) (cond b (y ∷ v ∷ ys) (v ∷ put_into count y ys))) (ap (λ n. nat_le n (key u)) (keyed x y h) ∙ ap (nat_le (count y)) (keyed u v k.0))
      (zip_by (nat_le (key x) (key u)) x u y v xs (put_key key x xs) ys (put_into count y ys) h k.0 k.1 (zip_put x y xs ys h k.1))

  zip_ranked : (xs : List X) (ys : List Y) → AllZip R xs ys → AllZip R (by_rank key xs) (ranked_by count ys)
  zip_ranked [] [] h = tt
  zip_ranked [] (y ∷ ys) h = absurd h
  zip_ranked (x ∷ xs) [] h = absurd h
  zip_ranked (x ∷ xs) (y ∷ ys) h = zip_put x y (by_rank key xs) (ranked_by count ys) h.0 (zip_ranked xs ys h.1)

  zip_looser : (xs : List X) (ys : List Y) → AllZip R xs ys → AllZip S xs ys
  zip_looser [] [] h = tt
  zip_looser [] (y ∷ ys) h = absurd h
  zip_looser (x ∷ xs) [] h = absurd h
  zip_looser (x ∷ xs) (y ∷ ys) h = (looser x y h.0, zip_looser xs ys h.1)

  -- a stable sort by the key
  pub sorted_ranks : (xs zs : List X) (ys : List Y) → AllZip R xs ys → IsNonDecreasingBy key zs → ((x : X) → filter (ties (λ a b. is_lt (nat_cmp (key a) (key b))) x) zs ≡ filter (ties (λ a b. is_lt (nat_cmp (key a) (key b))) x) xs) → AllZip S zs (ranked_by count ys)
  sorted_ranks xs zs ys h r s =
      let e : zs ≡ by_rank key xs = sorted_by_rank key xs zs r s in
      subst (λ l. AllZip S l (ranked_by count ys)) (sym e) (zip_looser (by_rank key xs) (ranked_by count ys) (zip_ranked xs ys h))
