-- No more cursors stand at a spot than the answer has zones.
use Rattle.std.proofs.Common.{◌≡◌, ℕ, zero, suc, ◌+◌, ◌<◌, ◌≤◌, inl, inr, List, [], ◌∷◌, length, map, take, get_or, Option, Some, Bool, true, false, cond, arith, refl, sym, ap, ap₂, subst, ◌∙◌, Contains, All, unwrap_or}
use Rattle.std.specs.Prelude.{◌&&◌, ◌==◌, nat_lt, sum_by, count_by}
use Rattle.std.specs.FinMap as finite
use Rattle.std.specs.FinMap.{entries, get-entries, find}
use Rattle.std.specs.Ordering.{is_eq, eq_by_cmp}
use Rattle.std.proofs.lemmas.Bool.Decides.{nat_tests}
use Rattle.std.proofs.lemmas.Cmp.{tied_itself}
use Rattle.std.proofs.lemmas.List.Elements.{All-head, All-tail}
use Rattle.std.proofs.lemmas.List.Sums.{sum_by-cons}
use Rattle.lrp_model.specs.Rows.{Tuple}
use Rattle.lrp_model.specs.declared.tuples.Cell.{Cell}
use Rattle.lrp_model.specs.declared.tuples.Spot.{Spot}
use Rattle.lrp_model.proofs.Decided.{cons_cases, contains_first, contains_later}
use Rattle.lrp_slots.specs.Lists.{cell_cmp}
use Rattle.lrp_slots.proofs.Tables.{cells_total, same_cell}
use Rattle.lrp_store.specs.Stores.{tables_at}
use Rattle.lrp_store.proofs.Aligning.{key_of}
use Rattle.lrp_store.proofs.Held.{Contains-from_get}
use Rattle.lrp_answers.specs.Cursors.{cell_of, is_in, cursors_in, stands_at, standing_at}
use Rattle.lrp_answers.specs.Listing.{WindowView, AreCursors}
use Rattle.lrp_answers.specs.Progress.{ComeOnce}
use Rattle.lrp_answers.specs.declared.cursor.Cursor.{Cursor}
use Rattle.lrp_answers.proofs.Filling.{cells_apart, below}

-- 1 where the test holds
abbrev one_of : Bool → ℕ
one_of b = cond b 1 0

-- ---- counts

one_low : (b : Bool) → one_of b ≤ 1
one_low true = omega arith
one_low false = omega arith

module _ {X : Type 0} where
  pub count_low : (p : X → Bool) (xs : List X) → count_by p xs ≤ length xs
  count_low p [] = omega arith
  count_low p (x ∷ xs) =
      let s : count_by p (x ∷ xs) ≡ one_of (p x) + count_by p xs = sum_by-cons (λ y. cond (p y) 1 0) x xs in
      let o : one_of (p x) ≤ 1 = one_low (p x) in
      let r : count_by p xs ≤ length xs = count_low p xs in
      omega arith

  count_both : (p q r : X → Bool) → ((x : X) → one_of (p x) ≡ one_of (q x) + one_of (r x)) → (xs : List X) → count_by p xs ≡ count_by q xs + count_by r xs
  count_both p q r f [] = refl
  count_both p q r f (x ∷ xs) =
      let a : count_by p (x ∷ xs) ≡ one_of (p x) + count_by p xs = sum_by-cons (λ y. cond (p y) 1 0) x xs in
      let b : count_by q (x ∷ xs) ≡ one_of (q x) + count_by q xs = sum_by-cons (λ y. cond (q y) 1 0) x xs in
      let c : count_by r (x ∷ xs) ≡ one_of (r x) + count_by r xs = sum_by-cons (λ y. cond (r y) 1 0) x xs in
      let d : one_of (p x) ≡ one_of (q x) + one_of (r x) = f x in
      let e : count_by p xs ≡ count_by q xs + count_by r xs = count_both p q r f xs in
      omega arith

  count_as : (p q : X → Bool) (xs : List X) → All (λ x. p x ≡ q x) xs → count_by p xs ≡ count_by q xs
  count_as p q [] h = refl
  count_as p q (x ∷ xs) h = sum_by-cons (λ y. cond (p y) 1 0) x xs ∙ ap₂ (λ m n. m + n) (ap one_of (All-head (λ y. p y ≡ q y) x xs h)) (count_as p q xs (All-tail (λ y. p y ≡ q y) x xs h)) ∙ sym (sum_by-cons (λ y. cond (q y) 1 0) x xs)

  count_none : (p : X → Bool) → ((x : X) → p x ≡ false) → (xs : List X) → count_by p xs ≡ 0
  count_none p f [] = refl
  count_none p f (x ∷ xs) = sum_by-cons (λ y. cond (p y) 1 0) x xs ∙ ap₂ (λ m n. m + n) (ap one_of (f x)) (count_none p f xs)

  sum_upto : (f g : X → ℕ) → ((x : X) → f x ≤ g x) → (xs : List X) → sum_by f xs ≤ sum_by g xs
  sum_upto f g h [] = omega arith
  sum_upto f g h (x ∷ xs) =
      let a : sum_by f (x ∷ xs) ≡ f x + sum_by f xs = sum_by-cons f x xs in
      let b : sum_by g (x ∷ xs) ≡ g x + sum_by g xs = sum_by-cons g x xs in
      let c : f x ≤ g x = h x in
      let d : sum_by f xs ≤ sum_by g xs = sum_upto f g h xs in
      omega arith

  sum_both : (f g : X → ℕ) (xs : List X) → sum_by (λ x. f x + g x) xs ≡ sum_by f xs + sum_by g xs
  sum_both f g [] = refl
  sum_both f g (x ∷ xs) =
      let a : sum_by (λ y. f y + g y) (x ∷ xs) ≡ (f x + g x) + sum_by (λ y. f y + g y) xs = sum_by-cons (λ y. f y + g y) x xs in
      let b : sum_by f (x ∷ xs) ≡ f x + sum_by f xs = sum_by-cons f x xs in
      let c : sum_by g (x ∷ xs) ≡ g x + sum_by g xs = sum_by-cons g x xs in
      let d : sum_by (λ y. f y + g y) xs ≡ sum_by f xs + sum_by g xs = sum_both f g xs in
      omega arith

  -- one of them is at least one
  sum_some : (f : X → ℕ) (xs : List X) (x : X) → Contains xs x → 1 ≤ f x → 1 ≤ sum_by f xs
  sum_some f [] x c h = let l : c.0 < 0 = c.1 in absurd (omega arith)
  sum_some f (y ∷ ys) x c h =
      let s : sum_by f (y ∷ ys) ≡ f y + sum_by f ys = sum_by-cons f y ys in
      elim (cons_cases y x ys c) [
        | inl e ↦ let k : 1 ≤ f y = subst (λ z. 1 ≤ f z) (sym e) h in omega arith
        | inr r ↦ let k : 1 ≤ sum_by f ys = sum_some f ys x r h in omega arith
      ]

-- ---- cursors of one cell

abbrev in_cell : Cell → Cursor → Bool
in_cell k c = is_eq (cell_cmp (cell_of c) k)

abbrev in_first : Cell → ℕ → Cursor → Bool
in_first k n c = in_cell k c && nat_lt c.zone n

split_at : (b : Bool) (z n : ℕ) → one_of (b && nat_lt z (suc n)) ≡ one_of (b && nat_lt z n) + one_of (b && (z == n))
split_at false z n = refl
split_at true z n = grind (arith, nat_tests)

none_first : (b : Bool) (z : ℕ) → (b && nat_lt z 0) ≡ false
none_first false z = refl
none_first true z = grind (arith, nat_tests)

-- at most one for each of the first n zones
first_few : (k : Cell) (cursors : List Cursor) → ((i : ℕ) → cursors_in k i cursors ≤ 1) → (n : ℕ) → count_by (in_first k n) cursors ≤ n
first_few k cursors once zero = let e : count_by (in_first k 0) cursors ≡ 0 = count_none (in_first k 0) (λ c. none_first (in_cell k c) c.zone) cursors in omega arith
first_few k cursors once (suc n) =
    let e : count_by (in_first k (suc n)) cursors ≡ count_by (in_first k n) cursors + cursors_in k n cursors = count_both (in_first k (suc n)) (in_first k n) (is_in k n) (λ c. split_at (in_cell k c) c.zone n) cursors in
    let o : cursors_in k n cursors ≤ 1 = once n in
    let r : count_by (in_first k n) cursors ≤ n = first_few k cursors once n in
    omega arith

within : (b : Bool) (z n : ℕ) → (b ≡ true → z < n) → b ≡ (b && nat_lt z n)
within false z n h = refl
within true z n h = let l : z < n = h refl in grind (arith, nat_tests)

-- ---- the zones of a store

members_sum : {X : Type 0} (f g : X → ℕ) (xs : List X) → ((x : X) → Contains xs x → f x ≡ g x) → sum_by f xs ≡ sum_by g xs
members_sum f g [] h = refl
members_sum f g (x ∷ xs) h = sum_by-cons f x xs ∙ ap₂ (λ m n. m + n) (h x (contains_first x xs)) (members_sum f g xs (λ y c. h y (contains_later x y xs c))) ∙ sym (sum_by-cons g x xs)

module _ {V : Type 0} where
  abbrev size_in : List (Cell × List V) → Cell → ℕ
  size_in es k = length (unwrap_or (find cell_cmp k es) [])

  elsewhere : (e : Cell × List V) (es : List (Cell × List V)) (k : Cell) → Contains (map (λ f. f.0) es) k → (Contains (map (λ f. f.0) es) e.0 → ⊥) → size_in (e ∷ es) k ≡ size_in es k
  elsewhere e es k c apart = by (eq_by_cmp cell_cmp k e.0) refl
    where
      by : (b : Bool) → eq_by_cmp cell_cmp k e.0 ≡ b → length (unwrap_or (cond (eq_by_cmp cell_cmp k e.0) (Some e.1) (find cell_cmp k es)) []) ≡ size_in es k
      by true t = absurd (apart (subst (Contains (map (λ f. f.0) es)) (same_cell k e.0 t) c))
      by false t = ap (λ b. length (unwrap_or (cond b (Some e.1) (find cell_cmp k es)) [])) t

  sizes : (es : List (Cell × List V)) → ComeOnce (map (λ f. f.0) es) → sum_by (size_in es) (map (λ f. f.0) es) ≡ sum_by (λ vs. length vs) (map (λ f. f.1) es)
  sizes [] apart = refl
  sizes (e ∷ es) apart =
      sum_by-cons (size_in (e ∷ es)) e.0 (map (λ f. f.0) es)
      ∙ ap₂ (λ m n. m + n) (ap (λ b. length (unwrap_or (cond b (Some e.1) (find cell_cmp e.0 es)) [])) (ap is_eq (tied_itself cells_total e.0)))
      (members_sum (size_in (e ∷ es)) (size_in es) (map (λ f. f.0) es) (λ k c. elsewhere e es k c apart.0) ∙ sizes es apart.1)
      ∙ sym (sum_by-cons (λ vs. length vs) e.1 (map (λ f. f.1) es))

-- ---- all of them

module _ (w : WindowView) (p : Option Tuple) (cursors : List Cursor) (are : AreCursors w p cursors) where
  in_one : (k : Cell) → count_by (in_cell k) cursors ≤ length (tables_at w.store k)
  in_one k =
      let n = length (tables_at w.store k) in
      let e : count_by (in_cell k) cursors ≡ count_by (in_first k n) cursors = count_as (in_cell k) (in_first k n) cursors (λ j d l. let c = get_or cursors j d in within (in_cell k c) c.zone n (λ t.
      let z = (are.each j d l).inside in
      subst (λ q. c.zone < length (tables_at w.store q)) (same_cell (cell_of c) k t) (below (tables_at w.store (cell_of c)) c.zone z.table z.place))) in
      let f : count_by (in_first k n) cursors ≤ n = first_few k cursors (are.once k) n in
      omega arith

  -- each cursor is counted at its cell
  total : (ks : List Cell) (cs : List Cursor) → All (λ c. Contains ks (cell_of c)) cs → length cs ≤ sum_by (λ k. count_by (in_cell k) cs) ks
  total ks [] h = omega arith
  total ks (c ∷ cs) h =
      let e : sum_by (λ k. count_by (in_cell k) (c ∷ cs)) ks ≡ sum_by (λ k. one_of (in_cell k c) + count_by (in_cell k) cs) ks = members_sum (λ k. count_by (in_cell k) (c ∷ cs)) (λ k. one_of (in_cell k c) + count_by (in_cell k) cs) ks (λ k m. sum_by-cons (λ d. cond (in_cell k d) 1 0) c cs) in
      let f : sum_by (λ k. one_of (in_cell k c) + count_by (in_cell k) cs) ks ≡ sum_by (λ k. one_of (in_cell k c)) ks + sum_by (λ k. count_by (in_cell k) cs) ks = sum_both (λ k. one_of (in_cell k c)) (λ k. count_by (in_cell k) cs) ks in
      let own : 1 ≤ one_of (in_cell (cell_of c) c) = subst (λ b. 1 ≤ one_of b) (sym (ap is_eq (tied_itself cells_total (cell_of c)))) (omega arith) in
      let g : 1 ≤ sum_by (λ k. one_of (in_cell k c)) ks = sum_some (λ k. one_of (in_cell k c)) ks (cell_of c) (All-head (λ d. Contains ks (cell_of d)) c cs h) own in
      let r : length cs ≤ sum_by (λ k. count_by (in_cell k) cs) ks = total ks cs (All-tail (λ d. Contains ks (cell_of d)) c cs h) in
      omega arith

  pub few : (spot : Spot) → standing_at spot cursors ≤ sum_by (λ tables. length tables) (finite.values w.store.tables)
  few spot =
      let ks = finite.keys w.store.tables in
      let keyed = λ (j : ℕ) (d : Cursor) (l : j < length cursors). let c = get_or cursors j d in let z = (are.each j d l).inside in
      key_of w.store _ (take w.store.shape.texts c.texts) (record { cell = cell_of c; table = z.table; held = Contains-from_get (tables_at w.store (cell_of c)) c.zone z.table z.place; named = refl; inside = z.times }) in
      let a : standing_at spot cursors ≤ length cursors = count_low (stands_at spot) cursors in
      let b : length cursors ≤ sum_by (λ k. count_by (in_cell k) cursors) ks = total ks cursors keyed in
      let c : sum_by (λ k. count_by (in_cell k) cursors) ks ≤ sum_by (λ k. length (tables_at w.store k)) ks = sum_upto (λ k. count_by (in_cell k) cursors) (λ k. length (tables_at w.store k)) in_one ks in
      let d : sum_by (λ k. length (tables_at w.store k)) ks ≡ sum_by (size_in (entries w.store.tables)) ks = members_sum (λ k. length (tables_at w.store k)) (size_in (entries w.store.tables)) ks (λ k m. ap (λ o. length (unwrap_or o [])) (get-entries w.store.tables k)) in
      let e : sum_by (size_in (entries w.store.tables)) ks ≡ sum_by (λ tables. length tables) (finite.values w.store.tables) = sizes (entries w.store.tables) (cells_apart w.store) in
      omega arith
