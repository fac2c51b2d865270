-- So many cutters leave at most so many pieces.
use Rattle.std.proofs.Common.{◌≡◌, ℕ, zero, suc, ◌+◌, ◌*◌, ◌<◌, ◌≤◌, ◌⊎◌, inl, inr, Bool, true, false, cond, Option, Some, None, List, [], ◌∷◌, ◌++◌, length, map, refl, sym, ap, ◌∙◌, arith, length-append}
use Rattle.std.specs.Prelude.{ℤ, pos, neg_ℤ, ◌-ℤ◌, flat_map, ◌&&◌, ◌==◌}
use Rattle.std.specs.List.{range_with_len, list_any}
use Rattle.std.specs.Ordering.{int_eq}
use Rattle.std.proofs.lemmas.Bool.Decides.{nat_tests}
use Rattle.std.proofs.lemmas.Grind.{flat_map-append}
use Rattle.lrp_theory.specs.Entries.{entry}
use Rattle.lrp_model.specs.Cuts.{threshold, distinct}
use Rattle.lrp_model.specs.declared.relations.Bound.{Bound}
use Rattle.lrp_zone.specs.Zones.{ZoneView, columns_of}
use Rattle.lrp_cutting.specs.declared.pairs.NodePair.{NodePair}
use Rattle.lrp_cutting.specs.Thresholds.{bound_there, stored_bounds, parts_along, most_parts, most_pieces, pairs_below}
use Rattle.lrp_minus.specs.Counts.{most_by, most_parts_by}

-- ---- how often a number stands in a list
abbrev once : Bool → ℕ
once true = 1
once false = 0

abbrev hits : ℕ → List ℕ → ℕ
hits a [] = 0
hits a (x ∷ xs) = once (x == a) + hits a xs

either : (b : Bool) → (b ≡ true) ⊎ (b ≡ false)
either true = inl refl
either false = inr refl

is_same : (x a : ℕ) → (x == a) ≡ true → x ≡ a
is_same x a e = grind (arith, nat_tests)

is_other : (x a : ℕ) → a < x → (x == a) ≡ false
is_other x a l = grind (arith, nat_tests)

no_hit : (a from n : ℕ) → a < from → hits a (range_with_len from n) ≡ 0
no_hit a from zero l = refl
no_hit a from (suc n) l = let r : hits a (range_with_len (from + 1) n) ≡ 0 = no_hit a (from + 1) n (omega arith) in rw (is_other from a l) (omega (arith, r))

one_hit : (a from n : ℕ) → hits a (range_with_len from n) ≤ 1
one_hit a from zero = omega arith
one_hit a from (suc n) = elim (either (from == a)) [
  | inl e ↦ let same : from ≡ a = is_same from a e in let r : hits a (range_with_len (from + 1) n) ≡ 0 = no_hit a (from + 1) n (omega arith) in rw e (omega arith)
  | inr e ↦ let r : hits a (range_with_len (from + 1) n) ≤ 1 = one_hit a (from + 1) n in rw e (omega arith)
]

-- a list that has something at two numbers alone
at_two : (f : ℕ → List ℤ) (u v a b : ℕ) → ((x : ℕ) → length (f x) ≤ u * once (x == a) + v * once (x == b)) → (xs : List ℕ) → length (flat_map f xs) ≤ u * hits a xs + v * hits b xs
at_two f u v a b each [] = omega arith
at_two f u v a b each (x ∷ xs) =
    let one : length (f x) ≤ u * once (x == a) + v * once (x == b) = each x in
    let rest : length (flat_map f xs) ≤ u * hits a xs + v * hits b xs = at_two f u v a b each xs in
    let both : length (f x ++ flat_map f xs) ≡ length (f x) + length (flat_map f xs) = length-append (f x) (flat_map f xs) in
    let left : u * (once (x == a) + hits a xs) ≡ u * once (x == a) + u * hits a xs = omega arith in
    let right : v * (once (x == b) + hits b xs) ≡ v * once (x == b) + v * hits b xs = omega arith in
    omega arith

flat_flat : {X Y Z : Type 0} (f : Y → List Z) (g : X → List Y) (xs : List X) → flat_map f (flat_map g xs) ≡ flat_map (λ x. flat_map f (g x)) xs
flat_flat f g [] = refl
flat_flat f g (x ∷ xs) = flat_map-append f (g x) (flat_map g xs) ∙ ap (λ l. flat_map f (g x) ++ l) (flat_flat f g xs)

-- ---- one cutter has two thresholds along a pair
module _ (k : ℤ) (i j : ℕ) where
  one_there : (p q : ℕ) (e : Option ℤ) → length (flat_map (threshold k i j) (bound_there p q e)) ≤ once (p == i) * once (q == j) + once (p == j) * once (q == i)
  one_there p q None = omega arith
  one_there p q (Some a) = by_tests (p == i) (q == j) (p == j) (q == i)
    where
      by_tests : (s t u v : Bool) → length (cond (s && t) (a ∷ []) (cond (u && v) ((neg_ℤ a -ℤ k) ∷ []) []) ++ []) ≤ once s * once t + once u * once v
      by_tests true true u v = omega arith
      by_tests true false true true = omega arith
      by_tests true false true false = omega arith
      by_tests true false false v = omega arith
      by_tests false t true true = omega arith
      by_tests false t true false = omega arith
      by_tests false t false v = omega arith

  two_thresholds : (z : ZoneView) → length (flat_map (threshold k i j) (stored_bounds z)) ≤ 2
  unfolding stored_bounds
  two_thresholds z =
      let row : ℕ → List Bound = λ p. flat_map (λ q. bound_there p q (entry z.bounds p q)) (range_with_len 0 (columns_of z + 1)) in
      let flat : length (flat_map (threshold k i j) (flat_map row (range_with_len 0 (columns_of z + 1)))) ≡ length (flat_map (λ p. flat_map (threshold k i j) (row p)) (range_with_len 0 (columns_of z + 1))) = ap length (flat_flat (threshold k i j) row (range_with_len 0 (columns_of z + 1))) in
      let few : length (flat_map (λ p. flat_map (threshold k i j) (row p)) (range_with_len 0 (columns_of z + 1))) ≤ 1 * hits i (range_with_len 0 (columns_of z + 1)) + 1 * hits j (range_with_len 0 (columns_of z + 1)) = at_two (λ p. flat_map (threshold k i j) (row p)) 1 1 i j in_row (range_with_len 0 (columns_of z + 1)) in
      let a : hits i (range_with_len 0 (columns_of z + 1)) ≤ 1 = one_hit i 0 (columns_of z + 1) in
      let b : hits j (range_with_len 0 (columns_of z + 1)) ≤ 1 = one_hit j 0 (columns_of z + 1) in
      omega arith
    where
      at_most : (w m : ℕ) → m ≤ 1 → w * m ≤ w
      at_most w zero l = omega arith
      at_most w (suc zero) l = omega arith
      at_most w (suc (suc m)) l = absurd (omega arith)

      in_row : (p : ℕ) → length (flat_map (threshold k i j) (flat_map (λ q. bound_there p q (entry z.bounds p q)) (range_with_len 0 (columns_of z + 1)))) ≤ 1 * once (p == i) + 1 * once (p == j)
      in_row p =
          let flat : length (flat_map (threshold k i j) (flat_map (λ q. bound_there p q (entry z.bounds p q)) (range_with_len 0 (columns_of z + 1)))) ≡ length (flat_map (λ q. flat_map (threshold k i j) (bound_there p q (entry z.bounds p q))) (range_with_len 0 (columns_of z + 1))) = ap length (flat_flat (threshold k i j) (λ q. bound_there p q (entry z.bounds p q)) (range_with_len 0 (columns_of z + 1))) in
          let few : length (flat_map (λ q. flat_map (threshold k i j) (bound_there p q (entry z.bounds p q))) (range_with_len 0 (columns_of z + 1))) ≤ once (p == i) * hits j (range_with_len 0 (columns_of z + 1)) + once (p == j) * hits i (range_with_len 0 (columns_of z + 1)) =
          at_two (λ q. flat_map (threshold k i j) (bound_there p q (entry z.bounds p q))) (once (p == i)) (once (p == j)) j i (λ q. one_there p q (entry z.bounds p q)) (range_with_len 0 (columns_of z + 1)) in
          let a : once (p == i) * hits j (range_with_len 0 (columns_of z + 1)) ≤ once (p == i) = at_most (once (p == i)) (hits j (range_with_len 0 (columns_of z + 1))) (one_hit j 0 (columns_of z + 1)) in
          let b : once (p == j) * hits i (range_with_len 0 (columns_of z + 1)) ≤ once (p == j) = at_most (once (p == j)) (hits i (range_with_len 0 (columns_of z + 1))) (one_hit i 0 (columns_of z + 1)) in
          omega arith

  all_thresholds_few : (cutters : List ZoneView) → length (flat_map (λ bounds. flat_map (threshold k i j) bounds) (map stored_bounds cutters)) ≤ 2 * length cutters
  all_thresholds_few [] = omega arith
  all_thresholds_few (z ∷ zs) =
      let one : length (flat_map (threshold k i j) (stored_bounds z)) ≤ 2 = two_thresholds z in
      let rest : length (flat_map (λ bounds. flat_map (threshold k i j) bounds) (map stored_bounds zs)) ≤ 2 * length zs = all_thresholds_few zs in
      let both = length-append (flat_map (threshold k i j) (stored_bounds z)) (flat_map (λ bounds. flat_map (threshold k i j) bounds) (map stored_bounds zs)) in
      omega (arith, both)

distinct_few : (zs : List ℤ) → length (distinct zs) ≤ length zs
distinct_few [] = omega arith
distinct_few (z ∷ zs) = let r : length (distinct zs) ≤ length zs = distinct_few zs in elim (either (list_any (int_eq z) zs)) [
  | inl e ↦ rw e (omega arith)
  | inr e ↦ rw e (omega arith)
]

-- ---- the parts along a pair, and the pieces
parts_few : (k : ℕ) (cutters : List ZoneView) (p : NodePair) (n : ℕ) → length cutters ≤ n → parts_along k cutters p ≤ 2 * n + 1
unfolding parts_along
parts_few k cutters p n l =
    let all : length (flat_map (λ bounds. flat_map (threshold (pos k) p.left p.right) bounds) (map stored_bounds cutters)) ≤ 2 * length cutters = all_thresholds_few (pos k) p.left p.right cutters in
    let few = distinct_few (flat_map (λ bounds. flat_map (threshold (pos k) p.left p.right) bounds) (map stored_bounds cutters)) in
    omega (arith, all, few)

product_few : (a b c d : ℕ) → a ≤ b → c ≤ d → a * c ≤ b * d
product_few zero b c d l m = omega arith
product_few (suc a) zero c d l m = absurd (omega arith)
product_few (suc a) (suc b) c d l m = let r : a * c ≤ b * d = product_few a b c d (omega arith) m in omega arith

all_parts_few : (k : ℕ) (cutters : List ZoneView) (n : ℕ) → length cutters ≤ n → (ps : List NodePair) → most_parts k cutters ps ≤ most_parts_by n ps
all_parts_few k cutters n l [] = omega arith
all_parts_few k cutters n l (p ∷ ps) = product_few (parts_along k cutters p) (2 * n + 1) (most_parts k cutters ps) (most_parts_by n ps) (parts_few k cutters p n l) (all_parts_few k cutters n l ps)

-- of a zone of m columns
pub few_by : (z : ZoneView) (cutters : List ZoneView) (m n : ℕ) → columns_of z ≡ m → length cutters ≤ n → most_pieces z cutters ≤ most_by m n
few_by z cutters m n columns few = rw (sym columns) (all_parts_few z.period cutters n few (pairs_below (columns_of z + 1)))

-- one zone more
pub more_zones : (place most : ℕ) → (place + 1) * most ≡ place * most + most
more_zones place most = omega arith
