-- The thresholds of cutters along a pair of columns, and how many pieces they allow.
use Rattle.std.specs.Prelude.{ℕ, ℤ, ◌+◌, ◌*◌, ◌-◌, List, [], ◌∷◌, ◌++◌, map, flat_map, Option, Some, None, pos, neg_ℤ, ◌-ℤ◌}
use Rattle.std.specs.List.{range_with_len}
use Rattle.lrp_theory.specs.Entries.{entry}
use Rattle.lrp_model.specs.declared.relations.Bound.{Bound}
use Rattle.lrp_model.specs.Cuts.{cuts}
use Rattle.lrp_zone.specs.Zones.{ZoneView, columns_of}
use Rattle.lrp_cutting.specs.declared.pairs.NodePair.{NodePair}

-- the bound that stands at a place, if there is one
abbrev pub bound_there : ℕ → ℕ → Option ℤ → List Bound
bound_there i j None = []
bound_there i j (Some a) = record { left = i; right = j; most = a } ∷ []

-- the stored bounds of a zone, row by row
unfoldable pub stored_bounds : ZoneView → List Bound
stored_bounds z = flat_map (λ i. flat_map (λ j. bound_there i j (entry z.bounds i j)) (range_with_len 0 (columns_of z + 1))) (range_with_len 0 (columns_of z + 1))

-- the pairs (i, j) with i < j < n, for one i
abbrev pub row_of_pairs : ℕ → ℕ → List NodePair
row_of_pairs n i = map (λ j. record { left = i; right = j }) (range_with_len (i + 1) (n - (i + 1)))

-- the pairs (0, 1), (0, 2), .., (1, 2), .. of numbers below n
abbrev pub pairs_below : ℕ → List NodePair
pairs_below n = flat_map (row_of_pairs n) (range_with_len 0 n)

-- how many parts the thresholds of the cutters allow along a pair: one more than there are different ones
unfoldable pub parts_along : ℕ → List ZoneView → NodePair → ℕ
parts_along k cutters p = cuts (pos k) (map stored_bounds cutters) p.left p.right + 1

-- the product of these numbers over the pairs
abbrev pub most_parts : ℕ → List ZoneView → List NodePair → ℕ
most_parts k cutters [] = 1
most_parts k cutters (p ∷ ps) = parts_along k cutters p * most_parts k cutters ps

-- the product over all pairs of columns of a zone, column 0 included
abbrev pub most_pieces : ZoneView → List ZoneView → ℕ
most_pieces z cutters = most_parts z.period cutters (pairs_below (columns_of z + 1))

-- a bound as a list
abbrev pub bound_list : Option ℤ → List ℤ
bound_list None = []
bound_list (Some a) = a ∷ []

-- the thresholds of one cutter of period k along the pair (i, j): the bound (i, j, a) gives a, and the bound (j, i, b) gives -b-k
abbrev pub thresholds_of : ℕ → NodePair → ZoneView → List ℤ
thresholds_of k p z = bound_list (entry z.bounds p.left p.right) ++ map (λ b. neg_ℤ b -ℤ pos k) (bound_list (entry z.bounds p.right p.left))

-- those of all cutters
abbrev pub all_thresholds : ℕ → NodePair → List ZoneView → List ℤ
all_thresholds k p cutters = flat_map (thresholds_of k p) cutters
