-- How many cuts zones make, computed by the definition.
use Rattle.std.proofs.Common.{◌≡◌, refl, List, [], ◌∷◌}
use Rattle.std.specs.Prelude.{ℤ, pos, negsuc}
use Rattle.lrp_model.specs.declared.relations.Bound.{Bound}
use Rattle.lrp_model.specs.Cuts.{cuts}

-- x = 0, x = 2 and x = 4 with period 1 cut the line at -1, 0, 1, 2, 3 and 4
abbrev instant : ℤ → ℤ → List Bound
instant x minus_x = record { left = 1; right = 0; most = x } ∷ record { left = 0; right = 1; most = minus_x } ∷ []

pub six_cuts : cuts (pos 1) (instant (pos 0) (pos 0) ∷ instant (pos 2) (negsuc 1) ∷ instant (pos 4) (negsuc 3) ∷ []) 0 1 ≡ 6
six_cuts = refl
