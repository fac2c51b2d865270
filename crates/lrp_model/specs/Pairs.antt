-- Each two elements of a list, the earlier and the later one.
use Rattle.std.specs.Prelude.{List, [], ◌∷◌}
use Rattle.std.specs.List.{AllByRecursion}

-- R holds of each element and each later one; by recursion, since proofs go along such lists, where std's `AllPairs` has two positions
abbrev pub AllPairsByRecursion : {X : Type 0} → (X → X → Type 0) → List X → Type 0
AllPairsByRecursion R [] = Unit {0}
AllPairsByRecursion R (x ∷ xs) = AllByRecursion (R x) xs × AllPairsByRecursion R xs
