-- The texts of a spot that stands for a tuple.
use Rattle.std.proofs.Common.{◌≡◌, ℕ, zero, suc, ◌<◌, List, [], ◌∷◌, length, take, Some, arith}
use Rattle.std.specs.Prelude.{slice_get}
use Rattle.std.specs.List.{AllByRecursion}
use Rattle.lrp_model.specs.Rows.{texts_of, Tuple}
use Rattle.lrp_model.specs.Texts.{Text}
use Rattle.lrp_model.specs.declared.tuples.Shape.{Shape}
use Rattle.lrp_model.specs.declared.tuples.Spot.{Spot}
use Rattle.lrp_store.specs.Least.{StandsFor}
use Rattle.lrp_store.specs.Tables.{AreTexts}

below : (domain : List Text) (n : ℕ) (t : Text) → slice_get domain n ≡ Some t → n < length domain
below [] n t e = cc
below (d ∷ ds) zero t e = omega arith
below (d ∷ ds) (suc n) t e = let r : n < length ds = below ds n t e in omega arith

texts_below : (domain : List Text) (ns : List ℕ) (ts : List Text) → AreTexts domain ns ts → AllByRecursion (λ n. n < length domain) ns
texts_below domain [] ts h = tt
texts_below domain (n ∷ ns) [] h = absurd h
texts_below domain (n ∷ ns) (t ∷ ts) h = (below domain n t h.0, texts_below domain ns ts h.1)

-- a spot that stands for a tuple has numbers of the domain
pub texts_known : (shape : Shape) (domain : List Text) (spot : Spot) (tuple : Tuple) → StandsFor shape domain spot tuple → AllByRecursion (λ n. n < length domain) (take shape.texts spot.texts)
texts_known shape domain spot tuple s = texts_below domain (take shape.texts spot.texts) (texts_of tuple) s.texts
