-- Of two terms that are equal each is at most the other one.
use Rattle.std.proofs.Common.{◌≡◌, subst, arith}
use Rattle.std.specs.Prelude.{◌≤ℤ◌}
use Rattle.std.proofs.lemmas.Int.{ints}
use Rattle.lrp_model.specs.Satisfaction.{Compares}
use Rattle.lrp_kept.specs.Passing.{placed_value}
use Rattle.lrp_kept.proofs.passing.PlacedTest.window.Goals as goal

pub returns-in-Eq : goal.returns-in-Eq
returns-in-Eq c = λ xs i h.
    let same : placed_value c.args.self.now.left xs ≡ placed_value c.args.self.now.right xs = subst (λ o. Compares o (placed_value c.args.self.now.left xs) (placed_value c.args.self.now.right xs)) c.in-Eq.is h in
    let up : placed_value c.args.self.now.left xs ≤ℤ placed_value c.args.self.now.right xs = omega (arith, ints, same) in
    let down : placed_value c.args.self.now.right xs ≤ℤ placed_value c.args.self.now.left xs = omega (arith, ints, same) in
    c.with.ensures (xs c.args.place) (c.window_between-up.ensures xs i up) (c.window_between-in-Eq.ensures xs i down)
