-- What is on the one side of all values doesn't compare with them.
use Rattle.std.proofs.Common.{◌≡◌, subst, arith}
use Rattle.std.specs.Prelude.{◌≤ℤ◌, ◌<ℤ◌}
use Rattle.std.proofs.lemmas.Int.{ints}
use Rattle.lrp_model.specs.Satisfaction.{Compares}
use Rattle.lrp_kept.specs.Passing.{placed_value}
use Rattle.lrp_kept.proofs.passing.PlacedTest.fails.Goals as goal

pub returns-in-Le : goal.returns-in-Le
returns-in-Le c = λ e xs a b h.
    let above : placed_value c.args.self.now.right xs <ℤ placed_value c.args.self.now.left xs = c.are_above.ensures e xs a b in
    let compares : placed_value c.args.self.now.left xs ≤ℤ placed_value c.args.self.now.right xs = subst (λ o. Compares o (placed_value c.args.self.now.left xs) (placed_value c.args.self.now.right xs)) c.in-Le.is h in
    omega (arith, ints, above, compares)

pub returns-in-Lt : goal.returns-in-Lt
returns-in-Lt c = λ e xs a b h.
    let above : placed_value c.args.self.now.right xs ≤ℤ placed_value c.args.self.now.left xs = c.are_from.ensures e xs a b in
    let compares : placed_value c.args.self.now.left xs <ℤ placed_value c.args.self.now.right xs = subst (λ o. Compares o (placed_value c.args.self.now.left xs) (placed_value c.args.self.now.right xs)) c.in-Lt.is h in
    omega (arith, ints, above, compares)

pub returns-in-Ge : goal.returns-in-Ge
returns-in-Ge c = λ e xs a b h.
    let above : placed_value c.args.self.now.left xs <ℤ placed_value c.args.self.now.right xs = c.are_above-in-Ge.ensures e xs a b in
    let compares : placed_value c.args.self.now.right xs ≤ℤ placed_value c.args.self.now.left xs = subst (λ o. Compares o (placed_value c.args.self.now.left xs) (placed_value c.args.self.now.right xs)) c.in-Ge.is h in
    omega (arith, ints, above, compares)

pub returns-in-Gt : goal.returns-in-Gt
returns-in-Gt c = λ e xs a b h.
    let above : placed_value c.args.self.now.left xs ≤ℤ placed_value c.args.self.now.right xs = c.are_from-in-Gt.ensures e xs a b in
    let compares : placed_value c.args.self.now.right xs <ℤ placed_value c.args.self.now.left xs = subst (λ o. Compares o (placed_value c.args.self.now.left xs) (placed_value c.args.self.now.right xs)) c.in-Gt.is h in
    omega (arith, ints, above, compares)

pub returns-then-are_above : goal.returns-then-are_above
returns-then-are_above c = λ e xs a b h.
    let above : placed_value c.args.self.now.right xs <ℤ placed_value c.args.self.now.left xs = c.are_above-in-Eq.ensures e xs a b in
    let compares : placed_value c.args.self.now.left xs ≡ placed_value c.args.self.now.right xs = subst (λ o. Compares o (placed_value c.args.self.now.left xs) (placed_value c.args.self.now.right xs)) c.in-Eq.is h in
    omega (arith, ints, above, compares)

pub returns-else-are_above : goal.returns-else-are_above
returns-else-are_above c = λ e xs a b h.
    let above : placed_value c.args.self.now.left xs <ℤ placed_value c.args.self.now.right xs = c.are_above-else-are_above.ensures e xs a b in
    let compares : placed_value c.args.self.now.left xs ≡ placed_value c.args.self.now.right xs = subst (λ o. Compares o (placed_value c.args.self.now.left xs) (placed_value c.args.self.now.right xs)) c.in-Eq.is h in
    omega (arith, ints, above, compares)
