-- The one term is at least the least value of the other one, and that one at most the greatest of the one.
use Rattle.std.proofs.Common.{Some, None, Option, arith}
use Rattle.std.specs.Prelude.{ℤ, ◌≤ℤ◌}
use Rattle.std.proofs.lemmas.Int.{ints}
use Rattle.lrp_kept.specs.Spans.{IsAtLeast, IsAtMost}
use Rattle.lrp_kept.proofs.windows.window_between.Goals as goal

up : (o : Option ℤ) (x y : ℤ) → IsAtLeast o x → x ≤ℤ y → IsAtLeast o y
up None x y h l = tt
up (Some a) x y h l = omega (arith, ints)

down : (o : Option ℤ) (x y : ℤ) → IsAtMost o y → x ≤ℤ y → IsAtMost o x
down None x y h l = tt
down (Some a) x y h l = omega (arith, ints)

pub returns : goal.returns
returns c = λ xs i l. record {
  least = c.least_where.ensures xs (up _ _ _ (c.least_of.ensures xs i i) l);
  most = c.most_where.ensures xs (down _ _ _ (c.greatest_of.ensures xs i i) l);
}
