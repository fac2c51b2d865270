-- What divides two numbers divides the remainder of the one by the other, and the other way about.
use Rattle.std.proofs.Common.{◌≡◌, arith, sym, subst}
use Rattle.std.specs.Prelude.{pos}
use Rattle.lrp_theory.specs.Divides.{Divides}
use Rattle.lrp_theory.proofs.Modulo.{Divides-self, Divides-zero}
use Rattle.lrp_systems.proofs.InWindows.{divides_back}
use Rattle.lrp_systems.proofs.divisor.+common_divisor.Goals as goal

pub returns-then-b-eq0-clause-left : goal.returns-then-b-eq0-clause-left
returns-then-b-eq0-clause-left t c = Divides-self _

pub returns-then-b-eq0-clause-right : goal.returns-then-b-eq0-clause-right
returns-then-b-eq0-clause-right t c = let e : c.args.b ≡ 0 = omega (arith, c.if-b-eq0.true) in subst (λ b. Divides (pos c.args.a) (pos b)) (sym e) (Divides-zero _)

pub returns-clause-left : goal.returns-clause-left
returns-clause-left t c = divides_back c.common_divisor.result c.args.a c.args.b (omega (arith, c.if-b-eq0.false)) c.common_divisor.ensures.left c.common_divisor.ensures.right
