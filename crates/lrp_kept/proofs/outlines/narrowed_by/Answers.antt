use Rattle.std.proofs.Common.{refl, sym, subst, arith}
use Rattle.std.specs.Prelude.{pos, ◌-ℤ◌}
use Rattle.lrp_theory.specs.Bounds.{Within}
use Rattle.lrp_theory.specs.Entries.{node}
use Rattle.lrp_kept.proofs.Outlined.{minus_zero, within_most}
use Rattle.lrp_kept.proofs.outlines.narrowed_by.Goals as goal

pub returns : goal.returns
returns c = λ ys m s. record {
  least = c.later.ensures (node ys c.args.i) s.least (within_most c.bound.result (node ys 0 -ℤ node ys c.args.i) (pos 0 -ℤ node ys c.args.i) refl (subst (λ o. Within (node ys 0 -ℤ node ys c.args.i) o) (sym c.bound.ensures) (m.meets 0 c.args.i (omega arith) c.requires.high)));
  most = c.sooner.ensures (node ys c.args.i) s.most (within_most c.bound-2.result (node ys c.args.i -ℤ node ys 0) (node ys c.args.i) (minus_zero (node ys c.args.i)) (subst (λ o. Within (node ys c.args.i -ℤ node ys 0) o) (sym c.bound-2.ensures) (m.meets c.args.i 0 c.requires.high (omega arith))));
  point = c.known.ensures ys m s.point;
}
