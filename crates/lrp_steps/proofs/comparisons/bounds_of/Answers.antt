-- Each comparison by its bounds.
use Rattle.std.proofs.Common.{refl, ap, ◌∙◌, arith, to_z, of_z}
use Rattle.std.specs.Prelude.{pos, neg_ℤ, ◌-ℤ◌}
use Rattle.std.specs.Int.{w64}
use Rattle.std.proofs.lemmas.Int.{ints}
use Rattle.lrp_model.specs.declared.relations.Bound.{Bound}
use Rattle.lrp_model.specs.declared.formulas.Op.TheVariants.{Le, Lt, Ge, Gt}
use Rattle.lrp_steps.proofs.Compared.{le_bounds, lt_bounds, ge_bounds, gt_bounds, one_bound, both_bounds, word_is}
use Rattle.lrp_steps.proofs.comparisons.bounds_of.Goals as goal

pub returns-in-Le : goal.returns-in-Le
returns-in-Le c =
    let e = word_is c.args.most (omega (arith, ints, c.requires.low)) (omega (arith, ints, c.requires.high)) in
    one_bound Le c.args.op c.args.left c.args.right c.args.left c.args.right c.args.most c.args.most _ c.in-Le.is (le_bounds c.args.left c.args.right c.args.most) refl refl e

pub returns-in-Lt : goal.returns-in-Lt
returns-in-Lt c =
    let e = word_is c.args.most (omega (arith, ints, c.requires.low)) (omega (arith, ints, c.requires.high)) in
    let f = word_is (c.args.most -ℤ pos 1) (omega (arith, ints, c.requires.low)) (omega (arith, ints, c.requires.high)) in
    one_bound Lt c.args.op c.args.left c.args.right c.args.left c.args.right c.args.most (c.args.most -ℤ pos 1) _ c.in-Lt.is (lt_bounds c.args.left c.args.right c.args.most (c.args.most -ℤ pos 1) refl) refl refl (ap (λ z. to_z w64 (of_z w64 (z -ℤ pos 1))) e ∙ f)

pub returns-in-Ge : goal.returns-in-Ge
returns-in-Ge c =
    let e = ap (λ (b : Bound). b.most) c.turned-bound.ensures in
    one_bound Ge c.args.op c.args.left c.args.right c.args.right c.args.left c.args.most (neg_ℤ c.args.most) c.turned-bound.result c.in-Ge.is (ge_bounds c.args.left c.args.right c.args.most (neg_ℤ c.args.most) refl) (ap (λ (b : Bound). b.left) c.turned-bound.ensures) (ap (λ (b : Bound). b.right) c.turned-bound.ensures) (omega (arith, ints, e, c.requires.low, c.requires.high))

pub returns-in-Gt : goal.returns-in-Gt
returns-in-Gt c =
    let e = ap (λ (b : Bound). b.most) c.turned-bound-in-Gt.ensures in
    one_bound Gt c.args.op c.args.left c.args.right c.args.right c.args.left c.args.most (neg_ℤ c.args.most -ℤ pos 1) c.turned-bound-in-Gt.result c.in-Gt.is (gt_bounds c.args.left c.args.right c.args.most (neg_ℤ c.args.most -ℤ pos 1) refl) (ap (λ (b : Bound). b.left) c.turned-bound-in-Gt.ensures) (ap (λ (b : Bound). b.right) c.turned-bound-in-Gt.ensures) (omega (arith, ints, e, c.requires.low, c.requires.high))

pub returns-in-Eq : goal.returns-in-Eq
returns-in-Eq c =
    let e = word_is c.args.most (omega (arith, ints, c.requires.low)) (omega (arith, ints, c.requires.high)) in
    let f = ap (λ (b : Bound). b.most) c.turned.ensures in
    both_bounds c.args.op c.args.left c.args.right c.args.most _ c.turned.result c.in-Eq.is refl refl e (ap (λ (b : Bound). b.left) c.turned.ensures) (ap (λ (b : Bound). b.right) c.turned.ensures) (omega (arith, ints, f, c.requires.low, c.requires.high))
