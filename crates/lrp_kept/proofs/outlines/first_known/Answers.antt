use Rattle.std.proofs.Common.{◌≡◌, refl, subst, arith}
use Rattle.lrp_kept.proofs.Outlined.{AreCopied, first_are_known, none_copied, one_copied}
use Rattle.lrp_kept.proofs.outlines.first_known.Goals as goal

pub loop-i-init : goal.loop-i-init
loop-i-init c = none_copied c.args.known.now _ refl

pub loop-i-preserved : goal.loop-i-preserved
loop-i-preserved c = one_copied c.args.known.now c.loop-i.all _ c.loop-i.i _ (omega (arith, c.loop-i-test.true, c.requires.few)) refl c.loop-i.invariant refl

pub returns : goal.returns
returns c =
    let whole : c.loop-i.i ≡ c.args.count = omega (arith, c.loop-i-test.false, c.loop-i.auto.i-end) in
    first_are_known c.args.known.now c.loop-i.all c.args.count (subst (λ n. AreCopied c.args.known.now n c.loop-i.all) whole c.loop-i.invariant)
