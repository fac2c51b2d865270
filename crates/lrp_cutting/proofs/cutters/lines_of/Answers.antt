-- One more column has its line.
use Rattle.std.proofs.Common.{◌≡◌, ap, arith, length, subst, sym}
use Rattle.std.specs.Prelude.{Contains}
use Rattle.lrp_zone.specs.Zones.{columns_of}
use Rattle.lrp_cutting.specs.Windows.{HaveLines}
use Rattle.lrp_cutting.proofs.Lists.{read}
use Rattle.lrp_cutting.proofs.NearLaws.{lines_more}
use Rattle.lrp_cutting.proofs.cutters.lines_of.Goals as goal

pub of-requires-clause-column : goal.of-requires-clause-column
of-requires-clause-column c = λ z l.
    let here : Contains c.args.zones.now c.index-zones-0.result = read c.args.zones.now 0 c.index-zones-0.result (omega (arith, c.if-zones-lt-FEW.false)) c.index-zones-0.is in
    let same : columns_of c.index-zones-0.result ≡ columns_of z = ap length ((c.requires z l).each c.index-zones-0.result here).residues in
    omega (arith, same, c.loop-i-test.true, c.columns-i-end.ensures.value)

pub loop-i-preserved : goal.loop-i-preserved
loop-i-preserved c = subst (HaveLines c.args.zones.now) (sym c.in_ok-push.ensures.items) (lines_more c.args.zones.now c.loop-i.lines.items c.in_ok-of.field-0 c.loop-i.invariant c.in_ok-of.ensures)
