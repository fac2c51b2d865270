-- One column more.
use Rattle.std.proofs.Common.{◌≡◌, arith, subst}
use Rattle.lrp_hulls.specs.Columns.{AreTextColumns}
use Rattle.lrp_hulls.proofs.Columned.{no_texts, texts_more}
use Rattle.lrp_hulls.proofs.columns.text_columns.Goals as goal

pub loop-i-init : goal.loop-i-init
loop-i-init c = record { low = omega arith; are = no_texts c.args.hulls.now _ c.in_ok-made.ensures.items }

pub loop-i-preserved : goal.loop-i-preserved
loop-i-preserved c = record {
  low = omega (arith, c.loop-i-test.true);
  are = texts_more c.args.hulls.now c.loop-i.i c.loop-i.made.items c.push.new.self.items c.in_ok-column.column c.in_ok-push.ensures.items c.in_ok-column.ensures c.loop-i.invariant.are;
}

pub returns : goal.returns
returns c =
    let low = c.loop-i.invariant.low in
    let all : c.loop-i.i ≡ c.args.columns = omega (arith, c.loop-i-test.false, low) in
    subst (λ n. AreTextColumns c.args.hulls.now n c.loop-i.made.items) all c.loop-i.invariant.are
