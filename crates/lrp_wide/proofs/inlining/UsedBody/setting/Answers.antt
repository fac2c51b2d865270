use Rattle.std.proofs.Common.{ap, refl}
use Rattle.lrp_wide.specs.Settings.{name_passed}
use Rattle.lrp_wide.proofs.InlineScenes.{body-reads}
use Rattle.lrp_wide.proofs.inlining.UsedBody.setting.Goals as goal

pub returns : goal.returns
returns c = record {
  before = refl;
  name = λ v. ap (λ l. name_passed l c.args.self.now.number v) c.as_slice.ensures.value;
  place = λ q. refl;
  reads = λ counted e. body-reads c.args.self.now c.as_slice.result.now c.in_ok-numbers.numbers.now counted c.as_slice.ensures.value (c.in_ok-numbers.ensures counted e);
}
