use Rattle.std.proofs.Common.{◌∙◌, subst}
use Rattle.std.specs.List.Sorted.{IsStrictlyIncreasing}
use Rattle.lrp_model.specs.RawQueries.{raw_form_of}
use Rattle.lrp_tense.proofs.Along.{along_is}
use Rattle.lrp_tense.proofs.expansion.expand_body.Goals as goal

pub returns-then-is_ascending : goal.returns-then-is_ascending
returns-then-is_ascending c =
    let k = c.in_ok-counted.ensures in
    record {
      tree = k.tree ∙ along_is (raw_form_of c.args.f.now) _ k.positions (subst IsStrictlyIncreasing c.as_slice.ensures.value (c.is_ascending.ensures c.if-is_ascending.true));
      few = k.positions.few;
    }
