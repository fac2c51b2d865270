use Rattle.std.proofs.Common.{◌∙◌, ap, rules}
use Rattle.lrp_model.specs.RawQueries.{raw_form_of}
use Rattle.lrp_wide.proofs.InlineParts.{pushed-is}
use Rattle.lrp_wide.proofs.Results.{if_ok_then}
use Rattle.lrp_wide.proofs.uses.with_comparisons.Goals as goal

pub returns : goal.returns
returns c =
    if_ok_then c.joined.result _ _ c.joined.ensures (λ made h.
    h ∙ pushed-is c.args.place c.args.comparisons.items _ c.into_inner.result (raw_form_of c.args.of.value) (search rules) c.in_ok-push.ensures.items (ap raw_form_of c.into_inner.ensures))
