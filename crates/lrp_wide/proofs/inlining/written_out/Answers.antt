use Rattle.std.proofs.Common.{ap, ◌∙◌}
use Rattle.lrp_model.specs.RawQueries.{raw_form_of}
use Rattle.lrp_wide.proofs.inlining.written_out.Goals as goal

pub returns-clause-body : goal.returns-clause-body
returns-clause-body c = λ file around. ap raw_form_of c.into_inner-body.ensures ∙ c.in_ok-made.ensures file around
