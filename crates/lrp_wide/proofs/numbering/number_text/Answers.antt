use Rattle.std.proofs.Common.{ap, ◌++◌, ◌∙◌}
use Rattle.lrp_model.specs.RawQueries.{raw_form_of}
use Rattle.lrp_wide.specs.Counts.{kept_in}
use Rattle.lrp_wide.proofs.numbering.number_text.Goals as goal

pub returns : goal.returns
returns c = λ ks k. c.in_ok-count_in.ensures ks k ∙ ap (λ l. l ++ kept_in c.args.definitions.now.relations ks (raw_form_of c.args.f.now)) c.new-numbers.ensures
