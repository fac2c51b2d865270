use Rattle.std.proofs.Common.{ap, sym, ◌∙◌}
use Rattle.lrp_model.specs.RawQueries.{raw_forms_of}
use Rattle.lrp_model.proofs.RawViews.{raw_kind-And, raw_kind-Or}
use Rattle.lrp_tense.specs.Written.{joined_form}
use Rattle.lrp_tense.proofs.Steps.{if_ok_then}
use Rattle.lrp_tense.proofs.written_out.joined.Goals as goal

pub returns-in-And : goal.returns-in-And
returns-in-And c = if_ok_then c.boxed.result _ _ c.boxed.ensures (λ made h. h ∙ raw_kind-And c.args.of c.args.place ∙ ap (λ k. joined_form k c.args.place (raw_forms_of c.args.of.items)) (sym c.in-And.is))

pub returns-in-Or : goal.returns-in-Or
returns-in-Or c = if_ok_then c.boxed-in-Or.result _ _ c.boxed-in-Or.ensures (λ made h. h ∙ raw_kind-Or c.args.of c.args.place ∙ ap (λ k. joined_form k c.args.place (raw_forms_of c.args.of.items)) (sym c.in-Or.is))
