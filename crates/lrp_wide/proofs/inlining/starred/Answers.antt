use Rattle.std.proofs.Common.{List, [], ap₂}
use Rattle.lrp_model.specs.RawQueries.{RawFileView, RawForm, RawQuestion, raw_form_of}
use Rattle.lrp_model.specs.declared.raw.RawColumn.{RawColumn}
use Rattle.lrp_wide.proofs.Results.{if_ok_both}
use Rattle.lrp_wide.proofs.inlining.starred.Goals as goal

pub returns : goal.returns
returns c =
    let question : List RawColumn → RawForm → RawQuestion = λ h b. record { head = h; body = b } in
    let any : RawFileView = record { definitions = []; query = question c.args.head.now (raw_form_of c.args.body.now) } in
    if_ok_both c.written_out.result _ _ _ c.written_out.ensures.head c.written_out.ensures.body (λ made h b. ap₂ question h (b any tt))
