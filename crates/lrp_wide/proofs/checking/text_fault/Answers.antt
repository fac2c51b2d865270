use Rattle.std.proofs.Common.{List, ap, sym, ◌∙◌}
use Rattle.lrp_model.specs.Faults.{earliest}
use Rattle.lrp_model.specs.RawQueries.{RawForm, RawQuestion, raw_form_of}
use Rattle.lrp_model.specs.Sorting.{query_faults, query_standing}
use Rattle.lrp_model.specs.declared.raw.RawColumn.{RawColumn}
use Rattle.lrp_wide.proofs.NarrowTexts.{narrow_starred}
use Rattle.lrp_wide.proofs.Results.{if_ok_then}
use Rattle.lrp_wide.proofs.checking.text_fault.Goals as goal

pub returns-then-is_narrow : goal.returns-then-is_narrow
returns-then-is_narrow c =
    let db = c.args.catalog.now in
    let form = raw_form_of c.args.body.now in
    let question : List RawColumn → RawForm → RawQuestion = λ h f. record { head = h; body = f } in
    let holds = c.if-is_narrow.true in
    if_ok_then c.sort_fault.result _ _ c.sort_fault.ensures (λ fault e.
    e ∙ ap (λ q. earliest query_standing (query_faults db q)) (ap (λ h. question h form) c.as_slice.ensures ∙ sym (narrow_starred db (question c.args.head.now form) (c.is_narrow.ensures holds))))

pub returns : goal.returns
returns c =
    let db = c.args.catalog.now in
    let made = c.in_ok-starred.starred in
    let question : List RawColumn → RawForm → RawQuestion = λ h f. record { head = h; body = f } in
    if_ok_then c.sort_fault-2.result _ _ c.sort_fault-2.ensures (λ fault e.
    e ∙ ap (λ q. earliest query_standing (query_faults db q)) (ap (λ h. question h (raw_form_of made.body)) c.as_slice-2.ensures ∙ c.in_ok-starred.ensures))
