use Rattle.std.proofs.Common.{◌≡◌, IfOk, subst}
use Rattle.lrp_model.specs.Faults.{earliest}
use Rattle.lrp_model.specs.RawQueries.{raw_form_of}
use Rattle.lrp_model.specs.Sorting.{query_standing, query_faults}
use Rattle.lrp_sorts.proofs.checking.fault_over.Goals as goal

pub returns : goal.returns
returns c =
    let raw = c.args.raw.now in
    let same : IfOk c.sort_fault.result (λ fault. fault ≡ earliest query_standing (query_faults c.in_ok-catalog.catalog (record { head = raw.head; body = raw_form_of raw.body }))) =
    subst (λ cs. IfOk c.sort_fault.result (λ fault. fault ≡ earliest query_standing (query_faults c.in_ok-catalog.catalog (record { head = cs; body = raw_form_of raw.body })))) c.as_slice.ensures c.sort_fault.ensures in
    subst (λ db. IfOk c.sort_fault.result (λ fault. fault ≡ earliest query_standing (query_faults db (record { head = raw.head; body = raw_form_of raw.body })))) c.in_ok-catalog.ensures same
