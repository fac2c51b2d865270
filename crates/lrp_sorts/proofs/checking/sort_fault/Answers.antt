use Rattle.std.proofs.Common.{length, refl}
use Rattle.lrp_model.specs.RawQueries.{raw_form_of}
use Rattle.lrp_model.specs.Sorting.{free_names}
use Rattle.lrp_sorts.specs.Scopes.{binders}
use Rattle.lrp_sorts.proofs.Surveys.{survey_faults}
use Rattle.lrp_sorts.proofs.checking.sort_fault.Goals as goal

pub returns : goal.returns
returns c =
    let scope = c.in_ok-fault.field-0.scope in
    survey_faults c.args.catalog.now c.args.catalog.now c.args.head.now c.args.body.now _ scope c.in_ok-fault.field-0.fault _ c.head_width.result _ c.with_width-found.result.fault c.in_ok-inside.inside.fault
    refl refl c.in_ok-fault.ensures.scope c.in_ok-fault.ensures.fault c.head_width.ensures c.sooner_of-before.ensures
    c.in_ok-inside.ensures.fault (c.with_width-found.ensures.fault (binders scope) (length scope.quantifiers) (free_names (raw_form_of c.args.body.now)) c.in_ok-inside.ensures.free) c.sooner_of.ensures
