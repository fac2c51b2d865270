use Rattle.std.proofs.Common.{List, ap, ap₂, ◌∙◌}
use Rattle.lrp_model.specs.RawQueries.{RawForm, raw_atom}
use Rattle.lrp_model.specs.declared.raw.RawColumn.{RawColumn}
use Rattle.lrp_model.specs.declared.raw.RawTerm.{RawTerm}
use Rattle.lrp_model.specs.Texts.{Identifier}
use Rattle.lrp_wide.specs.Inlining.{some_each}
use Rattle.lrp_wide.specs.Settings.{setting_of}
use Rattle.lrp_wide.proofs.Results.{if_ok_then}
use Rattle.lrp_wide.proofs.atoms.starred_atom.Goals as goal

pub returns : goal.returns
returns c =
    let met = c.args.met in
    let p = met.place in
    let S = setting_of c.args.setting.now in
    let by = c.starred_columns-columns.ensures in
    let found = c.in_ok-terms.ensures in
    let atom : Identifier → List RawTerm → RawForm = λ n ts. raw_atom p n ts in
    let form : List RawColumn → RawForm → RawForm = λ cs f. some_each p cs f in
    if_ok_then c.some_each.result _ _ c.some_each.ensures (λ made h.
    h ∙ ap₂ form (found.binders ∙ by.columns p met.number) (c.in_ok-atom.ensures ∙ ap₂ atom c.in_ok-relation.ensures (found.terms ∙ by.terms S p met.number)))
