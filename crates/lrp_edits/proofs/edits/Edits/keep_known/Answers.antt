-- One edit of a known relation more, of which the meaning is kept where there is no fault.
use Rattle.std.proofs.Common.{◌≡◌, ◌∷◌, [], ◌++◌, ◌∙◌, ap, sym, None}
use Rattle.lrp_model.specs.Faults.{earliest}
use Rattle.lrp_model.specs.DatabaseFaults.{database_standing, row_faults}
use Rattle.lrp_model.proofs.FirstFault.{none_of_both, none_is_empty}
use Rattle.lrp_rel.proofs.GatheredLemmas.{none_or_some}
use Rattle.lrp_edits.proofs.EditLemmas.{takes_row}
use Rattle.lrp_edits.proofs.edits.Edits.keep_known.Goals as goal

pub meant_edit-requires-clause-right : goal.meant_edit-requires-clause-right
meant_edit-requires-clause-right c =
    let faults = row_faults c.args.heading.now.columns c.args.edit.row in
    let each = none_of_both database_standing c.args.self.now.fault c.row_fault-found.result (sym c.sooner_of-self.ensures ∙ c.in-None.is) in
    let sound : earliest database_standing faults ≡ None = ap (λ cs. earliest database_standing (row_faults cs c.args.edit.row)) (sym c.as_slice.ensures) ∙ sym c.row_fault-found.ensures ∙ each.1 in
    none_is_empty database_standing faults sound

pub returns-in_ok-push-in-None : goal.returns-in_ok-push-in-None
returns-in_ok-push-in-None c =
    let row = c.args.edit.row in
    takes_row c.args.heading.now.columns row _ c.args.self.now _ c.row_fault-found.result (c.row_fault-found.ensures ∙ ap (λ cs. earliest database_standing (row_faults cs row)) c.as_slice.ensures) c.sooner_of-self.ensures
    (λ none. c.in_ok-push-in-None.ensures.ok ∙ ap (λ e. c.args.self.now.list ++ e ∷ []) c.in_ok-meant-in-None.ensures)

pub returns-in-Some : goal.returns-in-Some
returns-in-Some c =
    let row = c.args.edit.row in
    takes_row c.args.heading.now.columns row _ c.args.self.now _ c.row_fault-found.result (c.row_fault-found.ensures ∙ ap (λ cs. earliest database_standing (row_faults cs row)) c.as_slice.ensures) c.sooner_of-self.ensures
    (λ none. none_or_some c.sooner_of-self.result c.in-Some.field-0 none c.in-Some.is)
