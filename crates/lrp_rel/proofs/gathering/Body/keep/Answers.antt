-- One row more, of which the meaning is kept where there is no fault.
use Rattle.std.proofs.Common.{◌≡◌, ◌∷◌, [], ◌++◌, ◌∙◌, ap, sym, None}
use Rattle.lrp_model.specs.Faults.{earliest}
use Rattle.lrp_model.specs.DatabaseFaults.{database_standing, row_faults}
use Rattle.lrp_model.specs.Sooner.{sooner}
use Rattle.lrp_model.proofs.FirstFault.{none_of_both}
use Rattle.lrp_rel.proofs.GatheredLemmas.{heading_few, heading_numbered, row_means, body_more, none_or_some}
use Rattle.lrp_rel.proofs.gathering.Body.keep.Goals as goal

pub meant_row-requires-clause-times : goal.meant_row-requires-clause-times
meant_row-requires-clause-times c =
    let heading = c.args.heading.now in
    let both = none_of_both database_standing heading.fault c.sooner_of-self.result (sym c.sooner_of.ensures ∙ c.in-None.is) in
    heading_few heading c.requires.heading both.0

pub meant_row-requires-clause-lawful : goal.meant_row-requires-clause-lawful
meant_row-requires-clause-lawful c =
    let heading = c.args.heading.now in
    let row = c.args.row in
    let both = none_of_both database_standing heading.fault c.sooner_of-self.result (sym c.sooner_of.ensures ∙ c.in-None.is) in
    let each = none_of_both database_standing c.args.self.now.fault c.row_fault-found.result (sym c.sooner_of-self.ensures ∙ both.1) in
    let sound : earliest database_standing (row_faults heading.columns row) ≡ None = ap (λ cs. earliest database_standing (row_faults cs row)) (sym c.as_slice.ensures) ∙ sym c.row_fault-found.ensures ∙ each.1 in
    row_means heading row c.requires.heading both.0 sound c.requires.fits

pub returns-in_ok-push-in-None : goal.returns-in_ok-push-in-None
returns-in_ok-push-in-None c = λ rows h.
    let heading = c.args.heading.now in
    let row = c.args.row in
    body_more heading rows row c.args.self.now _ c.row_fault-found.result h (c.row_fault-found.ensures ∙ ap (λ cs. earliest database_standing (row_faults cs row)) c.as_slice.ensures) c.sooner_of-self.ensures
    (λ sound none. c.in_ok-push-in-None.ensures.ok ∙ ap (λ r. c.args.self.now.rows ++ r ∷ []) (c.in_ok-meant_row-in-None.ensures heading.columns (heading_numbered heading c.requires.heading sound)))

pub returns-in-Some : goal.returns-in-Some
returns-in-Some c = λ rows h.
    let heading = c.args.heading.now in
    let row = c.args.row in
    body_more heading rows row c.args.self.now _ c.row_fault-found.result h (c.row_fault-found.ensures ∙ ap (λ cs. earliest database_standing (row_faults cs row)) c.as_slice.ensures) c.sooner_of-self.ensures
    (λ sound none. none_or_some c.sooner_of.result c.in-Some.field-0 (c.sooner_of.ensures ∙ ap (λ x. sooner database_standing x c.sooner_of-self.result) sound ∙ none) c.in-Some.is)
