-- The flaws of the row's content and of its times.
use Rattle.std.proofs.Common.{subst, sym}
use Rattle.std.specs.Prelude.{◌↔◌, IsTrue}
use Rattle.std.specs.List.{AllByRecursion}
use Rattle.lrp_model.specs.Sorts.{time_count}
use Rattle.lrp_lint.specs.Flaws.{HasUntied}
use Rattle.lrp_lint.specs.Ties.{AreBetween}
use Rattle.lrp_lint.proofs.Found.{row_found}
use Rattle.lrp_lint.proofs.Readable.{between_more}
use Rattle.lrp_lint.proofs.Walked.{then_ok}
use Rattle.lrp_lint.proofs.rows.add_row.Goals as goal

pub has_untied-untied-requires-clause-between : goal.has_untied-untied-requires-clause-between
has_untied-untied-requires-clause-between c = subst (AllByRecursion (AreBetween 8)) (sym c.as_slice.ensures) (between_more (time_count c.args.columns.now) 8 c.args.row.now.bounds c.requires.few c.requires.row.bounds)

pub returns : goal.returns
returns c =
    let row = c.args.row.now in
    let untied = c.has_untied-untied.result in
    let ties : IsTrue untied ↔ HasUntied (time_count c.args.columns.now) row.bounds = subst (λ n. IsTrue untied ↔ HasUntied n row.bounds) c.times_of-times.ensures (subst (λ bs. IsTrue untied ↔ HasUntied c.times_of-times.result bs) c.as_slice.ensures c.has_untied-untied.ensures) in
    then_ok c.add_flaws.result _ _ c.add_flaws.ensures (row_found c.args.at.relation c.args.at.row c.args.columns.now row c.in_ok-content.content untied c.in_ok-content.ensures ties c.args.found.now.items c.add_flaws.new.found.items)
