-- The columns as they are in the heading.
use Rattle.std.proofs.Common.{◌∙◌, ap, subst, map, [], List}
use Rattle.indexmap.specs.IndexSet.{keys}
use Rattle.lrp_model.specs.Faults.{earliest, repeated, ninth}
use Rattle.lrp_model.specs.DatabaseFaults.{database_standing, database_fault, named_at}
use Rattle.lrp_model.specs.declared.faults.DbKind.TheVariants.{Name, Wide}
use Rattle.lrp_model.specs.declared.raw.RawColumn.{RawColumn}
use Rattle.lrp_rel.specs.Times.{AreTimesOf}
use Rattle.lrp_rel.proofs.GatheredLemmas.{heading_of}
use Rattle.lrp_rel.proofs.gathering.Heading.of.Goals as goal

pub returns-clause-heading : goal.returns-clause-heading
returns-clause-heading c =
    let P : List RawColumn → Type 0 = λ cs. AreTimesOf cs (keys c.in_ok-times.times) in
    heading_of _ c.in_ok-names.names c.ninth_column.result (subst P c.as_slice-written.ensures c.in_ok-times.ensures)
    (c.in_ok-names.ensures ∙ ap (λ cs. earliest database_standing (repeated (database_fault Name) [] (map named_at cs))) c.as_slice-written.ensures)
    (c.ninth_column.ensures ∙ ap (λ cs. earliest database_standing (ninth (database_fault Wide) 0 0 cs)) c.as_slice-written.ensures) c.sooner_of-fault.ensures
