-- One relation more adds the texts of its rows.
use Rattle.std.proofs.Common.{◌≡◌, ◌+◌, ◌++◌, ◌∙◌, List, ap, take}
use Rattle.std.specs.List.{flat_map}
use Rattle.lrp_model.specs.Texts.{Text}
use Rattle.lrp_model.specs.Domains.{row_texts, database_texts}
use Rattle.lrp_model.specs.declared.relations.Sort.{Sort}
use Rattle.lrp_model.specs.declared.relations.Relation.{Relation}
use Rattle.lrp_database.proofs.SeenLemmas.{flat_next, seen_both, seen_as}
use Rattle.lrp_database.proofs.seen.Seen.see_all.Goals as goal

-- the texts of a relation's rows
abbrev texts_in_rows : Relation → List (Sort × Text)
texts_in_rows relation = flat_map (λ row. row_texts relation.columns row.values) relation.rows

pub loop-relation-preserved : goal.loop-relation-preserved
loop-relation-preserved c =
    let relations = c.args.relations.now in
    let i = c.loop-relation.relation-index in
    let relation = c.relation-item.result in
    let some = database_texts (take i relations) in
    let more = texts_in_rows relation in
    let rows = flat_map (λ row. row_texts c.as_slice.result.now row.values) c.as_slice-in-loop-relation.result.now in
    let same : rows ≡ more = ap (λ cs. flat_map (λ row. row_texts cs row.values) c.as_slice-in-loop-relation.result.now) c.as_slice.ensures ∙ ap (flat_map (λ row. row_texts relation.columns row.values)) c.as_slice-in-loop-relation.ensures in
    record {
      seen = seen_as (some ++ more) (database_texts (take (i + 1) relations)) c.args.self.now c.see_rows.new.self
          (flat_next texts_in_rows relations i relation c.loop-relation-test.true c.relation-item.is)
          (seen_both some more c.args.self.now c.loop-relation.self c.see_rows.new.self c.loop-relation.invariant.seen (seen_as rows more c.loop-relation.self c.see_rows.new.self same c.in_ok-see_rows.ensures.seen));
      paired = c.in_ok-see_rows.ensures.paired;
    }
