-- One name more goes after the others, since it is none of them.
use Rattle.std.proofs.Common.{◌≡◌, ◌∙◌, ap, sym, map, length, arith, get_or}
use Rattle.std.proofs.lemmas.List.{length-map}
use Rattle.std.proofs.Math.ListN.{get_or-map}
use Rattle.std.specs.Str.{bytes_eq}
use Rattle.indexmap.specs.IndexSet.{keys, insert_key}
use Rattle.lrp_database.proofs.StoredLemmas.{next_name}
use Rattle.lrp_database.proofs.database.names_of.Goals as goal

pub loop-relation-preserved : goal.loop-relation-preserved
loop-relation-preserved c =
    let relations = c.args.relations.now in
    let names = map (λ r. r.name) relations in
    let i = c.loop-relation.relation-index in
    let relation = c.relation-item.result in
    let many : length names ≡ length relations = length-map relations (λ r. r.name) in
    let here : relation.name ≡ get_or names i relation.name = ap (λ r. r.name) c.relation-item.is ∙ sym (get_or-map (λ r. r.name) relations i relation) in
    c.in_ok-insert.ensures.keys
    ∙ ap (insert_key bytes_eq (keys c.loop-relation.names)) c.in_ok-copy.ensures
    ∙ ap (λ ks. insert_key bytes_eq ks relation.name) c.loop-relation.invariant
    ∙ next_name names i relation.name c.requires (omega (arith, c.loop-relation-test.true, many)) here
