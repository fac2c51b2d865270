-- The names stand in the order of the relations.
use Rattle.std.proofs.Common.{◌≡◌, ◌∙◌, ap, sym, map, false, Some, position}
use Rattle.std.specs.List.{list_any}
use Rattle.std.specs.Option.{is_some}
use Rattle.std.specs.Str.{bytes_eq}
use Rattle.std.proofs.lemmas.Option.{get_or_from_slice_get}
use Rattle.lrp_model.specs.declared.relations.Relation.{Relation}
use Rattle.lrp_model.specs.Rows.{relation_named}
use Rattle.lrp_model.specs.Kept.{IsKept}
use Rattle.lrp_database.proofs.SeenLemmas.{found_first}
use Rattle.lrp_database.proofs.StoredLemmas.{named_found, named_none, all_got}
use Rattle.lrp_database.proofs.database.Database.relation.Goals as goal

pub returns-in-Some-clause-named : goal.returns-in-Some-clause-named
returns-in-Some-clause-named c =
    let inside = c.self.inside in
    let relations = inside.relations in
    let name = c.args.name.now in
    let i = c.in-Some.i in
    let found : position (bytes_eq name) (map (λ r. r.name) relations) ≡ Some i = ap (position (bytes_eq name)) (sym c.self.invariant.order) ∙ sym c.get_index_of.ensures.index ∙ c.in-Some.is in
    let r : Relation = c.at.result.now in
    let same : relation_named relations name ≡ Some r = named_found relations i name r (found_first (bytes_eq name) (map (λ x. x.name) relations) i name found) (get_or_from_slice_get relations i r r c.at.ensures) in
    sym (ap (λ rs. relation_named rs name) (sym c.self.view_is) ∙ same)

pub returns-in-Some-clause-kept : goal.returns-in-Some-clause-kept
returns-in-Some-clause-kept c = all_got IsKept c.self.inside.relations c.in-Some.i c.at.result.now c.self.invariant.kept.each c.at.ensures

pub returns-in-None-clause-named : goal.returns-in-None-clause-named
returns-in-None-clause-named c =
    let relations = c.self.inside.relations in
    let name = c.args.name.now in
    let none : list_any (bytes_eq name) (map (λ r. r.name) relations) ≡ false =
    ap (list_any (bytes_eq name)) (sym c.self.invariant.order) ∙ sym c.get_index_of.ensures.found ∙ ap is_some c.in-None.is in
    sym (ap (λ rs. relation_named rs name) (sym c.self.view_is) ∙ named_none relations name none)
