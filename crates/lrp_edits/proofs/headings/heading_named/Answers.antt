-- The headings stand in the order of the relations.
use Rattle.std.proofs.Common.{◌≡◌, ◌∙◌, ap, sym, subst, map, length, position, false, Option, Some, None, arith}
use Rattle.std.specs.List.{list_any}
use Rattle.std.specs.Option.{is_some}
use Rattle.std.specs.Str.{bytes_eq}
use Rattle.std.proofs.lemmas.List.{length-map}
use Rattle.std.proofs.lemmas.List.Quantifiers.{position-Some}
use Rattle.lrp_model.specs.declared.relations.Relation.{Relation}
use Rattle.lrp_edits.specs.EditGathered.{IsHeadingIn}
use Rattle.lrp_database.proofs.SeenLemmas.{found_first}
use Rattle.lrp_database.proofs.StoredLemmas.{named_none}
use Rattle.lrp_edits.proofs.EditLemmas.{headings_many, heading_found}
use Rattle.lrp_edits.proofs.headings.heading_named.Goals as goal

pub at-requires : goal.at-requires
at-requires c =
    let relations = c.args.database.now in
    let name = c.args.name.now in
    let i = c.in-Some.i in
    let found : position (bytes_eq name) (map (λ r. r.name) relations) ≡ Some i = sym c.index_of.ensures.index ∙ c.in-Some.is in
    let inside = position-Some (bytes_eq name) (map (λ r. r.name) relations) i name found in
    let many : length (map (λ r. r.name) relations) ≡ length relations = length-map relations (λ r. r.name) in
    let same : length relations ≡ length c.args.headings.now = headings_many relations c.args.headings.now c.requires in
    omega (arith, inside.0, many, same)

pub returns-in-Some : goal.returns-in-Some
returns-in-Some c =
    let relations = c.args.database.now in
    let name = c.args.name.now in
    let i = c.in-Some.i in
    let found : position (bytes_eq name) (map (λ r. r.name) relations) ≡ Some i = sym c.index_of.ensures.index ∙ c.in-Some.is in
    heading_found relations c.args.headings.now i name c.at.result.now c.requires (found_first (bytes_eq name) (map (λ r. r.name) relations) i name found) c.at.ensures

pub returns-in-None : goal.returns-in-None
returns-in-None c =
    let relations = c.args.database.now in
    let name = c.args.name.now in
    let none : list_any (bytes_eq name) (map (λ r. r.name) relations) ≡ false = sym c.index_of.ensures.found ∙ ap is_some c.in-None.is in
    let P : Option Relation → Type 0 = λ o. IsHeadingIn o None in
    subst P (sym (named_none relations name none)) tt
