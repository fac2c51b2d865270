-- The list at the place of the name, or none where the name is not there.
use Rattle.std.proofs.Common.{◌≡◌, ◌∙◌, ap, sym, false}
use Rattle.std.specs.List.{list_any}
use Rattle.std.specs.Option.{is_some}
use Rattle.std.specs.Str.{bytes_eq}
use Rattle.indexmap.specs.IndexSet.{keys}
use Rattle.lrp_database.proofs.SeenLemmas.{beside_found, beside_none}
use Rattle.lrp_database.proofs.texts.TextLists.of_name.Goals as goal

pub returns-in-Some : goal.returns-in-Some
returns-in-Some c =
    beside_found (keys c.args.self.now.names) c.args.self.now.named c.in-Some.i c.args.name.now c.at.result.now (sym c.get_index_of.ensures.index ∙ c.in-Some.is) c.requires.paired c.at.ensures

pub returns-in-None : goal.returns-in-None
returns-in-None c =
    let names = keys c.args.self.now.names in
    let none : list_any (bytes_eq c.args.name.now) names ≡ false = sym c.get_index_of.ensures.found ∙ ap is_some c.in-None.is in
    c.requires.none ∙ sym (beside_none names c.args.self.now.named c.args.name.now none)
