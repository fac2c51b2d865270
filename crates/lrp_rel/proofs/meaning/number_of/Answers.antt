-- The number is one more than the index at which the name is found.
use Rattle.std.proofs.Common.{◌≡◌, ◌∙◌, ap, sym, false, arith}
use Rattle.std.specs.List.{list_any}
use Rattle.std.specs.Option.{is_some}
use Rattle.std.specs.Str.{bytes_eq}
use Rattle.indexmap.specs.IndexSet.{keys}
use Rattle.lrp_database.proofs.SeenLemmas.{found_first}
use Rattle.lrp_rel.proofs.SoundLemmas.{place_found, place_none}
use Rattle.lrp_rel.proofs.meaning.number_of.Goals as goal

pub returns-in-Some : goal.returns-in-Some
returns-in-Some c =
    let names = keys c.args.times.now in
    let name = c.args.name.now in
    let i = c.in-Some.i in
    let h = place_found 0 names i name (found_first (bytes_eq name) names i name (sym c.get_index_of.ensures.index ∙ c.in-Some.is)) in
    omega (arith, h)

pub returns-in-None : goal.returns-in-None
returns-in-None c =
    let names = keys c.args.times.now in
    let none : list_any (bytes_eq c.args.name.now) names ≡ false = sym c.get_index_of.ensures.found ∙ ap is_some c.in-None.is in
    sym (place_none 0 names c.args.name.now none)
