-- A cell that is found equal stands at the place.
use Rattle.std.proofs.Common.{◌≡◌, ◌<◌, List, Option, Some, Contains, length, get_or, sym, ap, subst, ◌∙◌, arith}
use Rattle.lrp_model.specs.declared.tuples.Cell.{Cell}
use Rattle.lrp_slots.proofs.Shortened.{same_numbers}
use Rattle.lrp_tables.proofs.remembered.RememberedCells.has.Goals as goal

pub returns-in-Some : goal.returns-in-Some
returns-in-Some c = λ t.
    let same : c.in-Some.held ≡ c.args.cell.now = same_numbers c.in-Some.held c.args.cell.now (sym c.eq.ensures ∙ t) in
    let e : c.index.result.now ≡ Some c.args.cell.now = c.in-Some.is ∙ ap Some same in
    let l : c.place_of.result < length c.self.inside.places.items = omega (arith, c.place_of.ensures, c.len-places.ensures) in
    let read : get_or c.self.inside.places.items c.place_of.result (Some c.args.cell.now) ≡ Some c.args.cell.now = subst (λ v. get_or c.self.inside.places.items c.place_of.result v ≡ v) e (sym c.index.ensures) in
    subst (λ (list : List (Option Cell)). Contains list (Some c.args.cell.now)) c.self.view_is (c.place_of.result, l, read)
