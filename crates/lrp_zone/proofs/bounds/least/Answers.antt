-- Each turn writes the lesser number at one more place.
use Rattle.std.proofs.Common.{arith, rules, ◌≡◌, ◌∙◌, length-set, get_or, pos, to_z, of_z}
use Rattle.std.specs.Int.{w64}
use Rattle.lrp_zone.proofs.Stands.{number_more, numbers_all}
use Rattle.lrp_zone.proofs.bounds.least.Goals as goal

pub loop-place-preserved : goal.loop-place-preserved
loop-place-preserved c =
    let left : to_z w64 (of_z w64 (get_or c.a.inside.numbers c.loop-place.place (pos 0))) ≡ get_or c.a.inside.numbers c.loop-place.place (pos 0) = search rules in
    let right : to_z w64 (of_z w64 (get_or c.b.inside.numbers c.loop-place.place (pos 0))) ≡ get_or c.b.inside.numbers c.loop-place.place (pos 0) = search rules in
    let made : to_z w64 (of_z w64 c.lesser_number.result) ≡ c.lesser_number.result = search rules in
    record {
      size = length-set c.loop-place.numbers _ _ ∙ c.loop-place.invariant.size;
      each = rw made (number_more c.loop-place.numbers c.a.inside.numbers c.b.inside.numbers c.args.a.now c.args.b.now c.loop-place.place c.lesser_number.result _ _ c.loop-place.invariant.size c.a.invariant c.b.invariant (omega arith) c.a.view_is c.b.view_is left right c.lesser_number.ensures c.loop-place.invariant.each);
    }

pub returns : goal.returns
returns c = numbers_all c.loop-place.numbers c.args.a.now c.args.b.now c.loop-place.place c.loop-place.invariant.size (omega arith) c.loop-place.invariant.each
