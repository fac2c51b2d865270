-- Each turn copies one more bound.
use Rattle.std.proofs.Common.{rules, arith, ◌≡◌, ◌∙◌, length, get_or, pos, to_z, of_z}
use Rattle.std.specs.Int.{w64}
use Rattle.lrp_zone.proofs.Stands.{read_bound, view_size}
use Rattle.lrp_zone.proofs.Steps.{same_more, same_all, length_set}
use Rattle.lrp_zone.proofs.bounds.widened.Goals as goal

pub loop-place-preserved : goal.loop-place-preserved
loop-place-preserved c =
    let size : length c.loop-place.out ≡ 81 = c.loop-place.invariant.size in
    let long : length c.args.bounds.now ≡ 81 = view_size _ _ c.bounds.invariant c.bounds.view_is in
    let same : to_z w64 (of_z w64 (get_or c.bounds.inside.numbers c.loop-place.place (pos 0))) ≡ get_or c.bounds.inside.numbers c.loop-place.place (pos 0) = search rules in
    record { size = length_set _ _ _ size; same = same_more c.loop-place.out c.args.bounds.now c.loop-place.place _ (omega arith) (omega arith) (c.wide.ensures ∙ read_bound c.bounds.inside.numbers c.args.bounds.now c.loop-place.place (pos 0) _ _ c.bounds.invariant (omega arith) c.bounds.view_is same c.bound_of.ensures.value) c.loop-place.invariant.same }

pub returns : goal.returns
returns c =
    let size : length c.loop-place.out ≡ 81 = c.loop-place.invariant.size in
    let long : length c.args.bounds.now ≡ 81 = view_size _ _ c.bounds.invariant c.bounds.view_is in
    same_all c.loop-place.out c.args.bounds.now c.loop-place.place (omega arith) (omega arith) c.loop-place.invariant.same
