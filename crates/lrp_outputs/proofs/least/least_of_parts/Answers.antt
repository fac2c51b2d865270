-- The part that has the least answer is taken out.
use Rattle.std.proofs.Common.{length, subst}
use Rattle.lrp_outputs.specs.PartLeasts.{IsLeastUpTo}
use Rattle.lrp_outputs.proofs.PartLeasts.{known_least, none_of_all, some_of_all, taken_out}
use Rattle.lrp_outputs.proofs.least.least_of_parts.Goals as goal

pub invariant_of-result : goal.invariant_of-result
invariant_of-result c =
    let found = c.least_part-found.result in
    let part = c.swap_remove-answer.result in
    let up : IsLeastUpTo c.args.parts (length c.args.parts) found = subst (λ ps. IsLeastUpTo ps (length ps) found) c.as_slice.ensures c.least_part-found.ensures.least in
    let here = taken_out c.args.parts c.into_vec.result.items c.as_slice.result.now found.part part c.into_vec.ensures c.as_slice.ensures c.least_part-found.ensures.place c.swap_remove-answer.ensures.value in
    record { known = known_least c.args.parts part found.least (some_of_all c.args.parts found part up here) }

pub returns-clause-none : goal.returns-clause-none
returns-clause-none c =
    let found = c.least_part-found.result in
    none_of_all c.args.parts found (subst (λ ps. IsLeastUpTo ps (length ps) found) c.as_slice.ensures c.least_part-found.ensures.least)

pub returns-clause-some : goal.returns-clause-some
returns-clause-some c =
    let found = c.least_part-found.result in
    let part = c.swap_remove-answer.result in
    let up : IsLeastUpTo c.args.parts (length c.args.parts) found = subst (λ ps. IsLeastUpTo ps (length ps) found) c.as_slice.ensures c.least_part-found.ensures.least in
    some_of_all c.args.parts found part up
    (taken_out c.args.parts c.into_vec.result.items c.as_slice.result.now found.part part c.into_vec.ensures c.as_slice.ensures c.least_part-found.ensures.place c.swap_remove-answer.ensures.value)
