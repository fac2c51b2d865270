-- The residues of the offset and of the shift make that of the point.
use Rattle.std.proofs.Common.{inl, inr, arith}
use Rattle.std.proofs.lemmas.Int.{ints}
use Rattle.lrp_steps.proofs.Compared.{rem_fact, less_is, more_is, shift_to, shift_from}
use Rattle.lrp_steps.proofs.comparisons.shifted.Goals as goal

pub returns-then-from-less-clause-to : goal.returns-then-from-less-clause-to
returns-then-from-less-clause-to c = λ x h.
    let da = rem_fact _ _ c.args.period c.rem_euclid-from.result c.args.offset c.rem_euclid-from.ensures.value (omega (arith, ints, c.ranges.offset.sfits)) (omega (arith, ints, c.ranges.period.sfits)) c.requires.low in
    let db = rem_fact _ _ c.args.period c.rem_euclid-less.result c.args.plus c.rem_euclid-less.ensures.value (omega (arith, ints, c.ranges.plus.sfits)) (omega (arith, ints, c.ranges.period.sfits)) c.requires.low in
    shift_to c.args.offset c.args.plus c.args.period c.rem_euclid-from.result c.rem_euclid-less.result _ da.0 db.0 (inr (more_is c.rem_euclid-from.result c.rem_euclid-less.result c.args.period da.1 da.2 db.1 db.2 c.requires.high)) x h

pub returns-then-from-less-clause-from : goal.returns-then-from-less-clause-from
returns-then-from-less-clause-from c = λ x h.
    let da = rem_fact _ _ c.args.period c.rem_euclid-from.result c.args.offset c.rem_euclid-from.ensures.value (omega (arith, ints, c.ranges.offset.sfits)) (omega (arith, ints, c.ranges.period.sfits)) c.requires.low in
    let db = rem_fact _ _ c.args.period c.rem_euclid-less.result c.args.plus c.rem_euclid-less.ensures.value (omega (arith, ints, c.ranges.plus.sfits)) (omega (arith, ints, c.ranges.period.sfits)) c.requires.low in
    shift_from c.args.offset c.args.plus c.args.period c.rem_euclid-from.result c.rem_euclid-less.result _ da.0 db.0 (inr (more_is c.rem_euclid-from.result c.rem_euclid-less.result c.args.period da.1 da.2 db.1 db.2 c.requires.high)) x h

pub returns-else-from-less-clause-to : goal.returns-else-from-less-clause-to
returns-else-from-less-clause-to c = λ x h.
    let da = rem_fact _ _ c.args.period c.rem_euclid-from.result c.args.offset c.rem_euclid-from.ensures.value (omega (arith, ints, c.ranges.offset.sfits)) (omega (arith, ints, c.ranges.period.sfits)) c.requires.low in
    let db = rem_fact _ _ c.args.period c.rem_euclid-less.result c.args.plus c.rem_euclid-less.ensures.value (omega (arith, ints, c.ranges.plus.sfits)) (omega (arith, ints, c.ranges.period.sfits)) c.requires.low in
    shift_to c.args.offset c.args.plus c.args.period c.rem_euclid-from.result c.rem_euclid-less.result _ da.0 db.0 (inl (less_is c.rem_euclid-from.result c.rem_euclid-less.result c.args.period da.1 da.2 db.1 db.2 c.requires.high)) x h

pub returns-else-from-less-clause-from : goal.returns-else-from-less-clause-from
returns-else-from-less-clause-from c = λ x h.
    let da = rem_fact _ _ c.args.period c.rem_euclid-from.result c.args.offset c.rem_euclid-from.ensures.value (omega (arith, ints, c.ranges.offset.sfits)) (omega (arith, ints, c.ranges.period.sfits)) c.requires.low in
    let db = rem_fact _ _ c.args.period c.rem_euclid-less.result c.args.plus c.rem_euclid-less.ensures.value (omega (arith, ints, c.ranges.plus.sfits)) (omega (arith, ints, c.ranges.period.sfits)) c.requires.low in
    shift_from c.args.offset c.args.plus c.args.period c.rem_euclid-from.result c.rem_euclid-less.result _ da.0 db.0 (inl (less_is c.rem_euclid-from.result c.rem_euclid-less.result c.args.period da.1 da.2 db.1 db.2 c.requires.high)) x h
