-- The rows of all groups are counted, and where they are few their store has so many zones.
use Rattle.std.proofs.Common.{◌≤◌, None, Some, arith, subst, sym}
use Rattle.lrp_canon.specs.Canonical.{HasCanonicalZones}
use Rattle.lrp_canon.proofs.CanonLaws.{count_if, more_if}
use Rattle.lrp_canon.proofs.GroupEnds.{groups_repeat}
use Rattle.lrp_canon.proofs.Standing.{rows_stand, stands}
use Rattle.lrp_canon.proofs.answers.canonical_within.Goals as goal

pub rows_of-requires-clause-groups : goal.rows_of-requires-clause-groups
rows_of-requires-clause-groups c = groups_repeat c.args.answer.store c.in_ok-groups.ensures.valid c.requires.column c.requires.reach c.in_ok-groups.groups.lists c.in_ok-groups.ensures.groups c.in_ok-periods.periods c.in_ok-periods.ensures.whole c.in_ok-periods.ensures.least

pub returns-in-Ok-clause-counted : goal.returns-in-Ok-clause-counted
returns-in-Ok-clause-counted c =
    let s = c.args.answer.store in
    let counted : HasCanonicalZones s c.in-Some.field-0 = count_if s c.in_ok-groups.ensures.valid c.requires.column c.in_ok-groups.groups.lists c.in_ok-groups.ensures.groups c.in_ok-periods.periods c.in_ok-periods.ensures.whole c.in_ok-periods.ensures.least c.in_ok-rows.rows c.in_ok-rows.ensures c.args.most (omega (arith, c.ranges.most.fits)) (Some c.in-Some.field-0) c.in-Some.ensures.some in
    subst (HasCanonicalZones s) (sym (counted.zones c.in-Ok.made.store c.in-Ok.ensures.store)) counted

pub returns-in-Ok-clause-few : goal.returns-in-Ok-clause-few
returns-in-Ok-clause-few c =
    let s = c.args.answer.store in
    let counted : HasCanonicalZones s c.in-Some.field-0 = count_if s c.in_ok-groups.ensures.valid c.requires.column c.in_ok-groups.groups.lists c.in_ok-groups.ensures.groups c.in_ok-periods.periods c.in_ok-periods.ensures.whole c.in_ok-periods.ensures.least c.in_ok-rows.rows c.in_ok-rows.ensures c.args.most (omega (arith, c.ranges.most.fits)) (Some c.in-Some.field-0) c.in-Some.ensures.some in
    subst (λ n. n ≤ c.args.most) (sym (counted.zones c.in-Ok.made.store c.in-Ok.ensures.store)) c.in-Some.ensures.some.1

pub returns-clause-none : goal.returns-clause-none
returns-clause-none c = more_if c.args.answer.store c.in_ok-groups.ensures.valid c.requires.column c.in_ok-groups.groups.lists c.in_ok-groups.ensures.groups c.in_ok-periods.periods c.in_ok-periods.ensures.whole c.in_ok-periods.ensures.least c.in_ok-rows.rows c.in_ok-rows.ensures c.args.most None c.in-None.ensures.none

pub kept-requires-clause-canonical : goal.kept-requires-clause-canonical
kept-requires-clause-canonical c = stands c.args.answer.store c.in_ok-groups.ensures.valid c.requires c.in_ok-groups.groups.lists c.in_ok-groups.ensures.groups c.in_ok-periods.periods c.in_ok-periods.ensures.whole c.in_ok-periods.ensures.least (c.stands_already.ensures c.if-stands_already.true)

pub kept-requires-clause-counted : goal.kept-requires-clause-counted
kept-requires-clause-counted c = rows_stand c.args.answer.store c.in_ok-groups.ensures.valid c.requires c.in_ok-groups.groups.lists c.in_ok-groups.ensures.groups c.in_ok-periods.periods c.in_ok-periods.ensures.whole c.in_ok-periods.ensures.least (c.stands_already.ensures c.if-stands_already.true)
