-- The sum of both bounds.
use Rattle.std.proofs.Common.{Some, SFits, rules, sym}
use Rattle.std.specs.Int.{w64}
use Rattle.lrp_periods.proofs.WindowLaws.{over_sum, stored_over}
use Rattle.lrp_periods.proofs.bounding.through.Goals as goal

pub returns : goal.returns
returns c =
    let first : SFits w64 c.in_ok-first.first = search rules in
    let second : SFits w64 c.in_ok-second.second = search rules in
    over_sum c.args.zone.now c.args.column c.args.middle c.args.other c.in_ok-first.first c.in_ok-second.second c.checked_add.result first second
    (stored_over c.args.zone.now c.args.column c.args.middle (Some c.in_ok-first.first) c.requires.column c.requires.middle (sym c.in_ok-first.ensures))
    (stored_over c.args.zone.now c.args.middle c.args.other (Some c.in_ok-second.second) c.requires.middle c.requires.other (sym c.in_ok-second.ensures))
    c.checked_add.ensures
