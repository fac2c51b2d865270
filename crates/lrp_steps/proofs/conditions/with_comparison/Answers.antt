-- The comparison's zone at its own columns.
use Rattle.std.proofs.Common.{◌+◌, ◌≤◌, ◌^◌, ◌∙◌, length, subst, sym}
use Rattle.std.specs.Prelude.{nat_abs, ◌-ℤ◌}
use Rattle.lrp_model.specs.Reach.{term_offset}
use Rattle.lrp_steps.specs.Comparisons.{IsOverOwn}
use Rattle.lrp_steps.proofs.OwnColumns.{own_test, own_no}
use Rattle.lrp_steps.proofs.conditions.with_comparison.Goals as goal

pub returns-in_ok-with_zone-in-Some : goal.returns-in_ok-with_zone-in-Some
returns-in_ok-with_zone-in-Some c = λ domain texts.
    own_test domain c.args.times.now texts c.args.left.now c.args.right.now c.args.op c.side_of-first.result c.side_of-second.result c.side_of-first.ensures.value c.side_of-second.ensures.value c.side_of-first.ensures.plus c.side_of-second.ensures.plus
    c.own_sides-own.result (c.own_sides-own.ensures (length c.args.times.now) c.side_of-first.ensures.column c.side_of-second.ensures.column) c.args.pattern c.requires.known c.in-Some.zone c.in-Some.ensures.some _ c.in_ok-with_zone-in-Some.ensures

pub returns-in-None : goal.returns-in-None
returns-in-None c = λ domain texts.
    own_no domain c.args.times.now texts c.args.left.now c.args.right.now c.args.op c.side_of-first.result c.side_of-second.result c.side_of-first.ensures.value c.side_of-second.ensures.value c.side_of-first.ensures.plus c.side_of-second.ensures.plus
    c.own_sides-own.result (c.own_sides-own.ensures (length c.args.times.now) c.side_of-first.ensures.column c.side_of-second.ensures.column) c.args.pattern c.in-None.ensures.none

pub compared-requires : goal.compared-requires
compared-requires c =
    let o : IsOverOwn (length c.args.times.now) c.side_of-first.result c.side_of-second.result c.own_sides-own.result = c.own_sides-own.ensures (length c.args.times.now) c.side_of-first.ensures.column c.side_of-second.ensures.column in
    record {
      few = o.few;
      left = o.left_high;
      right = o.right_high;
      reach = subst (λ p. 1 + nat_abs (p -ℤ c.own_sides-own.result.right.plus) ≤ 2 ^ 62) (sym (o.left_plus ∙ c.side_of-first.ensures.plus))
          (subst (λ q. 1 + nat_abs (term_offset c.args.left.now -ℤ q) ≤ 2 ^ 62) (sym (o.right_plus ∙ c.side_of-second.ensures.plus)) c.requires.reach);
    }
