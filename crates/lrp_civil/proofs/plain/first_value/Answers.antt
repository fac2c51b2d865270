use Rattle.std.proofs.Common.{rules, ◌≡◌, None, arith}
use Rattle.lrp_civil.specs.PlainText.{value_in}
use Rattle.lrp_calendar.proofs.PartLemmas.{none_is}
use Rattle.lrp_civil.proofs.PlainLemmas.{begins_way, after_signs, last_signs, way_on, way_end, token_left, value_here}
use Rattle.lrp_civil.proofs.Spelled.{value_none}
use Rattle.lrp_civil.proofs.plain.first_value.Goals as goal

pub loop-value-init : goal.loop-value-init
loop-value-init c = record { way = begins_way c.args.kind c.args.bytes.now; shorter = search rules }

pub loop-value-preserved : goal.loop-value-preserved
loop-value-preserved c =
    let token = c.after_blanks-token.result.now in
    let none : value_in c.args.kind token ≡ None = value_none c.args.kind token c.in_default.ensures in
    let less = token_left _ token c.in_ok-rest.rest.now c.in_ok-rest.ensures in
    record {
      way = way_on c.args.kind c.args.bytes.now c.loop-value.rest.now token c.in_ok-rest.rest.now c.loop-value.invariant.way c.after_blanks-token.ensures.rest none (after_signs _ _ token c.in_ok-rest.rest.now c.has_signs.ensures c.in_ok-rest.ensures);
      shorter = omega (arith, c.after_blanks-token.ensures.shorter, c.loop-value.invariant.shorter);
    }

pub loop-value-smaller : goal.loop-value-smaller
loop-value-smaller c =
    let less = token_left _ c.after_blanks-token.result.now c.in_ok-rest.rest.now c.in_ok-rest.ensures in
    omega (arith, c.after_blanks-token.ensures.shorter)

pub returns-in-Some-clause-first : goal.returns-in-Some-clause-first
returns-in-Some-clause-first c =
    value_here c.args.kind c.args.bytes.now c.loop-value.rest.now c.after_blanks-token.result.now c.in-Some.value c.len.result c.loop-value.invariant.way c.after_blanks-token.ensures.rest c.in-Some.ensures c.len.ensures

pub returns-in_err-rest-clause-first : goal.returns-in_err-rest-clause-first
returns-in_err-rest-clause-first c =
    let token = c.after_blanks-token.result.now in
    let none : value_in c.args.kind token ≡ None = value_none c.args.kind token c.in_default.ensures in
    none_is _ _ c.from_residual.result c.from_residual.ensures (way_end c.args.kind c.args.bytes.now c.loop-value.rest.now token c.loop-value.invariant.way c.after_blanks-token.ensures.rest none (last_signs _ _ token c.has_signs.ensures c.in_err-rest.ensures))
