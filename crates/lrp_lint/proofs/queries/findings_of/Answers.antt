-- The head's columns are the binders of the body.
use Rattle.std.proofs.Common.{◌≤◌, ◌∙◌, ap, arith, length, map, refl, reverse, take_all}
use Rattle.std.specs.Borrow.{Bor}
use Rattle.lrp_model.specs.declared.raw.RawColumn.{RawColumn}
use Rattle.lrp_lint.specs.Known.{binders_in}
use Rattle.lrp_lint.proofs.Mentioned.{head_more, query_walked}
use Rattle.lrp_lint.proofs.queries.findings_of.Goals as goal

pub loop-column-init : goal.loop-column-init
loop-column-init c = ap (map (λ (b : Bor RawColumn). b.now)) c.new-binders.ensures.items

pub loop-column-preserved : goal.loop-column-preserved
loop-column-preserved c = head_more c.loop-column.binders.items c.push.new.self.items _ c.as_slice-head.result.now c.loop-column.column-index c.column-item.result c.loop-column-test.true c.column-item.is c.loop-column.invariant c.in_ok-push.ensures.items refl

pub returns : goal.returns
returns c =
    let head = c.as_slice-head.result.now in
    let all : length head ≤ c.loop-column.column-index = omega (arith, c.loop-column-test.false) in
    query_walked c.args.database.now _ c.args.query.now (binders_in c.loop-column.binders.items) c.new-found.result.items c.walk.new.found.items c.in_ok-catalog.ensures c.new-found.ensures.items
    (ap reverse (c.loop-column.invariant ∙ take_all c.loop-column.column-index head all ∙ c.as_slice-head.ensures)) c.in_ok-walk.ensures.found
