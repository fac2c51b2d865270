-- One more row is compared.
use Rattle.std.proofs.Common.{◌≡◌, ◌+◌, arith}
use Rattle.lrp_zone.specs.Zones.{columns_of}
use Rattle.lrp_cutting.proofs.CoverLaws.{row_of, rows_all, rows_more}
use Rattle.lrp_cutting.proofs.covering.lies_within.Goals as goal

pub loop-left-init : goal.loop-left-init
loop-left-init c = λ i l. absurd (omega arith)

pub returns-then-not-row_lies_within : goal.returns-then-not-row_lies_within
returns-then-not-row_lies_within c = (λ t. absurd (cc t), λ h. absurd (cc (c.row_lies_within.ensures.1 (row_of _ _ _ c.loop-left.left (omega (arith, c.loop-left-test.true, c.columns-left-end.ensures.value)) h), c.if-not-row_lies_within.true)))

pub loop-left-preserved : goal.loop-left-preserved
loop-left-preserved c = rows_more _ _ _ _ c.loop-left.invariant (c.row_lies_within.ensures.0 c.if-not-row_lies_within.false)

pub returns : goal.returns
returns c = (λ t. rows_all _ _ _ c.loop-left.left (omega (arith, c.loop-left-test.false, c.columns-left-end.ensures.value)) c.loop-left.invariant, λ h. cc)
