-- The bound is compared, or stands on the diagonal.
use Rattle.std.proofs.Common.{◌+◌, ◌≤◌, arith, subst, sym}
use Rattle.lrp_zone.specs.Zones.{columns_of}
use Rattle.lrp_cutting.specs.Covering.{IsBelowAt}
use Rattle.lrp_cutting.proofs.covering.meets_bound.Goals as goal

pub bound_of-requires-clause-small : goal.bound_of-requires-clause-small
bound_of-requires-clause-small c = c.requires.small.each c.args.left c.args.right (omega (arith, c.requires.columns, c.requires.left)) (omega (arith, c.requires.columns, c.requires.right)) c.if-left-right.false

pub returns-then-left-right : goal.returns-then-left-right
returns-then-left-right c = (λ t ne. absurd (ne c.if-left-right.true), λ h. cc)

pub returns : goal.returns
returns c = (λ t ne. rw (← c.bound_of.ensures, ← c.bound.ensures) (c.ends_by.ensures.0 t), λ h. c.ends_by.ensures.1 (rw (c.bound_of.ensures, c.bound.ensures) (h c.if-left-right.false)))
