-- The row can be read, and is within the limits.
use Rattle.std.proofs.Common.{◌≤◌, subst, sym}
use Rattle.std.proofs.lemmas.Option.{MatchOption-at_some}
use Rattle.lrp_lint.specs.Contents.{IsReadable}
use Rattle.lrp_lint.proofs.Readable.{readable}
use Rattle.lrp_lint.proofs.Rooms.{within_limits}
use Rattle.lrp_lint.proofs.contents.content_flaw.Goals as goal

pub is_empty-requires-clause-readable : goal.is_empty-requires-clause-readable
is_empty-requires-clause-readable c =
    subst (λ n. IsReadable n c.args.row.now) (sym c.requires.times) (readable c.args.columns.now c.args.row.now (subst (λ n. n ≤ 8) c.requires.times c.requires.few) c.requires.row)

pub returns-then-branch : goal.returns-then-branch
returns-then-branch c = (within_limits c.args.row.now c.in-Some.period (MatchOption-at_some _ _ c.in-Some.period c.in-Some.is c.room_of.ensures), c.in_ok-is_empty.ensures.0 c.if-branch.true)

pub returns-else-branch : goal.returns-else-branch
returns-else-branch c = (within_limits c.args.row.now c.in-Some.period (MatchOption-at_some _ _ c.in-Some.period c.in-Some.is c.room_of.ensures), λ empty. (let t = c.in_ok-is_empty.ensures.1 empty in let f = c.if-branch.false in cc))
