-- The content beneath stands for all tuples with the residues so far.
use Rattle.std.proofs.Common.{◌≤◌, arith}
use Rattle.lrp_minus.proofs.BeneathLaws.{among_eight}
use Rattle.lrp_minus.proofs.ContentLaws.{content_is}
use Rattle.lrp_minus.proofs.taking.content_at.Goals as goal

pub content_beneath-requires-clause-places : goal.content_beneath-requires-clause-places
content_beneath-requires-clause-places c = among_eight c.args.out.now.shape.times c.args.out.now.shape.texts c.args.taking.now.right.now c.args.taking.now.places.now c.requires.taking.store.times c.requires.taking.store.texts c.requires.taking.cut.among

pub returns-then-p-taking : goal.returns-then-p-taking
returns-then-p-taking c =
    let few : c.args.out.now.shape.times ≤ 8 = c.requires.taking.store.times in
    let within : c.args.p ≤ c.args.out.now.shape.times = c.requires.column in
    content_is c.args.taking.now c.args.out.now c.requires.taking c.args.cell.now c.args.p (omega arith) (omega (arith, c.if-p-taking.true)) c.content_beneath.result c.content_beneath.ensures
