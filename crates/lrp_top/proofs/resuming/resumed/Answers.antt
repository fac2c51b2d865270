-- The tuple of a token has the head's shape.
use Rattle.std.proofs.Common.{subst}
use Rattle.lrp_token.specs.Reading.{HasCounts}
use Rattle.lrp_top.specs.Resuming.{shape_of}
use Rattle.lrp_top.proofs.Listed.{token_shape}
use Rattle.lrp_top.proofs.resuming.resumed.Goals as goal

pub returns-in_default-digest-clause-shape : goal.returns-in_default-digest-clause-shape
returns-in_default-digest-clause-shape c =
    let tuple = c.in_ok-resume.resume.tuple in
    let told = c.in_ok-resume.ensures.tells in
    token_shape (shape_of c.args.head.now) tuple (subst (λ shape. HasCounts shape tuple.times tuple.texts) c.shape_of.ensures told.1) told.0.small
