-- The limit that was passed, as a refusal.
use Rattle.std.proofs.Common.{Err, true, subst, sym}
use Rattle.lrp_model.specs.Formulas.{question_of}
use Rattle.lrp_top.specs.Watched.{IsWatched}
use Rattle.lrp_top.proofs.WatchLemmas.{refused_watch}
use Rattle.lrp_top.proofs.watching.kept_leasts.Goals as goal

pub returns-in-Err : goal.returns-in-Err
returns-in-Err c =
    let db = c.args.database.now in
    let q = question_of c.args.query.now in
    let how = c.args.how in
    subst (λ refusal. IsWatched true how.planning db q how.cap c.args.edits.now (Err refusal)) (sym c.refused.ensures) (refused_watch true how.planning db q c.args.edits.now how.cap c.in-Err.fault c.in-Err.ensures.fault)
