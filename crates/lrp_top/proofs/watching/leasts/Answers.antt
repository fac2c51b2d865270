-- Of what is kept, or decided anew.
use Rattle.std.proofs.Common.{subst, sym, ◌∙◌}
use Rattle.lrp_model.specs.Formulas.{question_of}
use Rattle.lrp_outputs.specs.Outputs.{told}
use Rattle.lrp_top.specs.Watched.{IsWatched}
use Rattle.lrp_top.proofs.WatchLemmas.{can_be_watched}
use Rattle.lrp_top.proofs.watching.leasts.Goals as goal

pub kept_leasts-requires : goal.kept_leasts-requires
kept_leasts-requires c = can_be_watched c.args.database.now (question_of c.args.query.now) c.args.edits.now c.requires (sym c.is_kept.ensures ∙ c.if-is_kept.true)

pub returns-then-is_kept : goal.returns-then-is_kept
returns-then-is_kept c =
    let how = c.args.how in
    subst (λ kept. IsWatched kept how.planning c.args.database.now (question_of c.args.query.now) how.cap c.args.edits.now (told c.kept_leasts.result)) (sym (sym c.is_kept.ensures ∙ c.if-is_kept.true)) c.kept_leasts.ensures

pub returns-else-is_kept : goal.returns-else-is_kept
returns-else-is_kept c =
    let how = c.args.how in
    subst (λ kept. IsWatched kept how.planning c.args.database.now (question_of c.args.query.now) how.cap c.args.edits.now (told c.new_leasts.result)) (sym (sym c.is_kept.ensures ∙ c.if-is_kept.false)) c.new_leasts.ensures
