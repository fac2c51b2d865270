-- The first refusal, or the least answers while the edits are made.
use Rattle.std.proofs.Common.{None, arith, refl, subst, sym, ◌∙◌}
use Rattle.std.proofs.lemmas.Result.{err_from_is_err_and}
use Rattle.std.specs.List.{AllByRecursion}
use Rattle.lrp_edits.specs.EditMeaning.{IsEditOf}
use Rattle.lrp_kept.specs.KeptForm.{is_kept}
use Rattle.lrp_model.specs.Formulas.{question_of}
use Rattle.lrp_outputs.specs.Outputs.{told}
use Rattle.lrp_top.specs.Watched.{IsWatched}
use Rattle.lrp_top.specs.declared.language.QueryLanguage.TheVariants.{FirstOrder}
use Rattle.lrp_top.specs.Questions.{database_source, query_source}
use Rattle.lrp_top.proofs.QuestionLemmas.{asked_since, read_before}
use Rattle.lrp_top.proofs.WatchLemmas.{asked_before, can_be_decided, edits_since, refused_edits, refused_form, refused_query, watched}
use Rattle.lrp_io.proofs.StartsLemmas.{first_and_only, only_first}
use Rattle.lrp_top.proofs.watching.watch.Goals as goal

pub returns-in_err-query-clause-due : goal.returns-in_err-query-clause-due
returns-in_err-query-clause-due g c =
    let files = c.args.files.now in
    let p = err_from_is_err_and c.from_residual-in_err-query.result c.from_residual-in_err-query.ensures.1 in
    rw (p.1, p.2) (refused_query _ files.database.now files.query.now files.edits.now c.args.how.cap c.args.how.planning c.args.how.auto (database_source c.in_ok-database.database)
    (read_before None _ _ _ _ c.in_ok-database.ensures.read refl) c.in_err-query.field-0.0
    (asked_since FirstOrder _ _ _ _ _ _ c.in_err-query.ensures.asked (sym c.in_ok-database.ensures.files) (c.in_ok-database.ensures.later files.query.now)))

pub returns-in_err-looked_at-clause-due : goal.returns-in_err-looked_at-clause-due
returns-in_err-looked_at-clause-due g c =
    let files = c.args.files.now in
    let p = err_from_is_err_and c.from_residual-in_err-looked_at.result c.from_residual-in_err-looked_at.ensures.1 in
    rw (p.1, p.2) (refused_form _ files.database.now files.query.now files.edits.now c.args.how.cap c.args.how.planning c.args.how.auto (database_source c.in_ok-database.database)
    (read_before None _ _ _ _ c.in_ok-database.ensures.read refl) (query_source c.in_ok-query.query)
    (asked_before _ _ _ _ _ c.in_ok-query.ensures.asked (sym c.in_ok-database.ensures.files))
    c.in_err-looked_at.field-0.0 c.in_err-looked_at.ensures.looked)

pub returns-in_err-edits-clause-due : goal.returns-in_err-edits-clause-due
returns-in_err-edits-clause-due g c =
    let files = c.args.files.now in
    let p = err_from_is_err_and c.from_residual-in_err-edits.result c.from_residual-in_err-edits.ensures.1 in
    rw (p.1, p.2) (refused_edits _ files.database.now files.query.now files.edits.now c.args.how.cap c.args.how.planning c.args.how.auto (database_source c.in_ok-database.database)
    (read_before None _ _ _ _ c.in_ok-database.ensures.read refl) (query_source c.in_ok-query.query)
    (asked_before _ _ _ _ _ c.in_ok-query.ensures.asked (sym c.in_ok-database.ensures.files)) c.in_ok-looked_at.ensures.fit c.in_err-edits.field-0.0
    (edits_since _ _ _ _ _ _ c.in_err-edits.ensures.read (sym (c.in_ok-query.ensures.files ∙ c.in_ok-database.ensures.files))
    (omega (arith, c.in_ok-database.ensures.later files.edits.now, c.in_ok-query.ensures.later files.edits.now))))

pub returns-clause-due : goal.returns-clause-due
returns-clause-due g c =
    let files = c.args.files.now in
    watched _ files.database.now files.query.now files.edits.now c.args.how.cap c.args.how.planning c.args.how.auto (database_source c.in_ok-database.database)
    (read_before None _ _ _ _ c.in_ok-database.ensures.read refl) (query_source c.in_ok-query.query)
    (asked_before _ _ _ _ _ c.in_ok-query.ensures.asked (sym c.in_ok-database.ensures.files)) c.in_ok-looked_at.ensures.fit _ _
    (edits_since _ _ _ _ _ _ c.in_ok-edits.ensures.read (sym (c.in_ok-query.ensures.files ∙ c.in_ok-database.ensures.files))
    (omega (arith, c.in_ok-database.ensures.later files.edits.now, c.in_ok-query.ensures.later files.edits.now)))
    (subst (λ es. IsWatched (is_kept (question_of c.in_ok-query.query.query)) c.args.how.planning c.in_ok-database.database.relations (question_of c.in_ok-query.query.query) c.args.how.cap es (told c.leasts.result)) c.as_slice.ensures c.leasts.ensures)

pub returns-in_err-looked_at-clause-long : goal.returns-in_err-looked_at-clause-long
returns-in_err-looked_at-clause-long g c = λ name over. absurd (c.in_ok-query.ensures.long name (record { named = over.named; many = over.many }))

pub returns-in_err-edits-clause-long : goal.returns-in_err-edits-clause-long
returns-in_err-edits-clause-long g c =
    let p = err_from_is_err_and c.from_residual-in_err-edits.result c.from_residual-in_err-edits.ensures.1 in
    rw (p.1, p.2) (λ name over. c.in_err-edits.ensures.long name (record { named = over.named; many = over.many }))

pub returns-clause-long : goal.returns-clause-long
returns-clause-long g c = λ name over. absurd (c.in_ok-edits.ensures.long name (record { named = over.named; many = over.many }))

pub leasts-requires : goal.leasts-requires
leasts-requires g c = can_be_decided c.in_ok-database.database.relations _ _ c.in_ok-query.query _ c.in_ok-query.ensures.asked c.in_ok-query.ensures.fit (subst (AllByRecursion (IsEditOf c.in_ok-database.database.relations)) (sym c.as_slice.ensures) c.in_ok-edits.ensures.lawful)

pub returns-in_err-database-clause-starts : goal.returns-in_err-database-clause-starts
returns-in_err-database-clause-starts g c = only_first _ _ _ _ c.in_err-database.ensures.starts

pub returns-in_err-query-clause-starts : goal.returns-in_err-query-clause-starts
returns-in_err-query-clause-starts g c = first_and_only _ _ _ _ _ c.in_ok-database.ensures.starts (only_first _ _ _ _ c.in_err-query.ensures.starts)

pub returns-in_err-looked_at-clause-starts : goal.returns-in_err-looked_at-clause-starts
returns-in_err-looked_at-clause-starts g c = first_and_only _ _ _ _ _ c.in_ok-database.ensures.starts (only_first _ _ _ _ c.in_ok-query.ensures.starts)

pub returns-in_err-edits-clause-starts : goal.returns-in_err-edits-clause-starts
returns-in_err-edits-clause-starts g c = first_and_only _ _ _ _ _ c.in_ok-database.ensures.starts (first_and_only _ _ _ _ _ c.in_ok-query.ensures.starts (only_first _ _ _ _ c.in_err-edits.ensures.starts))

pub returns-clause-starts : goal.returns-clause-starts
returns-clause-starts g c = first_and_only _ _ _ _ _ c.in_ok-database.ensures.starts (first_and_only _ _ _ _ _ c.in_ok-query.ensures.starts (only_first _ _ _ _ c.in_ok-edits.ensures.starts))
