-- The answers are kept with their query.
use Rattle.std.proofs.Common.{◌≡◌, Err, None, ap, refl, sym, subst}
use Rattle.lrp_model.specs.Formulas.{question_of}
use Rattle.lrp_top.specs.Due.{IsCounted}
use Rattle.lrp_top.specs.Keeping.{IsAnswerKept, IsQuerySaid}
use Rattle.lrp_top.specs.declared.language.QueryLanguage.{QueryLanguage}
use Rattle.lrp_top.specs.declared.files.QueryFile.{QueryFile}
use Rattle.lrp_top.specs.declared.questioning.Unasked.{Unasked}
use Rattle.lrp_top.proofs.paging.answered.Goals as goal

pub returns-in-Ok-clause-begun : goal.returns-in-Ok-clause-begun
returns-in-Ok-clause-begun c =
    let question = c.args.question in
    let page = c.args.page.now in
    let made : IsAnswerKept question.database (record { query = record { file = question.query; language = c.language_of.result; planning = question.planning; cap = page.paging.cap; files = c.args.files }; answer = c.in-Ok.answer; paused = None }) = record {
      said = subst (λ (l : QueryLanguage). IsQuerySaid l question.database.relations question.query) (sym c.language_of.ensures) c.requires.said;
      plan = question.plan;
      planned = c.requires.planned;
      sound = c.requires.ready.planned;
      counted = c.in-Ok.ensures.counted;
      answers = c.in-Ok.ensures.answers;
      digest = c.requires.digest;
      paused = tt;
    } in
    record {
      database = c.into_files-file.ensures.database;
      kept = subst (λ (f : QueryFile). IsAnswerKept question.database (record { query = record { file = f; language = c.language_of.result; planning = question.planning; cap = page.paging.cap; files = c.args.files }; answer = c.in-Ok.answer; paused = None })) (sym c.into_files-file.ensures.query) made;
      same = record { language = c.language_of.ensures; planning = c.requires.planning; cap_is = refl; bytes_are = ap (λ (f : QueryFile). f.bytes) c.into_files-file.ensures.query };
    }

pub returns-in-Err-clause-refused : goal.returns-in-Err-clause-refused
returns-in-Err-clause-refused c =
    let question = c.args.question in
    subst (λ (u : Unasked). IsCounted question.planning question.database.relations (question_of question.query.query) c.args.page.now.paging.cap (Err u.refusal)) (sym c.unasked_of.ensures) c.in-Err.ensures.counted

pub returns-in-Err-clause-file : goal.returns-in-Err-clause-file
returns-in-Err-clause-file c = subst (λ (u : Unasked). u.file ≡ c.args.question.database) (sym c.unasked_of.ensures) refl
