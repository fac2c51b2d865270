-- The page is told, and its answers are kept.
use Rattle.std.proofs.Common.{Ok, Err, List, Option, option_map, refl}
use Rattle.lrp_answers.specs.Listing.{listed_tuple}
use Rattle.lrp_model.specs.Formulas.{question_of}
use Rattle.lrp_model.specs.Rows.{Tuple}
use Rattle.lrp_model.specs.declared.relations.Column.{Column}
use Rattle.lrp_outputs.specs.Outputs.{page_text}
use Rattle.lrp_outputs.specs.declared.refusal.Refusal.TheVariants.{Memory}
use Rattle.lrp_plan_laws.specs.GuardedPlans.{plan_by}
use Rattle.lrp_top.proofs.KeepingLemmas.{kept_again}
use Rattle.lrp_top.proofs.Listed.{some_shape, told_page}
use Rattle.lrp_top.proofs.paging.page_from.Goals as goal

pub page_of-requires-clause-after : goal.page_of-requires-clause-after
page_of-requires-clause-after g c = some_shape c.args.begun.kept.answer c.args.begun.kept.query.file.query.head.columns c.args.after c.requires.kept.answers.head c.requires.after

pub page_of-requires-clause-paused : goal.page_of-requires-clause-paused
page_of-requires-clause-paused g c = c.requires.kept.paused

pub returns-in-Ok-clause-told : goal.returns-in-Ok-clause-told
returns-in-Ok-clause-told g c =
    let kept = c.args.begun.kept in
    let query = kept.query in
    let db = c.args.begun.file.relations in
    let q = question_of query.file.query in
    let p = c.args.page.now.paging in
    let begins : List Column → Option Tuple = λ columns. option_map (λ t. listed_tuple columns t.now) c.args.after in
    record {
      outcome = Ok (page_text c.in-Ok.made.page);
      is = told_page (plan_by query.planning db q) db q query.cap kept.answer p.from p.to begins p.limit p.civil p.json query.files c.in-Ok.made.page
          c.requires.kept.answers c.in-Ok.ensures.answer c.in-Ok.ensures.civil c.in-Ok.ensures.form c.in-Ok.ensures.files c.in-Ok.ensures.page;
      ends = c.tell_page-status.ensures;
    }

pub returns-in-Ok-clause-kept : goal.returns-in-Ok-clause-kept
returns-in-Ok-clause-kept g c = record {
  civil_is = c.civil_of-civil.ensures;
  bytes_are = refl;
  read = c.requires.read;
  last = kept_again c.args.begun.file c.args.begun.kept c.in-Ok.made.page.answer c.in-Ok.made.paused c.requires.kept c.in-Ok.ensures.answer c.in-Ok.ensures.paused;
}

pub returns-in-Err-clause-told : goal.returns-in-Err-clause-told
returns-in-Err-clause-told g c = record { outcome = Err Memory; is = tt; ends = c.tell-status.ensures }

pub returns-in-Err-clause-kept : goal.returns-in-Err-clause-kept
returns-in-Err-clause-kept g c = record { civil_is = c.civil_of-civil.ensures; bytes_are = refl; read = c.requires.read; last = tt }
