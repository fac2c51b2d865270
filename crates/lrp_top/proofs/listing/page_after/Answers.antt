-- No step has too many cells, and then the page is told.
use Rattle.std.proofs.Common.{Ok, option_map}
use Rattle.lrp_answers.specs.Listing.{listed_tuple}
use Rattle.lrp_model.specs.Formulas.{question_of}
use Rattle.lrp_model.specs.Rows.{Tuple}
use Rattle.lrp_model.specs.declared.relations.Column.{Column}
use Rattle.std.specs.Prelude.{List, Option}
use Rattle.lrp_top.specs.Questions.{question_steps}
use Rattle.lrp_top.proofs.Listed.{some_shape}
use Rattle.lrp_top.proofs.PartLemmas.{told_page}
use Rattle.lrp_top.proofs.listing.page_after.Goals as goal

pub page_of_parts-requires-clause-parts : goal.page_of_parts-requires-clause-parts
page_of_parts-requires-clause-parts c = record { some = c.in-Ok.ensures.answers.some; alike = c.in-Ok.ensures.alike; domains = c.in-Ok.ensures.domains }

pub page_of_parts-requires-clause-after : goal.page_of_parts-requires-clause-after
page_of_parts-requires-clause-after c = λ part listed. some_shape part c.args.question.query.query.head.columns c.args.after (c.in-Ok.ensures.answers.each part listed).head c.requires.after

pub returns-in-Ok-page_of_parts : goal.returns-in-Ok-page_of_parts
returns-in-Ok-page_of_parts c =
    let question = c.args.question in
    let p = c.args.paging.now in
    let begins : List Column → Option Tuple = λ columns. option_map (λ t. listed_tuple columns t.now) c.args.after in
    let made = c.in-Ok-page_of_parts in
    record {
      page = record {
        first = Ok tt;
        is = c.in-Ok.ensures.counted;
        next = told_page (question_steps question) question.database.relations (question_of question.query.query) p.cap c.in-Ok.parts c.in-Ok.ensures.answers p.from p.to begins p.limit p.civil p.json c.args.files made.page
            made.ensures.part made.ensures.civil made.ensures.form made.ensures.files made.ensures.page.is;
      };
    }
