-- Of the answers that are kept, where they are the query's own, or of new ones.
use Rattle.std.proofs.Common.{◌∙◌, refl}
use Rattle.lrp_top.specs.Keeping.{IsAnswerKept}
use Rattle.lrp_top.proofs.PagingLemmas.{page_told, same_own, some_is}
use Rattle.lrp_top.proofs.paging.ask_page.Goals as goal

pub next_page-requires-clause-begun : goal.next_page-requires-clause-begun
next_page-requires-clause-begun g c = record {
  database = refl;
  kept = some_is (IsAnswerKept c.args.kept.file) c.args.kept.last c.in-Some.kept c.in-Some.ensures.same c.requires.kept.last;
  same = same_own c.args.page.now _ c.in-Some.kept.query c.in-Some.ensures.again;
}

pub returns-in-Some-clause-told : goal.returns-in-Some-clause-told
returns-in-Some-clause-told g c = page_told c.args.page.now refl (c.in-Some.ensures.again.bytes_are ∙ c.as_slice.ensures) c.next_page.ensures.told
