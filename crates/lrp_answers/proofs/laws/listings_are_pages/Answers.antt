use Rattle.lrp_answers.proofs.Paging.{page_is}
use Rattle.lrp_answers.proofs.laws.listings_are_pages.Goals as goal

pub returns : goal.returns
returns c = page_is
