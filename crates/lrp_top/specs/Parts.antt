-- Answers of a query in parts, and a page of them.
use Rattle.std.specs.Prelude.{◌<◌, List, Contains, IfSome, Option, length, map}
use Rattle.std.specs.Borrow.{Bor}
use Rattle.std.specs.List.{AllByRecursion}
use Rattle.lrp_model.specs.DataTexts.{IsDomain}
use Rattle.lrp_model.specs.Pages.{IsPage}
use Rattle.lrp_model.specs.declared.tuples.Tuple.{Tuple as ToldTuple}
use Rattle.lrp_answers.specs.Listing.{HasShapeOf, told_after, window_of}
use Rattle.lrp_answers.specs.Parts.{AreAlike, IsInSomePart}
use Rattle.lrp_answers.specs.Standing.{IsStanding}
use Rattle.lrp_answers.specs.declared.answer.Answer.{Answer}
use Rattle.lrp_answers.specs.declared.merging.SpotPage.{SpotPage}
use Rattle.lrp_outputs.specs.Spots.{answer_tuple}
use Rattle.lrp_words.specs.declared.purpose.Paging.{Paging}

-- at least one part, of one head and one domain
pub record AreProperParts (parts : List Answer) : Type 0 where
  pub some : 0 < length parts
  pub alike : AreAlike parts
  pub domains : AllByRecursion (λ part. IsDomain part.domain) parts

-- the tuple, where there is one, has the shape of each part
abbrev pub IsAfterOf : List Answer → Option (Bor ToldTuple) → Type 0
IsAfterOf parts after = (part : Answer) → Contains parts part → IfSome after (λ t. HasShapeOf part.store.shape t.now)

-- the spots stand for the tuples of the page of all parts, by the columns and the domain of one part
pub record IsPageOfParts (parts : List Answer) (paging : Paging) (after : Option (Bor ToldTuple)) (part : Answer) (page : SpotPage) : Type 0 where
  pub is : IsPage (IsInSomePart parts) paging.from paging.to (told_after part after) paging.limit (map (answer_tuple part) page.spots) page.more
  pub standing : AllByRecursion (IsStanding (window_of part paging.from paging.to)) page.spots
