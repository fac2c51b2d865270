-- Pages that follow one another.
use Rattle.std.specs.Prelude.{◌≡◌, ℕ, ℤ, pos, neg_ℤ, ◌+◌, ◌≤ℤ◌, Bool, true, List, ◌++◌, Option, Some, Ok}
use Rattle.lrp_model.specs.Formulas.{Question}
use Rattle.lrp_model.specs.Pages.{IsPage, last_of}
use Rattle.lrp_model.specs.Rows.{Tuple}
use Rattle.lrp_model.specs.PrintedPages.{token_of}
use Rattle.lrp_model.specs.Satisfaction.{IsAnswer}
use Rattle.lrp_model.specs.declared.relations.Relation.{Relation}
use Rattle.lrp_top.specs.Resuming.{IsResumed}
use Rattle.lrp_run_laws.specs.Tasks.{TellsPageAfter}
use Rattle.lrp_model.specs.Limits.{greatest_number}

-- no end of the window is beyond the greatest number, as no command has one that is
pub record IsShortWindow (from to : ℤ) : Type 0 where
  pub low : neg_ℤ (pos greatest_number) ≤ℤ from
  pub high : to ≤ℤ pos greatest_number

-- a page of the query's answers after which more is to come, and its last tuple
pub record IsUnfinished (db : List Relation) (q : Question) (from to : ℤ) (after : Option Tuple) (limit : ℕ) (page : List Tuple) (end : Tuple) : Type 0 where
  pub is : IsPage (IsAnswer db q) from to after limit page true
  pub last : last_of page ≡ Some end

-- the token of its last tuple is resumed just after that tuple, and each page that is told for the token goes on with the page
pub record IsFollowed (digest : List ℕ) (db : List Relation) (q : Question) (from to : ℤ) (after : Option Tuple) (limit : ℕ) (page : List Tuple) (end : Tuple) : Type 0 where
  pub resumed : IsResumed digest q.head (Some (token_of digest end)) (Ok (Some end))
  pub next : (further : ℕ) (civil json : Bool) (output : List ℕ) (told : TellsPageAfter from to further (Some (token_of digest end)) civil json digest output db q)
      → IsPage (IsAnswer db q) from to after (limit + further) (page ++ told.page.page) told.page.more
