-- What was given is the page, and it can be written.
use Rattle.std.proofs.Common.{subst, ◌∙◌}
use Rattle.std.specs.List.{AllByRecursion}
use Rattle.lrp_answers.specs.Listing.{WindowView, window_of}
use Rattle.lrp_answers.specs.Standing.{IsStanding}
use Rattle.lrp_answers.proofs.Pauses.{some_paused}
use Rattle.lrp_top.proofs.CivilSpots.{are_ends, page_dates}
use Rattle.lrp_top.proofs.Listed.{known_all, page_given}
use Rattle.lrp_top.proofs.listing.gather.Goals as goal

pub returns-clause-page : goal.returns-clause-page
returns-clause-page g c =
    let p = c.args.paging.now in
    page_given c.listings_are_pages.ensures (window_of c.args.answer.now p.from p.to) _ _ _ _ _ c.in_ok-taken.taken.spots p.limit c.more-more.result c.in_ok-lister.ensures.window c.in_ok-taken.ensures.window c.in_ok-lister.ensures.position
    c.in_ok-taken.ensures.gives c.in_ok-taken.ensures.few c.in_ok-taken.ensures.full c.more-more.ensures.more

pub returns-clause-standing : goal.returns-clause-standing
returns-clause-standing g c = subst (λ (w : WindowView). AllByRecursion (IsStanding w) c.in_ok-taken.taken.spots) c.in_ok-lister.ensures.window c.in_ok-taken.ensures.standing

pub returns-clause-known : goal.returns-clause-known
returns-clause-known g c =
    let p = c.args.paging.now in
    let ends = are_ends p.civil p.from p.to c.requires.from c.requires.to in
    known_all c.spots_stand_for_tuples.ensures.known c.args.answer.now p.from p.to c.in_ok-taken.taken.spots ends (subst (λ (w : WindowView). AllByRecursion (IsStanding w) c.in_ok-taken.taken.spots) c.in_ok-lister.ensures.window c.in_ok-taken.ensures.standing)

pub returns-clause-dates : goal.returns-clause-dates
returns-clause-dates g c =
    let p = c.args.paging.now in
    page_dates p.civil c.args.answer.now p.from p.to c.in_ok-taken.taken.spots c.requires.from c.requires.to (subst (λ (w : WindowView). AllByRecursion (IsStanding w) c.in_ok-taken.taken.spots) c.in_ok-lister.ensures.window c.in_ok-taken.ensures.standing)

pub returns-clause-paused : goal.returns-clause-paused
returns-clause-paused g c =
    let p = c.args.paging.now in
    some_paused c.pause-paused.result _ c.args.answer.now p.from p.to (c.in_ok-taken.ensures.window ∙ c.in_ok-lister.ensures.window) c.pause-paused.ensures
