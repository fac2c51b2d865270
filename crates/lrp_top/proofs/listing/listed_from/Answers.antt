-- A paused listing goes on from where it stands, and a new one begins there.
use Rattle.std.proofs.Common.{◌∙◌, ap₂, sym}
use Rattle.lrp_answers.specs.Listing.{window_of}
use Rattle.lrp_top.proofs.CivilSpots.{are_ends}
use Rattle.lrp_top.proofs.Listed.{new_window}
use Rattle.lrp_top.proofs.listing.listed_from.Goals as goal

pub returns-in-Some-clause-window : goal.returns-in-Some-clause-window
returns-in-Some-clause-window c = c.resumed.ensures.window ∙ ap₂ (window_of c.args.answer.now) c.in-Some.ensures.here.from_is c.in-Some.ensures.here.to_is

pub returns-in-Some-clause-position : goal.returns-in-Some-clause-position
returns-in-Some-clause-position c = c.resumed.ensures.position ∙ sym c.in-Some.ensures.here.tuple

pub returns-in-None-clause-window : goal.returns-in-None-clause-window
returns-in-None-clause-window c =
    let p = c.args.paging.now in
    new_window c.args.answer.now p.from p.to c.new.result (are_ends p.civil p.from p.to c.requires.from c.requires.to) c.new.ensures.window
