-- The paused listing is one of the window, and stands at the tuple.
use Rattle.std.proofs.Common.{◌∙◌, ap, Some}
use Rattle.std.specs.Prelude.{option_map}
use Rattle.lrp_answers.specs.Listing.{listed_tuple}
use Rattle.lrp_answers.specs.Pauses.{IsPausedOf}
use Rattle.lrp_top.proofs.CivilSpots.{are_ends}
use Rattle.lrp_top.proofs.Listed.{word}
use Rattle.lrp_top.proofs.PagingLemmas.{some_is}
use Rattle.lrp_top.proofs.listing.paused_at.Goals as goal

pub is_at-requires : goal.is_at-requires
is_at-requires c = some_is (IsPausedOf c.args.answer.now) c.args.paused c.in_ok-paused.paused c.in_ok-paused.was c.requires.paused

pub returns-then-is_at-clause-sound : goal.returns-then-is_at-clause-sound
returns-then-is_at-clause-sound c = some_is (IsPausedOf c.args.answer.now) c.args.paused c.in_ok-paused.paused c.in_ok-paused.was c.requires.paused

pub returns-then-is_at-clause-here : goal.returns-then-is_at-clause-here
returns-then-is_at-clause-here c =
    let p = c.args.paging.now in
    let ends = are_ends p.civil p.from p.to c.requires.from c.requires.to in
    record {
      from_is = c.is_at.ensures.from c.if-is_at.true ∙ word p.from ends.from_low ends.from_high;
      to_is = c.is_at.ensures.to c.if-is_at.true ∙ word p.to ends.to_low ends.to_high;
      tuple = ap (option_map (λ t. listed_tuple c.args.answer.now.head.columns t.now)) c.in_ok-tuple.was ∙ ap Some (c.is_at.ensures.tuple c.if-is_at.true);
    }
