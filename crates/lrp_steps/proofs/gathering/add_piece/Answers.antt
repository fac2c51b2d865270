-- What the pattern and the zone ask together.
use Rattle.lrp_systems.specs.Parts.{system_reach}
use Rattle.lrp_steps.specs.Patterns.{parts_of, IsOver, MatchesPattern}
use Rattle.lrp_steps.specs.Gathered.{IsFoundIn, piece_reach}
use Rattle.lrp_steps.proofs.Found.{with_to, with_from, with_reach, with_fits}
use Rattle.lrp_tables.proofs.Gathering.{added_as, refused_as}
use Rattle.lrp_steps.proofs.Conditioned.{matched_some}
use Rattle.lrp_steps.proofs.gathering.add_piece.Goals as goal
use Rattle.lrp_systems.proofs.Taken.{add_ok}

pub add_sought-requires : goal.add_sought-requires
add_sought-requires c =
    let w = matched_some _ _ _ _ c.in-Some.is c.in_ok-whole.ensures in
    record { fits = with_fits c.args.out.now.shape c.args.wanted.size c.args.piece.now c.args.places.now c.args.wanted.pattern.now c.in-Some.whole w c.args.out.now.shape.times c.args.out.now.period (record { places = c.requires.stands.times; multiple = c.requires.stands.multiple; reach = c.requires.stands.reach }) c.requires.adds.fits.fits; known = w.size }

pub returns-in-Some-clause-ok : goal.returns-in-Some-clause-ok
returns-in-Some-clause-ok c =
    let w = matched_some _ _ _ _ c.in-Some.is c.in_ok-whole.ensures in
    add_ok c.add_sought.result _ _ (added_as c.args.wanted.cap (IsOver c.args.out.now.shape c.args.wanted.size (MatchesPattern c.in-Some.whole)) (IsOver c.args.out.now.shape c.args.wanted.size (IsFoundIn c.args.piece.now c.args.places.now c.args.wanted.pattern.now))
    (system_reach c.args.out.now.period (parts_of c.in-Some.whole)) (piece_reach c.args.out.now.period c.args.piece.now (parts_of c.args.wanted.pattern.now))
    (with_reach c.args.out.now.shape c.args.wanted.size c.args.piece.now c.args.places.now c.args.wanted.pattern.now c.in-Some.whole w c.args.out.now.period) c.args.out.now c.add_sought.new.out c.requires.adds.valid
    (with_to c.args.out.now.shape c.args.wanted.size c.args.piece.now c.args.places.now c.args.wanted.pattern.now c.in-Some.whole w)
    (with_from c.args.out.now.shape c.args.wanted.size c.args.piece.now c.args.places.now c.args.wanted.pattern.now c.in-Some.whole w)) c.add_sought.ensures.ok

pub returns-in-Some-clause-too_many : goal.returns-in-Some-clause-too_many
returns-in-Some-clause-too_many c = λ e.
    let w = matched_some _ _ _ _ c.in-Some.is c.in_ok-whole.ensures in
    refused_as c.args.wanted.cap (IsOver c.args.out.now.shape c.args.wanted.size (MatchesPattern c.in-Some.whole)) (IsOver c.args.out.now.shape c.args.wanted.size (IsFoundIn c.args.piece.now c.args.places.now c.args.wanted.pattern.now))
    (system_reach c.args.out.now.period (parts_of c.in-Some.whole)) (piece_reach c.args.out.now.period c.args.piece.now (parts_of c.args.wanted.pattern.now))
    (with_reach c.args.out.now.shape c.args.wanted.size c.args.piece.now c.args.places.now c.args.wanted.pattern.now c.in-Some.whole w c.args.out.now.period) c.args.out.now c.add_sought.new.out c.requires.adds.valid
    (with_to c.args.out.now.shape c.args.wanted.size c.args.piece.now c.args.places.now c.args.wanted.pattern.now c.in-Some.whole w) (c.add_sought.ensures.too_many e)
