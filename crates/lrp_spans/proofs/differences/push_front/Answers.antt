-- The front, if there is one.
use Rattle.std.proofs.Common.{◌+◌, ◌^◌, ◌∷◌, [], inr, append-nil, sym}
use Rattle.lrp_spans.proofs.CutLaws.{fronts_none, fronts_one, same_residues}
use Rattle.lrp_spans.proofs.differences.push_front.Goals as goal

pub front-requires-clause-meets : goal.front-requires-clause-meets
front-requires-clause-meets c = λ e. c.requires.meets (inr (same_residues c.args.span.now c.args.hole.now c.requires.meets c.requires.after, e))

pub returns-in_ok-push : goal.returns-in_ok-push
returns-in_ok-push c = record {
  fronts = c.in-Some.front ∷ [];
  is = c.in_ok-push.ensures.items;
  fit = fronts_one (2 ^ 62 + 1) c.args.span.now c.args.hole.now c.in-Some.front c.requires.span c.requires.hole (sym c.in-Some.ensures.some.turn.1.residue) c.in-Some.ensures.some;
}

pub returns-in_default : goal.returns-in_default
returns-in_default c = record { fronts = []; is = sym (append-nil c.args.made.now.items); fit = fronts_none (2 ^ 62 + 1) c.args.span.now c.args.hole.now c.in_default.ensures.none }
