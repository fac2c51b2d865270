use Rattle.std.proofs.Common.{◌∙◌, ap, Ok, sym}
use Rattle.lrp_query.proofs.Shown.{look_start, look_hole}
use Rattle.lrp_query.proofs.starts.start_of.Goals as goal

pub returns-clause-value : goal.returns-clause-value
returns-clause-value c = look_start _ _ _ _ c.peek.ensures ∙ ap (λ s. Ok (s, c.args.tokens.now)) (sym c.shown.ensures)

pub returns-clause-no_hole : goal.returns-clause-no_hole
returns-clause-no_hole c = look_hole _ _ _ _ c.peek.ensures
