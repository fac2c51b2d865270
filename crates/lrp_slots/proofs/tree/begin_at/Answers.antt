-- A key that is held is left with its chain.
use Rattle.std.proofs.Common.{◌≢◌, None, Ok, ap, sym, ◌∙◌}
use Rattle.std.specs.Option.{is_some}
use Rattle.lrp_slots.proofs.Lengthened.{held_stays, none_so}
use Rattle.lrp_slots.proofs.tree.begin_at.Goals as goal

pub returns-clause-left : goal.returns-clause-left
returns-clause-left g c = λ other.
    let some : c.in_ok-held.held ≢ None = λ none. other (ap (λ b. Ok b) (none_so c.is_none.result (ap is_some (sym none) ∙ c.is_none.ensures))) in
    held_stays g.met.K.Ord.total c.args.chains.now.entries c.hold_at.new.chains.entries c.args.at c.in_ok-held.held c.extended.result c.hold_at.ensures.ordered c.in_ok-held.ensures.held c.in_ok-held.ensures.entries some
