-- The next cell has some zone.
use Rattle.lrp_tables.proofs.Pieced.{rest_have, first_has}
use Rattle.lrp_tables.proofs.pieces.PiecesIterator.next.Goals as goal

pub returns-in_err-zone-clause-steps : goal.returns-in_err-zone-clause-steps
returns-in_err-zone-clause-steps c =
    absurd (first_has c.in_ok-cell.cell c.in_ok-cell.zones c.next-2.new.self c.self.inside.entries c.in_ok-cell.ensures.steps c.self.invariant c.in_err-zone.ensures.steps.0)

pub invariant_of-self-2 : goal.invariant_of-self-2
invariant_of-self-2 c = rest_have c.in_ok-cell.cell c.in_ok-cell.zones c.next-2.new.self c.self.inside.entries c.in_ok-cell.ensures.steps c.self.invariant
