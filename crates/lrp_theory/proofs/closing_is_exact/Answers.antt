use Rattle.lrp_theory.proofs.Floor.{reached_in_cell}
use Rattle.lrp_theory.proofs.Paths.{pivot_solutions, pivot_triangles, closure}
use Rattle.lrp_theory.proofs.closing_is_exact.Goals as goal

pub returns-clause-same : goal.returns-clause-same
returns-clause-same f = pivot_solutions

pub returns-clause-triangles : goal.returns-clause-triangles
returns-clause-triangles f = pivot_triangles

pub returns-clause-closed : goal.returns-clause-closed
returns-clause-closed f = closure

pub returns-clause-reached : goal.returns-clause-reached
returns-clause-reached f = λ n k r a b one tight closed i j d ilt jlt ne h.
    let w = (closed.least i j ilt jlt ne).reached d h in
    let y = reached_in_cell n k r a i j d one tight w.0 w.1 w.2 in
    (y.0, y.1, (λ m mlt. y.2 m), y.3)
