-- The zone of the greatest closed bounds.
use Rattle.std.proofs.Common.{◌+◌, length, subst, ◌∙◌, ap}
use Rattle.std.specs.Prelude.{Contains}
use Rattle.lrp_cutting.specs.Thresholds.{pairs_below}
use Rattle.lrp_cutting.specs.Hulls.{AreWidest}
use Rattle.lrp_cutting.proofs.HullLaws.{some_matrix, has_places, can_be_stored, no_hull, hull_of, hull_small}
use Rattle.lrp_cutting.proofs.hull.hull.Goals as goal

pub hull_bounds-requires-clause-some : goal.hull_bounds-requires-clause-some
hull_bounds-requires-clause-some c = rw c.deref.ensures.value (some_matrix c.args.zones.now _ c.in_ok-matrices.ensures c.requires.some)

pub hull_bounds-requires-clause-places : goal.hull_bounds-requires-clause-places
hull_bounds-requires-clause-places c = λ p l. rw c.deref.ensures.value
    (has_places c.args.cell.now c.args.zones.now _ c.requires.cell c.in_ok-matrices.ensures c.requires.reach p
    (subst (λ ps. Contains ps p) (c.deref-2.ensures.value ∙ c.in_ok-pairs.ensures ∙ ap (λ n. pairs_below (n + 1)) c.columns.ensures.value) l))

pub bounded-requires : goal.bounded-requires
bounded-requires c =
    let w : AreWidest c.in_ok-matrices.matrices.items (pairs_below (length c.args.cell.now.residues + 1)) c.in_ok-bounds.bounds.items =
    subst (λ ms. AreWidest ms (pairs_below (length c.args.cell.now.residues + 1)) c.in_ok-bounds.bounds.items) c.deref.ensures.value
    (subst (λ ps. AreWidest c.deref.result.now ps c.in_ok-bounds.bounds.items) (c.deref-2.ensures.value ∙ c.in_ok-pairs.ensures ∙ ap (λ n. pairs_below (n + 1)) c.columns.ensures.value) c.in_ok-bounds.ensures) in
    rw c.deref-3.ensures.value (can_be_stored c.args.cell.now c.args.zones.now _ c.requires.cell c.in_ok-matrices.ensures _ w c.requires.reach)

pub unreachable-requires : goal.unreachable-requires
unreachable-requires c =
    let w : AreWidest c.in_ok-matrices.matrices.items (pairs_below (length c.args.cell.now.residues + 1)) c.in_ok-bounds.bounds.items =
    subst (λ ms. AreWidest ms (pairs_below (length c.args.cell.now.residues + 1)) c.in_ok-bounds.bounds.items) c.deref.ensures.value
    (subst (λ ps. AreWidest c.deref.result.now ps c.in_ok-bounds.bounds.items) (c.deref-2.ensures.value ∙ c.in_ok-pairs.ensures ∙ ap (λ n. pairs_below (n + 1)) c.columns.ensures.value) c.in_ok-bounds.ensures) in
    no_hull c.args.cell.now c.args.zones.now _ c.requires.cell c.in_ok-matrices.ensures _ w c.requires.some (λ xs m. c.in-None.ensures.none xs (rw c.deref-3.ensures.value m))

pub returns-clause-hull : goal.returns-clause-hull
returns-clause-hull c =
    let w : AreWidest c.in_ok-matrices.matrices.items (pairs_below (length c.args.cell.now.residues + 1)) c.in_ok-bounds.bounds.items =
    subst (λ ms. AreWidest ms (pairs_below (length c.args.cell.now.residues + 1)) c.in_ok-bounds.bounds.items) c.deref.ensures.value
    (subst (λ ps. AreWidest c.deref.result.now ps c.in_ok-bounds.bounds.items) (c.deref-2.ensures.value ∙ c.in_ok-pairs.ensures ∙ ap (λ n. pairs_below (n + 1)) c.columns.ensures.value) c.in_ok-bounds.ensures) in
    hull_of c.args.cell.now c.args.zones.now _ c.requires.cell c.in_ok-matrices.ensures _ w c.in-Some.zone (rw c.deref-3.ensures.value at c.in-Some.ensures.some)

pub returns-clause-small : goal.returns-clause-small
returns-clause-small c =
    let w : AreWidest c.in_ok-matrices.matrices.items (pairs_below (length c.args.cell.now.residues + 1)) c.in_ok-bounds.bounds.items =
    subst (λ ms. AreWidest ms (pairs_below (length c.args.cell.now.residues + 1)) c.in_ok-bounds.bounds.items) c.deref.ensures.value
    (subst (λ ps. AreWidest c.deref.result.now ps c.in_ok-bounds.bounds.items) (c.deref-2.ensures.value ∙ c.in_ok-pairs.ensures ∙ ap (λ n. pairs_below (n + 1)) c.columns.ensures.value) c.in_ok-bounds.ensures) in
    hull_small c.args.cell.now c.args.zones.now _ c.requires.cell c.in_ok-matrices.ensures _ w c.in-Some.zone (rw c.deref-3.ensures.value at c.in-Some.ensures.some)

pub returns-clause-valid : goal.returns-clause-valid
returns-clause-valid c = c.in_ok-matrices.ensures.valid
