-- The hull is the set, or the set is not that of one zone.
use Rattle.std.proofs.Common.{◌≡◌, ◌+◌, ◌*◌, ◌≤◌, ◌^◌, ◌∷◌, [], arith, subst, sym}
use Rattle.lrp_zone.specs.Zones.{columns_of}
use Rattle.lrp_cutting.specs.Differences.{greatest_reach}
use Rattle.lrp_cutting.specs.Hulls.{IsHull}
use Rattle.lrp_cutting.specs.Leaving.{HasGap}
use Rattle.lrp_cutting.specs.Settling.{IsSettlement, IsSmallZone, IsThinned}
use Rattle.lrp_cutting.proofs.Lists.{if_ok}
use Rattle.lrp_cutting.proofs.SettlingLaws.{gap_room, greatest_room, hull_cells, in_one_cell, settled_hull, settled_thinned, some_listed}
use Rattle.lrp_cutting.proofs.settling.by_hull.Goals as goal

pub hull-requires-clause-some : goal.hull-requires-clause-some
hull-requires-clause-some c = rw c.as_slice-all.ensures (some_listed c.args.zones.now c.args.cell.now c.requires.listed)

pub hull-requires-clause-reach : goal.hull-requires-clause-reach
hull-requires-clause-reach c =
    let r : columns_of c.args.cell.now * greatest_reach c.args.zones.now + c.args.cell.now.period ≤ 2 ^ 62 = greatest_room c.args.cell.now c.args.zones.now c.requires.cell (some_listed c.args.zones.now c.args.cell.now c.requires.listed) c.requires.reach in
    rw c.as_slice-all.ensures (omega arith)

pub has_gap-requires-clause-cell : goal.has_gap-requires-clause-cell
has_gap-requires-clause-cell c = rw c.as_slice-all.ensures (hull_cells c.args.cell.now c.args.zones.now c.in_ok-hull.hull c.requires.cell (rw c.as_slice-all.ensures at c.in_ok-hull.ensures.hull))

pub has_gap-requires-clause-reach : goal.has_gap-requires-clause-reach
has_gap-requires-clause-reach c =
    rw c.as_slice-all.ensures (gap_room c.args.cell.now c.in_ok-hull.hull c.args.zones.now c.requires.columns c.in_ok-hull.ensures.hull.cell
    (greatest_room c.args.cell.now c.args.zones.now c.requires.cell (some_listed c.args.zones.now c.args.cell.now c.requires.listed) c.requires.reach))

pub thinned-requires : goal.thinned-requires
thinned-requires c = rw c.as_slice-all.ensures (in_one_cell c.args.cell.now c.args.zones.now c.requires.columns (some_listed c.args.zones.now c.args.cell.now c.requires.listed) c.requires.cell (rw c.as_slice-all.ensures at c.in_ok-hull.ensures.valid) c.requires.reach)

pub returns-then-branch : goal.returns-then-branch
returns-then-branch c =
    let hull : IsHull c.args.cell.now c.args.zones.now c.in_ok-hull.hull = rw c.as_slice-all.ensures at c.in_ok-hull.ensures.hull in
    let gap : HasGap c.in_ok-hull.hull c.args.zones.now = subst (λ l. HasGap c.in_ok-hull.hull l) c.as_slice-all.ensures (c.in_ok-has_gap.ensures.0 c.if-branch.true) in
    if_ok (IsThinned c.as_slice-all.result.now) (IsSettlement c.args.cell.now c.args.zones.now) c.thinned.result
    (λ made t. settled_thinned c.args.cell.now c.args.zones.now c.in_ok-hull.hull c.requires.cell c.requires.columns (rw c.as_slice-all.ensures at c.in_ok-hull.ensures.valid) hull
    made (subst (λ l. IsThinned l made) c.as_slice-all.ensures t) gap)
    c.thinned.ensures

pub returns-else-branch : goal.returns-else-branch
returns-else-branch c =
    let hull : IsHull c.args.cell.now c.args.zones.now c.in_ok-hull.hull = rw c.as_slice-all.ensures at c.in_ok-hull.ensures.hull in
    let small : IsSmallZone c.in_ok-hull.hull (columns_of c.args.cell.now * greatest_reach c.args.zones.now) = rw c.as_slice-all.ensures at c.in_ok-hull.ensures.small in
    if_ok (λ made. made ≡ c.in_ok-hull.hull ∷ []) (IsSettlement c.args.cell.now c.args.zones.now) c.one.result
    (λ made e. rw e (settled_hull c.args.cell.now c.args.zones.now c.in_ok-hull.hull c.requires.cell c.requires.columns (rw c.as_slice-all.ensures at c.in_ok-hull.ensures.valid) hull
    (λ g. cc (c.in_ok-has_gap.ensures.1 (subst (λ l. HasGap c.in_ok-hull.hull l) (sym c.as_slice-all.ensures) g), c.if-branch.false)) small))
    c.one.ensures
