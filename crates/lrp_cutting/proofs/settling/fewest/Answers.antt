-- One zone stays, and so do zones that are apart.
use Rattle.std.proofs.Common.{◌≡◌, ◌∷◌, ◌∙◌, [], length, ap, arith, subst, sym}
use Rattle.lrp_zone.specs.Zones.{columns_of}
use Rattle.lrp_cutting.specs.Settling.{IsSettlement}
use Rattle.lrp_cutting.specs.Turns.{AreZonesApart}
use Rattle.lrp_cutting.proofs.ApartLaws.{settled_reordered}
use Rattle.lrp_cutting.proofs.Lists.{if_ok}
use Rattle.lrp_cutting.proofs.SettlingLaws.{same_cell, settled_one}
use Rattle.lrp_cutting.proofs.settling.fewest.Goals as goal

pub are_apart-requires-clause-columns : goal.are_apart-requires-clause-columns
are_apart-requires-clause-columns c = rw c.as_slice-all.ensures (λ z h. let n : columns_of z ≡ columns_of c.args.cell.now = ap length (c.requires.cell.each z h).residues in omega arith)

pub are_apart-requires-clause-cell : goal.are_apart-requires-clause-cell
are_apart-requires-clause-cell c = rw c.as_slice-all.ensures (λ v w h k. same_cell c.args.cell.now v w (c.requires.cell.each v h) (c.requires.cell.each w k))

pub returns-then-apart : goal.returns-then-apart
returns-then-apart c =
    let apart : AreZonesApart c.args.zones.now = subst AreZonesApart c.as_slice-all.ensures (c.in_ok-apart.ensures c.if-apart.true) in
    if_ok (λ made. made ≡ c.as_slice-all.result.now) (IsSettlement c.args.cell.now c.args.zones.now) c.listed.result
    (λ made e. subst (IsSettlement c.args.cell.now c.args.zones.now) (sym (e ∙ c.as_slice-all.ensures)) (settled_reordered c.args.cell.now c.args.zones.now c.requires.cell c.requires.columns apart))
    c.listed.ensures

pub returns-then-all-eq1 : goal.returns-then-all-eq1
returns-then-all-eq1 c =
    let same : length c.as_slice-all.result.now ≡ length c.args.zones.now = ap length c.as_slice-all.ensures in
    if_ok (λ made. made ≡ c.args.cell.now ∷ []) (IsSettlement c.args.cell.now c.args.zones.now) c.one.result
    (λ made e. rw e (settled_one c.args.cell.now c.args.zones.now (omega (arith, same, c.if-all-eq1.true)) c.requires.listed c.requires.zone c.requires.columns))
    c.one.ensures
