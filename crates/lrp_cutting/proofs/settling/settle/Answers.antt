-- By the number of columns.
use Rattle.std.proofs.Common.{◌≡◌, ◌∷◌, [], arith, subst}
use Rattle.std.specs.Prelude.{Contains}
use Rattle.lrp_cutting.specs.Settling.{IsSettlement}
use Rattle.lrp_cutting.proofs.Lists.{if_ok, got_in}
use Rattle.lrp_cutting.proofs.SettlingLaws.{line_room, settled_none, settlement_moved}
use Rattle.lrp_cutting.proofs.settling.settle.Goals as goal

pub maximal-requires-clause-reach : goal.maximal-requires-clause-reach
maximal-requires-clause-reach c =
    let here : Contains c.args.zones.now c.at-first.result.now = got_in c.args.zones.now 0 c.at-first.result.now c.at-first.ensures in
    λ z l. let k : Contains c.args.zones.now z = subst (λ zs. Contains zs z) c.as_slice.ensures l in
    line_room c.at-first.result.now z ((c.requires.cell c.at-first.result.now here).each z k) (omega (arith, c.in-1.is, c.columns.ensures.value)) (c.requires.reach z k)

pub returns-in-0 : goal.returns-in-0
returns-in-0 c =
    let here : Contains c.args.zones.now c.at-first.result.now = got_in c.args.zones.now 0 c.at-first.result.now c.at-first.ensures in
    if_ok (λ made. made ≡ c.at-first.result.now ∷ []) _ c.one.result
    (λ made e z l. rw e (settlement_moved c.at-first.result.now z c.args.zones.now _ ((c.requires.cell c.at-first.result.now here).each z l)
    (settled_none c.at-first.result.now c.args.zones.now c.columns.ensures.valid (omega (arith, c.in-0.is, c.columns.ensures.value)) here (c.requires.cell c.at-first.result.now here))))
    c.one.ensures

pub returns-in-1 : goal.returns-in-1
returns-in-1 c =
    let here : Contains c.args.zones.now c.at-first.result.now = got_in c.args.zones.now 0 c.at-first.result.now c.at-first.ensures in
    if_ok (IsSettlement c.at-first.result.now c.as_slice.result.now) _ c.maximal.result
    (λ made s z l. settlement_moved c.at-first.result.now z c.args.zones.now made ((c.requires.cell c.at-first.result.now here).each z l) (subst (λ zs. IsSettlement c.at-first.result.now zs made) c.as_slice.ensures s))
    c.maximal.ensures

pub returns-in_default : goal.returns-in_default
returns-in_default c =
    let here : Contains c.args.zones.now c.at-first.result.now = got_in c.args.zones.now 0 c.at-first.result.now c.at-first.ensures in
    if_ok (IsSettlement c.at-first.result.now c.args.zones.now) _ c.fewest.result
    (λ made s z l. settlement_moved c.at-first.result.now z c.args.zones.now made ((c.requires.cell c.at-first.result.now here).each z l) s)
    c.fewest.ensures

pub fewest-requires-clause-listed : goal.fewest-requires-clause-listed
fewest-requires-clause-listed c = got_in c.args.zones.now 0 c.at-first.result.now c.at-first.ensures
