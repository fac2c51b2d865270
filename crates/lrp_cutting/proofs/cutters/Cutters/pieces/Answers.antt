-- What is left among the cutters that are met is what is left among all.
use Rattle.std.proofs.Common.{ℕ, List, ◌≡◌, ◌≤◌, ◌+◌, ◌^◌, ◌∷◌, [], arith, sym, subst, ◌∙◌}
use Rattle.lrp_zone.specs.Zones.{ZoneView}
use Rattle.lrp_cutting.specs.Differences.{greatest_reach}
use Rattle.lrp_cutting.specs.Windows.{AreThoseMet, HaveLines}
use Rattle.lrp_cutting.specs.Leaving.{AreLeftOf}
use Rattle.lrp_cutting.proofs.CountLaws.{few_left}
use Rattle.lrp_cutting.proofs.Lists.{if_ok}
use Rattle.lrp_cutting.proofs.NearLaws.{left_among, lines_for, met_cell, met_reach}
use Rattle.lrp_cutting.proofs.cutters.Cutters.pieces.Goals as goal

pub nearest-requires : goal.nearest-requires
nearest-requires c = lines_for c.args.zone.now c.args.self.now (c.in-Some.first.now ∷ c.in-Some.rest.now) c.requires.cell
    (subst (λ zs. HaveLines zs (c.in-Some.first.now ∷ c.in-Some.rest.now)) c.self.view_is (subst (HaveLines c.self.inside.zones) (sym c.deref.ensures.value ∙ c.in-Some.ensures.cases.0) c.self.invariant))

pub left_over-requires-2-clause-cell : goal.left_over-requires-2-clause-cell
left_over-requires-2-clause-cell c = met_cell c.args.zone.now c.args.self.now c.in_ok-met.met (subst (λ zs. AreThoseMet c.args.zone.now zs c.in_ok-met.met) c.self.view_is c.in_ok-met.ensures) c.requires.cell

pub left_over-requires-2-clause-reach : goal.left_over-requires-2-clause-reach
left_over-requires-2-clause-reach c =
    let low : greatest_reach (c.args.zone.now ∷ c.in_ok-met.met) ≤ greatest_reach (c.args.zone.now ∷ c.args.self.now) = met_reach c.args.zone.now c.args.self.now c.in_ok-met.met (subst (λ zs. AreThoseMet c.args.zone.now zs c.in_ok-met.met) c.self.view_is c.in_ok-met.ensures) in
    let high : greatest_reach (c.args.zone.now ∷ c.args.self.now) + c.args.zone.now.period ≤ 2 ^ 62 = c.requires.reach in
    omega arith

-- what is left among those that are met
pub returns-clause-left : goal.returns-clause-left
returns-clause-left c =
    let low : greatest_reach (c.args.zone.now ∷ c.in_ok-met.met) ≤ greatest_reach (c.args.zone.now ∷ c.args.self.now) = met_reach c.args.zone.now c.args.self.now c.in_ok-met.met (subst (λ zs. AreThoseMet c.args.zone.now zs c.in_ok-met.met) c.self.view_is c.in_ok-met.ensures) in
    if_ok _ _ c.left_over-2.result (λ made p. left_among c.args.zone.now c.args.self.now c.in_ok-met.met (subst (λ zs. AreThoseMet c.args.zone.now zs c.in_ok-met.met) c.self.view_is c.in_ok-met.ensures) _ _ made (omega arith) p) c.left_over-2.ensures

pub returns-clause-count : goal.returns-clause-count
returns-clause-count c =
    let low : greatest_reach (c.args.zone.now ∷ c.in_ok-met.met) ≤ greatest_reach (c.args.zone.now ∷ c.args.self.now) = met_reach c.args.zone.now c.args.self.now c.in_ok-met.met (subst (λ zs. AreThoseMet c.args.zone.now zs c.in_ok-met.met) c.self.view_is c.in_ok-met.ensures) in
    if_ok _ _ c.left_over-2.result (λ made p. few_left c.args.zone.now c.args.self.now _ made c.requires.cell (left_among c.args.zone.now c.args.self.now c.in_ok-met.met (subst (λ zs. AreThoseMet c.args.zone.now zs c.in_ok-met.met) c.self.view_is c.in_ok-met.ensures) _ (greatest_reach (c.args.zone.now ∷ c.args.self.now) + c.args.zone.now.period) made (omega arith) p)) c.left_over-2.ensures

-- the cutters under another name
left_as : (z : ZoneView) (cutters others : List ZoneView) (h : ℕ) (made : List ZoneView) → cutters ≡ others → AreLeftOf z (z ∷ []) cutters h made → AreLeftOf z (z ∷ []) others h made
left_as z cutters others h made e p = subst (λ zs. AreLeftOf z (z ∷ []) zs h made) e p

pub returns-in_default-clause-count : goal.returns-in_default-clause-count
returns-in_default-clause-count c = if_ok _ _ c.left_over.result (λ made p. few_left c.args.zone.now c.args.self.now _ made c.requires.cell (left_as c.args.zone.now _ _ _ made c.self.view_is p)) c.left_over.ensures
