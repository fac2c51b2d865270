-- The zone is refined to the residues at the places, and spread.
use Rattle.std.proofs.Common.{◌≡◌, arith, sym, subst, length, take, to_z, of_z}
use Rattle.std.specs.Prelude.{nat_abs, IfNone, Option, None, Some}
use Rattle.std.specs.Int.{w64}
use Rattle.std.proofs.lemmas.Int.{ints}
use Rattle.std.proofs.Common.{ℕ, ◌≤◌}
use Rattle.lrp_theory.specs.Entries.{node}
use Rattle.lrp_zone.specs.Residues.{HasNoRefined, IsRefined}
use Rattle.lrp_zone.specs.Zones.{IsResidue}
use Rattle.lrp_minus.proofs.CutterLaws.{own_residues, no_cutter, piece_own, cutter_is}
use Rattle.lrp_minus.proofs.cutters.cutter_of.Goals as goal

pub refine-requires-clause-residues : goal.refine-requires-clause-residues
refine-requires-clause-residues c =
    let word : to_z w64 (of_z w64 c.args.period) ≡ c.args.period = omega (arith, ints, c.ranges.period.sfits) in
    own_residues c.args.zone.now c.requires.zone c.args.places.now c.args.residues.now c.requires.count c.requires.places c.residues_at-own.result c.residues_at-own.ensures _
    (subst (λ k. (p : ℕ) → p ≤ length c.args.residues.now → IsResidue (nat_abs k) (node c.args.residues.now p)) (sym word) c.requires.residues)

pub returns-in_err-piece-clause-none : goal.returns-in_err-piece-clause-none
returns-in_err-piece-clause-none c =
    let word : to_z w64 (of_z w64 c.args.period) ≡ c.args.period = omega (arith, ints, c.ranges.period.sfits) in
    if_none c.from_residual.result (no_cutter c.args.zone.now c.requires.zone c.args.places.now c.args.residues.now c.requires.count c.requires.places c.residues_at-own.result c.residues_at-own.ensures c.args.period
    (subst (λ k. HasNoRefined c.args.zone.now k (take (length c.args.places.now) c.residues_at-own.result)) word c.in_err-piece.ensures.none))
  where
    if_none : {X : Type 0} {P : Type 0} (o : Option X) → P → IfNone o P
    if_none None p = p
    if_none (Some x) p = tt

pub spread-requires-clause-own : goal.spread-requires-clause-own
spread-requires-clause-own c =
    piece_own c.args.zone.now c.requires.zone c.args.places.now c.args.residues.now c.requires.count c.requires.places c.residues_at-own.result c.residues_at-own.ensures _ c.in_ok-piece.piece c.in_ok-piece.ensures.some

pub returns-clause-some : goal.returns-clause-some
returns-clause-some c =
    let word : to_z w64 (of_z w64 c.args.period) ≡ c.args.period = omega (arith, ints, c.ranges.period.sfits) in
    cutter_is c.args.zone.now c.requires.zone c.args.places.now c.args.residues.now c.requires.count c.requires.places c.residues_at-own.result c.residues_at-own.ensures c.args.period c.in_ok-piece.piece
    (subst (λ k. IsRefined c.args.zone.now k (take (length c.args.places.now) c.residues_at-own.result) c.in_ok-piece.piece) word c.in_ok-piece.ensures.some) c.spread.result c.spread.ensures
