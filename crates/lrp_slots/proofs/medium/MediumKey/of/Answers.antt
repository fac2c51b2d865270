-- A cell that is found equal to that of its key is that one, and another one has no key.
use Rattle.std.proofs.Common.{◌∙◌, SFits, sym, rules, get_or}
use Rattle.std.specs.Prelude.{pos}
use Rattle.std.specs.Int.{w64}
use Rattle.std.proofs.lemmas.Int.{to_z-of_z}
use Rattle.lrp_slots.proofs.Shortened.{same_numbers, medium_parts, no_medium_key}
use Rattle.lrp_slots.proofs.medium.MediumKey.of.Goals as goal

pub returns-then-eq-clause-some : goal.returns-then-eq-clause-some
returns-then-eq-clause-some c = sym c.cell.ensures ∙ same_numbers c.cell.result c.args.cell.now (sym c.eq.ensures ∙ c.if-eq.true)

pub returns-else-eq-clause-none : goal.returns-else-eq-clause-none
returns-else-eq-clause-none c =
    let first : SFits w64 (get_or c.args.cell.now.residues 0 (pos 0)) = search rules in
    let second : SFits w64 (get_or c.args.cell.now.residues 1 (pos 0)) = search rules in
    let third : SFits w64 (get_or c.args.cell.now.residues 2 (pos 0)) = search rules in
    let fourth : SFits w64 (get_or c.args.cell.now.residues 3 (pos 0)) = search rules in
    no_medium_key c.args.cell.now c.cell.result _
    (medium_parts c.args.cell.now c.joined.result c.joined-2.result c.joined-3.result _ _ _ _ c.joined.ensures c.joined-2.ensures c.joined-3.ensures (to_z-of_z w64 _ first) (to_z-of_z w64 _ second) (to_z-of_z w64 _ third) (to_z-of_z w64 _ fourth)) c.cell.ensures (sym c.eq.ensures ∙ c.if-eq.false)
