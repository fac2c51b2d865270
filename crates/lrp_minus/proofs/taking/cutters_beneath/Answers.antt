-- Where the right store has nothing, there is no cutter.
use Rattle.std.proofs.Common.{sym, subst, ◌∙◌}
use Rattle.std.specs.Prelude.{Contains}
use Rattle.lrp_cutting.proofs.Lists.{if_ok, in_none}
use Rattle.lrp_minus.specs.Cutters.{AreCutters}
use Rattle.lrp_minus.specs.Taking.{IsContentOf}
use Rattle.lrp_minus.specs.declared.taking.Content.{Content}
use Rattle.lrp_minus.proofs.TakingLaws.{cell_is, no_cutters}
use Rattle.lrp_minus.proofs.taking.cutters_beneath.Goals as goal

pub returns-in-Nothing : goal.returns-in-Nothing
returns-in-Nothing c = if_ok _ _ c.of.result (λ made e. subst (AreCutters c.args.taking.now.places.now c.args.out.now c.args.cell.now c.args.taking.now.right.now) (sym (e ∙ c.new.ensures)) (no_cutters c.args.taking.now c.args.out.now c.requires.taking.store c.requires.taking c.args.cell.now c.requires.begun
    (subst (λ (d : Content). IsContentOf c.args.taking.now c.args.out.now.period c.args.out.now.shape.texts c.args.cell.now c.args.out.now.shape.times d) c.in-Nothing.is c.requires.content))) c.of.ensures

pub of-requires : goal.of-requires
of-requires c = λ z l. absurd (in_none z (subst (λ q. Contains q z) c.new.ensures l))

pub cutters_of-requires-clause-cell : goal.cutters_of-requires-clause-cell
cutters_of-requires-clause-cell c = cell_is c.args.taking.now c.args.out.now c.requires.taking.store c.requires.taking c.args.cell.now c.requires.begun
