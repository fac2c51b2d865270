-- A residue is a cell of its own.
use Rattle.std.proofs.Common.{[], ◌∷◌, ◌∙◌, ap, refl, to_z-of_z}
use Rattle.lrp_table_tests.proofs.ResidueLemmas.{more_held, proper}
use Rattle.lrp_table_tests.proofs.parts.add_residue.Goals as goal

pub add_whole-requires : goal.add_whole-requires
add_whole-requires g c = record {
  proper = proper c.args.store.now.shape c.args.store.now.period c.cell.result c.args.residue c.requires.store.times c.requires.store.texts c.requires.residue (c.cell.ensures.no_text refl) c.cell.ensures.times
      (c.cell.ensures.residue ∙ ap (λ x. x ∷ []) (to_z-of_z c.ranges.residue));
}

pub returns : goal.returns
returns g c = more_held _ _ _ c.args.store.now c.add_whole.new.self c.requires.store c.in-Ok.ensures.ok.grown
