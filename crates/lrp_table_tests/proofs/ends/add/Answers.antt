-- Integers fit into the cell of the residue 0 modulo 1.
use Rattle.std.proofs.Common.{ap, sym, subst, take, ◌∙◌, refl}
use Rattle.std.specs.Prelude.{pos}
use Rattle.lrp_store.specs.Stores.{IsPadded}
use Rattle.lrp_table_tests.proofs.EndLemmas.{more_held}
use Rattle.lrp_table_tests.proofs.ends.add.Goals as goal

pub add_new-requires-clause-period : goal.add_new-requires-clause-period
add_new-requires-clause-period g c = c.requires.zone.period ∙ sym c.requires.store.period

pub add_new-requires-clause-residues : goal.add_new-requires-clause-residues
add_new-requires-clause-residues g c = c.requires.zone.residues ∙ sym (ap (λ n. take n c.cell.result.residues) c.requires.store.times ∙ c.cell.ensures.residue)

pub add_new-requires-clause-texts : goal.add_new-requires-clause-texts
add_new-requires-clause-texts g c = subst (λ n. IsPadded 0 n c.cell.result.texts) (sym c.requires.store.texts) (c.cell.ensures.no_text refl)

pub add_new-requires-clause-times : goal.add_new-requires-clause-times
add_new-requires-clause-times g c = subst (λ n. IsPadded (pos 0) n c.cell.result.residues) (sym c.requires.store.times) c.cell.ensures.times

pub returns : goal.returns
returns g c = more_held _ _ c.args.zone.now c.args.store.now c.add_new.new.self c.requires.store c.requires.zone c.in-Ok.ensures.ok.grown
