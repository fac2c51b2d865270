use Rattle.std.proofs.Common.{List, ℕ, sym, subst}
use Rattle.lrp_model.specs.Kept.{AreKept}
use Rattle.lrp_print.proofs.Reading.{reads_back}
use Rattle.lrp_rel.proofs.NameLemmas.{tree_named}
use Rattle.lrp_rel.proofs.TreeTexts.{tree_texted}
use Rattle.lrp_rel.proofs.MeaningKept.{tree_kept}
use Rattle.lrp_rel.proofs.laws.databases_read_back.Goals as goal

pub returns : goal.returns
returns c = λ bytes relations d.
    reads_back relations (subst AreKept (sym d.meant) (tree_kept d.tree d.text.lawful d.sound (tree_named bytes d.tree d.text.spelled) (tree_texted bytes d.tree d.text.utf8 d.text.spelled)))
