-- What is gathered without a fault is kept.
use Rattle.std.proofs.Common.{◌≡◌, ◌<◌, ◌∙◌, List, None, sym, subst, length}
use Rattle.lrp_model.specs.Faults.{earliest}
use Rattle.lrp_model.specs.Domains.{database_texts}
use Rattle.lrp_model.specs.DatabaseFaults.{database_standing, database_faults}
use Rattle.lrp_model.specs.declared.relations.Relation.{Relation}
use Rattle.lrp_model.specs.Kept.{AreKept}
use Rattle.lrp_rel.proofs.GatheredLemmas.{gathered_sound}
use Rattle.lrp_rel.proofs.NameLemmas.{tree_named}
use Rattle.lrp_rel.proofs.TreeTexts.{tree_texted}
use Rattle.lrp_rel.proofs.MeaningKept.{tree_kept}
use Rattle.lrp_rel.proofs.FewTexts.{few_texts}
use Rattle.lrp_rel.proofs.read.database_of.Goals as goal

pub of-requires : goal.of-requires
of-requires c =
    let said = c.requires.said in
    let none : earliest database_standing (database_faults said.tree) ≡ None = sym (c.fault.ensures said.tree said.are) ∙ c.in-None.is in
    let sound = gathered_sound said.tree c.args.gathered said.are none in
    record { kept = subst AreKept (sym sound.meant) (tree_kept said.tree said.text.lawful sound.sound (tree_named c.requires.bytes said.tree said.text.spelled) (tree_texted c.requires.bytes said.tree said.text.utf8 said.text.spelled)) }

pub returns-in_ok-of-in-None-clause-few : goal.returns-in_ok-of-in-None-clause-few
returns-in_ok-of-in-None-clause-few c =
    let said = c.requires.said in
    let none : earliest database_standing (database_faults said.tree) ≡ None = sym (c.fault.ensures said.tree said.are) ∙ c.in-None.is in
    let sound = gathered_sound said.tree c.args.gathered said.are none in
    let P : List Relation → Type 0 = λ rs. length (database_texts rs) < 16777216 in
    subst P (sym (c.in_ok-of-in-None.ensures ∙ sound.meant)) (few_texts c.requires.bytes said.tree c.requires.short said.text.spelled)

pub returns-in_ok-of-in-None-clause-read : goal.returns-in_ok-of-in-None-clause-read
returns-in_ok-of-in-None-clause-read c = λ tree are.
    let sound = gathered_sound tree c.args.gathered are (sym (c.fault.ensures tree are) ∙ c.in-None.is) in
    record { sound = sound.sound; meant = c.in_ok-of-in-None.ensures ∙ sound.meant }
