-- One relation more brings one heading more.
use Rattle.std.proofs.Common.{◌≡◌, ◌+◌, ◌++◌, ◌∷◌, [], List, sym, subst, take}
use Rattle.lrp_model.specs.declared.relations.Relation.{Relation}
use Rattle.lrp_rel.specs.declared.gathering.Heading.{Heading}
use Rattle.lrp_edits.specs.EditGathered.{AreHeadings}
use Rattle.lrp_edits.proofs.EditLemmas.{next_taken, headings_more}
use Rattle.lrp_edits.proofs.headings.headings_of.Goals as goal

pub loop-relation-preserved : goal.loop-relation-preserved
loop-relation-preserved c =
    let relations = c.args.relations.now in
    let i = c.loop-relation.relation-index in
    let relation = c.relation-item.result in
    let made = c.loop-relation.made in
    let heading = c.in_ok-heading.heading in
    let next : take i relations ++ relation ∷ [] ≡ take (i + 1) relations = next_taken relations i relation c.loop-relation-test.true c.relation-item.is in
    let more : AreHeadings (take i relations ++ relation ∷ []) (made ++ heading ∷ []) = headings_more (take i relations) relation made heading c.loop-relation.invariant c.in_ok-heading.ensures in
    let P : List Heading → Type 0 = AreHeadings (take (i + 1) relations) in
    let Q : List Relation → Type 0 = λ rs. AreHeadings rs (made ++ heading ∷ []) in
    subst P (sym c.in_ok-push.ensures.ok) (subst Q next more)
