use Rattle.std.proofs.Common.{◌∙◌, ap, of_z, subst, sym, to_z}
use Rattle.std.specs.Int.{w64}
use Rattle.slab.specs.Slab.{get}
use Rattle.lrp_kept.specs.Labels.{AreLabelled, IsLabelOf}
use Rattle.lrp_kept.proofs.Labelled.{label_at, label_is}
use Rattle.lrp_kept.proofs.sources.HeldSources.has_other_most.Goals as goal

pub returns-in-Some : goal.returns-in-Some
returns-in-Some c = λ e source held same.
    let is : IsLabelOf source c.in-Some.label.now = label_is c.self.inside.rows c.deref.result.now c.args.key c.in-Some.label.now source (subst (AreLabelled c.self.inside.rows) (sym c.deref.ensures.value) c.self.invariant) (label_at c.deref.result.now c.args.key c.get.result c.in-Some.label c.in-Some.is c.get.ensures.lookup.1 c.get.ensures.lookup.3) (ap (λ rows. get rows c.args.key) c.self.view_is ∙ held) in
    c.differ.ensures e (ap (λ z. to_z w64 (of_z w64 z)) (is.most ∙ same))
