-- No text has the sort of times.
use Rattle.std.proofs.Common.{◌∙◌, ap, sym, subst, List}
use Rattle.std.specs.List.{AllByRecursion}
use Rattle.lrp_model.specs.Domains.{database_texts}
use Rattle.lrp_model.specs.declared.relations.Relation.{Relation}
use Rattle.lrp_model.specs.Kept.{IsKept}
use Rattle.lrp_database.specs.Once.{once, texts_with, texts_among}
use Rattle.lrp_database.proofs.StoredLemmas.{no_times}
use Rattle.lrp_database.proofs.database.Database.texts_of.Goals as goal

pub returns-in-Time-clause-texts : goal.returns-in-Time-clause-texts
returns-in-Time-clause-texts c =
    let now = c.args.self.now in
    let P : List Relation → Type 0 = AllByRecursion IsKept in
    let kept : P now = subst P c.self.view_is c.self.invariant.kept.each in
    c.self.invariant.held.none ∙ sym (ap (λ s. once (texts_with s (database_texts now))) c.in-Time.is ∙ ap (λ l. once (texts_among l)) (no_times now kept))
