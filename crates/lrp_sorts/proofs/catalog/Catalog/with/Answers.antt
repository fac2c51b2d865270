use Rattle.std.proofs.Common.{◌≡◌, ◌||◌, ◌-◌, ◌++◌, [], ◌∷◌, take, ap, sym, ◌∙◌}
use Rattle.std.specs.List.{list_any}
use Rattle.lrp_model.specs.Sorts.{same_sort}
use Rattle.lrp_model.specs.Sorting.{has_sort}
use Rattle.lrp_model.specs.declared.relations.Relation.{Relation}
use Rattle.lrp_model.specs.declared.relations.Sort.TheVariants.{Named}
use Rattle.lrp_sorts.proofs.Catalogs.{next_taken}
use Rattle.lrp_sorts.proofs.SortNames.{sort_more}
use Rattle.lrp_sorts.proofs.catalog.Catalog.with.Goals as goal

pub invariant_of-result : goal.invariant_of-result
invariant_of-result c =
    let d = c.args.definitions.now in
    let n = c.args.count in
    let r : Relation = c.at.result.now in
    let before = d.relations ++ take (n - 1) d.definitions in
    let more : before ++ r ∷ [] ≡ d.relations ++ take n d.definitions = next_taken d.relations d.definitions n r c.requires.some c.at.ensures in
    record {
      database = sym c.database.ensures;
      named = λ s.
          c.in_ok-add_sorts.ensures s ∙ ap (λ b. b || list_any (λ x. same_sort x.sort (Named s)) c.as_slice.result.now) (c.self.invariant.named s ∙ ap (λ l. has_sort l (Named s)) (c.self.view_is ∙ c.requires.before))
          ∙ ap (λ cs. has_sort before (Named s) || list_any (λ x. same_sort x.sort (Named s)) cs) c.as_slice.ensures
          ∙ sym (sort_more before r (Named s)) ∙ ap (λ l. has_sort l (Named s)) (more ∙ ap (λ l. l ++ take n d.definitions) (sym c.database.ensures));
    }
