use Rattle.std.proofs.Common.{◌≡◌, ◌||◌, take}
use Rattle.std.specs.List.{list_any}
use Rattle.lrp_model.specs.Texts.{Identifier}
use Rattle.lrp_model.specs.Sorts.{same_sort}
use Rattle.lrp_model.specs.declared.relations.Sort.TheVariants.{Named}
use Rattle.lrp_sorts.specs.Scopes.{holds}
use Rattle.lrp_sorts.proofs.catalog.add_sorts.Given as goal

-- the sorts of the columns so far are there
abbrev pub invariant-loop-column : goal.invariant-loop-column
invariant-loop-column l = (n : Identifier) → holds l.sorts n ≡ (holds l.fn.sorts n || list_any (λ c. same_sort c.sort (Named n)) (take l.column-index l.columns))
