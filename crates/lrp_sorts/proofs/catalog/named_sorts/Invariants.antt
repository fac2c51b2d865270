use Rattle.std.proofs.Common.{◌≡◌, take}
use Rattle.lrp_model.specs.Texts.{Identifier}
use Rattle.lrp_model.specs.Sorting.{has_sort}
use Rattle.lrp_model.specs.declared.relations.Sort.TheVariants.{Named}
use Rattle.lrp_sorts.specs.Scopes.{holds}
use Rattle.lrp_sorts.proofs.catalog.named_sorts.Given as goal

-- the sorts of the relations so far are there
abbrev pub invariant-loop-i : goal.invariant-loop-i
invariant-loop-i l = (n : Identifier) → holds l.sorts n ≡ has_sort (take l.i l.db) (Named n)
