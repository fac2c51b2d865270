use Rattle.std.proofs.Common.{◌||◌, ap, sym, ◌∙◌}
use Rattle.lrp_model.specs.Sorts.{same_sort}
use Rattle.lrp_model.specs.declared.relations.Sort.TheVariants.{Named}
use Rattle.lrp_sorts.specs.Scopes.{holds}
use Rattle.lrp_sorts.proofs.SortNames.{one_name}
use Rattle.lrp_sorts.proofs.catalog.add_sort.Goals as goal

pub returns-in_ok-insert : goal.returns-in_ok-insert
returns-in_ok-insert c = λ n.
    one_name c.as_bytes.result c.args.sorts.now c.insert.new.self c.in-Named.name c.as_bytes.ensures c.in_ok-insert.ensures.updates n
    ∙ ap (λ s. holds c.args.sorts.now n || same_sort s (Named n)) (sym c.in-Named.is)
