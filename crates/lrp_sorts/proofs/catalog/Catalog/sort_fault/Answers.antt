use Rattle.std.proofs.Common.{◌≡◌, not, ap, ◌∙◌}
use Rattle.std.specs.Str.{bytes_eq}
use Rattle.std.specs.HashSet.{contains_by}
use Rattle.lrp_model.specs.Faults.{earliest, fault_if}
use Rattle.lrp_model.specs.Sorting.{query_standing, query_fault, has_sort}
use Rattle.lrp_model.specs.declared.faults.QueryKind.TheVariants.{UnknownSort}
use Rattle.lrp_model.specs.declared.relations.Sort.TheVariants.{Named}
use Rattle.lrp_sorts.proofs.catalog.Catalog.sort_fault.Goals as goal

pub returns-in-Named : goal.returns-in-Named
returns-in-Named c =
    let known : c.contains-known.result ≡ has_sort c.args.self.now (Named c.in-Named.name) =
    c.contains-known.ensures ∙ ap (λ q. contains_by (λ k. bytes_eq q k.now) c.self.inside.sorts) c.as_bytes.ensures
    ∙ c.self.invariant.named c.in-Named.name ∙ ap (λ db. has_sort db (Named c.in-Named.name)) c.self.view_is in
    rw c.in-Named.is (c.fault_where.ensures ∙ ap (λ b. earliest query_standing (fault_if (not b) (query_fault UnknownSort c.args.place))) known)
