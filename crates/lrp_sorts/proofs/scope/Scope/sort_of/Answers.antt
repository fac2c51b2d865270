use Rattle.std.proofs.Common.{◌++◌, map, reverse, option_map, bytes_eq, ap, ◌∙◌}
use Rattle.std.specs.HashMap.{get_by}
use Rattle.lrp_model.specs.Sorting.{binder_sort}
use Rattle.lrp_sorts.specs.Nesting.{apart, first_sort}
use Rattle.lrp_sorts.specs.Scopes.{binders}
use Rattle.lrp_sorts.proofs.Nested.{sort_here}
use Rattle.lrp_sorts.proofs.scope.Scope.sort_of.Goals as goal

pub returns : goal.returns
returns c =
    c.or_apart.ensures
    ∙ ap (λ o. first_sort (option_map (λ s. s.now) o) (binder_sort (apart c.self.inside.is_short c.self.inside.columns.now) c.args.name.now)) (c.copied-kept.ensures ∙ c.get.ensures.value ∙ ap (λ q. get_by (λ k. bytes_eq q k.now) c.self.inside.sorts) c.as_bytes.ensures)
    ∙ sort_here c.self.inside.sorts c.self.inside.quantifiers.items c.self.inside.is_short c.self.inside.columns.now c.args.name.now c.self.invariant
    ∙ ap (λ a. binder_sort (binders a) c.args.name.now) c.self.view_is
