use Rattle.std.proofs.Common.{◌≡◌, ◌∷◌, ◌++◌, [], Some, cond, reverse, option_map, bytes_eq, subst, ap, sym, ◌∙◌}
use Rattle.std.proofs.lemmas.List.{reverse-append}
use Rattle.lrp_model.specs.Texts.{Identifier}
use Rattle.lrp_model.specs.Sorting.{binder_sort}
use Rattle.lrp_sorts.specs.Scopes.{binders, kept_at}
use Rattle.lrp_sorts.specs.Nesting.{apart, binders_with, first_sort, IsNested, mapped}
use Rattle.lrp_sorts.specs.declared.scope.QuantifierBinder.{QuantifierBinder}
use Rattle.lrp_sorts.proofs.Nested.{entered, sort_here}
use Rattle.lrp_sorts.proofs.scope.Scope.enter.Goals as goal

-- what the map had at the name, and else the head, is what the name is bound to outside
pub returns-clause-outer : goal.returns-clause-outer
returns-clause-outer c =
    c.or_apart.ensures
    ∙ ap (λ o. first_sort o (binder_sort (apart c.self.inside.is_short c.self.inside.columns.now) c.args.binder.now.name)) (c.in_ok-outer.ensures.outer ∙ ap (kept_at c.self.inside.sorts) c.as_bytes.ensures)
    ∙ sort_here c.self.inside.sorts c.self.inside.quantifiers.items c.self.inside.is_short c.self.inside.columns.now c.args.binder.now.name c.self.invariant
    ∙ ap (λ a. binder_sort (binders a) c.args.binder.now.name) c.self.view_is

pub invariant_of-self-2 : goal.invariant_of-self-2
invariant_of-self-2 c =
    let before = c.self.inside.quantifiers.items in
    let head = mapped c.self.inside.is_short c.self.inside.columns.now in
    let binder = c.args.binder.now in
    let one : QuantifierBinder = record { binder = c.args.binder; outer = c.in_ok-outer.outer } in
    let items : c.push_reserved.new.self.items ≡ before ++ one ∷ [] = c.push_reserved.ensures.items ∙ ap (λ l. l ++ one ∷ []) c.in_ok-reserve.ensures.items in
    let outside : option_map (λ s. s.now) one.outer ≡ binder_sort (binders_with (reverse before) head) binder.name =
    c.in_ok-outer.ensures.outer ∙ ap (kept_at c.self.inside.sorts) c.as_bytes.ensures ∙ c.self.invariant.sorts binder.name in
    subst (λ qs. IsNested c.bind_name.new.sorts qs head) (sym (ap reverse items ∙ reverse-append before (one ∷ [])))
    (entered c.self.inside.sorts c.bind_name.new.sorts one (reverse before) head c.self.invariant outside
    (subst (λ x. (n : Identifier) → kept_at c.bind_name.new.sorts n ≡ cond (bytes_eq x n) (Some binder.sort) (kept_at c.self.inside.sorts n)) c.as_bytes.ensures c.in_ok-outer.ensures.bound))
