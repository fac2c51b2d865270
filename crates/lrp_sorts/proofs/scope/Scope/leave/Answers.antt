use Rattle.std.proofs.Common.{◌≡◌, ◌∷◌, [], cond, reverse, option_map, IsSome, bytes_eq, refl, subst, ap, sym, ◌∙◌}
use Rattle.std.proofs.lemmas.List.{reverse-append}
use Rattle.lrp_model.specs.Texts.{Identifier}
use Rattle.lrp_sorts.specs.Scopes.{kept_at}
use Rattle.lrp_sorts.specs.Nesting.{IsNested, mapped}
use Rattle.lrp_sorts.proofs.Nested.{left, own_kept}
use Rattle.lrp_sorts.proofs.scope.Scope.leave.Goals.{After-as_bytes}
use Rattle.lrp_sorts.proofs.scope.Scope.leave.Goals as goal

-- what is kept before the innermost quantifier is left
kept_inside : (c : After-as_bytes) → IsNested c.self.inside.sorts (c.in-Some.last ∷ reverse c.pop.new.self.items) (mapped c.self.inside.is_short c.self.inside.columns.now)
kept_inside c =
    subst (λ qs. IsNested c.self.inside.sorts qs (mapped c.self.inside.is_short c.self.inside.columns.now)) (ap reverse c.in-Some.ensures.items ∙ reverse-append c.pop.new.self.items (c.in-Some.last ∷ [])) c.self.invariant

pub restore-requires : goal.restore-requires
restore-requires c =
    subst IsSome (sym (ap (kept_at c.self.inside.sorts) c.as_bytes.ensures ∙ own_kept c.self.inside.sorts c.in-Some.last (reverse c.pop.new.self.items) (mapped c.self.inside.is_short c.self.inside.columns.now) (kept_inside (goal.at.restore-requires c).After-as_bytes))) refl

pub invariant_of-self-2 : goal.invariant_of-self-2
invariant_of-self-2 c =
    left c.self.inside.sorts c.restore.new.sorts c.in-Some.last (reverse c.pop.new.self.items) (mapped c.self.inside.is_short c.self.inside.columns.now) (kept_inside (goal.at.invariant_of-self-2 c).After-as_bytes)
    (subst (λ x. (n : Identifier) → kept_at c.restore.new.sorts n ≡ cond (bytes_eq x n) (option_map (λ s. s.now) c.in-Some.last.outer) (kept_at c.self.inside.sorts n)) c.as_bytes.ensures c.restore.ensures)
