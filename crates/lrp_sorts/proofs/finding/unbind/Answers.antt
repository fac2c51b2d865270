use Rattle.std.proofs.Common.{◌≡◌, ◌∷◌, ◌++◌, [], List, Some, refl, ap, sym, ◌∙◌, subst, length}
use Rattle.lrp_model.specs.Texts.{Identifier}
use Rattle.lrp_model.specs.Sorting.{binder_sort}
use Rattle.lrp_model.specs.Sooner.{sooner}
use Rattle.lrp_model.specs.Sorting.{query_standing}
use Rattle.lrp_sorts.specs.Scopes.{Around, binders}
use Rattle.lrp_sorts.specs.Widths.{IsTally, IsTallied}
use Rattle.lrp_sorts.proofs.Tallies.{first_counted, own_binder, own_gone}
use Rattle.lrp_sorts.proofs.finding.unbind.Goals.{After-leave-2}
use Rattle.lrp_sorts.proofs.finding.unbind.Goals as goal

-- the quantifier's own variable counts inside
own_counted : (c : After-leave-2) (outer : Around) (names : List Identifier) → c.args.scope.now ≡ record outer { quantifiers = c.args.binder.now ∷ outer.quantifiers } → IsTallied c.args.scope.now names c.args.inside.free
    → IsTallied c.args.scope.now (c.args.binder.now.name ∷ names) c.add.new.self
own_counted c outer names e k =
    let bound : binder_sort (binders c.args.scope.now) c.args.binder.now.name ≡ Some c.args.binder.now.sort =
    ap (λ a. binder_sort (binders a) c.args.binder.now.name) e ∙ own_binder c.args.binder.now (binders outer) in
    first_counted (binders c.args.scope.now) (length c.args.scope.now.quantifiers) names c.args.binder.now.name c.add.new.self
    (subst (λ q. IsTally (binders c.args.scope.now) q (names ++ c.args.binder.now.name ∷ []) c.add.new.self) c.quantifiers.ensures
    (c.in_ok-add.ensures (binders c.args.scope.now) names bound (subst (λ q. IsTally (binders c.args.scope.now) q names c.args.inside.free) (sym c.quantifiers.ensures) k)))

pub returns-clause-scope : goal.returns-clause-scope
returns-clause-scope c = λ outer e. c.leave.ensures c.args.binder.now outer e

pub returns-clause-fault : goal.returns-clause-fault
returns-clause-fault c = λ outer names e k.
    c.sooner_of.ensures
    ∙ ap (sooner query_standing c.args.own) (c.with_width-within.ensures.fault (binders c.args.scope.now) (length c.args.scope.now.quantifiers) (c.args.binder.now.name ∷ names) (own_counted (goal.at.returns-clause-fault c).After-leave-2 outer names e k))

pub returns-clause-free : goal.returns-clause-free
returns-clause-free c = λ outer names e k.
    let own = c.args.binder.now in
    let inside : IsTallied (record outer { quantifiers = own ∷ outer.quantifiers }) (own.name ∷ names) c.with_width-within.result.free =
    subst (λ t. IsTallied (record outer { quantifiers = own ∷ outer.quantifiers }) (own.name ∷ names) t) (sym c.with_width-within.ensures.free)
    (subst (λ a. IsTallied a (own.name ∷ names) c.add.new.self) e (own_counted (goal.at.returns-clause-free c).After-leave-2 outer names e k)) in
    subst (λ ns. IsTallied outer ns c.leave-2.new.self) (own_gone own.name names)
    (c.leave-2.ensures own (binders outer) (length outer.quantifiers) (own.name ∷ names) refl inside)
