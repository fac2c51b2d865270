use Rattle.std.proofs.Common.{◌≡◌, [], None, not, filter, sym, ap, subst, ◌∙◌, map}
use Rattle.std.specs.Option.{option_copied}
use Rattle.lrp_model.specs.RawTerms.{said_term}
use Rattle.lrp_model.specs.Rows.{columns_in, relation_named}
use Rattle.lrp_plan_laws.specs.GuardedConjunctions.{stands_alone}
use Rattle.lrp_guarded.specs.Needs.{sort_element}
use Rattle.lrp_guarded.proofs.Projected.{none_alone}
use Rattle.lrp_guarded.proofs.needs.still_needed.Goals as goal

pub returns-in-None : goal.returns-in-None
returns-in-None c =
    let e : relation_named c.args.sources.now.database.now c.args.atom.relation.now ≡ None = sym c.in-None.ensures.named in
    sym (ap (λ o. filter (λ s. not (stands_alone (sort_element s) (columns_in o) (map said_term c.args.atom.terms.now))) c.args.sorts.items) e ∙ none_alone (map said_term c.args.atom.terms.now) c.args.sorts.items)
