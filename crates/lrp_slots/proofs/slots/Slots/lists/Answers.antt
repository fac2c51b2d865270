-- The lists of all chains are left.
use Rattle.std.proofs.Common.{◌≡◌, ◌∙◌, ap, sym, subst, Some}
use Rattle.std.specs.Prelude.{All}
use Rattle.std.specs.FinMap as finite
use Rattle.slab.specs.Slab.{get}
use Rattle.lrp_slots.specs.Links.{AreHeldChains, lists_of, values_of_chains}
use Rattle.lrp_slots.proofs.Tables.{entries-lists_of}
use Rattle.lrp_slots.proofs.Entries.{all_held, all_found}
use Rattle.lrp_slots.proofs.Lines.{found_each}
use Rattle.lrp_slots.proofs.slots.Slots.lists.Goals as goal

pub invariant_of-result : goal.invariant_of-result
invariant_of-result g c = subst (AreHeldChains (get c.self.inside.links)) (sym c.iter.ensures.rest) (all_held c.self.inside.links c.self.inside.chains c.self.invariant (found_each c.self.inside.chains c.iter.ensures.ordered))

pub returns-clause-entries : goal.returns-clause-entries
returns-clause-entries g c =
    ap (values_of_chains (get c.self.inside.links)) c.iter.ensures.rest
    ∙ sym (entries-lists_of (get c.self.inside.links) c.self.inside.chains c.self.invariant.ascending) ∙ ap (λ s. finite.entries s.lists) c.self.view_is

pub returns-clause-found : goal.returns-clause-found
returns-clause-found g c =
    subst (λ m. All (λ e. finite.get m e.0 ≡ Some e.1) (values_of_chains (get c.self.inside.links) c.iter.result)) (ap (λ s. s.lists) c.self.view_is)
    (subst (λ es. All (λ e. finite.get (lists_of (get c.self.inside.links) c.self.inside.chains) e.0 ≡ Some e.1) (values_of_chains (get c.self.inside.links) es)) (sym c.iter.ensures.rest)
    (all_found (get c.self.inside.links) c.self.inside.chains (found_each c.self.inside.chains c.iter.ensures.ordered)))
