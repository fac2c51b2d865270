-- The lists of all cells, read one after another.
use Rattle.std.proofs.Common.{◌≡◌, ℕ, List, ◌∷◌, Option, Some, option_map, ap, subst, ◌∙◌}
use Rattle.std.specs.Prelude.{All}
use Rattle.std.proofs.lemmas.List.Elements.{All-head, All-map, All-rest, All-weaker}
use Rattle.std.specs.FinMap as finite
use Rattle.slab.specs.Slab.{Slab, get}
use Rattle.lrp_model.specs.declared.tuples.Cell.{Cell}
use Rattle.lrp_slots.specs.declared.chains.Link.{Link}
use Rattle.lrp_slots.specs.declared.chains.Chain.{Chain}
use Rattle.lrp_slots.specs.Links.{chain_at, chain_keys, chain_values, lists_of, values_of_chains, AreHeld, AreHeldChains, AreLinked}
use Rattle.lrp_slots.proofs.Tables.{get-lists_of}

module _ {V : Type 0} where
  -- each key of each chain has a value
  pub all_held : (slab : Slab (Link V)) (es : List (Cell × Chain)) → AreLinked slab es → All (λ e. chain_at es e.0 ≡ Some e.1) es → AreHeldChains (get slab) es
  all_held slab es linked found = All-weaker (λ e. chain_at es e.0 ≡ Some e.1) (λ e. AreHeld (get slab) (chain_keys (get slab) e.1)) (λ e h. (linked.whole e.0 e.1 h).held) es found

  -- each list is found at its cell
  pub all_found : (slots : ℕ → Option (Link V)) (es : List (Cell × Chain)) → All (λ e. chain_at es e.0 ≡ Some e.1) es → All (λ e. finite.get (lists_of slots es) e.0 ≡ Some e.1) (values_of_chains slots es)
  all_found slots es found =
      All-map (λ e. finite.get (lists_of slots es) e.0 ≡ Some e.1) (λ e. (e.0, chain_values slots e.1)) es
      (All-weaker (λ e. chain_at es e.0 ≡ Some e.1) (λ e. finite.get (lists_of slots es) e.0 ≡ Some (chain_values slots e.1)) (λ e h. get-lists_of slots es e.0 ∙ ap (option_map (chain_values slots)) h) es found)

  -- the keys of the first chain have values
  pub first_held : (slots : ℕ → Option (Link V)) (e : Cell × Chain) (rest es : List (Cell × Chain)) → es ≡ e ∷ rest → AreHeldChains slots es → AreHeld slots (chain_keys slots e.1)
  first_held slots e rest es same held = All-head (λ e. AreHeld slots (chain_keys slots e.1)) e rest (subst (AreHeldChains slots) same held)

  -- and those of the rest
  pub rest_held : (slots : ℕ → Option (Link V)) (e : Cell × Chain) (rest es : List (Cell × Chain)) → es ≡ e ∷ rest → AreHeldChains slots es → AreHeldChains slots rest
  rest_held slots e rest es same held = All-rest (λ e. AreHeld slots (chain_keys slots e.1)) e rest es same held
