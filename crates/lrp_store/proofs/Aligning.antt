-- How the zones of a store are read, cell after cell.
use Rattle.std.proofs.Common.{◌≡◌, ℕ, suc, ◌<◌, List, ◌∷◌, length, Some, None, arith, refl, sym, ap, subst, ◌∙◌, take, Contains}
use Rattle.std.specs.Prelude.{ℤ, is_some}
use Rattle.std.specs.FinMap as finite
use Rattle.std.specs.FinMap.{contains_key-keys, get-empty}
use Rattle.std.proofs.lemmas.Map.Views.{Contains-from_any}
use Rattle.lrp_model.specs.declared.tuples.Cell.{Cell}
use Rattle.lrp_slots.specs.Lists.{cell_cmp}
use Rattle.lrp_slots.proofs.Tables.{same_cell}
use Rattle.lrp_zone.specs.Zones.{ZoneView, IsZone}
use Rattle.lrp_store.specs.Stores.{StoreView, IsStore, InStore, zone_of, tables_at}
use Rattle.lrp_store.proofs.Held.{Table, held_of, zone_held}

-- the zone of a table, as it is read and as it is seen
pub zone_read : (s now : StoreView) → s ≡ now → (c : Cell) (t : Table) (times : ℕ) (z : ZoneView) → times ≡ s.shape.times → z ≡ record { period = s.period; residues = take times c.residues; bounds = t } → z ≡ zone_of now c t
zone_read s now same c t times z et ez = ez ∙ ap (λ n. record { period = s.period; residues = take n c.residues; bounds = t }) et ∙ ap (λ v. zone_of v c t) same

-- the zone that is read is a zone
pub zone_valid : (s now : StoreView) → s ≡ now → IsStore now → (c : Cell) (t : Table) (times : ℕ) → Contains (tables_at now c) t → times ≡ s.shape.times → IsZone (record { period = s.period; residues = take times c.residues; bounds = t })
zone_valid s now same is c t times held et = subst (λ w. IsZone w) (sym (zone_read s now same c t times _ et refl)) (zone_held now is c t held)

-- a list has its first element
pub head_in : {X : Type 0} (x : X) (xs list : List X) → list ≡ x ∷ xs → Contains list x
head_in x xs list e = subst (λ l. Contains l x) (sym e) (0, omega arith, refl)

-- and each of the rest
pub tail_in : {X : Type 0} (x : X) (xs list : List X) → list ≡ x ∷ xs → (y : X) → Contains xs y → Contains list y
tail_in x xs list e y h = subst (λ l. Contains l y) (sym e) (let l : h.0 < length xs = h.1 in (suc h.0, omega arith, h.2))

-- each tuple is in a cell that is held
pub key_of : (s : StoreView) (xs : List ℤ) (ns : List ℕ) → (h : InStore s xs ns) → Contains (finite.keys s.tables) h.cell
key_of s xs ns h = Contains-from_any same_cell h.cell (finite.keys s.tables) (sym (contains_key-keys s.tables h.cell) ∙ ap is_some (held_of s.tables h.cell h.table h.held))

-- a store without cells holds nothing
pub nothing_held : (s : StoreView) → s.tables ≡ finite.empty → (xs : List ℤ) (ns : List ℕ) → InStore s xs ns → ⊥
nothing_held s e xs ns h = none_some (sym (get-empty cell_cmp h.cell) ∙ ap (λ m. finite.get m h.cell) (sym e) ∙ held_of s.tables h.cell h.table h.held)
  where
    none_some : {X : Type 0} {x : X} → None ≡ Some x → ⊥
    none_some e = cc
