-- How the value of first times is stored, as a pair of its parts.
use Rattle.std.specs.Prelude.{ℕ, refl}
use Rattle.std.specs.Coded.{Coded, code_by, coded×, coded_ℕ}
use Rattle.lrp_store.specs.Codes.{store_code}
use Rattle.lrp_store.specs.Stores.{StoreView}
use Rattle.lrp_systems.specs.Fronts.{FrontsView}

-- the value as a pair
abbrev pub fronts_code : Coded FrontsView
fronts_code =
    code_by (StoreView × (ℕ × (ℕ × ℕ))) (coded× store_code (coded× coded_ℕ (coded× coded_ℕ coded_ℕ))) (λ f. (f.store, (f.after, (f.cells, f.cap)))) (λ p. record { store = p.0; after = p.1.0; cells = p.1.1.0; cap = p.1.1.1 }) (λ _. refl)
