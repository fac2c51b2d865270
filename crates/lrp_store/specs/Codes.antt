-- How the value of a store is stored, as a pair of its parts.
use Rattle.std.specs.Prelude.{ℕ, ℤ, List, Option, refl}
use Rattle.std.specs.Coded.{Coded, code_by, coded×, coded_ℕ, coded_ℤ, coded_list, coded_option}
use Rattle.std.specs.FinMap as finite
use Rattle.lrp_slots.specs.Lists.{cell_cmp, cell_code}
use Rattle.lrp_store.specs.Stores.{StoreView}

-- the value as a pair
abbrev pub store_code : Coded StoreView
store_code =
    code_by ((ℕ × ℕ) × (ℕ × (finite.FinMap cell_cmp (List (List (Option ℤ))) × ℕ))) (coded× (coded× coded_ℕ coded_ℕ) (coded× coded_ℕ (coded× (finite.code cell_code (coded_list (coded_list (coded_option coded_ℤ)))) coded_ℕ)))
    (λ s. ((s.shape.times, s.shape.texts), (s.period, (s.tables, s.spare)))) (λ p. record { shape = record { times = p.0.0; texts = p.0.1 }; period = p.1.0; tables = p.1.1.0; spare = p.1.1.1 }) (λ _. refl)
