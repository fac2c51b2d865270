-- How the value of a lister is stored, as a pair of its parts.
use Rattle.std.specs.Prelude.{◌≡◌, ◌⊎◌, ℕ, ℤ, List, Option, Some, None, refl}
use Rattle.std.specs.Coded.{Coded, code_by, coded×, coded⊎, coded_ℕ, coded_ℤ, coded_list, coded_option}
use Rattle.std.proofs.Common.{ap, inl, inr}
use Rattle.lrp_model.specs.Rows.{Datum, time, text}
use Rattle.lrp_model.specs.declared.relations.Sort.{Sort}
use Rattle.lrp_model.specs.declared.relations.Sort.TheVariants.{Time, Data, Named}
use Rattle.lrp_model.specs.declared.relations.Column.{Column}
use Rattle.lrp_store.specs.Stores.{StoreView}
use Rattle.lrp_store.specs.Codes.{store_code}
use Rattle.lrp_answers.specs.Listing.{WindowView, ListerView}
use Rattle.lrp_answers.specs.declared.cursor.Cursor.{Cursor}

-- a sort as the name that it may have
abbrev sort_key : Sort → Option (Option (List ℕ))
sort_key Time = None
sort_key Data = Some None
sort_key (Named n) = Some (Some n)

-- and back
abbrev sort_from : Option (Option (List ℕ)) → Sort
sort_from None = Time
sort_from (Some None) = Data
sort_from (Some (Some n)) = Named n

abbrev sort_back : (s : Sort) → sort_from (sort_key s) ≡ s
sort_back Time = refl
sort_back Data = refl
sort_back (Named n) = refl

-- a column as its name and its sort
abbrev pub column_code : Coded Column
column_code =
    code_by (List ℕ × Option (Option (List ℕ))) (coded× (coded_list coded_ℕ) (coded_option (coded_option (coded_list coded_ℕ)))) (λ c. (c.name, sort_key c.sort)) (λ p. record { name = p.0; sort = sort_from p.1 }) (λ c. ap (λ s. record { name = c.name; sort = s }) (sort_back c.sort))

-- a value as an integer or a text
abbrev datum_key : Datum → ℤ ⊎ List ℕ
datum_key (time x) = inl x
datum_key (text t) = inr t

-- and back
abbrev datum_from : ℤ ⊎ List ℕ → Datum
datum_from (inl x) = time x
datum_from (inr t) = text t

abbrev datum_back : (d : Datum) → datum_from (datum_key d) ≡ d
datum_back (time x) = refl
datum_back (text t) = refl

abbrev pub datum_code : Coded Datum
datum_code = code_by (ℤ ⊎ List ℕ) (coded⊎ coded_ℤ (coded_list coded_ℕ)) datum_key datum_from datum_back

-- a cursor as the pair of its lists
abbrev pub cursor_code : Coded Cursor
cursor_code =
    code_by ((List ℤ × List ℕ) × (List ℤ × ℕ)) (coded× (coded× (coded_list coded_ℤ) (coded_list coded_ℕ)) (coded× (coded_list coded_ℤ) coded_ℕ)) (λ c. ((c.times, c.texts), (c.residues, c.zone))) (λ p. record { times = p.0.0; texts = p.0.1; residues = p.1.0; zone = p.1.1 }) (λ _. refl)

abbrev pub window_code : Coded WindowView
window_code =
    code_by ((List Column × List (List ℕ)) × (StoreView × (ℤ × ℤ))) (coded× (coded× (coded_list column_code) (coded_list (coded_list coded_ℕ))) (coded× store_code (coded× coded_ℤ coded_ℤ)))
    (λ w. ((w.columns, w.domain), (w.store, (w.from, w.to)))) (λ p. record { columns = p.0.0; domain = p.0.1; store = p.1.0; from = p.1.1.0; to = p.1.1.1 }) (λ _. refl)

-- the value of a lister as a pair
abbrev pub lister_code : Coded ListerView
lister_code =
    code_by (WindowView × (Option (List Datum) × List Cursor)) (coded× window_code (coded× (coded_option (coded_list datum_code)) (coded_list cursor_code)))
    (λ l. (l.window, (l.position, l.cursors))) (λ p. record { window = p.0; position = p.1.0; cursors = p.1.1 }) (λ _. refl)
