-- Whether a table has an assignment is decided, and its data variables have texts of the domain.
use Rattle.std.proofs.Common.{◌≡◌, ◌⊎◌, inl, inr, ℕ, zero, suc, ◌<◌, ◌≤◌, List, [], ◌∷◌, length, map, take, refl, sym, ap, subst, ◌∙◌, arith, Contains}
use Rattle.std.specs.Prelude.{ℤ, pos, ◌-ℤ◌}
use Rattle.std.specs.Int.{int_rem_euclid}
use Rattle.std.proofs.lemmas.Int.{ints}
use Rattle.std.proofs.lemmas.List.{length-map, get_or_append_left}
use Rattle.lrp_theory.specs.Divides.{Divides}
use Rattle.lrp_theory.specs.Entries.{node}
use Rattle.lrp_theory.proofs.Modulo.{Divides-zero, Divides-is, rem_divides, rem_low, rem_high}
use Rattle.lrp_model.specs.Texts.{Text, Ascends}
use Rattle.lrp_model.specs.Satisfaction.{Assignment}
use Rattle.lrp_model.specs.declared.tuples.Cell.{Cell}
use Rattle.lrp_model.proofs.Decided.{Decided, decided_iff, decided_all, decided_contains, decided_some}
use Rattle.lrp_zone.specs.Zones.{IsMember, IsResidue}
use Rattle.lrp_zone.proofs.Membership.{decided_member}
use Rattle.lrp_store.specs.Stores.{StoreView, IsStore, IsCellOf, IsPadded, LiesInCell, zone_of, tables_at}
use Rattle.lrp_store.specs.Tables.{StoreHolds}
use Rattle.lrp_tables.specs.declared.table.Table.{Table}
use Rattle.lrp_store.proofs.Held.{cell_held}
use Rattle.lrp_store.proofs.Counted.{lies_in, one_cell}
use Rattle.lrp_tables.specs.Tables.{HasAssignment, HasTexts}
use Rattle.lrp_tables.proofs.CellsNamed.{padded, padded_is, padded_front}
use Rattle.lrp_tables.proofs.Numbers.{all_mapped, number_of, domain_differs, numbers_are, are_numbers, texts_known}

-- ---- the one cell in which times and texts can lie

module _ (domain : List Text) (ascends : Ascends domain) (s : StoreView) (is : IsStore s) (times : List ℤ) (texts : List Text) (long : length times ≡ s.shape.times) (wide : length texts ≡ s.shape.texts) where
  abbrev remainder : ℤ → ℤ
  remainder x = int_rem_euclid x (pos s.period)

  abbrev pub spot : Cell
  spot = record { texts = padded 0 (map (number_of domain) texts); residues = padded (pos 0) (map remainder times) }

  few_times : length (map remainder times) ≤ 8
  few_times = let e : length (map remainder times) ≡ length times = length-map times remainder in let t : s.shape.times ≤ 8 = is.times in omega arith

  few_texts : length (map (number_of domain) texts) ≤ 8
  few_texts = let e : length (map (number_of domain) texts) ≡ length texts = length-map texts (number_of domain) in let t : s.shape.texts ≤ 8 = is.texts in omega arith

  -- a residue there is that of the time
  residue_at : (i : ℕ) → i < s.shape.times → node spot.residues (suc i) ≡ remainder (node times (suc i))
  residue_at i low = let e : length (map remainder times) ≡ length times = length-map times remainder in get_or_append_left (map remainder times) _ (pos 0) i (omega arith) ∙ mapped times i (omega arith)
    where
      mapped : (xs : List ℤ) (i : ℕ) → i < length xs → node (map remainder xs) (suc i) ≡ remainder (node xs (suc i))
      mapped [] i low = absurd (omega arith)
      mapped (x ∷ xs) zero low = refl
      mapped (x ∷ xs) (suc i) low = mapped xs i (omega arith)

  spot_is : IsCellOf s.shape s.period spot
  spot_is = record {
    texts = subst (λ n. IsPadded 0 n spot.texts) (length-map texts (number_of domain) ∙ wide) (padded_is 0 (map (number_of domain) texts) few_texts);
    residues = subst (λ n. IsPadded (pos 0) n spot.residues) (length-map times remainder ∙ long) (padded_is (pos 0) (map remainder times) few_times);
    range = range;
  }
    where
      range : (i : ℕ) → i ≤ s.shape.times → IsResidue s.period (node spot.residues i)
      range zero low = let p : 0 < s.period = is.period_low in record { low = omega (arith, ints); high = omega (arith, ints) }
      range (suc i) low = subst (IsResidue s.period) (sym (residue_at i (omega arith))) (record { low = rem_low s.period (node times (suc i)) is.period_low; high = rem_high s.period (node times (suc i)) is.period_low })

  spot_named : take s.shape.texts spot.texts ≡ map (number_of domain) texts
  spot_named = ap (λ n. take n spot.texts) (sym wide ∙ sym (length-map texts (number_of domain))) ∙ padded_front 0 (map (number_of domain) texts)

  -- the times and the texts lie there
  lies_there : LiesInCell s.shape s.period spot times (map (number_of domain) texts)
  lies_there = record { count = long; residues = residue; named = spot_named }
    where
      residue : (i : ℕ) → i ≤ s.shape.times → Divides (pos s.period) (node times i -ℤ node spot.residues i)
      residue zero low = Divides-is (pos s.period) (pos 0) (pos 0 -ℤ pos 0) (omega (arith, ints)) (Divides-zero (pos s.period))
      residue (suc i) low =
          let p : 0 < s.period = is.period_low in
          subst (λ r. Divides (pos s.period) (node times (suc i) -ℤ r)) (sym (residue_at i (omega arith))) (rem_divides (pos s.period) (node times (suc i)) (remainder (node times (suc i))) (omega (arith, ints)) refl)

  -- and where the store holds them it is there
  at_spot : (h : StoreHolds domain s times texts) → h.2.cell ≡ spot
  at_spot h =
      let e : h.0 ≡ map (number_of domain) texts = numbers_are domain (domain_differs domain ascends) h.0 texts h.1 in
      one_cell s.shape s.period h.2.cell spot times h.0 (cell_held s is h.2.cell h.2.table h.2.held) spot_is (lies_in s is times h.0 h.2) (subst (λ ns. LiesInCell s.shape s.period spot times ns) (sym e) lies_there)

  -- so one look-up decides it
  pub decided_store : Decided (StoreHolds domain s times texts)
  decided_store = elim (decided_all (Contains domain) (decided_contains domain) texts) [
    | inl known ↦ decided_iff
        (λ x. (map (number_of domain) texts, are_numbers domain texts known, record { cell = spot; table = x.0; held = x.1; named = spot_named; inside = x.2 }))
        (λ h. (h.2.table, subst (λ c. Contains (tables_at s c) h.2.table) (at_spot h) h.2.held, subst (λ c. IsMember (zone_of s c h.2.table) times) (at_spot h) h.2.inside))
        (decided_some (λ table. IsMember (zone_of s spot table) times) (λ table. decided_member (zone_of s spot table) times) (tables_at s spot))
    | inr unknown ↦ inr (λ h. unknown (texts_known domain h.0 texts h.1))
  ]

-- ---- tables

-- whether a table has an assignment is decided
pub decided_table : (domain : List Text) → Ascends domain → (table : Table) → IsStore table.store → (env : Assignment) → Decided (HasAssignment table domain env)
decided_table domain ascends table is env =
    decided_store domain ascends table.store is (map env.times table.vars.times) (map env.texts table.vars.texts) (length-map table.vars.times env.times ∙ table.times_named) (length-map table.vars.texts env.texts ∙ table.texts_named)

-- an assignment that a table has gives its data variables texts of the domain
pub table_texts : (domain : List Text) (table : Table) (env : Assignment) → HasAssignment table domain env → HasTexts domain table.vars.texts env
table_texts domain table env h = (all_mapped env.texts (Contains domain) table.vars.texts).0 (texts_known domain h.0 (map env.texts table.vars.texts) h.1)
