-- Assignments of one time variable inhabit no more cells than there are residues.
use Rattle.std.proofs.Common.{◌≡◌, ◌≢◌, ◌⊎◌, ⊎_elim, ℕ, Option, Some, None, ◌+◌, ◌<◌, ◌≤◌, List, [], ◌∷◌, length, subst, arith}
use Rattle.std.specs.Prelude.{ℤ, pos, nat_abs, ◌≤ℤ◌, ◌<ℤ◌, IfSome}
use Rattle.std.proofs.lemmas.Int.{ints}
use Rattle.lrp_model.specs.Cells.{Differ, FormCell, Many}
use Rattle.lrp_model.specs.Texts.{Identifier, Text}
use Rattle.lrp_model.specs.Satisfaction.{Assignment}
use Rattle.lrp_tables.specs.declared.table.Table.{Table}
use Rattle.lrp_tables.specs.Caps.{Inhabits, InhabitsMoreThan}
use Rattle.lrp_tables.specs.Tables.{named_variables}
use Rattle.lrp_tables.proofs.Mapped.{many_map}
use Rattle.lrp_periods.specs.Bounding.{HaveFewCells, TableHasFewCells}
use Rattle.lrp_periods.specs.Parts.{HasSome, part_texts, part_times}
use Rattle.lrp_periods.proofs.Summing.{have_fewer, table_fewer}
use Rattle.lrp_periods.proofs.WayLaws.{few_numbers}

residue_low : (r : ℤ) (k : ℕ) → pos 0 ≤ℤ r → r <ℤ pos k → nat_abs r < k
residue_low r k low high = omega (arith, ints)

residue_same : (r t : ℤ) → pos 0 ≤ℤ r → pos 0 ≤ℤ t → nat_abs r ≡ nat_abs t → r ≡ t
residue_same r t low other e = omega (arith, ints)

pub line_few : (domain : List Text) (k : ℕ) (times texts : List Identifier) (set : Assignment → Type 0) → length times ≡ 1 → texts ≡ [] → InhabitsMoreThan k domain k times texts set → ⊥
line_few domain k [] texts set e none m = absurd (omega (arith, e))
line_few domain k (v ∷ w ∷ times) texts set e none m = absurd (omega (arith, e))
line_few domain k (v ∷ []) texts set e none m =
    let n : InhabitsMoreThan k domain k (v ∷ []) [] set = subst (λ ns. InhabitsMoreThan k domain k (v ∷ []) ns set) none m in
    let codes : Many ◌≢◌ (λ i. i < k) k =
    many_map (λ (c : FormCell). nat_abs (c.residues v)) (Differ (named_variables (v ∷ []) [])) ◌≢◌ (Inhabits domain k (named_variables (v ∷ []) []) set) (λ i. i < k)
    (λ c h. residue_low (c.residues v) k h.inside.0.0 h.inside.0.1) (λ a b x y d same. d (residue_same (a.residues v) (b.residues v) x.inside.0.0 y.inside.0.0 same, tt)) k n in
    let l : length codes.cells ≤ k = few_numbers k codes.cells codes.apart codes.each in
    let c : length codes.cells ≡ k + 1 = codes.count in
    omega (arith, l, c)

-- what holds of each of two numbers holds of the one that is taken
pub either_some : (a b r : Option ℕ) (P : ℕ → Type 0) → IfSome r (λ k. (a ≡ Some k) ⊎ (b ≡ Some k)) → IfSome a P → IfSome b P → IfSome r P
either_some a b None P is first second = tt
either_some a b (Some k) P is first second = ⊎_elim (λ e. of a e first) (λ e. of b e second) is
  where
    of : (o : Option ℕ) → o ≡ Some k → IfSome o P → P k
    of o e h = subst (λ x. IfSome x P) e h

pub some_capped : (cap period : ℕ) (parts : List Table) (r : Option ℕ) → IfSome r (λ k. k ≤ cap) → IfSome r (λ k. HaveFewCells k period parts) → IfSome r (λ _. HaveFewCells cap period parts)
some_capped cap period parts None low few = tt
some_capped cap period parts (Some k) low few = have_fewer k cap period parts low few

pub table_capped : (cap period : ℕ) (table : Table) (r : Option ℕ) → IfSome r (λ k. k ≤ cap) → IfSome r (λ k. TableHasFewCells k period table) → IfSome r (λ _. TableHasFewCells cap period table)
table_capped cap period table None low few = tt
table_capped cap period table (Some k) low few = table_fewer k cap period table low few

pub line_has_few : (period : ℕ) (parts : List Table) → length (part_times parts) ≡ 1 → part_texts parts ≡ [] → HaveFewCells period period parts
line_has_few period parts one none domain ascends are m = line_few domain period (part_times parts) (part_texts parts) (HasSome domain parts) one none m
