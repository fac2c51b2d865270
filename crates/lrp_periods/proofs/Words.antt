-- What is asked in a small period holds in its word.
use Rattle.std.proofs.Common.{◌≡◌, ◌<◌, ◌≤◌, ℕ, List, length, get_or, subst, to_z, of_z, w64}
use Rattle.std.specs.Prelude.{ℤ}
use Rattle.lrp_model.specs.Texts.{Text}
use Rattle.lrp_model.specs.declared.formulas.Test.{Test}
use Rattle.lrp_tables.specs.declared.table.Table.{Table}
use Rattle.lrp_periods.specs.Combining.{CanTakeAll}
use Rattle.lrp_periods.specs.Operations.{AreOperand, CanCombineInParts, CanMinusInParts, CanSelectInParts}
use Rattle.lrp_periods.proofs.PeriodLaws.{in_word}

pub operand_word : {domain : List Text} {period : ℤ} {parts : List Table} → AreOperand domain period parts → AreOperand domain (to_z w64 (of_z w64 period)) parts
operand_word {domain} {period} {parts} can = in_word can.period_is (λ p. AreOperand domain p parts) can

pub select_word : {domain : List Text} {period : ℤ} {parts : List Table} {test : Test} → CanSelectInParts domain period parts test → CanSelectInParts domain (to_z w64 (of_z w64 period)) parts test
select_word {domain} {period} {parts} {test} can = in_word can.period_is (λ p. CanSelectInParts domain p parts test) can

pub combine_word : {domain : List Text} {period : ℤ} {lefts rights : List Table} → CanCombineInParts domain period lefts rights → CanCombineInParts domain (to_z w64 (of_z w64 period)) lefts rights
combine_word {domain} {period} {lefts} {rights} can = in_word can.period_is (λ p. CanCombineInParts domain p lefts rights) can

pub minus_word : {domain : List Text} {period : ℤ} {lefts rights : List Table} → CanMinusInParts domain period lefts rights → CanMinusInParts domain (to_z w64 (of_z w64 period)) lefts rights
minus_word {domain} {period} {lefts} {rights} can = in_word can.period_is (λ p. CanMinusInParts domain p lefts rights) can

pub take_word : {domain : List Text} {period : ℤ} {left : Table} {rights : List Table} → CanTakeAll domain period left rights → CanTakeAll domain (to_z w64 (of_z w64 period)) left rights
take_word {domain} {period} {left} {rights} can = in_word can.period_is (λ p. CanTakeAll domain p left rights) can

-- a place in an equal list
pub low_in : {X : Type 0} (xs ys : List X) (i : ℕ) → xs ≡ ys → i < length xs → i < length ys
low_in xs ys i e low = subst (λ l. i < length l) e low

pub is_in : {X : Type 0} (xs ys : List X) (i : ℕ) (x : X) → xs ≡ ys → x ≡ get_or xs i x → x ≡ get_or ys i x
is_in xs ys i x e at = subst (λ l. x ≡ get_or l i x) e at

pub end_in : {X : Type 0} (xs ys : List X) (i : ℕ) → xs ≡ ys → length xs ≤ i → length ys ≤ i
end_in xs ys i e high = subst (λ l. length l ≤ i) e high
