-- A selection by the test that `y` is at most 2 after `x`.
use Rattle.std.proofs.Common.{◌≡◌, ℕ, zero, suc, ◌^◌, List, [], ◌∷◌, Contains, refl, sym, subst, arith}
use Rattle.std.specs.Prelude.{Ok, Result, codes, pos}
use Rattle.std.proofs.lemmas.Int.{ints}
use Rattle.lrp_theory.specs.Divides.{Divides}
use Rattle.lrp_theory.proofs.Members.{in_none}
use Rattle.lrp_model.specs.Texts.{Identifier, Text}
use Rattle.lrp_model.specs.declared.formulas.Test.{Test}
use Rattle.lrp_store.specs.Stores.{HasReach}
use Rattle.lrp_tables.specs.Steps.{CanSelect, IsSelectResult}
use Rattle.lrp_tables.specs.Tables.{AreNamesAmong}
use Rattle.lrp_tables.specs.declared.table.StepFault.{StepFault}
use Rattle.lrp_tables.specs.declared.table.Table.{Table}
use Rattle.lrp_table_tests.specs.Times.{IsOfTimes, soon}
use Rattle.lrp_table_tests.proofs.TimeLemmas.{made_reach, room}

turned : (a b name : Identifier) → Contains (a ∷ b ∷ []) name → Contains (b ∷ a ∷ []) name
turned a b name (zero, l, e) = (1, omega arith, e)
turned a b name (suc zero, l, e) = (0, omega arith, e)
turned a b name (suc (suc i), l, e) = absurd (omega arith)

-- the table's variables
abbrev both : List Identifier
both = codes "x" ∷ codes "y" ∷ []

pub can_select : (t : Table) → IsOfTimes both 4 1004 t → CanSelect (pos 4) t soon
can_select t x = record {
  low = omega (arith, ints);
  high = omega (arith, ints);
  divides = subst (λ n. Divides (pos n) (pos 4)) (sym x.period) (record { times = pos 1; is = refl });
  reach = room t.store 1004 4 x.reach (omega arith);
  carried = record {
    times_known = subst (AreNamesAmong (codes "y" ∷ codes "x" ∷ [])) (sym x.times) (λ name c. turned (codes "y") (codes "x") name c);
    texts_known = λ name c. absurd (in_none name c);
    low = omega (arith, ints);
    divides = record { times = pos 4; is = refl };
  };
  test_small = omega arith;
}

pub selected_reach : (cap : ℕ) (domain : List Text) (t : Table) (test : Test) (result : Result Table StepFault) (made : Table) → IsOfTimes both 4 1004 t → test ≡ soon → IsSelectResult cap domain (pos 4) t test result → result ≡ Ok made → HasReach made.store (2 ^ 61)
selected_reach cap domain t test result made x e s ok =
    made_reach _ _ _ _ _ _ _ _ result made (subst (λ p. IsSelectResult cap domain (pos 4) t p result) e s) ok 1004 (x.reach, omega arith) (2 ^ 61) (omega arith)
