-- The even times can be scanned, and can stand beside each text.
use Rattle.std.proofs.Common.{◌≡◌, ◌≢◌, ℕ, refl, List, [], ◌∷◌, sym, subst, ap, get_or, arith}
use Rattle.std.specs.Prelude.{Ok, Result, pos, codes}
use Rattle.std.proofs.lemmas.Int.{ints}
use Rattle.lrp_theory.proofs.Members.{in_none}
use Rattle.lrp_theory.proofs.Modulo.{Divides-self}
use Rattle.lrp_model.specs.Texts.{Text}
use Rattle.lrp_store.specs.Tables.{AreNumbered}
use Rattle.lrp_tables.specs.declared.table.Table.{Table}
use Rattle.lrp_tables.specs.Steps.{CanExtend, CanScan, IsScanResult}
use Rattle.lrp_tables.specs.declared.table.StepFault.{StepFault}
use Rattle.lrp_tables.specs.Tables.{AreNamesAmong}
use Rattle.lrp_table_tests.specs.Evens.{evens, t_alone, time_and_text}
use Rattle.lrp_model.specs.declared.formulas.Term.{Term}
use Rattle.lrp_model.specs.declared.relations.Relation.{Relation}
use Rattle.lrp_table_tests.specs.Times.{IsOfTimes}
use Rattle.lrp_table_tests.proofs.TimeLemmas.{made_is, made_numbered}

pub can_scan : (domain : List Text) → CanScan domain (pos 2) evens t_alone
can_scan domain = record {
  low = omega (arith, ints);
  high = omega (arith, ints);
  times = omega arith;
  texts = omega arith;
  rows = (record { values = ((refl, omega (arith, ints), Divides-self (pos 2)), tt); bounds = tt }, tt);
  terms_fit = (refl, tt);
  terms_known = (tt, tt);
  apart = λ v a b. in_none v b;
  reach = omega arith;
}

t_is_not_d : codes "t" ≢ codes "d"
t_is_not_d e = let same : 116 ≡ 100 = ap (λ l. get_or l 0 0) e in absurd (omega (arith, same))

pub can_extend : (domain : List Text) (t : Table) → IsOfTimes (codes "t" ∷ []) 2 1000 t → AreNumbered domain t.store → CanExtend domain time_and_text t
can_extend domain t x n = record {
  numbered = n;
  times = subst (λ l. AreNamesAmong l (codes "t" ∷ [])) (sym x.times) (λ name c. c);
  texts = subst (λ l. AreNamesAmong l (codes "d" ∷ [])) (sym x.texts) (λ name c. absurd (in_none name c));
  names = ((t_is_not_d, tt), (tt, tt));
  few_times = omega arith;
  few_texts = omega arith;
}

module _ (cap : ℕ) (domain : List Text) (relation : Relation) (terms : List Term) (result : Result Table StepFault) (made : Table) (e : relation ≡ evens) (f : terms ≡ t_alone) (s : IsScanResult cap domain (pos 2) relation terms result) (ok : result ≡ Ok made) where
  of_evens : IsScanResult cap domain (pos 2) evens t_alone result
  of_evens = subst (λ l. IsScanResult cap domain (pos 2) evens l result) f (subst (λ r. IsScanResult cap domain (pos 2) r terms result) e s)

  pub scanned_is : IsOfTimes (codes "t" ∷ []) 2 1000 made
  scanned_is = made_is _ _ _ _ _ _ _ result made of_evens ok 1000 (omega arith)

  pub scanned_numbered : AreNumbered domain made.store
  scanned_numbered = made_numbered _ _ _ _ _ _ _ result made of_evens ok
