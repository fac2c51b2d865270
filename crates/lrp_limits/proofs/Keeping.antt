-- A least common multiple with further numbers, and with those of two lists.
use Rattle.std.proofs.Common.{◌≡◌, ◌↔◌, ◌≤◌, ◌*◌, ℕ, pos, List, [], ◌∷◌, ◌++◌, Option, Some, None, unwrap_or, option_map, sym, ap, subst, append_assoc, append-nil, arith}
use Rattle.std.specs.List.{AllByRecursion}
use Rattle.lrp_theory.specs.Divides.{IsMultiple, IsLeastMultiple, IsCommon}
use Rattle.lrp_model.specs.Periods.{lcm_all}
use Rattle.lrp_theory.proofs.Modulo.{Divides-self}
use Rattle.lrp_theory.proofs.Multiples.{multiple_by, multiple_low, same_multiples}
use Rattle.lrp_model.proofs.Logic.{all_append}
use Rattle.lrp_plan_laws.proofs.PeriodLaws.{lcm_all_is}
use Rattle.lrp_limits.specs.Multiples.{IsLeastWithinLimit, IsPeriodOf, AlwaysJoins}
use Rattle.lrp_limits.specs.Facts.{KeepsMultiples}
use Rattle.lrp_limits.specs.declared.periods.Period.{Period}

pub common_both : (ks ls : List ℕ) (n : ℕ) → IsCommon (ks ++ ls) n ↔ (IsCommon ks n × IsCommon ls n)
common_both ks ls n = all_append (λ k. IsMultiple k n) ks ls

-- nothing further
pub keeps_none : (o : Option ℕ) → KeepsMultiples [] o o
keeps_none o = record { keeps = λ ks h. subst (λ xs. IsPeriodOf xs o) (sym (append-nil ks)) h }

-- where there is none, there is none with further numbers
pub none_stays : (ks further : List ℕ) → IsPeriodOf ks None → IsPeriodOf (ks ++ further) None
none_stays ks further h n p c = h n p ((common_both ks further n).0 c).0

-- and then further ones
pub keeps_more : (a b : List ℕ) (o p q : Option ℕ) → KeepsMultiples a o p → KeepsMultiples b p q → KeepsMultiples (a ++ b) o q
keeps_more a b o p q h k = record { keeps = λ ks x. subst (λ xs. IsPeriodOf xs q) (append_assoc ks a b) (k.keeps (ks ++ a) (h.keeps ks x)) }

pub keeps_as : (a b : List ℕ) (o p : Option ℕ) → a ≡ b → KeepsMultiples a o p → KeepsMultiples b o p
keeps_as a b o p e h = subst (λ xs. KeepsMultiples xs o p) e h

by_one : (n : ℕ) → n ≡ 1 * n
by_one n = omega arith

-- 1 is the least common multiple of no numbers
pub least_of_none : IsLeastWithinLimit [] 1
least_of_none = record { period = record { low = omega arith; high = omega arith }; multiples = λ n. ((λ m. tt), λ c. multiple_by n (by_one n)) }

-- the multiples of l are those of the numbers that it stands for
pub stands_for : (ks ls : List ℕ) (l m : ℕ) → IsLeastWithinLimit ls l → IsLeastWithinLimit (ks ++ l ∷ []) m → IsLeastWithinLimit (ks ++ ls) m
stands_for ks ls l m h g = record {
  period = g.period;
  multiples = λ n.
      let a = common_both ks (l ∷ []) n in
      let b = common_both ks ls n in
      let r = g.multiples n in
      let s = h.multiples n in
      ((λ x. let y = a.0 (r.0 x) in b.1 (y.0, s.0 y.1.0)), λ c. let y = b.0 c in r.1 (a.1 (y.0, (s.1 y.1, tt))));
}

-- two least common multiples that both divide a period have one
pub joins_always : (k l : ℕ) (o : Option ℕ) (d : ℕ) → ((ks : List ℕ) → IsLeastWithinLimit ks k → IsPeriodOf (ks ++ l ∷ []) o) → AlwaysJoins k l (unwrap_or o d)
joins_always k l (Some m) d h = record { joins = λ ks ls K a b p c e. stands_for ks ls l m b (h ks a) }
joins_always k l None d h = record { joins = λ ks ls K a b p c e. absurd (h ks a K p ((common_both ks (l ∷ []) K).1 (c, ((b.multiples K).1 e, tt)))) }

positive_each : (ks : List ℕ) (n : ℕ) → 1 ≤ n → IsCommon ks n → AllByRecursion (λ k. 1 ≤ k) ks
positive_each [] n low c = tt
positive_each (k ∷ ks) n low c = (multiple_low k n low c.0, positive_each ks n low c.1)

-- the least common multiple is that of the definition
pub least_is : (ks : List ℕ) (k : ℕ) → IsLeastWithinLimit ks k → k ≡ lcm_all ks
least_is ks k h =
    let low : 1 ≤ k = h.period.low in
    let each : IsCommon ks k = (h.multiples k).0 (Divides-self (pos k)) in
    let least : IsLeastMultiple ks (lcm_all ks) = lcm_all_is ks (positive_each ks k low each) in
    same_multiples k (lcm_all ks) ((h.multiples (lcm_all ks)).1 least.common) (least.least k each)

-- the number of a period that stands for none
pub joined_number : (o : Option Period) (d r : Period) → r ≡ unwrap_or o d → r.number ≡ unwrap_or (option_map (λ p. p.number) o) d.number
joined_number None d r e = ap (λ p. p.number) e
joined_number (Some p) d r e = ap (λ q. q.number) e

-- a point more, where there is a period and where there is none
pub kept_some : (o : Option Period) (p : Period) (further : List ℕ) (r : Option ℕ) → o ≡ Some p → ((ks : List ℕ) → IsLeastWithinLimit ks p.number → IsPeriodOf (ks ++ further) r) → KeepsMultiples further (option_map (λ q. q.number) o) r
kept_some o p further r e h = subst (λ x. KeepsMultiples further (option_map (λ (q : Period). q.number) x) r) (sym e) (record { keeps = h })

pub kept_nothing : (o : Option Period) (further : List ℕ) → o ≡ None → KeepsMultiples further (option_map (λ q. q.number) o) None
kept_nothing o further e = subst (λ x. KeepsMultiples further (option_map (λ (q : Period). q.number) x) None) (sym e) (record { keeps = λ ks h. none_stays ks further h })
