-- Tables of times have room, and can stand side by side.
use Rattle.std.proofs.Common.{◌≡◌, ℕ, ◌+◌, ◌*◌, ◌-◌, ◌≤◌, ◌^◌, List, [], length, sym, subst, ap, ◌∙◌, arith}
use Rattle.std.specs.Prelude.{pos, IfOk, Ok, Result}
use Rattle.std.proofs.lemmas.Int.{ints}
use Rattle.lrp_theory.specs.Divides.{Divides}
use Rattle.lrp_theory.proofs.Members.{in_none}
use Rattle.lrp_model.specs.Texts.{Identifier, Text}
use Rattle.lrp_model.specs.Satisfaction.{Assignment}
use Rattle.lrp_zone.specs.Zones.{reach_of}
use Rattle.lrp_store.specs.Stores.{StoreView, HasReach, zone_of}
use Rattle.lrp_store.specs.Tables.{AreNumbered}
use Rattle.lrp_tables.specs.declared.table.Table.{Table}
use Rattle.lrp_tables.specs.declared.table.StepFault.{StepFault}
use Rattle.lrp_tables.specs.Calls.{CanMeet, tests_reach}
use Rattle.lrp_model.specs.declared.formulas.Test.{Test}
use Rattle.lrp_tables.specs.Columns.{joint}
use Rattle.lrp_tables.specs.Steps.{CanCombine, CanComplement, CanJoin, CanMinus, CanUnite, HaveReach, IsJoinResult, IsStepResult}
use Rattle.lrp_tables.specs.Tables.{AreNamesAmong, HaveNoName, IsJoined, IsTableOf}
use Rattle.lrp_table_tests.specs.Times.{IsOfTimes}

-- what is left of the limit is at least the reach
pub room : (s : StoreView) (h k : ℕ) → HasReach s h → h + k ≤ 2 ^ 62 → HasReach s (2 ^ 62 - k)
room s h k reach fits = record {
  each = λ cell table held. let r : reach_of (zone_of s cell table) ≤ h = reach.each cell table held in omega (arith, r, fits);
}

none_common : (names others : List Identifier) → others ≡ [] → HaveNoName names others
none_common names others e = subst (HaveNoName names) (sym e) (λ name here there. absurd (in_none name there))

no_names : (names others : List Identifier) → names ≡ [] → AreNamesAmong names others
no_names names others e = subst (λ l. AreNamesAmong l others) (sym e) (λ name c. absurd (in_none name c))

module _ (ls rs : List Identifier) (a b h : ℕ) (l r : Table) (x : IsOfTimes ls a h l) (y : IsOfTimes rs b h r) where
  can_meet : length (joint ls rs) ≤ 8 → CanMeet l r
  can_meet few = record {
    times = subst (λ n. length (joint n r.vars.times) ≤ 8) (sym x.times) (subst (λ n. length (joint ls n) ≤ 8) (sym y.times) few);
    texts = subst (λ n. length (joint n r.vars.texts) ≤ 8) (sym x.texts) (subst (λ n. length (joint [] n) ≤ 8) (sym y.texts) (omega arith));
    left_apart = none_common l.vars.times r.vars.texts y.texts;
    right_apart = none_common r.vars.times l.vars.texts x.texts;
  }

  left_divides : (k : ℕ) → Divides (pos a) (pos k) → Divides (pos l.store.period) (pos k)
  left_divides k d = subst (λ n. Divides (pos n) (pos k)) (sym x.period) d

  right_divides : (k : ℕ) → Divides (pos b) (pos k) → Divides (pos r.store.period) (pos k)
  right_divides k d = subst (λ n. Divides (pos n) (pos k)) (sym y.period) d

  can_combine : (k : ℕ) → length (joint ls rs) ≤ 8 → Divides (pos a) (pos k) → Divides (pos b) (pos k) → 1 ≤ k → h + k ≤ 2 ^ 62 → CanCombine (pos k) l r
  can_combine k few d e low fits = record {
    low = omega (arith, ints);
    high = omega (arith, ints);
    left_period = left_divides k d;
    right_period = right_divides k e;
    left_reach = room l.store h k x.reach fits;
    right_reach = room r.store h k y.reach fits;
    columns = can_meet few;
  }

  pub can_join : (k : ℕ) → length (joint ls rs) ≤ 8 → Divides (pos a) (pos k) → Divides (pos b) (pos k) → 1 ≤ k → h + k ≤ 2 ^ 62 → CanJoin (pos k) l r []
  can_join k few d e low fits = record {
    tables = can_combine k few d e low fits;
    carried = tt;
    tests_small = omega arith;
  }

  pub can_unite : (domain : List Text) (k : ℕ) → length (joint ls rs) ≤ 8 → Divides (pos a) (pos k) → Divides (pos b) (pos k) → 1 ≤ k → h + k ≤ 2 ^ 62 → AreNumbered domain l.store → AreNumbered domain r.store → CanUnite domain (pos k) l r
  can_unite domain k few d e low fits m n = record {
    tables = can_combine k few d e low fits;
    left_numbered = m;
    right_numbered = n;
  }

  pub can_minus : (k : ℕ) → AreNamesAmong rs ls → Divides (pos a) (pos k) → Divides (pos b) (pos k) → 1 ≤ k → h + 2 * k ≤ 2 ^ 62 → CanMinus (pos k) l r
  can_minus k among d e low fits = record {
    low = omega (arith, ints);
    high = omega arith;
    left_period = left_divides k d;
    right_period = right_divides k e;
    left_reach = room l.store h (2 * k) x.reach fits;
    right_reach = room r.store h (2 * k) y.reach fits;
    columns = record {
      times = subst (λ n. AreNamesAmong n l.vars.times) (sym y.times) (subst (λ n. AreNamesAmong rs n) (sym x.times) among);
      texts = no_names r.vars.texts l.vars.texts y.texts;
    };
  }

pub can_complement : (names : List Identifier) (a h : ℕ) (t : Table) → IsOfTimes names a h t → h + 2 * a ≤ 2 ^ 62 → CanComplement t
can_complement names a h t x fits =
    let e : t.store.period ≡ a = x.period in
    record {
      period = omega arith;
      reach = room t.store h (2 * t.store.period) x.reach (omega arith);
    }

-- what a step makes of no text is such a table
module _ (cap : ℕ) (domain : List Text) (names : List Identifier) (period : ℕ) (set : Assignment → Type 0) (has : ℕ → Type 0) (most : ℕ → ℕ) (result : Result Table StepFault) (made : Table) (s : IsStepResult cap domain names [] period set has most result) (e : result ≡ Ok made) where
  is_table : IsTableOf domain names [] period set made
  is_table = subst (λ r. IfOk r (IsTableOf domain names [] period set)) e s.table

  pub made_is : (h : ℕ) → has h → IsOfTimes names period (most h) made
  made_is h fits = record {
    times = is_table.times_are;
    texts = is_table.texts_are;
    period = is_table.period_is;
    reach = subst (λ r. IfOk r (λ t. (high : ℕ) → has high → HasReach t.store (most high))) e s.reach h fits;
  }

  pub made_numbered : AreNumbered domain made.store
  made_numbered = is_table.numbered

-- and what a step makes has the reach that the step is told to have
pub made_reach : (cap : ℕ) (domain : List Text) (ts xs : List Identifier) (period : ℕ) (set : Assignment → Type 0) (has : ℕ → Type 0) (most : ℕ → ℕ) (result : Result Table StepFault) (made : Table) → IsStepResult cap domain ts xs period set has most result → result ≡ Ok made → (h : ℕ) → has h → (k : ℕ) → most h ≤ k → HasReach made.store k
made_reach cap domain ts xs period set has most result made s e h fits k low =
    let reach : HasReach made.store (most h) = subst (λ r. IfOk r (λ t. (high : ℕ) → has high → HasReach t.store (most high))) e s.reach h fits in
    record { each = λ cell table held. let r : reach_of (zone_of made.store cell table) ≤ most h = reach.each cell table held in omega (arith, r, low) }

-- a join of tables of times without a test is one
module _ (ls rs : List Identifier) (a b h : ℕ) (l r : Table) (x : IsOfTimes ls a h l) (y : IsOfTimes rs b h r) where
  joint_times : joint l.vars.times r.vars.times ≡ joint ls rs
  joint_times = ap (λ n. joint n r.vars.times) x.times ∙ ap (joint ls) y.times

  joint_texts : joint l.vars.texts r.vars.texts ≡ []
  joint_texts = ap (λ n. joint n r.vars.texts) x.texts ∙ ap (joint []) y.texts

  pub join_is : (cap : ℕ) (domain : List Text) (k : ℕ) (tests : List Test) → tests ≡ [] → (result : Result Table StepFault) (made : Table) → IsJoinResult cap domain (pos k) l r tests result → result ≡ Ok made → IsOfTimes (joint ls rs) k (h + k) made
  join_is cap domain k tests none result made s e =
      let is : IsTableOf domain (joint l.vars.times r.vars.times) (joint l.vars.texts r.vars.texts) k (IsJoined domain l r tests) made = subst (λ q. IfOk q (IsTableOf domain (joint l.vars.times r.vars.times) (joint l.vars.texts r.vars.texts) k (IsJoined domain l r tests))) e s.table in
      record {
        times = is.times_are ∙ joint_times;
        texts = is.texts_are ∙ joint_texts;
        period = is.period_is;
        reach = subst (λ q. IfOk q (λ t. (high : ℕ) → HaveReach l r tests high → HasReach t.store (high + k))) e s.reach h
            (record { left_reach = x.reach; right_reach = y.reach; tests_small = subst (λ ts. tests_reach ts ≤ h) (sym none) (omega arith) });
      }
