-- What a table has beside a difference is what it has beside the join with what the difference's right table lacks.
use Rattle.std.proofs.Common.{◌≡◌, ◌⊎◌, inl, inr, ⊎_elim, ◌≤◌, ◌+◌, ◌-◌, ◌*◌, ◌^◌, ℕ, Bool, true, false, List, [], length, Contains, bytes_eq, Err, Ok, Result, refl, sym, ap, subst, ◌∙◌, arith, to_z, of_z, w64}
use Rattle.std.specs.Prelude.{ℤ, pos, nat_abs, IfOk}
use Rattle.std.specs.List.{AllByRecursion}
use Rattle.std.specs.Cmp.Lexicographic.{bytes_decides}
use Rattle.std.proofs.lemmas.Int.{ints}
use Rattle.lrp_theory.specs.Divides.{Divides}
use Rattle.lrp_theory.proofs.Modulo.{Divides-self}
use Rattle.lrp_model.specs.Texts.{Text, Identifier}
use Rattle.lrp_model.specs.Rows.{time}
use Rattle.lrp_model.specs.Satisfaction.{Assignment, with_value}
use Rattle.lrp_model.specs.declared.formulas.Test.{Test}
use Rattle.lrp_model.proofs.Decided.{contains_none}
use Rattle.lrp_store.specs.Stores.{HasReach, IsStore}
use Rattle.lrp_tables.specs.declared.table.StepFault.{StepFault}
use Rattle.lrp_tables.specs.declared.table.Table.{Table}
use Rattle.lrp_tables.specs.Calls.{AreVariablesOf, CanBeCarried, CanMeet, tests_reach}
use Rattle.lrp_tables.specs.Columns.{joint}
use Rattle.lrp_tables.specs.Steps.{CanJoin, CanMinus, IsJoinResult, IsMinusResult}
use Rattle.lrp_tables.specs.Tables.{IsJoined, IsMinus, IsTableOf}
use Rattle.lrp_tables.proofs.DropCounts.{of_others}
use Rattle.lrp_tables.proofs.Joining.{name_in}
use Rattle.lrp_steps.specs.Tables.{IsTimeDropped}
use Rattle.lrp_eval.specs.Together.{CanNarrow, IsSmallComplement, IsUnbroken, IsUnbrokenTable}
use Rattle.lrp_eval.specs.declared.together.Sides.{Sides}
use Rattle.lrp_eval.proofs.ComplementCounts.{no_names, no_texts}
use Rattle.lrp_eval.proofs.Named.{in_joint}
use Rattle.lrp_eval.proofs.NarrowLaws.{from_joins, join_high, left_joins, moved, twice, word_is}
use Rattle.lrp_eval.proofs.ShownLaws.{more_of}
use Rattle.lrp_eval.proofs.TogetherLaws.{joint_few, joint_known}
use Rattle.lrp_steps.proofs.Steps.{farther}

-- ---- a period is its word

pub worded_complement : (domain : List Text) (of : Sides) (name : Identifier) (period : ℤ) (cap : ℕ) (outside : Table) → CanNarrow domain of name period → IsSmallComplement domain of (nat_abs period) cap outside → IsSmallComplement domain of (nat_abs (to_z w64 (of_z w64 period))) cap outside
worded_complement domain of name period cap outside can l = subst (λ z. IsSmallComplement domain of (nat_abs z) cap outside) (sym (word_is period can.low can.high)) l

-- ---- the calls

module _ {domain : List Text} {of : Sides} {name : Identifier} {period : ℤ} (can : CanNarrow domain of name period) {cap : ℕ} {outside : Table} (l : IsSmallComplement domain of (nat_abs period) cap outside) where
  abbrev from_table : Table
  from_table = of.from.now

  abbrev left_table : Table
  left_table = of.left.now

  -- ---- names

  complement_times : (v : Identifier) → Contains outside.vars.times v → Contains left_table.vars.times v
  complement_times v c = can.columns.times v (subst (λ vs. Contains vs v) l.is.times_are c)

  complement_plain : outside.vars.texts ≡ []
  complement_plain = l.is.texts_are ∙ no_names of.right.now.vars.texts (λ v c. contains_none v (subst (λ vs. Contains vs v) l.plain (can.columns.texts v c)))

  known : (v : Identifier) → Contains left_table.vars.times v → Contains from_table.vars.times v ⊎ (v ≡ name)
  known v c = by (bytes_eq name v) refl
    where
      by : (b : Bool) → bytes_eq name v ≡ b → Contains from_table.vars.times v ⊎ (v ≡ name)
      by true e = inr (sym ((bytes_decides name v).0 e))
      by false e = inl (can.times v c e)

  few_texts : length from_table.vars.texts ≤ 8
  few_texts = subst (λ ts. length (joint from_table.vars.texts ts) ≤ 8) l.plain can.meet.texts

  meet_complement : CanMeet from_table outside
  meet_complement = record {
    times = let n : length (joint from_table.vars.times outside.vars.times) ≤ length from_table.vars.times + 1 = joint_few from_table.vars.times outside.vars.times name (λ v c. known v (complement_times v c)) in let r = can.room in omega arith;
    texts = subst (λ ts. length (joint from_table.vars.texts ts) ≤ 8) (sym complement_plain) few_texts;
    left_apart = λ v a b. contains_none v (subst (λ vs. Contains vs v) complement_plain b);
    right_apart = λ v a b. can.meet.right_apart v (complement_times v a) b;
  }

  few_times : length (joint (joint from_table.vars.times outside.vars.times) left_table.vars.times) ≤ 8
  few_times = elim (name_in name outside.vars.times) [
    | inl c ↦ (let e : joint (joint from_table.vars.times outside.vars.times) left_table.vars.times ≡ joint from_table.vars.times outside.vars.times =
        joint_known (joint from_table.vars.times outside.vars.times) left_table.vars.times
        (λ v k. (in_joint from_table.vars.times outside.vars.times v).1 (⊎_elim (λ f. inl f) (λ s. inr (subst (λ u. Contains outside.vars.times u) (sym s) c)) (known v k))) in
        subst (λ vs. length vs ≤ 8) (sym e) meet_complement.times)
    | inr none ↦ (let e : joint from_table.vars.times outside.vars.times ≡ from_table.vars.times =
        joint_known from_table.vars.times outside.vars.times (λ v k. ⊎_elim (λ f. f) (λ s. absurd (none (subst (λ u. Contains outside.vars.times u) s k))) (known v (complement_times v k))) in
        let n : length (joint from_table.vars.times left_table.vars.times) ≤ length from_table.vars.times + 1 = joint_few from_table.vars.times left_table.vars.times name known in
        let r = can.room in
        subst (λ vs. length (joint vs left_table.vars.times) ≤ 8) (sym e) (omega arith))
  ]

  -- ---- the first join

  natural : pos (nat_abs period) ≡ period
  natural = let w = can.low in omega (arith, ints)

  same_divides : (k : ℕ) → k ≡ nat_abs period → Divides (pos k) period
  same_divides k e = subst (λ z. Divides z period) (sym (ap pos e ∙ natural)) (Divides-self period)

  complement_period : Divides (pos outside.store.period) period
  complement_period = same_divides outside.store.period l.is.period_is

  complement_small : HasReach outside.store (2 ^ 59 + 2 * nat_abs period)
  complement_small = l.reach (2 ^ 59) can.right_reach

  complement_reach : HasReach outside.store (2 ^ 62 - nat_abs period)
  complement_reach = farther outside.store _ _ (let h = can.high in omega arith) complement_small

  from_reach : HasReach from_table.store (2 ^ 62 - 2 * nat_abs period)
  from_reach = farther from_table.store (2 ^ 59) _ (let h = can.high in omega arith) can.from_reach

  module _ {tests : List Test} (none : tests ≡ []) where
    no_tests_reach : tests_reach tests + nat_abs period ≤ 2 ^ 62
    no_tests_reach = let h = can.high in subst (λ ts. tests_reach ts + nat_abs period ≤ 2 ^ 62) (sym none) (omega arith)

    pub joins : CanJoin period from_table outside tests
    joins = record {
      tables = record { low = can.low; high = join_high can; left_period = can.from_period; right_period = complement_period; left_reach = from_joins can; right_reach = complement_reach; columns = meet_complement };
      carried = subst (λ ts. AllByRecursion (CanBeCarried (joint from_table.vars.times outside.vars.times) (joint from_table.vars.texts outside.vars.texts) period) ts) (sym none) tt;
      tests_small = no_tests_reach;
    }

    module _ {part : Table} (joined : IsJoinResult cap domain period from_table outside tests (Ok part)) where
      p : IsTableOf domain (joint from_table.vars.times outside.vars.times) (joint from_table.vars.texts outside.vars.texts) (nat_abs period) (IsJoined domain from_table outside []) part
      p = subst (λ ts. IsTableOf domain (joint from_table.vars.times outside.vars.times) (joint from_table.vars.texts outside.vars.texts) (nat_abs period) (IsJoined domain from_table outside ts) part) none joined.table

      part_period : Divides (pos part.store.period) period
      part_period = same_divides part.store.period p.period_is

      part_small : HasReach part.store (2 ^ 59 + 2 * nat_abs period + nat_abs period)
      part_small = joined.reach (2 ^ 59 + 2 * nat_abs period) (record { left_reach = farther from_table.store (2 ^ 59) _ (omega arith) can.from_reach; right_reach = complement_small; tests_small = subst (λ ts. tests_reach ts ≤ 2 ^ 59 + 2 * nat_abs period) (sym none) (omega arith) })

      part_reach : HasReach part.store (2 ^ 62 - nat_abs period)
      part_reach = farther part.store _ _ (let h = can.high in omega arith) part_small

      part_texts : part.vars.texts ≡ from_table.vars.texts
      part_texts = p.texts_are ∙ ap (λ ts. joint from_table.vars.texts ts) complement_plain

      meet_left : CanMeet part left_table
      meet_left = record {
        times = subst (λ vs. length (joint vs left_table.vars.times) ≤ 8) (sym p.times_are) few_times;
        texts = subst (λ ts. length (joint part.vars.texts ts) ≤ 8) (sym l.plain) (subst (λ ts. length ts ≤ 8) (sym part_texts) few_texts);
        left_apart = λ v a b. contains_none v (subst (λ vs. Contains vs v) l.plain b);
        right_apart = λ v a b. can.meet.right_apart v a (subst (λ vs. Contains vs v) part_texts b);
      }

      pub joins_left : CanJoin period part left_table tests
      joins_left = record {
        tables = record { low = can.low; high = join_high can; left_period = part_period; right_period = can.left_period; left_reach = part_reach; right_reach = left_joins can; columns = meet_left };
        carried = subst (λ ts. AllByRecursion (CanBeCarried (joint part.vars.times left_table.vars.times) (joint part.vars.texts left_table.vars.texts) period) ts) (sym none) tt;
        tests_small = no_tests_reach;
      }

      -- ---- the second one

      module _ {rest : Table} (again : IsJoinResult cap domain period part left_table tests (Ok rest)) where
        r : IsTableOf domain (joint part.vars.times left_table.vars.times) (joint part.vars.texts left_table.vars.texts) (nat_abs period) (IsJoined domain part left_table []) rest
        r = subst (λ ts. IsTableOf domain (joint part.vars.times left_table.vars.times) (joint part.vars.texts left_table.vars.texts) (nat_abs period) (IsJoined domain part left_table ts) rest) none again.table

        rest_small : HasReach rest.store (2 ^ 59 + 2 * nat_abs period + nat_abs period + nat_abs period)
        rest_small = again.reach (2 ^ 59 + 2 * nat_abs period + nat_abs period) (record { left_reach = part_small; right_reach = farther left_table.store (2 ^ 59) _ (omega arith) can.left_reach; tests_small = subst (λ ts. tests_reach ts ≤ 2 ^ 59 + 2 * nat_abs period + nat_abs period) (sym none) (omega arith) })

        pub rest_reach : HasReach rest.store (2 ^ 61)
        rest_reach = farther rest.store _ _ (let h = can.high in omega arith) rest_small

        module _ {taken : Table} (t : IsTimeDropped name rest taken) where
          taken_period : Divides (pos taken.store.period) period
          taken_period = same_divides taken.store.period (t.period ∙ r.period_is)

          taken_reach : HasReach taken.store (2 ^ 62 - 2 * nat_abs period)
          taken_reach = farther taken.store _ _ (let h = can.high in omega arith) (t.reach _ rest_small)

          in_from : (v : Identifier) → Contains (joint (joint from_table.vars.times outside.vars.times) left_table.vars.times) v → bytes_eq name v ≡ false → Contains from_table.vars.times v
          in_from v c other = ⊎_elim (λ a. ⊎_elim (λ b. b) (λ k. can.times v (complement_times v k) other) ((in_joint from_table.vars.times outside.vars.times v).0 a)) (λ b. can.times v b other) ((in_joint (joint from_table.vars.times outside.vars.times) left_table.vars.times v).0 c)

          taken_columns : AreVariablesOf from_table taken
          taken_columns = record {
            times = λ v c.
                let o = of_others name rest.vars.times v (subst (λ vs. Contains vs v) t.times c) in
                in_from v (subst (λ vs. Contains vs v) (r.times_are ∙ ap (λ vs. joint vs left_table.vars.times) p.times_are) o.0) o.1;
            texts = λ v c. ⊎_elim (λ a. subst (λ vs. Contains vs v) part_texts a) (λ b. absurd (contains_none v (subst (λ vs. Contains vs v) l.plain b)))
                ((in_joint part.vars.texts left_table.vars.texts v).0 (subst (λ vs. Contains vs v) (t.texts ∙ r.texts_are) c));
          }

          right_none : of.right.now.vars.texts ≡ []
          right_none = no_names of.right.now.vars.texts (λ v c. contains_none v (subst (λ vs. Contains vs v) l.plain (can.columns.texts v c)))

          to : (env : Assignment) → IsMinus domain from_table taken env → IsUnbroken domain of name env
          to env h = record {
            has = h.has;
            none = λ c. h.none (t.from domain env c.0 (r.whole (with_value name (time c.0) env) (record {
              in_left = p.whole (with_value name (time c.0) env) (record {
                in_left = moved can env c.0 h.has;
                in_right = l.is.whole (with_value name (time c.0) env) (record { known = no_texts domain of.right.now.vars.texts (with_value name (time c.0) env) right_none; none = c.1.none });
                passes = tt;
              });
              in_right = c.1.has;
              passes = tt;
            })));
          }

          from : (env : Assignment) → IsUnbroken domain of name env → IsMinus domain from_table taken env
          from env h = record {
            has = h.has;
            none = λ c.
                let x = t.to domain env c in
                let j = r.sound (with_value name (time x.0) env) x.1 in
                let k = p.sound (with_value name (time x.0) env) j.in_left in
                h.none (x.0, record { has = j.in_right; none = (l.is.sound (with_value name (time x.0) env) k.in_right).none });
          }

          pub taken_minus : CanMinus period from_table taken
          taken_minus = record { low = can.low; high = twice can; left_period = can.from_period; right_period = taken_period; left_reach = from_reach; right_reach = taken_reach; columns = taken_columns }

          pub narrowed_complement : (result : Result Table StepFault) → IsMinusResult cap period from_table taken result → IfOk result (λ made. IsStore made.store) → IfOk result (IsUnbrokenTable domain of name period cap)
          narrowed_complement (Ok made) is valid =
              let step = is.step domain can.ascends can.from_numbered in
              let m = step.table in
              record {
                valid = valid;
                is = record { times_are = m.times_are; texts_are = m.texts_are; period_is = m.period_is; sound = λ env h. to env (m.sound env h); whole = λ env h. m.whole env (from env h); numbered = m.numbered };
                few = λ many. step.few (more_of cap domain (nat_abs period) from_table.vars.times from_table.vars.texts (IsUnbroken domain of name) (IsMinus domain from_table taken) from many);
              }
          narrowed_complement (Err fault) is valid = tt
