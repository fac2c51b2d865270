-- What a table has beside a difference is what it has beside the difference of their join.
use Rattle.std.proofs.Common.{◌≡◌, ◌≤◌, ◌+◌, ◌-◌, ◌*◌, ◌^◌, ⊎_elim, inr, ℕ, Bool, true, false, cond, List, [], ◌∷◌, Contains, map, bytes_eq, Err, Ok, Result, refl, sym, ap, ap₂, subst, ◌∙◌, arith, to_z, of_z, w64}
use Rattle.std.specs.Prelude.{ℤ, pos, nat_abs, ◌≤ℤ◌, IfOk}
use Rattle.std.specs.List.{AllByRecursion}
use Rattle.std.proofs.lemmas.Int.{ints}
use Rattle.std.specs.Cmp.Lexicographic.{bytes_decides}
use Rattle.lrp_theory.specs.Divides.{Divides}
use Rattle.lrp_theory.proofs.Modulo.{Divides-self}
use Rattle.lrp_model.specs.Texts.{Text, Identifier}
use Rattle.lrp_model.specs.Rows.{time}
use Rattle.lrp_model.specs.Satisfaction.{Assignment, with_value}
use Rattle.lrp_model.specs.declared.formulas.Test.{Test}
use Rattle.lrp_model.proofs.Decided.{contains_first, contains_later}
use Rattle.lrp_store.specs.Stores.{HasReach, IsStore}
use Rattle.lrp_store.specs.Tables.{StoreHolds}
use Rattle.lrp_tables.specs.declared.table.StepFault.{StepFault}
use Rattle.lrp_tables.specs.declared.table.Table.{Table}
use Rattle.lrp_tables.specs.Calls.{AreVariablesOf, CanBeCarried, tests_reach}
use Rattle.lrp_tables.specs.Columns.{joint}
use Rattle.lrp_tables.specs.Steps.{CanJoin, CanMinus, IsJoinResult, IsMinusResult}
use Rattle.lrp_tables.specs.Tables.{HasAssignment, IsJoined, IsMinus, IsTableOf}
use Rattle.lrp_tables.proofs.DropCounts.{of_others}
use Rattle.lrp_steps.specs.Tables.{IsTimeDropped}
use Rattle.lrp_eval.specs.Together.{CanNarrow, IsUnbroken, IsUnbrokenTable}
use Rattle.lrp_eval.specs.declared.together.Sides.{Sides}
use Rattle.lrp_eval.proofs.Named.{in_joint}
use Rattle.lrp_eval.proofs.ShownLaws.{more_of}
use Rattle.lrp_steps.proofs.Steps.{farther}

-- ---- a period is its word

pub word_is : (z : ℤ) → pos 1 ≤ℤ z → nat_abs z ≤ 2 ^ 58 → to_z w64 (of_z w64 z) ≡ z
word_is z low high = omega (arith, ints)

pub worded : (domain : List Text) (of : Sides) (name : Identifier) (period : ℤ) → CanNarrow domain of name period → CanNarrow domain of name (to_z w64 (of_z w64 period))
worded domain of name period can = subst (CanNarrow domain of name) (sym (word_is period can.low can.high)) can

pub unworded : (domain : List Text) (of : Sides) (name : Identifier) (period : ℤ) (cap : ℕ) (made : Table) → CanNarrow domain of name period → IsUnbrokenTable domain of name (to_z w64 (of_z w64 period)) cap made → IsUnbrokenTable domain of name period cap made
unworded domain of name period cap made can is = subst (λ p. IsUnbrokenTable domain of name p cap made) (word_is period can.low can.high) is

-- ---- another value for a variable that is none of the names

moved_times : (names : List Identifier) (name : Identifier) (x : ℤ) (env : Assignment) → (Contains names name → ⊥) → map (with_value name (time x) env).times names ≡ map env.times names
moved_times [] name x env fresh = refl
moved_times (v ∷ names) name x env fresh = ap₂ (λ y ys. y ∷ ys) (same (bytes_eq name v) refl) (moved_times names name x env (λ c. fresh (contains_later v name names c)))
  where
    same : (b : Bool) → bytes_eq name v ≡ b → cond b x (env.times v) ≡ env.times v
    same true e = absurd (fresh (subst (λ u. Contains (v ∷ names) u) (sym ((bytes_decides name v).0 e)) (contains_first v names)))
    same false e = refl

module _ {domain : List Text} {of : Sides} {name : Identifier} {period : ℤ} (can : CanNarrow domain of name period) where
  abbrev from_table : Table
  from_table = of.from.now

  abbrev left_table : Table
  left_table = of.left.now

  abbrev right_table : Table
  right_table = of.right.now

  pub moved : (env : Assignment) (x : ℤ) → HasAssignment from_table domain env → HasAssignment from_table domain (with_value name (time x) env)
  moved env x h = subst (λ xs. StoreHolds domain from_table.store xs (map env.texts from_table.vars.texts)) (sym (moved_times from_table.vars.times name x env can.fresh)) h

  -- ---- the join

  pub join_high : period ≤ℤ pos (2 ^ 62)
  join_high = let h = can.high in omega (arith, ints)

  pub from_joins : HasReach from_table.store (2 ^ 62 - nat_abs period)
  from_joins = farther from_table.store (2 ^ 59) _ (let h = can.high in omega arith) can.from_reach

  pub left_joins : HasReach left_table.store (2 ^ 62 - nat_abs period)
  left_joins = farther left_table.store (2 ^ 59) _ (let h = can.high in omega arith) can.left_reach

  no_tests_reach : tests_reach [] + nat_abs period ≤ 2 ^ 62
  no_tests_reach = let h = can.high in omega arith

  pub twice : 2 * nat_abs period ≤ 2 ^ 62
  twice = let h = can.high in omega arith

  pub joins : {tests : List Test} → tests ≡ [] → CanJoin period from_table left_table tests
  joins {tests} none = record {
    tables = record { low = can.low; high = join_high; left_period = can.from_period; right_period = can.left_period; left_reach = from_joins; right_reach = left_joins; columns = can.meet };
    carried = subst (λ ts. AllByRecursion (CanBeCarried (joint from_table.vars.times left_table.vars.times) (joint from_table.vars.texts left_table.vars.texts) period) ts) (sym none) tt;
    tests_small = subst (λ ts. tests_reach ts + nat_abs period ≤ 2 ^ 62) (sym none) no_tests_reach;
  }

  module _ {cap : ℕ} {tests : List Test} (none : tests ≡ []) {part : Table} (joined : IsJoinResult cap domain period from_table left_table tests (Ok part)) where
    p : IsTableOf domain (joint from_table.vars.times left_table.vars.times) (joint from_table.vars.texts left_table.vars.texts) (nat_abs period) (IsJoined domain from_table left_table []) part
    p = subst (λ ts. IsTableOf domain (joint from_table.vars.times left_table.vars.times) (joint from_table.vars.texts left_table.vars.texts) (nat_abs period) (IsJoined domain from_table left_table ts) part) none joined.table

    natural : pos (nat_abs period) ≡ period
    natural = let l = can.low in omega (arith, ints)

    same_divides : (k : ℕ) → k ≡ nat_abs period → Divides (pos k) period
    same_divides k e = subst (λ z. Divides z period) (sym (ap pos e ∙ natural)) (Divides-self period)

    part_period : Divides (pos part.store.period) period
    part_period = same_divides part.store.period p.period_is

    part_small : HasReach part.store (2 ^ 59 + nat_abs period)
    part_small = joined.reach (2 ^ 59) (record { left_reach = can.from_reach; right_reach = can.left_reach; tests_small = subst (λ ts. tests_reach ts ≤ 2 ^ 59) (sym none) (omega arith) })

    part_reach : HasReach part.store (2 ^ 62 - 2 * nat_abs period)
    part_reach = farther part.store _ _ (let h = can.high in omega arith) part_small

    right_small : HasReach right_table.store (2 ^ 62 - 2 * nat_abs period)
    right_small = farther right_table.store (2 ^ 59) _ (let h = can.high in omega arith) can.right_reach

    part_columns : AreVariablesOf part right_table
    part_columns = record {
      times = λ v c. subst (λ vs. Contains vs v) (sym p.times_are) ((in_joint from_table.vars.times left_table.vars.times v).1 (inr (can.columns.times v c)));
      texts = λ v c. subst (λ vs. Contains vs v) (sym p.texts_are) ((in_joint from_table.vars.texts left_table.vars.texts v).1 (inr (can.columns.texts v c)));
    }

    pub part_minus : CanMinus period part right_table
    part_minus = record { low = can.low; high = twice; left_period = part_period; right_period = can.right_period; left_reach = part_reach; right_reach = right_small; columns = part_columns }

    module _ {rest : Table} (r : IsMinusResult cap period part right_table (Ok rest)) where
      rest_is : IsTableOf domain part.vars.times part.vars.texts (nat_abs period) (IsMinus domain part right_table) rest
      rest_is = (r.step domain can.ascends p.numbered).table

      rest_small : HasReach rest.store (2 ^ 59 + nat_abs period + 2 * nat_abs period)
      rest_small = r.reach (2 ^ 59 + nat_abs period) (record { left_reach = part_small; right_reach = farther right_table.store (2 ^ 59) _ (omega arith) can.right_reach })

      pub rest_reach : HasReach rest.store (2 ^ 61)
      rest_reach = farther rest.store _ _ (let h = can.high in omega arith) rest_small

      module _ {taken : Table} (t : IsTimeDropped name rest taken) where
        taken_period : Divides (pos taken.store.period) period
        taken_period = same_divides taken.store.period (t.period ∙ rest_is.period_is)

        taken_reach : HasReach taken.store (2 ^ 62 - 2 * nat_abs period)
        taken_reach = farther taken.store _ _ (let h = can.high in omega arith) (t.reach _ rest_small)

        from_small : HasReach from_table.store (2 ^ 62 - 2 * nat_abs period)
        from_small = farther from_table.store (2 ^ 59) _ (let h = can.high in omega arith) can.from_reach

        in_from : (v : Identifier) → Contains (joint from_table.vars.times left_table.vars.times) v → bytes_eq name v ≡ false → Contains from_table.vars.times v
        in_from v c other = ⊎_elim (λ a. a) (λ b. can.times v b other) ((in_joint from_table.vars.times left_table.vars.times v).0 c)

        taken_columns : AreVariablesOf from_table taken
        taken_columns = record {
          times = λ v c.
              let o = of_others name rest.vars.times v (subst (λ vs. Contains vs v) t.times c) in
              in_from v (subst (λ vs. Contains vs v) (rest_is.times_are ∙ p.times_are) o.0) o.1;
          texts = λ v c. ⊎_elim (λ a. a) (λ b. can.texts v b) ((in_joint from_table.vars.texts left_table.vars.texts v).0 (subst (λ vs. Contains vs v) (t.texts ∙ rest_is.texts_are ∙ p.texts_are) c));
        }

        to : (env : Assignment) → IsMinus domain from_table taken env → IsUnbroken domain of name env
        to env h = record {
          has = h.has;
          none = λ c. h.none (t.from domain env c.0 (rest_is.whole (with_value name (time c.0) env) (record {
            has = p.whole (with_value name (time c.0) env) (record { in_left = moved env c.0 h.has; in_right = c.1.has; passes = tt });
            none = c.1.none;
          })));
        }

        from : (env : Assignment) → IsUnbroken domain of name env → IsMinus domain from_table taken env
        from env h = record {
          has = h.has;
          none = λ c.
              let x = t.to domain env c in
              let l = rest_is.sound (with_value name (time x.0) env) x.1 in
              h.none (x.0, record { has = (p.sound (with_value name (time x.0) env) l.has).in_right; none = l.none });
        }

        pub taken_minus : CanMinus period from_table taken
        taken_minus = record { low = can.low; high = twice; left_period = can.from_period; right_period = taken_period; left_reach = from_small; right_reach = taken_reach; columns = taken_columns }

        pub narrowed : (result : Result Table StepFault) → IsMinusResult cap period from_table taken result → IfOk result (λ made. IsStore made.store) → IfOk result (IsUnbrokenTable domain of name period cap)
        narrowed (Ok made) is valid =
            let step = is.step domain can.ascends can.from_numbered in
            let m = step.table in
            record {
              valid = valid;
              is = record { times_are = m.times_are; texts_are = m.texts_are; period_is = m.period_is; sound = λ env h. to env (m.sound env h); whole = λ env h. m.whole env (from env h); numbered = m.numbered };
              few = λ many. step.few (more_of cap domain (nat_abs period) from_table.vars.times from_table.vars.texts (IsUnbroken domain of name) (IsMinus domain from_table taken) from many);
            }
        narrowed (Err fault) is valid = tt
