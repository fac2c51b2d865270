-- Parts are brought to one period, one after another.
use Rattle.std.proofs.Common.{◌≡◌, ◌⊎◌, inl, inr, ⊎_elim, ℕ, ◌+◌, ◌*◌, ◌^◌, ◌<◌, ◌≤◌, List, [], ◌∷◌, ◌++◌, length, take, drop, Contains, get_or, refl, sym, ap, subst, ◌∙◌, arith}
use Rattle.std.specs.Prelude.{ℤ, pos, nat_abs, Ok, Err}
use Rattle.std.proofs.lemmas.Int.{ints}
use Rattle.std.proofs.lemmas.List.{take_all, take-append-drop}
use Rattle.std.proofs.lemmas.List.Elements.{Contains-append_left}
use Rattle.lrp_theory.specs.Divides.{Divides}
use Rattle.lrp_theory.proofs.Members.{front_more}
use Rattle.lrp_theory.proofs.Modulo.{Divides-self}
use Rattle.lrp_model.specs.Texts.{Text}
use Rattle.lrp_model.specs.Satisfaction.{Assignment}
use Rattle.lrp_store.specs.Stores.{HasReach, IsStore}
use Rattle.lrp_tables.specs.declared.table.StepFault.TheVariants.{TooManyCells}
use Rattle.lrp_tables.specs.declared.table.Table.{Table}
use Rattle.lrp_tables.specs.Caps.{InhabitsMoreThan}
use Rattle.lrp_tables.specs.Columns.{joint}
use Rattle.lrp_tables.specs.Steps.{CanUnite, IsUnionResult}
use Rattle.lrp_tables.specs.Tables.{HasAssignment, HasTexts, IsTableOf, IsUnited}
use Rattle.lrp_tables.proofs.TableLaws.{table_texts}
use Rattle.lrp_steps.proofs.Steps.{farther}
use Rattle.lrp_periods.specs.Combining.{IsNothingOver}
use Rattle.lrp_periods.specs.Operations.{AreOperand, IsWholeResult}
use Rattle.lrp_periods.specs.Parts.{HasSome, IsPeriodPart, part_times, part_texts}
use Rattle.lrp_periods.proofs.Gathering.{Set, some_last, some_left, some_none, some_split}
use Rattle.lrp_periods.proofs.PartLaws.{joint_texts, joint_times, meet_alike}
use Rattle.lrp_periods.proofs.PeriodLaws.{natural}
use Rattle.lrp_periods.proofs.SideBySide.{has_nothing, nothing_numbered, nothing_reach, nothing_texts, nothing_times}
use Rattle.lrp_periods.proofs.Summing.{more_of, nothing_inhabits}

-- what is in the front of a list is in it
in_take : (n : ℕ) (xs : List Table) (x : Table) → Contains (take n xs) x → Contains xs x
in_take n xs x k = subst (λ ys. Contains ys x) (take-append-drop n xs) (Contains-append_left (take n xs) (drop n xs) x k)

module _ {domain : List Text} {period : ℤ} {parts : List Table} (cap : ℕ) (can : AreOperand domain period parts) where
  abbrev FirstSome : ℕ → Set
  FirstSome n = HasSome domain (take n parts)

  abbrev ManyOf : Set → Type 0
  ManyOf set = InhabitsMoreThan cap domain (nat_abs period) (part_times parts) (part_texts parts) set

  -- the table has the assignments of the first n parts
  pub record IsWholeTo (n : ℕ) (made : Table) : Type 0 where
    pub valid : IsStore made.store
    pub is : IsTableOf domain (part_times parts) (part_texts parts) (nat_abs period) (HasSome domain (take n parts)) made
    pub reach : HasReach made.store (2 ^ 59 + n * 2 ^ 56)
    pub few : InhabitsMoreThan cap domain (nat_abs period) (part_times parts) (part_texts parts) (HasSome domain (take n parts)) → ⊥

  pub whole_none : {first nothing : Table} {k : ℤ} {n : ℕ} → n ≡ 0 → k ≡ period → Contains parts first → IsNothingOver first (nat_abs k) nothing → IsStore nothing.store → IsWholeTo n nothing
  whole_none {first} {nothing} {k} {n} e f listed is valid = subst (λ m. IsWholeTo m nothing) (sym e) (record {
    valid = valid;
    is = record {
      times_are = nothing_times is ∙ (can.parts_are.each first listed).times_are;
      texts_are = nothing_texts is ∙ (can.parts_are.each first listed).texts_are;
      period_is = is.period_is ∙ ap nat_abs f;
      sound = λ env h. absurd (has_nothing is domain env h);
      whole = λ env h. absurd (some_none domain env h);
      numbered = nothing_numbered is domain;
    };
    reach = nothing_reach is _;
    few = nothing_inhabits domain (nat_abs period) (part_times parts) (part_texts parts) (HasSome domain []) cap (λ env h. some_none domain env h);
  })

  module _ {n : ℕ} {made part : Table} (w : IsWholeTo n made) (low : n < length parts) (listed : Contains parts part) where
    part_is : IsPeriodPart domain (part_times parts) (part_texts parts) period part
    part_is = can.parts_are.each part listed

    times_same : part.vars.times ≡ made.vars.times
    times_same = part_is.times_are ∙ sym w.is.times_are

    texts_same : part.vars.texts ≡ made.vars.texts
    texts_same = part_is.texts_are ∙ sym w.is.texts_are

    abbrev set_of : Set
    set_of = IsUnited domain made part

    pub can_unite_more : {k : ℤ} → k ≡ period → CanUnite domain k made part
    can_unite_more {k} e = subst (λ z. CanUnite domain z made part) (sym e) (record {
      tables = record {
        low = can.period_is.low;
        high = (let h = can.period_is.high in let l = can.period_is.low in omega (arith, ints));
        left_period = subst (λ z. Divides z period) (sym (ap pos w.is.period_is ∙ natural period can.period_is.low)) (Divides-self period);
        right_period = part_is.divides;
        left_reach = farther made.store _ _ (let h = can.period_is.high in let f = can.parts_are.few in omega arith) w.reach;
        right_reach = farther part.store (2 ^ 59) _ (let h = can.period_is.high in omega arith) part_is.reach;
        columns = meet_alike made part w.valid times_same texts_same;
      };
      left_numbered = w.is.numbered;
      right_numbered = part_is.numbered;
    })

    t_joint : joint made.vars.times part.vars.times ≡ part_times parts
    t_joint = joint_times made part w.valid times_same texts_same ∙ w.is.times_are

    x_joint : joint made.vars.texts part.vars.texts ≡ part_texts parts
    x_joint = joint_texts made part w.valid times_same texts_same ∙ w.is.texts_are

    module _ (at : part ≡ get_or parts n part) where
      to : (env : Assignment) → IsUnited domain made part env → HasSome domain (take n parts ++ part ∷ []) env
      to env h = ⊎_elim (λ a. some_left domain (take n parts) (part ∷ []) env (w.is.sound env a)) (λ b. some_last domain (take n parts) part env b) h.has

      known : (env : Assignment) → HasAssignment made domain env ⊎ HasAssignment part domain env → HasTexts domain (joint made.vars.texts part.vars.texts) env
      known env h = subst (λ ns. HasTexts domain ns env) (sym (joint_texts made part w.valid times_same texts_same)) (⊎_elim (λ a. table_texts domain made env a) (λ b. subst (λ ns. HasTexts domain ns env) texts_same (table_texts domain part env b)) h)

      from : (env : Assignment) → HasSome domain (take n parts ++ part ∷ []) env → IsUnited domain made part env
      from env h = let either : HasAssignment made domain env ⊎ HasAssignment part domain env = ⊎_elim (λ a. inl (w.is.whole env a)) (λ b. inr b) (some_split domain (take n parts) part env h) in record { known = known env either; has = either }

      front : take (n + 1) parts ≡ take n parts ++ part ∷ []
      front = front_more parts n part low at

      named : {set : Set} → InhabitsMoreThan cap domain (nat_abs period) (joint made.vars.times part.vars.times) (joint made.vars.texts part.vars.texts) set → ManyOf set
      named {set} m = subst (λ ns. InhabitsMoreThan cap domain (nat_abs period) (part_times parts) ns set) x_joint (subst (λ ns. InhabitsMoreThan cap domain (nat_abs period) ns (joint made.vars.texts part.vars.texts) set) t_joint m)

      unnamed : {set : Set} → ManyOf set → InhabitsMoreThan cap domain (nat_abs period) (joint made.vars.times part.vars.times) (joint made.vars.texts part.vars.texts) set
      unnamed {set} m = subst (λ ns. InhabitsMoreThan cap domain (nat_abs period) (joint made.vars.times part.vars.times) ns set) (sym x_joint) (subst (λ ns. InhabitsMoreThan cap domain (nat_abs period) ns (part_texts parts) set) (sym t_joint) m)

      pub whole_more : {new : Table} {k : ℤ} → k ≡ period → IsUnionResult cap domain k made part (Ok new) → IsStore new.store → IsWholeTo (n + 1) new
      whole_more {new} {k} e r valid = here (subst (λ z. IsUnionResult cap domain z made part (Ok new)) e r)
        where
          here : IsUnionResult cap domain period made part (Ok new) → IsWholeTo (n + 1) new
          here u = record {
            valid = valid;
            is = subst (λ ps. IsTableOf domain (part_times parts) (part_texts parts) (nat_abs period) (HasSome domain ps) new) (sym front) (record {
              times_are = u.table.times_are ∙ t_joint;
              texts_are = u.table.texts_are ∙ x_joint;
              period_is = u.table.period_is;
              sound = λ env h. to env (u.table.sound env h);
              whole = λ env h. u.table.whole env (from env h);
              numbered = u.table.numbered;
            });
            reach = farther new.store _ _ (let h = can.period_is.high in omega arith) (u.reach (2 ^ 59 + n * 2 ^ 56) (record { left_reach = w.reach; right_reach = farther part.store (2 ^ 59) _ (omega arith) part_is.reach }));
            few = λ m. u.few (unnamed (more_of cap domain (nat_abs period) (part_times parts) (part_texts parts) (HasSome domain (take (n + 1) parts)) (IsUnited domain made part) (λ env h. from env (subst (λ ps. HasSome domain ps env) front h)) m));
          }

      pub whole_many : {k : ℤ} → k ≡ period → IsUnionResult cap domain k made part (Err TooManyCells) → ManyOf (HasSome domain parts)
      whole_many {k} e r = more_of cap domain (nat_abs period) (part_times parts) (part_texts parts) (IsUnited domain made part) (HasSome domain parts) (λ env h. among env (to env h)) (named ((subst (λ z. IsUnionResult cap domain z made part (Err TooManyCells)) e r).many refl))
        where
          among : (env : Assignment) → HasSome domain (take n parts ++ part ∷ []) env → HasSome domain parts env
          among env h = ⊎_elim (λ a. record { part = a.part; listed = in_take n parts a.part a.listed; has = a.has }) (λ b. record { part = part; listed = listed; has = b }) (some_split domain (take n parts) part env h)

  pub whole_done : {n : ℕ} {made : Table} → length parts ≤ n → IsWholeTo n made → IsWholeResult cap domain period parts (Ok made)
  whole_done {n} {made} high w = record {
    valid = w.valid;
    table = subst (λ ps. IsTableOf domain (part_times parts) (part_texts parts) (nat_abs period) (HasSome domain ps) made) (take_all n parts high) w.is;
    few = λ m. w.few (subst (λ ps. InhabitsMoreThan cap domain (nat_abs period) (part_times parts) (part_texts parts) (HasSome domain ps)) (sym (take_all n parts high)) m);
    many = λ e. cc;
  }
