-- A refusal leaves the same rows, and has its cause.
use Rattle.std.proofs.Common.{◌≡◌, ℕ, refl, sym, subst, ap, Vec, Global, map, Result, Ok, Err}
use Rattle.std.specs.Prelude.{OnErr, OnOk}
use Rattle.lrp_tables.specs.declared.table.StepFault.{StepFault}
use Rattle.lrp_tables.specs.declared.table.StepFault.TheVariants.{TooManyCells as too_many_cells, Memory as no_memory}
use Rattle.lrp_kept.specs.Keyed.{AreSameRows}
use Rattle.lrp_limits.specs.declared.periods.Period.{Period}
use Rattle.lrp_parts.specs.declared.derivation.Derived.{Derived}
use Rattle.lrp_model.specs.declared.relations.Row.{Row}
use Rattle.lrp_keep.specs.Faults.{kept_fault}
use Rattle.lrp_keep.specs.Keeps.{KeepView, IsPastLimit}
use Rattle.lrp_keep.specs.States.{IsHoldingCause, IsStateOf, IsStillState, IsUndone, ground_at, levels_of}
use Rattle.lrp_keep.specs.Unions.{AreDerived, AreDerivedBut, RemainWithout}
use Rattle.lrp_keep.specs.declared.faults.KeepFault.TheVariants.{Memory, TooManyCells}
use Rattle.lrp_keep.specs.declared.kept_query.KeptQuery.{KeptQuery}
use Rattle.lrp_keep.specs.declared.states.State.{State}
use Rattle.lrp_keep.proofs.Alike.{relisted_same, same_as_held}
use Rattle.lrp_keep.proofs.Carried.{same_derived, same_held_rows}

-- nothing is changed
pub still_self : (of : KeptQuery) (s : State) (relation : ℕ) → IsStateOf of s → IsStillState of s s
still_self of s relation is = record {
  rows = record { sources = λ k. refl; relation = relation; listed = relisted_same relation s.rows };
  period = refl;
  held = is.rows;
  derived = is.derived;
}

-- the rows are the same
pub still_rows : (of : KeptQuery) (old new : State) → IsStateOf of old → AreSameRows old.rows new.rows → new.period ≡ old.period → new.derived ≡ old.derived → IsStillState of old new
still_rows of old new is rows period_is derived_is =
    let held = same_as_held old.rows new.rows rows in
    record {
      rows = rows;
      period = period_is;
      held = same_held_rows old.rows new.rows held is.rows;
      derived = subst (λ (p : Period). AreDerived (ground_at of new.rows p.number) of.disjuncts.items (levels_of new)) (sym period_is)
          (subst (λ (ds : Vec Derived Global). AreDerived (ground_at of new.rows old.period.number) of.disjuncts.items (map (λ d. d.levels.items) ds.items)) (sym derived_is)
          (record { count = is.derived.count; each = λ i d levels at there. same_derived (ground_at of old.rows old.period.number) new.rows d levels held (is.derived.each i d levels at there) }));
    }

-- no memory is cause enough
pub memory_cause : (of : KeptQuery) (s : State) (relation : ℕ) (row : Row) (period : ℕ) → IsHoldingCause of s relation row period Memory
memory_cause of s relation row period = record { cause = λ name e. tt }

-- what a step gives up for
pub step_cause : (of : KeptQuery) (s : State) (relation : ℕ) (row : Row) (period : ℕ) (fault : StepFault) → (fault ≡ too_many_cells → IsHoldingCause of s relation row period TooManyCells) → IsHoldingCause of s relation row period (kept_fault fault)
step_cause of s relation row period too_many_cells large = large refl
step_cause of s relation row period no_memory large = memory_cause of s relation row period

pub opened_cause : (k : KeepView) (fault : StepFault) → (fault ≡ too_many_cells → IsPastLimit k TooManyCells) → IsPastLimit k (kept_fault fault)
opened_cause k too_many_cells large = large refl
opened_cause k no_memory large = tt

-- what is known of an error
pub err_then : {A E : Type 0} (r : Result A E) (P Q : Type 0) → OnErr r P → (P → Q) → OnErr r Q
err_then (Ok a) P Q h go = tt
err_then (Err e) P Q h go = go h

pub undone_same : (of : KeptQuery) (key : ℕ) (old new : State) → AreDerivedBut (ground_at of old.rows old.period.number) of.disjuncts.items key (levels_of old) → new ≡ old → IsUndone of key old new
undone_same of key old new h e = record {
  period = ap (λ (s : State). s.period) e;
  derived = subst (λ (s : State). RemainWithout (ground_at of old.rows old.period.number) of.disjuncts.items key (levels_of s)) (sym e) (record { count = h.count; each = h.each });
}

-- what is known of a result twice
pub ok_then : {A E : Type 0} (r : Result A E) (P Q R : Type 0) → OnOk r P → OnOk r Q → (P → Q → R) → OnOk r R
ok_then (Ok a) P Q R p q go = go p q
ok_then (Err e) P Q R p q go = tt
