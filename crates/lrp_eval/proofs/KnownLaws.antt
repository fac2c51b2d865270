-- Tables that are known before a plan is run.
use Rattle.std.proofs.Common.{◌≡◌, ◌<◌, ◌≤◌, ◌+◌, ℕ, zero, suc, List, [], ◌∷◌, ◌++◌, length, get_or, Some, slice_get, refl, sym, ap, subst, ◌∙◌, arith}
use Rattle.std.specs.List.{AllByRecursion}
use Rattle.lrp_model.specs.Formulas.{Question}
use Rattle.lrp_model.specs.Steps.{Steps}
use Rattle.lrp_model.specs.Caps.{ManyAt}
use Rattle.lrp_model.specs.declared.relations.Relation.{Relation}
use Rattle.lrp_model.specs.Satisfaction.{Assignment}
use Rattle.lrp_model.specs.Texts.{Text}
use Rattle.lrp_store.specs.Stores.{StoreView}
use Rattle.lrp_tables.specs.declared.table.Table.{Table}
use Rattle.lrp_eval.specs.Known.{AreKnownParts, IsKnownPart}
use Rattle.lrp_model.specs.Domains.{constants}
use Rattle.lrp_model.specs.Steps.{reach_at}
use Rattle.lrp_store.specs.Stores.{HasReach}
use Rattle.lrp_store.specs.Tables.{AreNumbered, InTable}
use Rattle.lrp_tables.specs.Tables.{HasAssignment, named_variables}
use Rattle.lrp_tables.specs.declared.table.Vars.{Vars}
use Rattle.lrp_eval.specs.Running.{AreRun, HasConstants, IsStepTable, SameVariables, variables_at}
use Rattle.lrp_eval.specs.Together.{ArePassed, AreRunTogether}
use Rattle.lrp_eval.specs.declared.known.PartTable.{PartTable}
use Rattle.lrp_eval.specs.declared.known.PlanPart.{PlanPart}

-- one table more
pub known_more : (p : PartTable → Type 0) (xs : List PartTable) (x : PartTable) → AllByRecursion p xs → p x → AllByRecursion p (xs ++ x ∷ [])
known_more p [] x h e = (e, tt)
known_more p (y ∷ ys) x h e = (h.0, known_more p ys x h.1 e)

-- a copy, in another number of slots
module _ (spare : ℕ) (old new : Table) (vars : new.vars ≡ old.vars) (store : new.store ≡ record old.store { spare = spare }) where
  was : (domain : List Text) (env : Assignment) → HasAssignment new domain env → HasAssignment old domain env
  was domain env x =
      let y : InTable domain new.vars.times new.vars.texts (record old.store { spare = spare }) env = subst (λ st. InTable domain new.vars.times new.vars.texts st env) store x in
      subst (λ (vs : Vars). InTable domain vs.times vs.texts old.store env) vars (y.0, y.1, record { cell = y.2.cell; table = y.2.table; held = y.2.held; named = y.2.named; inside = y.2.inside })

  is : (domain : List Text) (env : Assignment) → HasAssignment old domain env → HasAssignment new domain env
  is domain env x =
      let y : InTable domain new.vars.times new.vars.texts old.store env = subst (λ (vs : Vars). InTable domain vs.times vs.texts old.store env) (sym vars) x in
      subst (λ st. InTable domain new.vars.times new.vars.texts st env) (sym store) (y.0, y.1, record { cell = y.2.cell; table = y.2.table; held = y.2.held; named = y.2.named; inside = y.2.inside })

  -- is the table of the same step
  pub copied : (planned : Steps) (db : List Relation) (q : Question) (cap s : ℕ) → IsStepTable planned db q cap s old → IsStepTable planned db q cap s new
  copied planned db q cap s h = record {
    variables = subst (λ (vs : Vars). SameVariables (named_variables vs.times vs.texts) (variables_at planned q s)) (sym vars) h.variables;
    means = λ env known.
        let m = h.means env (subst (λ (vs : Vars). HasConstants (constants db q) (named_variables vs.times vs.texts) env) vars known) in
        ((λ x. m.0 (was (constants db q) env x)), λ x. is (constants db q) env (m.1 x));
    numbered = subst (λ st. AreNumbered (constants db q) st) (sym store) h.numbered;
    period = ap (λ (st : StoreView). st.period) store ∙ h.period;
    reach = subst (λ st. HasReach st (reach_at planned s)) (sym store) (record { each = h.reach.each });
    few = h.few;
    order = λ step of at kind. let o = h.order step of at kind in (ap (λ (vs : Vars). vs.times) vars ∙ o.0, ap (λ (vs : Vars). vs.texts) vars ∙ o.1);
  }

-- a part whose table is known comes next
pub known_together : (planned : Steps) (db : List Relation) (q : Question) (cap between : ℕ) (readers : List ℕ) (tables : List Table) (known : PartTable) (made : Table) → known.part.before ≡ length tables → suc (length tables + between) ≡ known.part.until
    → ArePassed readers (length tables) between → IsStepTable planned db q cap known.part.until made → IsKnownPart planned db q cap known → AreRunTogether planned db q cap readers tables between made
known_together planned db q cap between readers tables known made before end passed run known_is = record {
  run = subst (λ s. IsStepTable planned db q cap s made) (sym end) run;
  few = λ s low high m. known_is.few s (omega (arith, before, low)) (omega (arith, end, high)) m;
  done = passed;
}

-- a copy of the table of a part is known with others
pub known_with : (planned : Steps) (db : List Relation) (q : Question) (cap spare : ℕ) (part : PlanPart) (old new : Table) (made more : List PartTable) → new.vars ≡ old.vars → new.store ≡ record old.store { spare = spare } → more ≡ made ++ (record { part = part; table = new }) ∷ []
    → IsKnownPart planned db q cap (record { part = part; table = old }) → AreKnownParts planned db q cap made → AreKnownParts planned db q cap more
known_with planned db q cap spare part old new made more vars store pushed known h =
    subst (AreKnownParts planned db q cap) (sym pushed) (known_more (IsKnownPart planned db q cap) made (record { part = part; table = new }) h (record { run = copied spare old new vars store planned db q cap part.until known.run; few = known.few }))

-- the last table is that of a part that ends there
pub last_known : (planned : Steps) (db : List Relation) (q : Question) (cap count : ℕ) (part : PlanPart) (tables : List Table) (table : Table) → part.until ≡ length tables → suc count ≡ length tables → slice_get tables count ≡ Some table → AreRun planned db q cap tables → IsKnownPart planned db q cap (record { part = part; table = table })
last_known planned db q cap count part tables table until size at run = record {
  run = subst (λ s. IsStepTable planned db q cap s table) (size ∙ sym until) (run.last count table at size);
  few = λ s low high m. run.few s (omega (arith, high, until)) m;
}

pub got_last : {X : Type 0} (xs : List X) (i : ℕ) (x : X) → i < length xs → x ≡ get_or xs i x → slice_get xs i ≡ Some x
got_last [] i x lt e = absurd (omega arith)
got_last (y ∷ ys) zero x lt e = ap Some (sym e)
got_last (y ∷ ys) (suc i) x lt e = got_last ys i x (omega arith) e
