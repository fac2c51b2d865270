-- Chains of definitions, one step more.
use mathlib.Core.Path.{fun_ext}
use Rattle.std.proofs.Common.{◌≡◌, ℕ, suc, ◌+◌, ◌<◌, ◌≤◌, Bool, true, false, cond, Option, Some, None, List, [], ◌∷◌, ◌++◌, map, slice_get, refl, ap, ap₂, sym, subst, ◌∙◌, arith}
use Rattle.std.specs.Str.{bytes_eq}
use Rattle.lrp_model.specs.RawQueries.{RawFileView, RawForm, raw_atom, raw_form_of}
use Rattle.lrp_model.specs.Texts.{Identifier}
use Rattle.lrp_model.specs.declared.raw.RawDefinition.{RawDefinition}
use Rattle.lrp_model.specs.declared.raw.RawTerm.{RawTerm}
use Rattle.lrp_model.specs.declared.relations.Column.{Column}
use Rattle.lrp_model.specs.declared.relations.Relation.{Relation}
use Rattle.lrp_model.specs.declared.tokens.Place.{Place}
use Rattle.lrp_sorts.specs.Definitions.{Defined, definition_number}
use Rattle.lrp_wide.specs.Chains.{ArePlainTextsOf, AreVariables, IsBodyBy, IsChain, IsContinued, as_themselves, read_by}
use Rattle.lrp_wide.specs.Inlining.{itself, passed_name}
use Rattle.lrp_wide.specs.declared.chains.Chain.{Chain}
use Rattle.lrp_wide.proofs.ChainSteps.{step-is}

-- columns that are the same variables
pub themselves_same : (f g : Identifier → Identifier) (cs : List Column) (vs ws : List Identifier) → map f vs ≡ map g ws → as_themselves f cs vs ≡ as_themselves g cs ws
themselves_same f g [] vs ws e = refl
themselves_same f g (c ∷ cs) [] [] e = refl
themselves_same f g (c ∷ cs) [] (w ∷ ws) e = absurd cc
themselves_same f g (c ∷ cs) (v ∷ vs) [] e = absurd cc
themselves_same f g (c ∷ cs) (v ∷ vs) (w ∷ ws) e =
    let one : f v ≡ g w = cc in
    let rest : map f vs ≡ map g ws = cc in
    ap₂ (λ n l. itself c.name n ∷ l) one (themselves_same f g cs vs ws rest)

module _ (d : Defined) (plain : List RawDefinition) (i j : ℕ) (x : RawDefinition) (q : Place) (n : Identifier) (ts : List RawTerm) (vs : List Identifier) (r : Relation) (ex : slice_get plain i ≡ Some x) (atom : raw_form_of x.body ≡ raw_atom q n ts)
    (number : definition_number d i n ≡ Some j) (lt : j < i) (er : slice_get d.definitions j ≡ Some r) (vars : AreVariables r.columns ts vs) where
  -- a chain of one step
  pub chain-one : (c : Chain) → c.end ≡ j → c.steps ≡ 1 → c.names.items ≡ vs → IsChain d plain i c
  chain-one c end steps names = record {
    earlier = omega (arith, end, lt);
    long = omega (arith, steps);
    few = omega (arith, steps, lt);
    same = λ db f h s es name p first k long form of.
        let own : Some s ≡ Some r = sym es ∙ ap (slice_get d.definitions) end ∙ er in
        let columns : s.columns ≡ r.columns = let same : s ≡ r = cc in ap (λ (y : Relation). y.columns) same in
        let at : k ≡ first = omega (arith, long, steps) in
        let as_read : List Column → List Identifier → ℕ → List _ → _ = λ cs ns m. read_by (passed_name (as_themselves name cs ns) m) p (suc m) in
        step-is d plain db f h i j x q n ts vs r ex atom number lt er vars name p first form
        (subst (λ u. IsBodyBy db f j u form) (ap₂ (λ cs ns. as_read cs ns k) columns names ∙ ap (as_read r.columns vs) at) (subst (λ e. IsBodyBy db f e (as_read s.columns c.names.items k) form) end of));
  }

  -- a step before a chain
  pub chain-more : (further c : Chain) → IsChain d plain j further → IsContinued r.columns vs further c → IsChain d plain i c
  chain-more further c h on = record {
    earlier = omega (arith, on.end, h.earlier, lt);
    long = omega (arith, on.steps);
    few = omega (arith, on.steps, h.few, lt);
    same = λ db f t s es name p first k long form of.
        let between : Identifier → Identifier = passed_name (as_themselves name r.columns vs) first in
        let there : slice_get d.definitions further.end ≡ Some s = ap (slice_get d.definitions) (sym on.end) ∙ es in
        let counted : suc k ≡ suc first + further.steps = omega (arith, long, on.steps) in
        step-is d plain db f t i j x q n ts vs r ex atom number lt er vars name p first form
        (h.same db f t s there between p (suc first) k counted form
        (subst (λ l. IsBodyBy db f further.end (read_by (passed_name l k) p (suc k)) form) (sym (themselves_same between name s.columns further.names.items c.names.items (on.names name first))) (subst (λ e. IsBodyBy db f e (read_by (passed_name (as_themselves name s.columns c.names.items) k) p (suc k)) form) on.end of)));
  }
