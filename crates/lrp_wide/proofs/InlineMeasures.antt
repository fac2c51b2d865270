-- Why writing out ends: a use goes on with an earlier definition, and anything else with a part of its formula.
use Rattle.std.proofs.Common.{◌≡◌, ℕ, zero, suc, ◌+◌, ◌*◌, ◌<◌, ◌≤◌, max, Option, Some, None, List, [], ◌∷◌, length, get_or, take, ap, sym, subst, ◌∙◌, arith}
use Rattle.lrp_model.specs.RawQueries.{HasNoOperator, HaveNoOperator, RawForm, raw_form_of, raw_forms_of}
use Rattle.lrp_model.specs.declared.raw.RawDefinition.{RawDefinition}
use Rattle.lrp_model.specs.declared.raw.RawFormula.{RawFormula}
use Rattle.lrp_wide.specs.Limits.{depth_of, depth_of_each}
use Rattle.lrp_wide.specs.declared.inlining.Scene.{Scene}
use Rattle.lrp_wide.specs.declared.inlining.Written.{Written}

-- the work that definitions are, each once
abbrev pub work_of : List RawDefinition → ℕ
work_of [] = 0
work_of (d ∷ ds) = work_of ds + 4 * depth_of (raw_form_of d.body) + 4

-- of those that a formula may name
abbrev pub work_before : Option Written → ℕ → ℕ
work_before None before = 0
work_before (Some w) before = work_of (take before w.plain.now)

-- the work left for a formula of a depth, where one function comes before another
abbrev pub work_left : Scene → ℕ → ℕ → ℕ
work_left s depth rank = work_before s.written s.setting.before + 4 * depth + rank

-- an earlier definition is less work
pub earlier-less : (ds : List RawDefinition) (n before : ℕ) (d : RawDefinition) → n < before → n < length ds → d ≡ get_or ds n d → work_of (take n ds) + 4 * depth_of (raw_form_of d.body) + 4 ≤ work_of (take before ds)
earlier-less [] n before d lt le e = absurd (omega (arith, le))
earlier-less (x ∷ ds) n zero d lt le e = absurd (omega (arith, lt))
earlier-less (x ∷ ds) zero (suc before) d lt le e =
    let same : depth_of (raw_form_of d.body) ≡ depth_of (raw_form_of x.body) = ap (λ (y : RawDefinition). depth_of (raw_form_of y.body)) e in
    omega (arith, same)
earlier-less (x ∷ ds) (suc n) (suc before) d lt le e =
    let rest : work_of (take n ds) + 4 * depth_of (raw_form_of d.body) + 4 ≤ work_of (take before ds) = earlier-less ds n before d (omega (arith, lt)) (omega (arith, le)) e in
    omega (arith, rest)

-- each of several formulas is no deeper than all
pub each-below : (fs : List RawFormula) (i : ℕ) (f : RawFormula) → i < length fs → f ≡ get_or fs i f → depth_of (raw_form_of f) ≤ depth_of_each (raw_forms_of fs)
each-below [] i f lt e = absurd (omega (arith, lt))
each-below (x ∷ fs) zero f lt e = let same : depth_of (raw_form_of f) ≡ depth_of (raw_form_of x) = ap (λ y. depth_of (raw_form_of y)) e in omega (arith, same)
each-below (x ∷ fs) (suc i) f lt e = let rest : depth_of (raw_form_of f) ≤ depth_of_each (raw_forms_of fs) = each-below fs i f (omega (arith, lt)) e in omega (arith, rest)

-- each has no operator where all have none
pub each-plain : (fs : List RawFormula) (i : ℕ) (f : RawFormula) → HaveNoOperator (raw_forms_of fs) → i < length fs → f ≡ get_or fs i f → HasNoOperator (raw_form_of f)
each-plain [] i f h lt e = absurd (omega (arith, lt))
each-plain (x ∷ fs) zero f h lt e = subst (λ y. HasNoOperator (raw_form_of y)) (sym e) h.0
each-plain (x ∷ fs) (suc i) f h lt e = each-plain fs i f h.1 (omega (arith, lt)) e
