-- Variables that are kept one by one, and those of formulas and tests that are added.
use Rattle.std.proofs.Common.{◌≡◌, ◌+◌, ◌<◌, ℕ, Bool, true, false, cond, not, List, [], ◌∷◌, ◌++◌, length, take, get_or, map, filter, refl, sym, ap, ◌∙◌}
use Rattle.std.proofs.lemmas.List.{take_more, map-append}
use Rattle.std.proofs.lemmas.List.Elements.{filter-append}
use Rattle.lrp_core.specs.FreeVariables.{variable_of}
use Rattle.lrp_core.specs.declared.variables.Variable.{Variable as ProgramVariable}
use Rattle.lrp_model.specs.Variables.{Variable}

one_kept : (p : Variable → Bool) (v : Variable) → filter p (v ∷ []) ≡ cond (p v) (v ∷ []) []
one_kept p v = refl

-- one variable more was looked at
pub kept_more : (p : Variable → Bool) (all : List ProgramVariable) (i : ℕ) (x : ProgramVariable) (keep : Bool) (old new : List Variable) → i < length all → x ≡ get_or all i x → keep ≡ p (variable_of x) → old ≡ filter p (map variable_of (take i all))
    → new ≡ old ++ cond keep (variable_of x ∷ []) [] → new ≡ filter p (map variable_of (take (i + 1) all))
kept_more p all i x keep old new lt is k o n =
    n ∙ ap (λ b. old ++ cond b (variable_of x ∷ []) []) k ∙ ap (λ vs. vs ++ filter p (variable_of x ∷ [])) o ∙ sym (filter-append p (map variable_of (take i all)) (variable_of x ∷ []))
    ∙ ap (filter p) (sym (map-append variable_of (take i all) (x ∷ [])))
    ∙ ap (λ xs. filter p (map variable_of xs)) (sym (take_more all i x lt ∙ ap (λ y. take i all ++ y ∷ []) (sym is)))
