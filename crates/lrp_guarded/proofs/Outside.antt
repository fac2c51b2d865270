-- The variables that a quantifier does not bind.
use Rattle.std.proofs.Common.{◌≡◌, Bool, true, false, not, ◌||◌, List, [], ◌∷◌, ◌++◌, map, filter, Result, Ok, Err, refl, ap, ◌∙◌}
use Rattle.std.specs.Result.{IfOk}
use Rattle.std.proofs.lemmas.List.Elements.{filter_agree}
use Rattle.lrp_core.specs.FreeVariables.{variable_of}
use Rattle.lrp_core.specs.declared.variables.Variable.{Variable as ProgramVariable}
use Rattle.lrp_model.specs.Variables.{Variable, same_variable, is_among}
use Rattle.lrp_guarded.proofs.OnceEach.{same_swap}

or_false : (b : Bool) → (b || false) ≡ b
or_false true = refl
or_false false = refl

pub outside_is : {E : Type 0} (r : Result (List ProgramVariable) E) (inner slice pushed none : List ProgramVariable) (x : ProgramVariable) (b : Variable) → variable_of x ≡ b → none ≡ [] → pushed ≡ none ++ x ∷ [] → slice ≡ pushed
    → IfOk r (λ made. map variable_of made ≡ filter (λ v. not (is_among (map variable_of slice) v)) (map variable_of inner)) → IfOk r (λ made. map variable_of made ≡ filter (λ w. not (same_variable b w)) (map variable_of inner))
outside_is (Ok made) inner slice pushed none x b is e p s h =
    h ∙ filter_agree (λ v. not (is_among (map variable_of slice) v)) (λ w. not (same_variable b w))
    (λ w. ap not (ap (λ us. is_among (map variable_of us) w) (s ∙ p ∙ ap (λ es. es ++ x ∷ []) e) ∙ ap (λ u. same_variable w u || false) is ∙ or_false (same_variable w b) ∙ same_swap w b (same_variable w b) (same_variable b w) refl refl))
    (map variable_of inner)
outside_is (Err y) inner slice pushed none x b is e p s h = tt
