-- Variables that occur in atoms.
use Rattle.std.proofs.Common.{◌≡◌, Bool, true, false, List, [], ◌∷◌, ◌++◌, refl, ap, ◌∙◌, map}
use Rattle.std.specs.Prelude.{◌||◌, flat_map}
use Rattle.std.specs.List.{list_any}
use Rattle.lrp_model.specs.Variables.{Variable, is_among, same_variable, variables_of_term}
use Rattle.lrp_model.specs.RawTerms.{said_term}
use Rattle.lrp_model.specs.declared.raw.RawTerm.{RawTerm}

any-append : {X : Type 0} (p : X → Bool) (xs ys : List X) → list_any p (xs ++ ys) ≡ (list_any p xs || list_any p ys)
any-append p [] ys = refl
any-append p (x ∷ xs) ys = ap (λ b. p x || b) (any-append p xs ys) ∙ by (p x) (list_any p xs) (list_any p ys)
  where
    by : (a b c : Bool) → (a || (b || c)) ≡ ((a || b) || c)
    by true b c = refl
    by false b c = refl

-- a variable of terms is one of some term
pub among-terms : (terms : List RawTerm) (v : Variable) → is_among (flat_map variables_of_term (map said_term terms)) v ≡ list_any (λ t. is_among (variables_of_term (said_term t)) v) terms
among-terms [] v = refl
among-terms (t ∷ ts) v = any-append (same_variable v) (variables_of_term (said_term t)) (flat_map variables_of_term (map said_term ts)) ∙ ap (λ b. is_among (variables_of_term (said_term t)) v || b) (among-terms ts v)
