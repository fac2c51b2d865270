-- Variables that are added, and whether there is a further one among them.
use Rattle.std.proofs.Common.{◌≡◌, ◌≤◌, ◌<◌, ◌+◌, ℕ, Bool, true, false, ◌&&◌, ◌==◌, List, [], ◌∷◌, ◌++◌, length, if◌then◌else◌, refl, arith, length-append}
use Rattle.std.proofs.lemmas.Bool.{eqb-true, eq-eqb, false_from_ne_true}
use Rattle.lrp_model.specs.Variables.{Variable, is_among, are_among}
use Rattle.lrp_core.specs.FreeVariables.{with_variable, with_variables}

-- a list that is no shorter with one variable more, and with several
one_longer : (vs : List Variable) (w : Variable) (b : Bool) → length vs ≤ length (if b then vs else vs ++ w ∷ [])
one_longer vs w true = omega arith
one_longer vs w false = let l : length (vs ++ w ∷ []) ≡ length vs + length (w ∷ []) = length-append vs (w ∷ []) in omega arith

longer : (vs ws : List Variable) → length vs ≤ length (with_variables vs ws)
longer vs [] = omega arith
longer vs (w ∷ ws) =
    let a : length vs ≤ length (with_variable vs w) = one_longer vs w (is_among vs w) in
    let b : length (with_variable vs w) ≤ length (with_variables (with_variable vs w) ws) = longer (with_variable vs w) ws in
    omega arith

-- a number that is greater is another
other_number : (n m : ℕ) → m < n → (n == m) ≡ false
other_number n m lt = false_from_ne_true (n == m) (λ e. let s : n ≡ m = eqb-true n m e in absurd (omega arith))

-- one variable more: it was there, or there are more than before
by_first : (vs ws : List Variable) (w : Variable) (b : Bool) → is_among vs w ≡ b → (length (with_variables vs ws) == length vs) ≡ are_among ws vs → (length (with_variables (if b then vs else vs ++ w ∷ []) ws) == length vs) ≡ (b && are_among ws vs)
by_first vs ws w true e rest = rest
by_first vs ws w false e rest =
    let a : length (vs ++ w ∷ []) ≤ length (with_variables (vs ++ w ∷ []) ws) = longer (vs ++ w ∷ []) ws in
    let l : length (vs ++ w ∷ []) ≡ length vs + length (w ∷ []) = length-append vs (w ∷ []) in
    other_number (length (with_variables (vs ++ w ∷ []) ws)) (length vs) (omega arith)

-- there are as many as before where all of them were there
pub none_further : (vs ws : List Variable) → (length (with_variables vs ws) == length vs) ≡ are_among ws vs
none_further vs [] = eq-eqb (length vs) (length vs) refl
none_further vs (w ∷ ws) = by_first vs ws w (is_among vs w) refl (none_further vs ws)
