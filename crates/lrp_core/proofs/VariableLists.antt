-- Lists that hold each variable once: their members, and how they grow.
use Rattle.std.proofs.Common.{◌≡◌, ℕ, ◌+◌, ◌<◌, Bool, true, false, not, ◌||◌, ◌&&◌, List, [], ◌∷◌, ◌++◌, Vec, Global, refl, ap, sym, ◌∙◌, length, take, get_or, map, if◌then◌else◌, append_assoc, append-nil}
use Rattle.std.specs.List.{flat_map}
use Rattle.std.proofs.lemmas.Bool.{true≢false}
use Rattle.std.proofs.lemmas.List.{take_more, map-append}
use Rattle.std.proofs.lemmas.List.Folds.{list_any-append}
use Rattle.std.proofs.lemmas.List.Elements.{filter-append}
use Rattle.std.specs.Cmp.Lexicographic.{bytes_decides}
use Rattle.std.proofs.lemmas.Grind.{flat_map-append}
use Rattle.lrp_model.specs.Formulas.{Forms, form, no_forms, joined}
use Rattle.lrp_model.specs.Variables.{Variable, time_variable, data_variable, same_variable, variables_of_term, is_among, are_among, meet, free, free_each}
use Rattle.lrp_model.specs.RawTerms.{said_term}
use Rattle.lrp_model.specs.declared.raw.RawTerm.{RawTerm}
use Rattle.lrp_core.specs.Cores.{core_of, cores_of}
use Rattle.lrp_core.specs.FreeVariables.{variable_of, with_variable, with_variables, each_once, others}
use Rattle.lrp_core.specs.declared.variables.Variable.{Variable as ProgramVariable}
use Rattle.lrp_core.specs.declared.core_forms.Core.{Core, And, Or}
use Rattle.lrp_core.proofs.CoreViews.{core_of-And, core_of-Or, cores_of-append}

-- nothing more to choose from
or_false : (b : Bool) → (b || false) ≡ b
or_false true = refl
or_false false = refl

-- a choice among three
or_assoc : (a b c : Bool) → ((a || b) || c) ≡ (a || (b || c))
or_assoc true b c = refl
or_assoc false b c = refl

-- variables that pass the test are one
same_is : (v w : Variable) → same_variable v w ≡ true → v ≡ w
same_is (time_variable v) (time_variable w) e = ap time_variable ((bytes_decides v w).0 e)
same_is (time_variable v) (data_variable w) e = absurd (true≢false (sym e))
same_is (data_variable v) (time_variable w) e = absurd (true≢false (sym e))
same_is (data_variable v) (data_variable w) e = ap data_variable ((bytes_decides v w).0 e)

-- the members of a list with one more variable
among_with : (vs : List Variable) (v x : Variable) (known same : Bool) → is_among vs v ≡ known → same_variable x v ≡ same → is_among (if known then vs else vs ++ v ∷ []) x ≡ (is_among vs x || same)
among_with vs v x true true e s = ap (is_among vs) (same_is x v s) ∙ e ∙ sym (ap (λ b. b || true) (ap (is_among vs) (same_is x v s) ∙ e))
among_with vs v x true false e s = sym (or_false (is_among vs x))
among_with vs v x false same e s = list_any-append (same_variable x) vs (v ∷ []) ∙ ap (λ b. is_among vs x || b) (or_false (same_variable x v) ∙ s)

-- the members of a list with further variables
pub is_among-with_variables : (vs ws : List Variable) (x : Variable) → is_among (with_variables vs ws) x ≡ (is_among vs x || is_among ws x)
is_among-with_variables vs [] x = sym (or_false (is_among vs x))
is_among-with_variables vs (w ∷ ws) x =
    is_among-with_variables (with_variable vs w) ws x ∙ ap (λ b. b || is_among ws x) (among_with vs w x (is_among vs w) (same_variable x w) refl refl)
    ∙ or_assoc (is_among vs x) (same_variable x w) (is_among ws x)

-- each variable once has the members of the list
pub is_among-each_once : (vs : List Variable) (x : Variable) → is_among (each_once vs) x ≡ is_among vs x
is_among-each_once vs x = is_among-with_variables [] vs x

-- the variables of two lists, one after the other
pub with_variables-append : (vs ws xs : List Variable) → with_variables vs (ws ++ xs) ≡ with_variables (with_variables vs ws) xs
with_variables-append vs [] xs = refl
with_variables-append vs (w ∷ ws) xs = with_variables-append (with_variable vs w) ws xs

-- a variable that is a member already adds nothing
pub with_known : (vs : List Variable) (v : Variable) → is_among vs v ≡ true → with_variable vs v ≡ vs
with_known vs v e = ap (λ b. if b then vs else vs ++ v ∷ []) e

-- and another one stands after them
with_new : (vs : List Variable) (v : Variable) → is_among vs v ≡ false → with_variable vs v ≡ vs ++ v ∷ []
with_new vs v e = ap (λ b. if b then vs else vs ++ v ∷ []) e

-- a member that is not the bound variable is among the others
kept_one : (b u x : Variable) (us : List Variable) (same kept : Bool) → same_variable x u ≡ same → not (same_variable b u) ≡ kept → not (same_variable b x) ≡ true → (same || is_among us x) ≡ true → (is_among us x ≡ true → is_among (others b us) x ≡ true) → is_among (if kept then u ∷ others b us else others b us) x ≡ true
kept_one b u x us true true s k free member rest = ap (λ t. t || is_among (others b us) x) s
kept_one b u x us true false s k free member rest = absurd (true≢false (sym free ∙ ap (λ y. not (same_variable b y)) (same_is x u s) ∙ k))
kept_one b u x us false true s k free member rest = ap (λ t. t || is_among (others b us) x) s ∙ rest member
kept_one b u x us false false s k free member rest = rest member

-- what is a member and not the bound variable is among the others
is_among-others : (b x : Variable) (us : List Variable) → not (same_variable b x) ≡ true → is_among us x ≡ true → is_among (others b us) x ≡ true
is_among-others b x [] free member = absurd (true≢false (sym member))
is_among-others b x (u ∷ us) free member = kept_one b u x us (same_variable x u) (not (same_variable b u)) refl refl free member (is_among-others b x us free)

-- a further variable before or after the choice of the others
again : (b x : Variable) (ws : List Variable) (kept : Bool) → not (same_variable b x) ≡ kept → (not (same_variable b x) ≡ true → is_among ws x ≡ true) → ws ≡ with_variables ws (if kept then x ∷ [] else [])
again b x ws true k member = sym (with_known ws x (member k))
again b x ws false k member = refl

-- one variable more, before and after the choice of the others
others_one : (b x : Variable) (vs us : List Variable) (known : Bool) → is_among us x ≡ known → with_variables vs (others b (if known then us else us ++ x ∷ [])) ≡ with_variables (with_variables vs (others b us)) (others b (x ∷ []))
others_one b x vs us true e =
    again b x (with_variables vs (others b us)) (not (same_variable b x)) refl
    (λ free. is_among-with_variables vs (others b us) x ∙ ap (λ t. is_among vs x || t) (is_among-others b x us free e) ∙ or_true (is_among vs x))
  where
    or_true : (t : Bool) → (t || true) ≡ true
    or_true true = refl
    or_true false = refl
others_one b x vs us false e = ap (with_variables vs) (filter-append (λ w. not (same_variable b w)) us (x ∷ [])) ∙ with_variables-append vs (others b us) (others b (x ∷ []))

-- the others may be chosen before or after the variables are put together
pub others-with_variables : (b : Variable) (vs us xs : List Variable) → with_variables vs (others b (with_variables us xs)) ≡ with_variables (with_variables vs (others b us)) (others b xs)
others-with_variables b vs us [] = refl
others-with_variables b vs us (x ∷ xs) =
    others-with_variables b vs (with_variable us x) xs ∙ ap (λ y. with_variables y (others b xs)) (others_one b x vs us (is_among us x) refl)
    ∙ sym (with_variables-append (with_variables vs (others b us)) (others b (x ∷ [])) (others b xs))
    ∙ ap (with_variables (with_variables vs (others b us))) (sym (filter-append (λ w. not (same_variable b w)) (x ∷ []) xs))

-- those of some elements, and then those of the next one
pub each-step : {A : Type 0} (f : A → List Variable) (xs : List A) (i : ℕ) (a : A) (old made now : List Variable) → i < length xs → a ≡ get_or xs i a → made ≡ with_variables old (flat_map f (take i xs)) → now ≡ with_variables made (f a) → now ≡ with_variables old (flat_map f (take (i + 1) xs))
each-step f xs i a old made now lt is before step =
    step ∙ ap (λ x. with_variables x (f a)) before ∙ sym (with_variables-append old (flat_map f (take i xs)) (f a))
    ∙ ap (with_variables old) (sym (ap (flat_map f) (take_more xs i a lt ∙ ap (λ x. take i xs ++ x ∷ []) (sym is)) ∙ flat_map-append f (take i xs) (a ∷ []) ∙ ap (λ x. flat_map f (take i xs) ++ x) (append-nil (f a))))

-- the same for the elements of an `and` or an `or`
free_each-joined : (fs gs : Forms) → free_each (joined fs gs) ≡ free_each fs ++ free_each gs
free_each-joined no_forms gs = refl
free_each-joined (form f fs) gs = ap (λ x. free f ++ x) (free_each-joined fs gs) ∙ sym (append_assoc (free f) (free_each fs) (free_each gs))

-- the free variables of one element more
pub cores-step : (fs : List Core) (i : ℕ) (f : Core) (old made now : List Variable) → i < length fs → f ≡ get_or fs i f → made ≡ with_variables old (free_each (cores_of (take i fs))) → now ≡ with_variables made (free (core_of f)) → now ≡ with_variables old (free_each (cores_of (take (i + 1) fs)))
cores-step fs i f old made now lt is before step =
    step ∙ ap (λ x. with_variables x (free (core_of f))) before ∙ sym (with_variables-append old (free_each (cores_of (take i fs))) (free (core_of f)))
    ∙ ap (with_variables old) (sym (ap (λ x. free_each (cores_of x)) (take_more fs i f lt ∙ ap (λ x. take i fs ++ x ∷ []) (sym is))
    ∙ ap free_each (cores_of-append (take i fs) (f ∷ [])) ∙ free_each-joined (cores_of (take i fs)) (form (core_of f) no_forms)
    ∙ ap (λ x. free_each (cores_of (take i fs)) ++ x) (append-nil (free (core_of f)))))

-- the free variables of an `and` are those of its members
pub free-And : (f : Core) (v : Vec Core Global) → f ≡ And v → free_each (cores_of v.items) ≡ free (core_of f)
free-And f v is = sym (ap (λ x. free (core_of x)) is ∙ ap free (core_of-And v))

-- the same for an `or`
pub free-Or : (f : Core) (v : Vec Core Global) → f ≡ Or v → free_each (cores_of v.items) ≡ free (core_of f)
free-Or f v is = sym (ap (λ x. free (core_of x)) is ∙ ap free (core_of-Or v))

-- a variable that a quantifier does not bind, after those before it
pub others-step : (b : Variable) (seen more : List ProgramVariable) (v : ProgramVariable) (old made now : List Variable) → more ≡ seen ++ v ∷ [] → made ≡ with_variables old (others b (map variable_of seen)) → now ≡ with_variables made (others b (variable_of v ∷ [])) → now ≡ with_variables old (others b (map variable_of more))
others-step b seen more v old made now e before step =
    step ∙ ap (λ x. with_variables x (others b (variable_of v ∷ []))) before ∙ sym (with_variables-append old (others b (map variable_of seen)) (others b (variable_of v ∷ [])))
    ∙ ap (with_variables old) (sym (ap (λ x. others b (map variable_of x)) e ∙ ap (others b) (map-append variable_of seen (v ∷ [])) ∙ filter-append (λ w. not (same_variable b w)) (map variable_of seen) (variable_of v ∷ [])))

-- a quantifier's free variables are those of its formula but for the bound one
pub free-exists : (b : Variable) (vs inner fs gs : List Variable) → inner ≡ with_variables [] fs → gs ≡ others b fs → with_variables vs (others b inner) ≡ with_variables vs gs
free-exists b vs inner fs gs e is = ap (λ x. with_variables vs (others b x)) e ∙ others-with_variables b vs [] fs ∙ ap (with_variables vs) (sym is)

-- a further variable, after those before it
pub variables-step : (seen more : List ProgramVariable) (v : ProgramVariable) (old made now : List Variable) → more ≡ seen ++ v ∷ [] → made ≡ with_variables old (map variable_of seen) → now ≡ with_variable made (variable_of v) → now ≡ with_variables old (map variable_of more)
variables-step seen more v old made now e before step =
    step ∙ ap (λ x. with_variable x (variable_of v)) before ∙ sym (with_variables-append old (map variable_of seen) (variable_of v ∷ []))
    ∙ ap (with_variables old) (sym (ap (map variable_of) e ∙ map-append variable_of seen (v ∷ [])))

-- of lists with the same members, the same variables are among them
pub are_among-members : (vs ws xs : List Variable) → ((v : Variable) → is_among ws v ≡ is_among xs v) → are_among vs ws ≡ are_among vs xs
are_among-members [] ws xs same = refl
are_among-members (v ∷ vs) ws xs same = ap (λ b. b && are_among vs ws) (same v) ∙ ap (λ b. is_among xs v && b) (are_among-members vs ws xs same)

-- the same for sharing a variable
pub meet-members : (vs ws xs : List Variable) → ((v : Variable) → is_among ws v ≡ is_among xs v) → meet vs ws ≡ meet vs xs
meet-members [] ws xs same = refl
meet-members (v ∷ vs) ws xs same = ap (λ b. b || meet vs ws) (same v) ∙ ap (λ b. is_among xs v || b) (meet-members vs ws xs same)

-- the variables of terms, of which each says one
said_variables : (ts : List RawTerm) → flat_map variables_of_term (map said_term ts) ≡ flat_map (λ t. variables_of_term (said_term t)) ts
said_variables [] = refl
said_variables (t ∷ ts) = ap (λ vs. variables_of_term (said_term t) ++ vs) (said_variables ts)

-- those of some terms, and then those of the next one
pub said-step : (ts : List RawTerm) (i : ℕ) (t : RawTerm) (old made now : List Variable) → i < length ts → t ≡ get_or ts i t → made ≡ with_variables old (flat_map variables_of_term (map said_term (take i ts))) → now ≡ with_variables made (variables_of_term (said_term t)) → now ≡ with_variables old (flat_map variables_of_term (map said_term (take (i + 1) ts)))
said-step ts i t old made now lt is before step =
    each-step (λ t. variables_of_term (said_term t)) ts i t old made now lt is (before ∙ ap (with_variables old) (said_variables (take i ts))) step
    ∙ ap (with_variables old) (sym (said_variables (take (i + 1) ts)))
