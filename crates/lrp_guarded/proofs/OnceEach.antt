-- Lists that hold each variable once, made in either way; and those of a step that drops a variable.
use Rattle.std.proofs.Common.{◌≡◌, Bool, true, false, cond, not, ◌&&◌, ◌||◌, if◌then◌else◌, List, [], ◌∷◌, ◌++◌, filter, refl, sym, ap, subst, ◌∙◌, append_assoc, append-nil}
use Rattle.std.proofs.lemmas.Bool.{false≢true}
use Rattle.std.proofs.lemmas.List.Elements.{filter_agree}
use Rattle.std.specs.Cmp.Lexicographic.{bytes_decides}
use Rattle.lrp_model.specs.Variables.{Variable, time_variable, data_variable, same_variable, is_among}
use Rattle.lrp_core.specs.FreeVariables.{with_variable, with_variables, each_once, others}
use Rattle.lrp_core.proofs.VariableLists.{is_among-with_variables, with_variables-append, with_known}
use Rattle.lrp_plan_laws.specs.Projections.{distinct_variables as once}

-- variables that pass the test are one
pub same_is : (v w : Variable) → same_variable v w ≡ true → v ≡ w
same_is (time_variable v) (time_variable w) e = ap time_variable ((bytes_decides v w).0 e)
same_is (time_variable v) (data_variable w) e = absurd (false≢true e)
same_is (data_variable v) (time_variable w) e = absurd (false≢true e)
same_is (data_variable v) (data_variable w) e = ap data_variable ((bytes_decides v w).0 e)

pub same_self : (v : Variable) → same_variable v v ≡ true
same_self (time_variable v) = (bytes_decides v v).1 refl
same_self (data_variable v) = (bytes_decides v v).1 refl

-- ---- filters one after the other

module _ {X : Type 0} (p q : X → Bool) where
  by_both : (b c : Bool) (x : X) (ys zs : List X) → filter p ys ≡ zs → q x ≡ b → p x ≡ c → filter p (cond b (x ∷ ys) ys) ≡ cond (b && c) (x ∷ zs) zs
  by_both true c x ys zs h e f = ap (λ d. cond d (x ∷ filter p ys) (filter p ys)) f ∙ ap (λ ws. cond c (x ∷ ws) ws) h
  by_both false c x ys zs h e f = h

  -- those that pass both
  pub filter_both : (xs : List X) → filter p (filter q xs) ≡ filter (λ x. q x && p x) xs
  filter_both [] = refl
  filter_both (x ∷ xs) = by_both (q x) (p x) x (filter q xs) (filter (λ x. q x && p x) xs) (filter_both xs) refl refl

and_swap : (b c : Bool) → (b && c) ≡ (c && b)
and_swap true true = refl
and_swap true false = refl
and_swap false true = refl
and_swap false false = refl

-- in either order
pub filter_swap : {X : Type 0} (p q : X → Bool) (xs : List X) → filter p (filter q xs) ≡ filter q (filter p xs)
filter_swap p q xs = filter_both p q xs ∙ filter_agree (λ x. q x && p x) (λ x. p x && q x) (λ x. and_swap (q x) (p x)) xs ∙ sym (filter_both q p xs)

keep_by : (b c : Bool) → (c ≡ true → b ≡ true) → (b && c) ≡ c
keep_by true c h = refl
keep_by false true h = absurd (false≢true (h refl))
keep_by false false h = refl

-- the first filter alone, where it passes no more
pub filter_within : {X : Type 0} (p q : X → Bool) → ((x : X) → p x ≡ true → q x ≡ true) → (xs : List X) → filter p (filter q xs) ≡ filter p xs
filter_within p q h xs = filter_both p q xs ∙ filter_agree (λ x. q x && p x) p (λ x. keep_by (q x) (p x) (h x)) xs

-- ---- each variable once

-- variables that are not known
abbrev unknown : List Variable → Variable → Bool
unknown us w = not (is_among us w)

abbrev differs : Variable → Variable → Bool
differs v w = not (same_variable v w)

not_same_by : (us : List Variable) (v w : Variable) (b : Bool) → is_among us v ≡ true → same_variable v w ≡ b → unknown us w ≡ true → not b ≡ true
not_same_by us v w true e s h = absurd (false≢true (sym (ap not (sym (ap (is_among us) (same_is v w s)) ∙ e)) ∙ h))
not_same_by us v w false e s h = refl

among_end : (us : List Variable) (v w : Variable) → is_among (us ++ v ∷ []) w ≡ (is_among us w || same_variable w v)
among_end [] v w = or_false (same_variable w v)
  where
    or_false : (b : Bool) → (b || false) ≡ b
    or_false true = refl
    or_false false = refl
among_end (u ∷ us) v w = ap (λ b. same_variable w u || b) (among_end us v w) ∙ or_assoc (same_variable w u) (is_among us w) (same_variable w v)
  where
    or_assoc : (a b c : Bool) → (a || (b || c)) ≡ ((a || b) || c)
    or_assoc true b c = refl
    or_assoc false b c = refl

pub same_swap : (v w : Variable) (b c : Bool) → same_variable v w ≡ b → same_variable w v ≡ c → b ≡ c
same_swap v w true true e f = refl
same_swap v w false false e f = refl
same_swap v w true false e f = sym (same_self v) ∙ ap (λ x. same_variable x v) (same_is v w e) ∙ f
same_swap v w false true e f = sym (sym (same_self w) ∙ ap (λ x. same_variable x w) (same_is w v f) ∙ e)

neither : (a b c : Bool) → b ≡ c → not (a || b) ≡ (not c && not a)
neither true true true e = refl
neither true false false e = refl
neither false true true e = refl
neither false false false e = refl
neither a true false e = absurd (false≢true (sym e))
neither a false true e = absurd (false≢true e)

-- the known ones, and then those that are further
by_known : (us vs : List Variable) (v : Variable) (b : Bool) → is_among us v ≡ b → with_variables us vs ≡ us ++ filter (unknown us) (once vs) → with_variables (us ++ v ∷ []) vs ≡ (us ++ v ∷ []) ++ filter (unknown (us ++ v ∷ [])) (once vs)
    → with_variables (if b then us else us ++ v ∷ []) vs ≡ us ++ cond (not b) (v ∷ filter (unknown us) (filter (differs v) (once vs))) (filter (unknown us) (filter (differs v) (once vs)))
by_known us vs v true e h k = h ∙ ap (λ ws. us ++ ws) (sym (filter_within (unknown us) (differs v) (λ w g. not_same_by us v w (same_variable v w) e refl g) (once vs)))
by_known us vs v false e h k =
    k ∙ append_assoc us (v ∷ []) (filter (unknown (us ++ v ∷ [])) (once vs))
    ∙ ap (λ ws. us ++ (v ∷ ws)) (filter_agree (unknown (us ++ v ∷ [])) (λ w. differs v w && unknown us w) (λ w. ap not (among_end us v w) ∙ neither (is_among us w) (same_variable w v) (same_variable v w) (same_swap w v (same_variable w v) (same_variable v w) refl refl)) (once vs)
    ∙ sym (filter_both (unknown us) (differs v) (once vs)))

with_front : (us vs : List Variable) → with_variables us vs ≡ us ++ filter (unknown us) (once vs)
with_front us [] = sym (append-nil us)
with_front us (v ∷ vs) = by_known us vs v (is_among us v) refl (with_front us vs) (with_front (us ++ v ∷ []) vs)

all_pass : {X : Type 0} (p : X → Bool) → ((x : X) → p x ≡ true) → (xs : List X) → filter p xs ≡ xs
all_pass p h [] = refl
all_pass p h (x ∷ xs) = ap (λ b. cond b (x ∷ filter p xs) (filter p xs)) (h x) ∙ ap (λ ys. x ∷ ys) (all_pass p h xs)

-- both ways to hold each variable once are one
pub once_is : (vs : List Variable) → each_once vs ≡ once vs
once_is vs = with_front [] vs ∙ all_pass (unknown []) (λ w. refl) (once vs)

-- ---- lists of lists that hold each once

or_true : (b : Bool) → (b || true) ≡ true
or_true true = refl
or_true false = refl

more_by : (us xs : List Variable) (x : Variable) (b : Bool) → is_among xs x ≡ b → with_variables us (if b then xs else xs ++ x ∷ []) ≡ with_variable (with_variables us xs) x
more_by us xs x true e = sym (with_known (with_variables us xs) x (is_among-with_variables us xs x ∙ ap (λ b. is_among us x || b) e ∙ or_true (is_among us x)))
more_by us xs x false e = with_variables-append us xs (x ∷ [])

with_more : (us xs vs : List Variable) → with_variables us (with_variables xs vs) ≡ with_variables (with_variables us xs) vs
with_more us xs [] = refl
with_more us xs (v ∷ vs) = with_more us (with_variable xs v) vs ∙ ap (λ ws. with_variables ws vs) (more_by us xs v (is_among xs v) refl)

-- what is held once adds what the list adds
pub with_once : (us vs : List Variable) → with_variables us (each_once vs) ≡ with_variables us vs
with_once us vs = with_more us [] vs

-- all of them but one
once_by : (p : Variable → Bool) (v : Variable) (b : Bool) (vs ws : List Variable) → p v ≡ b → once vs ≡ filter p ws → once (cond b (v ∷ vs) vs) ≡ cond b (v ∷ filter p (filter (differs v) ws)) (filter p (filter (differs v) ws))
once_by p v true vs ws e h = ap (λ xs. v ∷ xs) (ap (filter (differs v)) h ∙ filter_swap (differs v) p ws)
once_by p v false vs ws e h = h ∙ sym (filter_within p (differs v) (λ w k. other w (same_variable v w) refl k) ws)
  where
    other : (w : Variable) (c : Bool) → same_variable v w ≡ c → p w ≡ true → not c ≡ true
    other w true s k = absurd (false≢true (sym (ap p (sym (same_is v w s)) ∙ e) ∙ k))
    other w false s k = refl

-- those that pass, each once
pub once_filter : (p : Variable → Bool) (vs : List Variable) → once (filter p vs) ≡ filter p (once vs)
once_filter p [] = refl
once_filter p (v ∷ vs) = once_by p v (p v) (filter p vs) (once vs) refl (once_filter p vs)

-- the same of the program's way
pub each_once_filter : (p : Variable → Bool) (vs : List Variable) → each_once (filter p vs) ≡ filter p (each_once vs)
each_once_filter p vs = once_is (filter p vs) ∙ once_filter p vs ∙ ap (filter p) (sym (once_is vs))

or_left : (a b : Bool) → a ≡ true → (a || b) ≡ true
or_left a b e = ap (λ c. c || b) e

or_right : (a b : Bool) → b ≡ true → (a || b) ≡ true
or_right a b e = ap (λ c. a || c) e ∙ or_true a

all_known : (us vs : List Variable) → ((x : Variable) → is_among vs x ≡ true → is_among us x ≡ true) → with_variables us vs ≡ us
all_known us [] h = refl
all_known us (v ∷ vs) h =
    ap (λ ws. with_variables ws vs) (with_known us v (h v (or_left (same_variable v v) (is_among vs v) (same_self v))))
    ∙ all_known us vs (λ x k. h x (or_right (same_variable x v) (is_among vs x) k))

-- what is known adds nothing
pub adds_known : (us vs : List Variable) → with_variables (with_variables us vs) vs ≡ with_variables us vs
adds_known us vs = all_known (with_variables us vs) vs (λ x h. is_among-with_variables us vs x ∙ ap (λ b. is_among us x || b) h ∙ or_true (is_among us x))
