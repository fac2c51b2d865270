-- The variables that a core form binds.
use Rattle.std.proofs.Common.{◌≡◌, ◌+◌, ◌<◌, ℕ, Bool, true, false, not, ◌&&◌, ◌||◌, List, [], ◌∷◌, ◌++◌, length, take, get_or, map, filter, Option, Some, None, unwrap_or, Result, Ok, Err, refl, sym, ap, subst, ◌∙◌, append-nil}
use Rattle.std.specs.Result.{IfOk}
use Rattle.std.proofs.lemmas.List.{take_more}
use Rattle.lrp_core.specs.Cores.{core_of, cores_of}
use Rattle.lrp_core.specs.FreeVariables.{variable_of, with_variables}
use Rattle.lrp_core.specs.declared.core_forms.Core.{Core}
use Rattle.lrp_core.specs.declared.variables.Variable.{Variable as ProgramVariable}
use Rattle.lrp_core.proofs.CoreViews.{cores_of-append}
use Rattle.lrp_model.specs.Texts.{Identifier}
use Rattle.lrp_model.specs.Formulas.{Form, Forms, exists, form, no_forms, joined}
use Rattle.lrp_model.specs.Variables.{Variable, bound_by, same_variable, is_among, are_among, meet, free}
use Rattle.lrp_model.specs.declared.relations.Sort.{Sort}
use Rattle.lrp_plan_laws.specs.Binding.{binds, binds_some, binds_each, is_bound, is_guarded_by}
use Rattle.lrp_plan.specs.Taking.{HaveSame}
use Rattle.lrp_plan.proofs.Members.{are_among_same, meet_same, more_same, among_append}
use Rattle.lrp_guarded.proofs.Same.{same_all, same_from, same_then, same_both, same_filter, among_filter}

-- a formula that binds what is free in it
pub leaf_bound : {E : Type 0} (r : Result (List ProgramVariable) E) (f g : Form) → f ≡ g → binds g ≡ free g → IfOk r (λ made. (v : Variable) → is_among (map variable_of made) v ≡ is_among (free f) v) → IfOk r (λ made. HaveSame (map variable_of made) (binds f))
leaf_bound (Ok made) f g e b h = record { each = λ v. h v ∙ ap (λ x. is_among (free x) v) e ∙ ap (λ us. is_among us v) (sym b) ∙ ap (λ x. is_among (binds x) v) (sym e) }
leaf_bound (Err x) f g e b h = tt

-- one that binds nothing
pub nothing_bound : (made : List ProgramVariable) (f g : Form) → f ≡ g → binds g ≡ [] → made ≡ [] → HaveSame (map variable_of made) (binds f)
nothing_bound made f g e b m = same_from (map variable_of made) (binds f) (ap (map variable_of) m ∙ sym b ∙ ap binds (sym e))

-- the same, of another form
pub as_bound : {E : Type 0} (r : Result (List ProgramVariable) E) (f : Form) (us : List Variable) → binds f ≡ us → IfOk r (λ made. HaveSame (map variable_of made) us) → IfOk r (λ made. HaveSame (map variable_of made) (binds f))
as_bound r f us e h = subst (λ ws. IfOk r (λ made. HaveSame (map variable_of made) ws)) (sym e) h

-- a quantifier
pub exists_bound : {E : Type 0} (r : Result (List ProgramVariable) E) (f g : Form) (v : Identifier) (s : Sort) (inner given : List ProgramVariable) → f ≡ exists v s g → HaveSame (map variable_of inner) (binds g) → given ≡ inner
    → IfOk r (λ made. map variable_of made ≡ filter (λ w. not (same_variable (bound_by s v) w)) (map variable_of given)) → IfOk r (λ made. HaveSame (map variable_of made) (binds f))
exists_bound (Ok made) f g v s inner given e h i k =
    let p : Variable → Bool = λ w. not (same_variable (bound_by s v) w) in
    same_then (map variable_of made) (filter p (map variable_of inner)) (binds f)
    (same_from _ _ (k ∙ ap (λ us. filter p (map variable_of us)) i))
    (same_then (filter p (map variable_of inner)) (filter p (binds g)) (binds f) (same_filter p p (map variable_of inner) (binds g) (λ w. refl) h) (same_from _ _ (ap binds (sym e))))
exists_bound (Err x) f g v s inner given e h i k = tt

-- ---- `and`

some_push : (fs : Forms) (f : Form) → HaveSame (binds_some fs ++ binds f) (binds_some (joined fs (form f no_forms)))
some_push no_forms f = same_from (binds f) (binds f ++ []) (sym (append-nil (binds f)))
some_push (form g fs) f = record {
  each = λ v.
      among_append (binds g ++ binds_some fs) (binds f) v ∙ ap (λ b. b || is_among (binds f) v) (among_append (binds g) (binds_some fs) v)
      ∙ or_assoc (is_among (binds g) v) (is_among (binds_some fs) v) (is_among (binds f) v)
      ∙ ap (λ b. is_among (binds g) v || b) (sym (among_append (binds_some fs) (binds f) v) ∙ (some_push fs f).each v)
      ∙ sym (among_append (binds g) (binds_some (joined fs (form f no_forms))) v);
}
  where
    or_assoc : (a b c : Bool) → ((a || b) || c) ≡ (a || (b || c))
    or_assoc true b c = refl
    or_assoc false b c = refl

pub some_more : (fs : List Core) (i : ℕ) (core : Core) (old part slice new : List ProgramVariable) → i < length fs → core ≡ get_or fs i core → HaveSame (map variable_of old) (binds_some (cores_of (take i fs))) → HaveSame (map variable_of part) (binds (core_of core))
    → slice ≡ part → map variable_of new ≡ with_variables (map variable_of old) (map variable_of slice) → HaveSame (map variable_of new) (binds_some (cores_of (take (i + 1) fs)))
some_more fs i core old part slice new lt is h k s e =
    let gs : Forms = cores_of (take i fs) in
    subst (λ hs. HaveSame (map variable_of new) (binds_some hs)) (sym (ap cores_of (take_more fs i core lt ∙ ap (λ x. take i fs ++ x ∷ []) (sym is)) ∙ cores_of-append (take i fs) (core ∷ [])))
    (same_then (map variable_of new) (binds_some gs ++ binds (core_of core)) (binds_some (joined gs (form (core_of core) no_forms)))
    (same_then (map variable_of new) (with_variables (map variable_of old) (map variable_of part)) (binds_some gs ++ binds (core_of core)) (same_from _ _ (e ∙ ap (λ us. with_variables (map variable_of old) (map variable_of us)) s)) (more_same (map variable_of old) (binds_some gs) (map variable_of part) (binds (core_of core)) h k))
    (some_push gs (core_of core)))

-- ---- `or`

-- what each of the formulas so far binds, where there are some
pub record EachSoFar (fs : Forms) (all : Option (List ProgramVariable)) : Type 0 where
  pub none : all ≡ None → fs ≡ no_forms
  pub some : (vs : List ProgramVariable) → all ≡ Some vs → (fs ≡ no_forms → ⊥) × HaveSame (map variable_of vs) (binds_each fs)

pub each_none : EachSoFar no_forms None
each_none = record { none = λ e. refl; some = λ vs e. cc }

and_assoc : (a b c : Bool) → ((a && b) && c) ≡ (a && (b && c))
and_assoc true b c = refl
and_assoc false b c = refl

each_push : (fs : Forms) (f : Form) (v : Variable) → (fs ≡ no_forms → ⊥) → is_among (binds_each (joined fs (form f no_forms))) v ≡ (is_among (binds_each fs) v && is_among (binds f) v)
each_push no_forms f v n = absurd (n refl)
each_push (form g no_forms) f v n = among_filter (is_among (binds f)) (binds g) v
each_push (form g (form h hs)) f v n =
    among_filter (is_among (binds_each (joined (form h hs) (form f no_forms)))) (binds g) v
    ∙ ap (λ b. is_among (binds g) v && b) (each_push (form h hs) f v (λ e. cc))
    ∙ sym (and_assoc (is_among (binds g) v) (is_among (binds_each (form h hs)) v) (is_among (binds f) v))
    ∙ ap (λ b. b && is_among (binds f) v) (sym (among_filter (is_among (binds_each (form h hs))) (binds g) v))

joined_some : (fs : Forms) (f : Form) → joined fs (form f no_forms) ≡ no_forms → ⊥
joined_some no_forms f e = cc
joined_some (form g gs) f e = cc

pub each_more : (fs : List Core) (i : ℕ) (core : Core) (old : Option (List ProgramVariable)) (part made : List ProgramVariable) → i < length fs → core ≡ get_or fs i core → EachSoFar (cores_of (take i fs)) old → HaveSame (map variable_of part) (binds (core_of core))
    → (old ≡ None → made ≡ part) → ((vs : List ProgramVariable) → old ≡ Some vs → map variable_of made ≡ filter (is_among (map variable_of part)) (map variable_of vs)) → EachSoFar (cores_of (take (i + 1) fs)) (Some made)
each_more fs i core old part made lt is h k none some =
    subst (λ gs. EachSoFar gs (Some made)) (sym (ap cores_of (take_more fs i core lt ∙ ap (λ x. take i fs ++ x ∷ []) (sym is)) ∙ cores_of-append (take i fs) (core ∷ []))) (record {
      none = λ e. cc;
      some = λ vs e. (joined_some (cores_of (take i fs)) (core_of core), subst (λ us. HaveSame (map variable_of us) (binds_each (joined (cores_of (take i fs)) (form (core_of core) no_forms)))) (let d : made ≡ vs = cc in d) (by_old old refl));
    })
  where
    by_old : (o : Option (List ProgramVariable)) → old ≡ o → HaveSame (map variable_of made) (binds_each (joined (cores_of (take i fs)) (form (core_of core) no_forms)))
    by_old None e = same_then (map variable_of made) (binds (core_of core)) _ (subst (λ us. HaveSame (map variable_of us) (binds (core_of core))) (sym (none e)) k) (same_from _ _ (ap (λ gs. binds_each (joined gs (form (core_of core) no_forms))) (sym (h.none e))))
    by_old (Some vs) e =
        let s = h.some vs e in record {
          each = λ v.
              ap (λ us. is_among us v) (some vs e) ∙ among_filter (is_among (map variable_of part)) (map variable_of vs) v
              ∙ ap (λ b. b && is_among (map variable_of part) v) (s.1.each v) ∙ ap (λ b. is_among (binds_each (cores_of (take i fs))) v && b) (k.each v)
              ∙ sym (each_push (cores_of (take i fs)) (core_of core) v s.0);
        }

pub each_end : (fs : Forms) (all : Option (List ProgramVariable)) → EachSoFar fs all → HaveSame (map variable_of (unwrap_or all [])) (binds_each fs)
each_end fs None h = same_from [] (binds_each fs) (ap binds_each (sym (h.none refl)))
each_end fs (Some vs) h = (h.some vs refl).1

-- ---- guards

pub unshared : (f : Form) (variables columns : List ProgramVariable) (met : Bool) (vs : List Variable) → met ≡ meet (map variable_of variables) (map variable_of columns) → met ≡ false → HaveSame (map variable_of columns) vs → HaveSame (map variable_of variables) (free f) → false ≡ is_guarded_by vs f
unshared f variables columns met vs m e h k = sym (ap (λ b. not (is_bound f) && b) (sym (meet_same (map variable_of variables) (free f) (map variable_of columns) vs k h) ∙ sym m ∙ e) ∙ and_false (not (is_bound f)))
  where
    and_false : (b : Bool) → (b && false) ≡ false
    and_false true = refl
    and_false false = refl

pub guarded_so : (f : Form) (variables columns bound : List ProgramVariable) (met among : Bool) (vs : List Variable) → met ≡ meet (map variable_of variables) (map variable_of columns) → met ≡ true → HaveSame (map variable_of bound) (binds f) → among ≡ are_among (map variable_of variables) (map variable_of bound)
    → HaveSame (map variable_of columns) vs → HaveSame (map variable_of variables) (free f) → not among ≡ is_guarded_by vs f
guarded_so f variables columns bound met among vs m e b a h k =
    ap not (a ∙ are_among_same (map variable_of variables) (free f) (map variable_of bound) (binds f) k b)
    ∙ sym (ap (λ c. not (is_bound f) && c) (sym (meet_same (map variable_of variables) (free f) (map variable_of columns) vs k h) ∙ sym m ∙ e) ∙ and_true (not (is_bound f)))
  where
    and_true : (b : Bool) → (b && true) ≡ b
    and_true true = refl
    and_true false = refl
