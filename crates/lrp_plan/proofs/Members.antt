-- Tests of variables see their members alone.
use Rattle.std.proofs.Common.{◌≡◌, Bool, true, false, ◌||◌, ◌&&◌, List, [], ◌∷◌, ◌++◌, refl, sym, ap, ◌∙◌}
use Rattle.std.specs.List.{list_any, list_all}
use Rattle.lrp_model.specs.Variables.{Variable, time_variable, data_variable, same_variable, is_among, are_among, meet}
use Rattle.std.specs.Cmp.Lexicographic.{bytes_decides}
use Rattle.lrp_plan_laws.proofs.CoreLaws.{own_name}
use Rattle.lrp_core.specs.FreeVariables.{with_variables}
use Rattle.lrp_core.proofs.VariableLists.{is_among-with_variables, are_among-members, meet-members}
use Rattle.lrp_plan.specs.Taking.{HaveSame}

-- ---- one variable is itself

same_is : (v w : Variable) → same_variable v w ≡ true → v ≡ w
same_is (time_variable v) (time_variable w) e = ap time_variable ((bytes_decides v w).0 e)
same_is (data_variable v) (data_variable w) e = ap data_variable ((bytes_decides v w).0 e)
same_is (time_variable v) (data_variable w) e = cc
same_is (data_variable v) (time_variable w) e = cc

same_self : (v : Variable) → same_variable v v ≡ true
same_self (time_variable v) = own_name v
same_self (data_variable v) = own_name v

-- ---- tests of a list

or_left : (a b : Bool) → a ≡ true → (a || b) ≡ true
or_left true b e = refl
or_left false b e = cc

or_right : (a b : Bool) → b ≡ true → (a || b) ≡ true
or_right true b e = refl
or_right false b e = e

or_cases : (p : Variable → Bool) (a b : Bool) (v w : Variable) → (a || b) ≡ true → (a ≡ true → w ≡ v) → p v ≡ true → (b ≡ true → p w ≡ true) → p w ≡ true
or_cases p true b v w e f h g = ap p (f refl) ∙ h
or_cases p false b v w e f h g = g e

and_first : (a b : Bool) → (a && b) ≡ true → a ≡ true
and_first true b e = refl
and_first false b e = e

and_second : (a b : Bool) → (a && b) ≡ true → b ≡ true
and_second true b e = e
and_second false b e = cc

and_both : (a b : Bool) → a ≡ true → b ≡ true → (a && b) ≡ true
and_both true b e f = f
and_both false b e f = cc

-- where all pass, each member passes
all_pass : (p : Variable → Bool) (vs : List Variable) → list_all p vs ≡ true → (w : Variable) → is_among vs w ≡ true → p w ≡ true
all_pass p [] h w m = cc
all_pass p (v ∷ vs) h w m = or_cases p (same_variable w v) (is_among vs w) v w m (λ e. same_is w v e) (and_first (p v) (list_all p vs) h) (λ m'. all_pass p vs (and_second (p v) (list_all p vs) h) w m')

-- where each member passes, all pass
pass_all : (p : Variable → Bool) (vs : List Variable) → ((w : Variable) → is_among vs w ≡ true → p w ≡ true) → list_all p vs ≡ true
pass_all p [] h = refl
pass_all p (v ∷ vs) h = and_both (p v) (list_all p vs) (h v (or_left (same_variable v v) (is_among vs v) (same_self v))) (pass_all p vs (λ w m. h w (or_right (same_variable w v) (is_among vs w) m)))

same_bool : (a b : Bool) → (a ≡ true → b ≡ true) → (b ≡ true → a ≡ true) → a ≡ b
same_bool true b f g = sym (f refl)
same_bool false true f g = g refl
same_bool false false f g = refl

-- some member passes
any_by : (p : Variable → Bool) (v : Variable) (vs : List Variable) (b : Bool) → p v ≡ b → (b || list_any p vs) ≡ true → (list_any p vs ≡ true → (w : Variable) × (is_among vs w ≡ true) × (p w ≡ true)) → (w : Variable) × (is_among (v ∷ vs) w ≡ true) × (p w ≡ true)
any_by p v vs true e k ih = (v, or_left (same_variable v v) (is_among vs v) (same_self v), e)
any_by p v vs false e k ih = let r = ih k in (r.0, or_right (same_variable r.0 v) (is_among vs r.0) r.1, r.2)

any_pass : (p : Variable → Bool) (vs : List Variable) → list_any p vs ≡ true → (w : Variable) × (is_among vs w ≡ true) × (p w ≡ true)
any_pass p [] h = cc
any_pass p (v ∷ vs) h = any_by p v vs (p v) refl h (λ k. any_pass p vs k)

pass_by : (p : Variable → Bool) (v w : Variable) (vs : List Variable) (b : Bool) → same_variable w v ≡ b → (b || is_among vs w) ≡ true → p w ≡ true → (is_among vs w ≡ true → list_any p vs ≡ true) → (p v || list_any p vs) ≡ true
pass_by p v w vs true e k h ih = or_left (p v) (list_any p vs) (ap p (sym (same_is w v e)) ∙ h)
pass_by p v w vs false e k h ih = or_right (p v) (list_any p vs) (ih k)

pass_any : (p : Variable → Bool) (vs : List Variable) (w : Variable) → is_among vs w ≡ true → p w ≡ true → list_any p vs ≡ true
pass_any p [] w m h = cc
pass_any p (v ∷ vs) w m h = pass_by p v w vs (same_variable w v) refl m h (λ k. pass_any p vs w k h)

-- ---- by members alone

pub are_among_same : (vs us ws xs : List Variable) → HaveSame vs us → HaveSame ws xs → are_among vs ws ≡ are_among us xs
are_among_same vs us ws xs h k =
    same_bool (are_among vs ws) (are_among us ws)
    (λ a. pass_all (is_among ws) us (λ w m. all_pass (is_among ws) vs a w (h.each w ∙ m)))
    (λ a. pass_all (is_among ws) vs (λ w m. all_pass (is_among ws) us a w (sym (h.each w) ∙ m)))
    ∙ are_among-members us ws xs k.each

pub meet_same : (vs us ws xs : List Variable) → HaveSame vs us → HaveSame ws xs → meet vs ws ≡ meet us xs
meet_same vs us ws xs h k =
    same_bool (meet vs ws) (meet us ws)
    (λ a. let r = any_pass (is_among ws) vs a in pass_any (is_among ws) us r.0 (sym (h.each r.0) ∙ r.1) r.2)
    (λ a. let r = any_pass (is_among ws) us a in pass_any (is_among ws) vs r.0 (h.each r.0 ∙ r.1) r.2)
    ∙ meet-members us ws xs k.each

or_assoc : (a b c : Bool) → (a || b) || c ≡ a || (b || c)
or_assoc true b c = refl
or_assoc false b c = refl

pub among_append : (vs ws : List Variable) (x : Variable) → is_among (vs ++ ws) x ≡ (is_among vs x || is_among ws x)
among_append [] ws x = refl
among_append (v ∷ vs) ws x = ap (λ b. same_variable x v || b) (among_append vs ws x) ∙ sym (or_assoc (same_variable x v) (is_among vs x) (is_among ws x))

-- further variables, on both sides
pub more_same : (vs us ws xs : List Variable) → HaveSame vs us → HaveSame ws xs → HaveSame (with_variables vs ws) (us ++ xs)
more_same vs us ws xs h k = record { each = λ x. is_among-with_variables vs ws x ∙ ap (λ b. b || is_among ws x) (h.each x) ∙ ap (λ b. is_among us x || b) (k.each x) ∙ sym (among_append us xs x) }
