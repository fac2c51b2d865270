-- Lists with the same variables, as they grow and as they are cut.
use Rattle.std.proofs.Common.{◌≡◌, Bool, true, false, cond, not, ◌&&◌, ◌||◌, List, [], ◌∷◌, ◌++◌, filter, flat_map, refl, sym, ap, ◌∙◌}
use Rattle.std.specs.List.{AllZip}
use Rattle.std.proofs.lemmas.Bool.{false≢true}
use Rattle.lrp_model.specs.Variables.{Variable, same_variable, is_among}
use Rattle.lrp_core.specs.FreeVariables.{each_once}
use Rattle.lrp_core.proofs.VariableLists.{is_among-each_once}
use Rattle.lrp_plan.specs.Taking.{HaveSame}
use Rattle.lrp_plan.proofs.Members.{among_append}
use Rattle.lrp_guarded.proofs.OnceEach.{same_is}

pub same_all : (vs : List Variable) → HaveSame vs vs
same_all vs = record { each = λ v. refl }

pub same_from : (vs ws : List Variable) → vs ≡ ws → HaveSame vs ws
same_from vs ws e = record { each = λ v. ap (λ us. is_among us v) e }

pub same_back : (vs ws : List Variable) → HaveSame vs ws → HaveSame ws vs
same_back vs ws h = record { each = λ v. sym (h.each v) }

pub same_then : (us vs ws : List Variable) → HaveSame us vs → HaveSame vs ws → HaveSame us ws
same_then us vs ws h k = record { each = λ v. h.each v ∙ k.each v }

pub same_once : (vs ws : List Variable) → vs ≡ each_once ws → HaveSame vs ws
same_once vs ws e = record { each = λ v. ap (λ us. is_among us v) e ∙ is_among-each_once ws v }

pub same_both : (us vs ws xs : List Variable) → HaveSame us vs → HaveSame ws xs → HaveSame (us ++ ws) (vs ++ xs)
same_both us vs ws xs h k = record { each = λ v. among_append us ws v ∙ ap (λ b. b || is_among ws v) (h.each v) ∙ ap (λ b. is_among vs v || b) (k.each v) ∙ sym (among_append vs xs v) }

among_by : (p : Variable → Bool) (v x : Variable) (s b : Bool) (xs ys : List Variable) → same_variable v x ≡ s → p x ≡ b → is_among ys v ≡ (is_among xs v && p v) → is_among (cond b (x ∷ ys) ys) v ≡ ((s || is_among xs v) && p v)
among_by p v x true true xs ys e f h = ap (λ c. c || is_among ys v) e ∙ sym (ap p (same_is v x e) ∙ f)
among_by p v x true false xs ys e f h = h ∙ both_false (is_among xs v) (p v) (ap p (same_is v x e) ∙ f) ∙ sym (ap p (same_is v x e) ∙ f)
  where
    both_false : (a b : Bool) → b ≡ false → (a && b) ≡ false
    both_false true b e = e
    both_false false b e = refl
among_by p v x false true xs ys e f h = ap (λ c. c || is_among ys v) e ∙ h
among_by p v x false false xs ys e f h = h

-- the members of a list that pass
pub among_filter : (p : Variable → Bool) (xs : List Variable) (v : Variable) → is_among (filter p xs) v ≡ (is_among xs v && p v)
among_filter p [] v = refl
among_filter p (x ∷ xs) v = among_by p v x (same_variable v x) (p x) xs (filter p xs) refl refl (among_filter p xs v) ∙ ap (λ s. (s || is_among xs v) && p v) refl

pub same_filter : (p q : Variable → Bool) (xs ys : List Variable) → ((v : Variable) → p v ≡ q v) → HaveSame xs ys → HaveSame (filter p xs) (filter q ys)
same_filter p q xs ys a h = record { each = λ v. among_filter p xs v ∙ ap (λ b. b && p v) (h.each v) ∙ ap (λ b. is_among ys v && b) (a v) ∙ sym (among_filter q ys v) }

-- those of lists of elements
pub same_flat : {A B : Type 0} (R : A → B → Type 0) (f : A → List Variable) (g : B → List Variable) → ((x : A) (y : B) → R x y → HaveSame (f x) (g y)) → (xs : List A) (ys : List B) → AllZip R xs ys → HaveSame (flat_map f xs) (flat_map g ys)
same_flat R f g h [] [] k = same_all []
same_flat R f g h [] (y ∷ ys) k = absurd k
same_flat R f g h (x ∷ xs) [] k = absurd k
same_flat R f g h (x ∷ xs) (y ∷ ys) k = same_both (f x) (g y) (flat_map f xs) (flat_map g ys) (h x y k.0) (same_flat R f g h xs ys k.1)
