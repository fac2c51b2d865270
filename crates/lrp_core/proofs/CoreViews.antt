-- The formula of a core form whose members stand in a vector, and lists of members as they grow.
use Rattle.std.proofs.Common.{◌≡◌, subst, List, [], ◌∷◌, ◌++◌, Vec, Global, refl, ap, sym, ◌∙◌, rules}
use Rattle.lrp_model.specs.Formulas.{Forms, conjunction, disjunction, no_forms, form, joined}
use Rattle.lrp_model.specs.Core.{conjuncts, disjuncts}
use Rattle.lrp_core.specs.Cores.{core_of, cores_of, row_cores}
use Rattle.lrp_core.specs.declared.core_forms.Core.{Core, And, Or, the_lemmas, Row_of-Core, end_of-Core, more_of-Core, items-the_row-Core, roll-Core, out-Core, roll-out-Core}
use Rattle.lrp_core.specs.declared.core_forms.Core.TheOpen.{Core-F}
use Rattle.lrp_core.specs.declared.core_forms.Core.TheVariants.{rolls-And, rolls-Or}

-- the members in a row are those of the list
row_cores-items : (n : _) (k : Row_of-Core n) → row_cores k ≡ cores_of (items-the_row-Core n k)
row_cores-items _ end_of-Core = refl
row_cores-items _ (more_of-Core f rest) = ap (form (core_of f)) (row_cores-items _ rest)

-- an `and` is that of the vector's members
pub core_of-And : (v : Vec Core Global) → core_of (And v) ≡ conjunction (cores_of v.items)
core_of-And v = search (rules, the_lemmas, row_cores-items)

-- the same for an `or`
pub core_of-Or : (v : Vec Core Global) → core_of (Or v) ≡ disjunction (cores_of v.items)
core_of-Or v = search (rules, the_lemmas, row_cores-items)

-- two lists, one after the other
pub cores_of-append : (fs gs : List Core) → cores_of (fs ++ gs) ≡ joined (cores_of fs) (cores_of gs)
cores_of-append [] gs = refl
cores_of-append (f ∷ fs) gs = ap (form (core_of f)) (cores_of-append fs gs)

-- nothing after a list leaves it as it is
pub joined_none : (fs : Forms) → joined fs no_forms ≡ fs
joined_none no_forms = refl
joined_none (form f fs) = ap (form f) (joined_none fs)

-- three lists, one after the other
pub joined_assoc : (fs gs hs : Forms) → joined (joined fs gs) hs ≡ joined fs (joined gs hs)
joined_assoc no_forms gs hs = refl
joined_assoc (form f fs) gs hs = ap (form f) (joined_assoc fs gs hs)

-- a core form that is no `and` is one element of an `and`
one_conjunct : (layer : Core-F Core) → ((v : Vec Core Global) → roll-Core layer ≡ And v → ⊥) → conjuncts (core_of (roll-Core layer)) ≡ form (core_of (roll-Core layer)) no_forms
unfolding roll-Core denote.Hole.Carrier.roll
one_conjunct (Core-F.And v) other = absurd (other v (rolls-And v))
one_conjunct (Core-F.Atom r ts) other = refl
one_conjunct (Core-F.Check t) other = refl
one_conjunct (Core-F.Sorted s v) other = refl
one_conjunct (Core-F.Not f) other = refl
one_conjunct (Core-F.Or v) other = refl
one_conjunct (Core-F.Exists v s f) other = refl

-- and one that is no `or` is one element of an `or`
one_disjunct : (layer : Core-F Core) → ((v : Vec Core Global) → roll-Core layer ≡ Or v → ⊥) → disjuncts (core_of (roll-Core layer)) ≡ form (core_of (roll-Core layer)) no_forms
unfolding roll-Core denote.Hole.Carrier.roll
one_disjunct (Core-F.Or v) other = absurd (other v (rolls-Or v))
one_disjunct (Core-F.Atom r ts) other = refl
one_disjunct (Core-F.Check t) other = refl
one_disjunct (Core-F.Sorted s v) other = refl
one_disjunct (Core-F.Not f) other = refl
one_disjunct (Core-F.And v) other = refl
one_disjunct (Core-F.Exists v s f) other = refl

-- an `and` in an `and` is added by its elements
pub conjuncts_added : (fs gs : List Core) (f : Core) (v : Vec Core Global) → f ≡ And v → gs ≡ fs ++ v.items → cores_of gs ≡ joined (cores_of fs) (conjuncts (core_of f))
conjuncts_added fs gs f v is e = ap cores_of e ∙ cores_of-append fs v.items ∙ ap (joined (cores_of fs)) (sym (ap (λ x. conjuncts (core_of x)) is ∙ ap conjuncts (core_of-And v)))

-- and any other core form as it is
pub conjunct_added : (fs gs : List Core) (f : Core) → ((v : Vec Core Global) → f ≡ And v → ⊥) → gs ≡ fs ++ f ∷ [] → cores_of gs ≡ joined (cores_of fs) (conjuncts (core_of f))
conjunct_added fs gs f other e =
    let one : conjuncts (core_of f) ≡ form (core_of f) no_forms = subst (λ g. conjuncts (core_of g) ≡ form (core_of g) no_forms) (roll-out-Core f) (one_conjunct (out-Core f) (λ v is. other v (sym (roll-out-Core f) ∙ is))) in
    ap cores_of e ∙ cores_of-append fs (f ∷ []) ∙ ap (joined (cores_of fs)) (sym one)

-- the same for an `or`
pub disjuncts_added : (fs gs : List Core) (f : Core) (v : Vec Core Global) → f ≡ Or v → gs ≡ fs ++ v.items → cores_of gs ≡ joined (cores_of fs) (disjuncts (core_of f))
disjuncts_added fs gs f v is e = ap cores_of e ∙ cores_of-append fs v.items ∙ ap (joined (cores_of fs)) (sym (ap (λ x. disjuncts (core_of x)) is ∙ ap disjuncts (core_of-Or v)))

-- and any other core form as it is, in an `or`
pub disjunct_added : (fs gs : List Core) (f : Core) → ((v : Vec Core Global) → f ≡ Or v → ⊥) → gs ≡ fs ++ f ∷ [] → cores_of gs ≡ joined (cores_of fs) (disjuncts (core_of f))
disjunct_added fs gs f other e =
    let one : disjuncts (core_of f) ≡ form (core_of f) no_forms = subst (λ g. disjuncts (core_of g) ≡ form (core_of g) no_forms) (roll-out-Core f) (one_disjunct (out-Core f) (λ v is. other v (sym (roll-out-Core f) ∙ is))) in
    ap cores_of e ∙ cores_of-append fs (f ∷ []) ∙ ap (joined (cores_of fs)) (sym one)
