-- Forms that are joined, and lists of elements as they grow.
use Rattle.std.proofs.Common.{◌≡◌, List, [], refl, ap, sym, ◌∙◌}
use Rattle.lrp_model.specs.Formulas.{Form, Forms, no_forms, form, joined}
use Rattle.lrp_model.specs.Core.{conjuncts, disjuncts, all_conjuncts, all_disjuncts}
use Rattle.lrp_core.specs.Cores.{cores_of}
use Rattle.lrp_core.specs.Junctions.{junction_of, elements, all_elements, two_of}
use Rattle.lrp_core.specs.declared.core_forms.Core.{Core}
use Rattle.lrp_core.specs.declared.junctions.Junction.{Junction}
use Rattle.lrp_core.specs.declared.junctions.Junction.TheVariants.{And, Or}
use Rattle.lrp_core.proofs.CoreViews.{joined_none, joined_assoc}

-- elements are added one after the other
all_elements-joined : (j : Junction) (fs gs : Forms) → all_elements j (joined fs gs) ≡ joined (all_elements j fs) (all_elements j gs)
all_elements-joined And no_forms gs = refl
all_elements-joined And (form f fs) gs = ap (joined (conjuncts f)) (all_elements-joined And fs gs) ∙ sym (joined_assoc (conjuncts f) (all_conjuncts fs) (all_conjuncts gs))
all_elements-joined Or no_forms gs = refl
all_elements-joined Or (form f fs) gs = ap (joined (disjuncts f)) (all_elements-joined Or fs gs) ∙ sym (joined_assoc (disjuncts f) (all_disjuncts fs) (all_disjuncts gs))

-- those of one form
all_elements-one : (j : Junction) (f : Form) → all_elements j (form f no_forms) ≡ elements j f
all_elements-one And f = joined_none (conjuncts f)
all_elements-one Or f = joined_none (disjuncts f)

-- the elements of a further formula, after those of the formulas before
pub elements-more : (j : Junction) (start gs hs : Forms) (f : Form) (made more : Forms) → gs ≡ joined start (all_elements j made) → hs ≡ joined gs (elements j f) → more ≡ joined made (form f no_forms) → hs ≡ joined start (all_elements j more)
elements-more j start gs hs f made more before step e =
    step ∙ ap (λ x. joined x (elements j f)) before ∙ joined_assoc start (all_elements j made) (elements j f)
    ∙ ap (joined start) (ap (joined (all_elements j made)) (sym (all_elements-one j f)) ∙ sym (all_elements-joined j made (form f no_forms)) ∙ sym (ap (all_elements j) e))

-- two forms, from no elements on
pub two-joined : (j : Junction) (none one two : List Core) (f g made : Form) → none ≡ [] → cores_of one ≡ joined (cores_of none) (elements j f) → cores_of two ≡ joined (cores_of one) (elements j g) → made ≡ junction_of j (cores_of two) → made ≡ two_of j f g
two-joined j none one two f g made start first second e =
    e ∙ ap (junction_of j) (second ∙ ap (λ x. joined x (elements j g)) (first ∙ ap (λ x. joined (cores_of x) (elements j f)) start) ∙ ap (λ x. joined x (elements j g)) (sym (all_elements-one j f))
    ∙ ap (joined (all_elements j (form f no_forms))) (sym (all_elements-one j g)) ∙ sym (all_elements-joined j (form f no_forms) (form g no_forms)))
