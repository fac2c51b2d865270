-- Core forms of the members of a vector, and of a head's columns.
use Rattle.std.proofs.Common.{◌≡◌, ℕ, ◌+◌, ◌<◌, true, false, List, [], ◌∷◌, ◌++◌, Vec, Global, refl, ap, sym, ◌∙◌, length, take, get_or}
use Rattle.std.proofs.lemmas.Bool.{true≢false}
use Rattle.std.proofs.lemmas.List.{take_more}
use Rattle.lrp_model.specs.Texts.{Identifier}
use Rattle.lrp_model.specs.Sorts.{is_time}
use Rattle.lrp_model.specs.Formulas.{Form, Forms, sorted, conjunction, no_forms, form, joined}
use Rattle.lrp_model.specs.Core.{conjuncts, all_conjuncts, column_elements, head_elements, and_list}
use Rattle.lrp_model.specs.declared.relations.Sort.{Sort}
use Rattle.lrp_model.specs.declared.relations.Sort.TheVariants.{Time, Data, Named}
use Rattle.lrp_model.specs.declared.relations.Column.{Column}
use Rattle.lrp_core.proofs.CoreViews.{core_of-And, cores_of-append, joined_none, joined_assoc}
use Rattle.lrp_core.specs.Cores.{core_of, cores_of}
use Rattle.lrp_core.specs.declared.core_forms.Core.{Core, And}

-- the sort elements of a head, column by column
head_elements-append : (cs ds : List Column) → head_elements (cs ++ ds) ≡ joined (head_elements cs) (head_elements ds)
head_elements-append [] ds = refl
head_elements-append (c ∷ cs) ds = ap (joined (column_elements c.sort c.name)) (head_elements-append cs ds) ∙ sym (joined_assoc (column_elements c.sort c.name) (head_elements cs) (head_elements ds))

-- the sort elements of one column more
pub head_elements-step : (cs : List Column) (made now : List Core) (i : ℕ) (c : Column) → i < length cs → c ≡ get_or cs i c → cores_of made ≡ head_elements (take i cs) → cores_of now ≡ joined (cores_of made) (column_elements c.sort c.name) → cores_of now ≡ head_elements (take (i + 1) cs)
head_elements-step cs made now i c lt is before step =
    step ∙ ap (λ x. joined x (column_elements c.sort c.name)) before ∙ ap (joined (head_elements (take i cs))) (sym (joined_none (column_elements c.sort c.name)))
    ∙ sym (ap head_elements (take_more cs i c lt ∙ ap (λ x. take i cs ++ x ∷ []) (sym is)) ∙ head_elements-append (take i cs) (c ∷ []))

-- a sort element is no `and`
column_elements-plain : (s : Sort) (v : Identifier) (fs : Forms) → all_conjuncts (joined (column_elements s v) fs) ≡ joined (column_elements s v) (all_conjuncts fs)
column_elements-plain Time v fs = refl
column_elements-plain Data v fs = refl
column_elements-plain (Named name) v fs = refl

-- sort elements before a list stay as they are when its inner lists are taken apart
head_elements-plain : (cs : List Column) (fs : Forms) → all_conjuncts (joined (head_elements cs) fs) ≡ joined (head_elements cs) (all_conjuncts fs)
head_elements-plain [] fs = refl
head_elements-plain (c ∷ cs) fs =
    ap all_conjuncts (joined_assoc (column_elements c.sort c.name) (head_elements cs) fs) ∙ column_elements-plain c.sort c.name (joined (head_elements cs) fs)
    ∙ ap (joined (column_elements c.sort c.name)) (head_elements-plain cs fs) ∙ sym (joined_assoc (column_elements c.sort c.name) (head_elements cs) (all_conjuncts fs))

-- the sort elements of a head and then the elements of a formula are the `and` of both
pub guarded-And : (cs : List Column) (made : List Core) (v : Vec Core Global) (body : Form) → cores_of made ≡ head_elements cs → cores_of v.items ≡ joined (cores_of made) (conjuncts body) → core_of (And v) ≡ and_list (joined (head_elements cs) (form body no_forms))
guarded-And cs made v body before step =
    core_of-And v ∙ ap conjunction (step ∙ ap (λ x. joined x (conjuncts body)) before ∙ ap (joined (head_elements cs)) (sym (joined_none (conjuncts body))) ∙ sym (head_elements-plain cs (form body no_forms)))

-- a data column has a sort element
pub column_elements-data : (made now : List Core) (one : Core) (s : Sort) (v : Identifier) → is_time s ≡ false → core_of one ≡ sorted s v → now ≡ made ++ one ∷ [] → cores_of now ≡ joined (cores_of made) (column_elements s v)
column_elements-data made now one Time v not_time is e = absurd (true≢false not_time)
column_elements-data made now one Data v not_time is e = ap cores_of e ∙ cores_of-append made (one ∷ []) ∙ ap (λ x. joined (cores_of made) (form x no_forms)) is
column_elements-data made now one (Named name) v not_time is e = ap cores_of e ∙ cores_of-append made (one ∷ []) ∙ ap (λ x. joined (cores_of made) (form x no_forms)) is

-- a time column adds nothing
pub column_elements-time : (made : List Core) (s : Sort) (v : Identifier) → is_time s ≡ true → cores_of made ≡ joined (cores_of made) (column_elements s v)
column_elements-time made Time v time = sym (joined_none (cores_of made))
column_elements-time made Data v time = absurd (true≢false (sym time))
column_elements-time made (Named name) v time = absurd (true≢false (sym time))
