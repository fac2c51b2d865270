-- A tuple's values are those of its assignment, column by column.
use Rattle.std.proofs.Common.{◌≡◌, ◌≢◌, Bool, true, false, cond, List, [], ◌∷◌, refl, sym, ap, ap₂, ◌∙◌, map, bytes_eq}
use Rattle.std.specs.List.{AllByRecursion}
use Rattle.std.specs.Cmp.Lexicographic.{bytes_decides}
use Rattle.lrp_model.specs.Texts.{Identifier}
use Rattle.lrp_model.specs.Rows.{Datum, time, text, times_of, texts_of}
use Rattle.lrp_model.specs.Satisfaction.{Assignment, IsOfKind, HasShape, HaveDistinctNames, assign, with_value}
use Rattle.lrp_model.specs.declared.relations.Sort.{Sort}
use Rattle.lrp_model.specs.declared.relations.Sort.TheVariants.{Time, Data, Named}
use Rattle.lrp_model.specs.declared.relations.Column.{Column}
use Rattle.lrp_tables.specs.Columns.{with_time_name, text_name, head_times, head_texts}

own_value : {A : Type 0} (v : Identifier) (x y : A) → cond (bytes_eq v v) x y ≡ x
own_value v x y = ap (λ b. cond b x y) ((bytes_decides v v).1 refl)

is_other : (b : Bool) (v w : Identifier) → bytes_eq v w ≡ b → w ≢ v → b ≡ false
is_other true v w e n = absurd (n (sym ((bytes_decides v w).0 e)))
is_other false v w e n = refl

another : {A : Type 0} (v w : Identifier) (x y : A) → w ≢ v → cond (bytes_eq v w) x y ≡ y
another v w x y n = ap (λ b. cond b x y) (is_other (bytes_eq v w) v w refl n)

pub other_time : (v w : Identifier) (d : Datum) (env : Assignment) → w ≢ v → (with_value v d env).times w ≡ env.times w
other_time v w (time x) env n = another v w x (env.times w) n
other_time v w (text t) env n = refl

pub other_text : (v w : Identifier) (d : Datum) (env : Assignment) → w ≢ v → (with_value v d env).texts w ≡ env.texts w
other_text v w (time x) env n = refl
other_text v w (text t) env n = another v w t (env.texts w) n

keeps_time : (cs : List Column) (ds : List Datum) (env : Assignment) (w : Identifier) → AllByRecursion (λ c. w ≢ c.name) cs → (assign cs ds env).times w ≡ env.times w
keeps_time [] [] env w h = refl
keeps_time [] (d ∷ ds) env w h = refl
keeps_time (c ∷ cs) [] env w h = refl
keeps_time (c ∷ cs) (d ∷ ds) env w h = keeps_time cs ds (with_value c.name d env) w h.1 ∙ other_time c.name w d env h.0

keeps_text : (cs : List Column) (ds : List Datum) (env : Assignment) (w : Identifier) → AllByRecursion (λ c. w ≢ c.name) cs → (assign cs ds env).texts w ≡ env.texts w
keeps_text [] [] env w h = refl
keeps_text [] (d ∷ ds) env w h = refl
keeps_text (c ∷ cs) [] env w h = refl
keeps_text (c ∷ cs) (d ∷ ds) env w h = keeps_text cs ds (with_value c.name d env) w h.1 ∙ other_text c.name w d env h.0

first_time : (s : Sort) (v : Identifier) (d : Datum) (ds : List Datum) (env last : Assignment) (names : List Identifier) → IsOfKind s d → last.times v ≡ (with_value v d env).times v → map last.times names ≡ times_of ds → map last.times (with_time_name s v names) ≡ times_of (d ∷ ds)
first_time Time v (time x) ds env last names k e r = ap₂ (λ a l. a ∷ l) (e ∙ own_value v x (env.times v)) r
first_time Time v (text t) ds env last names k e r = absurd k
first_time Data v (time x) ds env last names k e r = absurd k
first_time Data v (text t) ds env last names k e r = r
first_time (Named name) v (time x) ds env last names k e r = absurd k
first_time (Named name) v (text t) ds env last names k e r = r

first_text : (s : Sort) (v : Identifier) (d : Datum) (ds : List Datum) (env last : Assignment) (names : List Identifier) → IsOfKind s d → last.texts v ≡ (with_value v d env).texts v → map last.texts names ≡ texts_of ds → map last.texts (text_name s v names) ≡ texts_of (d ∷ ds)
first_text Time v (time x) ds env last names k e r = r
first_text Time v (text t) ds env last names k e r = absurd k
first_text Data v (time x) ds env last names k e r = absurd k
first_text Data v (text t) ds env last names k e r = ap₂ (λ a l. a ∷ l) (e ∙ own_value v t (env.texts v)) r
first_text (Named name) v (time x) ds env last names k e r = absurd k
first_text (Named name) v (text t) ds env last names k e r = ap₂ (λ a l. a ∷ l) (e ∙ own_value v t (env.texts v)) r

pub tuple_times : (cs : List Column) (ds : List Datum) (env : Assignment) → HaveDistinctNames cs → HasShape cs ds → map (assign cs ds env).times (head_times cs) ≡ times_of ds
tuple_times [] [] env n k = refl
tuple_times [] (d ∷ ds) env n k = absurd k
tuple_times (c ∷ cs) [] env n k = absurd k
tuple_times (c ∷ cs) (d ∷ ds) env n k = first_time c.sort c.name d ds env (assign cs ds (with_value c.name d env)) (head_times cs) k.0 (keeps_time cs ds (with_value c.name d env) c.name n.0) (tuple_times cs ds (with_value c.name d env) n.1 k.1)

pub tuple_texts : (cs : List Column) (ds : List Datum) (env : Assignment) → HaveDistinctNames cs → HasShape cs ds → map (assign cs ds env).texts (head_texts cs) ≡ texts_of ds
tuple_texts [] [] env n k = refl
tuple_texts [] (d ∷ ds) env n k = absurd k
tuple_texts (c ∷ cs) [] env n k = absurd k
tuple_texts (c ∷ cs) (d ∷ ds) env n k = first_text c.sort c.name d ds env (assign cs ds (with_value c.name d env)) (head_texts cs) k.0 (keeps_text cs ds (with_value c.name d env) c.name n.0) (tuple_texts cs ds (with_value c.name d env) n.1 k.1)
