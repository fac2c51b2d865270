-- A head of a settled query has at most eight columns of each kind.
use Rattle.std.proofs.Common.{◌≡◌, ◌≢◌, ◌≤◌, suc, Bool, true, false, cond, List, [], ◌∷◌, ◌++◌, length, map, filter, Contains, refl, ap, subst, ◌∙◌}
use Rattle.std.specs.List.{AllByRecursion}
use Rattle.std.proofs.lemmas.List.Elements.{Contains-append_left}
use Rattle.lrp_model.specs.Texts.{Identifier, AreDistinct}
use Rattle.lrp_model.specs.Formulas.{Question}
use Rattle.lrp_model.specs.Satisfaction.{HaveDistinctNames}
use Rattle.lrp_model.specs.Sorts.{same_sort, is_data, time_count, text_count}
use Rattle.lrp_model.specs.Variables.{Variable, time_variable, data_variable, bound_by, free, head_variables}
use Rattle.lrp_model.proofs.ColumnCounts.{times_passed, texts_passed}
use Rattle.lrp_model.specs.declared.relations.Sort.{Sort}
use Rattle.lrp_model.specs.declared.relations.Sort.TheVariants.{Time, Data, Named}
use Rattle.lrp_model.specs.declared.relations.Column.{Column}
use Rattle.lrp_model.specs.declared.relations.Relation.{Relation}
use Rattle.lrp_top.proofs.Lists.{first_in, later_in}
use Rattle.lrp_plan_laws.specs.Settled.{IsSettled}

module _ (p : Column → Bool) where
  names_apart : (name : Identifier) (cs : List Column) → AllByRecursion (λ d. name ≢ d.name) cs → AllByRecursion (λ m. name ≢ m) (map (λ c. c.name) (filter p cs))
  names_apart name [] h = tt
  names_apart name (c ∷ cs) h = by (p c) (names_apart name cs h.1)
    where
      by : (b : Bool) → AllByRecursion (λ m. name ≢ m) (map (λ d. d.name) (filter p cs)) → AllByRecursion (λ m. name ≢ m) (map (λ d. d.name) (cond b (c ∷ filter p cs) (filter p cs)))
      by true rest = (h.0, rest)
      by false rest = rest

  names_differ : (cs : List Column) → HaveDistinctNames cs → AreDistinct (map (λ c. c.name) (filter p cs))
  names_differ [] h = tt
  names_differ (c ∷ cs) h = by (p c) (names_differ cs h.1)
    where
      by : (b : Bool) → AreDistinct (map (λ d. d.name) (filter p cs)) → AreDistinct (map (λ d. d.name) (cond b (c ∷ filter p cs) (filter p cs)))
      by true rest = (names_apart c.name cs h.0, rest)
      by false rest = rest

  names_counted : (cs : List Column) → length (map (λ c. c.name) cs) ≡ length cs
  names_counted [] = refl
  names_counted (c ∷ cs) = ap suc (names_counted cs)

  -- each is the name of a variable of its kind
  names_among : (kind : Identifier → Variable) (vs : List Variable) → ((c : Column) → p c ≡ true → bound_by c.sort c.name ≡ kind c.name) → (cs : List Column) → AllByRecursion (Contains vs) (head_variables cs)
      → AllByRecursion (λ n. Contains vs (kind n)) (map (λ c. c.name) (filter p cs))
  names_among kind vs is [] h = tt
  names_among kind vs is (c ∷ cs) h = by (p c) refl (names_among kind vs is cs h.1)
    where
      by : (b : Bool) → p c ≡ b → AllByRecursion (λ n. Contains vs (kind n)) (map (λ d. d.name) (filter p cs)) → AllByRecursion (λ n. Contains vs (kind n)) (map (λ d. d.name) (cond b (c ∷ filter p cs) (filter p cs)))
      by true e rest = (subst (Contains vs) (is c e) h.0, rest)
      by false e rest = rest

-- elements of a front are elements of the whole
all_in : (vs ws : List Variable) → ((v : Variable) → Contains vs v → Contains ws v) → AllByRecursion (Contains ws) vs
all_in [] ws h = tt
all_in (v ∷ vs) ws h = (h v (first_in v vs), all_in vs ws (λ u c. h u (later_in v u vs c)))

time_bound : (s : Sort) (name : Identifier) → same_sort s Time ≡ true → bound_by s name ≡ time_variable name
time_bound Time name e = refl
time_bound Data name e = cc
time_bound (Named n) name e = cc

data_bound : (s : Sort) (name : Identifier) → is_data s ≡ true → bound_by s name ≡ data_variable name
data_bound Time name e = cc
data_bound Data name e = refl
data_bound (Named n) name e = refl

module _ (db : List Relation) (q : Question) (settled : IsSettled db q) where
  bound : AllByRecursion (Contains (head_variables q.head ++ free q.body)) (head_variables q.head)
  bound = all_in (head_variables q.head) (head_variables q.head ++ free q.body) (λ v c. Contains-append_left (head_variables q.head) (free q.body) v c)

  pub few_times : time_count q.head ≤ 8
  few_times = subst (λ n. n ≤ 8) (names_counted (λ c. same_sort c.sort Time) (filter (λ c. same_sort c.sort Time) q.head) ∙ times_passed q.head)
      (settled.whole.times (map (λ c. c.name) (filter (λ c. same_sort c.sort Time) q.head)) (names_differ (λ c. same_sort c.sort Time) q.head settled.names)
      (names_among (λ c. same_sort c.sort Time) time_variable _ (λ c e. time_bound c.sort c.name e) q.head bound))

  pub few_texts : text_count q.head ≤ 8
  few_texts = subst (λ n. n ≤ 8) (names_counted (λ c. is_data c.sort) (filter (λ c. is_data c.sort) q.head) ∙ texts_passed q.head)
      (settled.whole.texts (map (λ c. c.name) (filter (λ c. is_data c.sort) q.head)) (names_differ (λ c. is_data c.sort) q.head settled.names)
      (names_among (λ c. is_data c.sort) data_variable _ (λ c e. data_bound c.sort c.name e) q.head bound))
