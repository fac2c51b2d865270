-- One step more, with its columns.
use Rattle.std.proofs.Common.{◌≡◌, ◌+◌, ◌*◌, ◌≤◌, ℕ, zero, suc, Bool, true, false, List, [], ◌∷◌, ◌++◌, length, map, flat_map, reverse, filter, take, get_or, ◌<◌, refl, sym, ap, subst, ◌∙◌, append_assoc, append-nil, length-append, arith}
use Rattle.std.proofs.lemmas.List.{take_more, map-append}
use Rattle.std.specs.List.{AllZip}
use Rattle.lrp_core.specs.FreeVariables.{variable_of, with_variables, each_once, others}
use Rattle.lrp_core.specs.declared.variables.Variable.{Variable as ProgramVariable}
use Rattle.lrp_core.proofs.VariableLists.{with_variables-append}
use Rattle.lrp_model.specs.Formulas.{Form, conjunction, disjunction, negation, exists, form, no_forms, test}
use Rattle.lrp_model.specs.Satisfaction.{Structure}
use Rattle.lrp_model.specs.Variables.{Variable, time_variable, data_variable, free, free_each, variables_of_test}
use Rattle.lrp_model.specs.Steps.{Steps, formula_at, made, step_after, tests_as_forms, join, union, minus, complement, select}
use Rattle.lrp_model.specs.Conjunctions.{select_each}
use Rattle.lrp_model.specs.declared.formulas.Test.{Test}
use Rattle.lrp_model.specs.declared.plans.StepKind.{StepKind}
use Rattle.lrp_model.specs.declared.plans.StepKind.TheVariants.{Join, Union, Minus, Complement, Select, DropTime, DropData}
use Rattle.lrp_model.specs.declared.relations.Sort.TheVariants.{Time}
use Rattle.lrp_plan_laws.specs.Projections.{PlanGround as Ground, for_each_sort, drop_variable, drop_each, last_drop}
use Rattle.lrp_plan_laws.specs.GuardedConjunctions.{select_from, select_each_from, last_selected}
use Rattle.lrp_plan.specs.declared.drafts.Draft.{Draft}
use Rattle.lrp_plan.specs.declared.drafts.PlannedOperand.{PlannedOperand}
use Rattle.lrp_plan.specs.Drafts.{IsDraft, IsPlannedOperand, AreTests, Extends, ExtendsBoth}
use Rattle.lrp_plan.specs.Sources.{AreSources}
use Rattle.lrp_plan.proofs.Made.{zip_push}
use Rattle.lrp_guarded.specs.Making.{HasColumns, IsMaking, Makes, MakesFrom, IsMadeTo, MakesTo}
use Rattle.lrp_guarded.specs.declared.making.Making.{Making}
use Rattle.lrp_guarded.proofs.OnceEach.{with_once}

-- a step of this kind and formula, with these columns
pub one_more : (over : Ground) (K : ℕ) (kind : StepKind) (f : Form) (old new : Making) (steps : Steps) (vs : List ProgramVariable) → IsMaking over K old steps → IsDraft over.structure.relations K new.draft (made over.structure kind f steps)
    → new.sources.now ≡ old.sources.now → new.columns.items ≡ old.columns.items ++ vs ∷ [] → map variable_of vs ≡ each_once (free f) → IsMaking over K new (made over.structure kind f steps)
one_more over K kind f old new steps vs m d s c e = record {
  sources = subst (AreSources over.structure) (sym s) m.sources;
  database = ap (λ x. x.database.now) s ∙ m.database;
  sorts = m.sorts;
  draft = d;
  columns = subst (λ cs. AllZip HasColumns cs (made over.structure kind f steps)) (sym c) (zip_push HasColumns old.columns.items steps vs (step_after over.structure kind f steps) m.columns e);
}

-- the columns of a step, and those of an earlier one with those of the last
abbrev pub ColumnsOf : Making → PlannedOperand → List ProgramVariable → Type 0
ColumnsOf making of vs = (over : Ground) (K : ℕ) (steps : Steps) (i : ℕ) → IsMaking over K making steps → IsPlannedOperand over.structure.relations K steps i of → map variable_of vs ≡ each_once (free (formula_at steps i))

abbrev pub ColumnsOfBoth : Making → PlannedOperand → List ProgramVariable → Type 0
ColumnsOfBoth making left vs = (over : Ground) (K : ℕ) (steps : Steps) (i : ℕ) → IsMaking over K making steps → IsPlannedOperand over.structure.relations K steps i left → map variable_of vs ≡ with_variables (each_once (free (formula_at steps i))) (free (formula_at steps (length steps)))

tests_free : (ts : List Test) → free_each (tests_as_forms ts) ≡ flat_map variables_of_test ts
tests_free [] = refl
tests_free (t ∷ ts) = ap (λ vs. variables_of_test t ++ vs) (tests_free ts)

two_once : (ls rs : List Variable) → with_variables (each_once ls) rs ≡ each_once (ls ++ (rs ++ []))
two_once ls rs = sym (with_variables-append [] ls rs) ∙ ap (λ ws. each_once (ls ++ ws)) (sym (append-nil rs))

three_once : (ls rs ts : List Variable) → with_variables (with_variables (each_once ls) rs) ts ≡ each_once (ls ++ (rs ++ ts))
three_once ls rs ts = sym (with_variables-append (each_once ls) rs ts) ∙ sym (with_variables-append [] ls (rs ++ ts))

pub join_makes : (left : PlannedOperand) (tests : List Test) (old new : Making) (mid : Draft) (bs vs : List ProgramVariable) → ColumnsOfBoth old left bs → map variable_of vs ≡ with_variables (map variable_of bs) (flat_map variables_of_test tests)
    → ((M : _) (K : ℕ) → AreTests tests → ExtendsBoth M K left (λ n. join n tests) old.draft mid) → new.sources.now ≡ old.sources.now → new.draft ≡ mid → new.columns.items ≡ old.columns.items ++ vs ∷ [] → AreTests tests → MakesFrom left (λ over i. join i tests over.structure) old new
join_makes left tests old new mid bs vs both e h s n c a = record {
  follows = λ over K steps i m o.
      let ls : List Variable = free (formula_at steps i) in
      let rs : List Variable = free (formula_at steps (length steps)) in
      one_more over K (Join i (length steps) tests) (conjunction (form (formula_at steps i) (form (formula_at steps (length steps)) (tests_as_forms tests)))) old new steps vs m
      (subst (λ d. IsDraft over.structure.relations K d (join i tests over.structure steps)) (sym n) ((h over.structure K a).follows steps i m.draft o)) s c
      (e ∙ ap (λ ws. with_variables ws (flat_map variables_of_test tests)) (both over K steps i m o) ∙ ap (with_variables (with_variables (each_once ls) rs)) (sym (tests_free tests)) ∙ three_once ls rs (free_each (tests_as_forms tests)));
}

pub union_makes : (left : PlannedOperand) (old new : Making) (mid : Draft) (vs : List ProgramVariable) → ColumnsOfBoth old left vs
    → ((M : _) (K : ℕ) → ExtendsBoth M K left union old.draft mid) → new.sources.now ≡ old.sources.now → new.draft ≡ mid → new.columns.items ≡ old.columns.items ++ vs ∷ [] → MakesFrom left (λ over i. union i over.structure) old new
union_makes left old new mid vs both h s n c = record {
  follows = λ over K steps i m o.
      one_more over K (Union i (length steps)) (disjunction (form (formula_at steps i) (form (formula_at steps (length steps)) no_forms))) old new steps vs m
      (subst (λ d. IsDraft over.structure.relations K d (union i over.structure steps)) (sym n) ((h over.structure K).follows steps i m.draft o)) s c
      (both over K steps i m o ∙ two_once (free (formula_at steps i)) (free (formula_at steps (length steps))));
}

pub minus_makes : (left : PlannedOperand) (old new : Making) (mid : Draft) (vs : List ProgramVariable) → ColumnsOfBoth old left vs
    → ((M : _) (K : ℕ) → ExtendsBoth M K left minus old.draft mid) → new.sources.now ≡ old.sources.now → new.draft ≡ mid → new.columns.items ≡ old.columns.items ++ vs ∷ [] → MakesFrom left (λ over i. minus i over.structure) old new
minus_makes left old new mid vs both h s n c = record {
  follows = λ over K steps i m o.
      one_more over K (Minus i (length steps)) (conjunction (form (formula_at steps i) (form (negation (formula_at steps (length steps))) no_forms))) old new steps vs m
      (subst (λ d. IsDraft over.structure.relations K d (minus i over.structure steps)) (sym n) ((h over.structure K).follows steps i m.draft o)) s c
      (both over K steps i m o ∙ two_once (free (formula_at steps i)) (free (formula_at steps (length steps))));
}

pub complement_makes : (old new : Making) (mid : Draft) (vs : List ProgramVariable) → ColumnsOf old old.draft.last vs
    → ((M : _) (K : ℕ) → Extends M K complement old.draft mid) → new.sources.now ≡ old.sources.now → new.draft ≡ mid → new.columns.items ≡ old.columns.items ++ vs ∷ [] → Makes (λ over. complement over.structure) old new
complement_makes old new mid vs own h s n c = record {
  follows = λ over K steps m.
      one_more over K (Complement (length steps)) (negation (formula_at steps (length steps))) old new steps vs m
      (subst (λ d. IsDraft over.structure.relations K d (complement over.structure steps)) (sym n) ((h over.structure K).follows steps m.draft)) s c
      (own over K steps (length steps) m m.draft.last);
}

pub select_makes : (of : PlannedOperand) (t : Test) (old new : Making) (mid : Draft) (cs vs : List ProgramVariable) → ColumnsOf old of cs → map variable_of vs ≡ with_variables (map variable_of cs) (variables_of_test t)
    → ((M : _) (K : ℕ) → AreTests (t ∷ []) → ExtendsBoth M K of (λ n. select_from n t) old.draft mid) → new.sources.now ≡ old.sources.now → new.draft ≡ mid → new.columns.items ≡ old.columns.items ++ vs ∷ [] → AreTests (t ∷ []) → MakesFrom of (λ over i. select_from i t over.structure) old new
select_makes of t old new mid cs vs own e h s n c a = record {
  follows = λ over K steps i m o.
      one_more over K (Select i t) (conjunction (form (formula_at steps i) (form (test t) no_forms))) old new steps vs m
      (subst (λ d. IsDraft over.structure.relations K d (select_from i t over.structure steps)) (sym n) ((h over.structure K a).follows steps i m.draft o)) s c
      (e ∙ ap (λ ws. with_variables ws (variables_of_test t)) (own over K steps i m o) ∙ two_once (free (formula_at steps i)) (variables_of_test t));
}

-- ---- columns as they are copied

pub copied_of : (making : Making) (of : PlannedOperand) (none own made : List ProgramVariable) → none ≡ [] → ColumnsOf making of own → map variable_of made ≡ with_variables (map variable_of none) (map variable_of own) → ColumnsOf making of made
copied_of making of none own made n h e = λ over K steps i m o.
    e ∙ ap (λ us. with_variables (map variable_of us) (map variable_of own)) n ∙ ap (with_variables []) (h over K steps i m o) ∙ with_once [] (free (formula_at steps i))

pub both_of : (making : Making) (left : PlannedOperand) (own right made : List ProgramVariable) → ColumnsOf making left own → ColumnsOf making making.draft.last right → map variable_of made ≡ with_variables (map variable_of own) (map variable_of right) → ColumnsOfBoth making left made
both_of making left own right made h k e = λ over K steps i m o.
    e ∙ ap (λ us. with_variables us (map variable_of right)) (h over K steps i m o) ∙ ap (with_variables (each_once (free (formula_at steps i)))) (k over K steps (length steps) m m.draft.last)
    ∙ with_once (each_once (free (formula_at steps i))) (free (formula_at steps (length steps)))

-- ---- tests one by one

select_each_push : (ts : List Test) (t : Test) (M : Structure) (steps : Steps) → select_each (ts ++ t ∷ []) M steps ≡ select t M (select_each ts M steps)
select_each_push [] t M steps = refl
select_each_push (u ∷ ts) t M steps = select_each_push ts t M (select u M steps)

each_from_push : (ts : List Test) (t : Test) (of : ℕ) (M : Structure) (steps : Steps) → select_each_from of (ts ++ t ∷ []) M steps ≡ select_from (last_selected ts of (select_each_from of ts M steps)) t M (select_each_from of ts M steps)
each_from_push [] t of M steps = refl
each_from_push (u ∷ ts) t of M steps = select_each_push ts t M (select_from of u M steps)

last_push : (ts : List Test) (t : Test) (of : ℕ) (steps : Steps) → last_selected (ts ++ t ∷ []) of steps ≡ length steps
last_push [] t of steps = refl
last_push (u ∷ ts) t of steps = refl

tests_split : (ts : List Test) (t : Test) → AreTests (ts ++ t ∷ []) → AreTests ts × AreTests (t ∷ [])
tests_split [] t h = (tt, h)
tests_split (u ∷ ts) t h = let r = tests_split ts t h.1 in ((h.0, r.0), r.1)

abbrev pub SelectsEach : PlannedOperand → List Test → Making → Making → PlannedOperand → Type 0
SelectsEach of ts old new last = AreTests ts → MakesTo of (λ over i. select_each_from i ts over.structure) (λ over i steps. last_selected ts i (select_each_from i ts over.structure steps)) old new last

pub selects_none : (of : PlannedOperand) (old : Making) → SelectsEach of [] old old of
selects_none of old = λ a. record { follows = λ over K steps i m o. record { making = m; last = o } }

pub selects_more : (of : PlannedOperand) (ts : List Test) (t : Test) (old mid new : Making) (last : PlannedOperand) → SelectsEach of ts old mid last → (AreTests (t ∷ []) → MakesFrom last (λ over i. select_from i t over.structure) mid new) → SelectsEach of (ts ++ t ∷ []) old new new.draft.last
selects_more of ts t old mid new last h k = λ a.
    let two = tests_split ts t a in record {
      follows = λ over K steps i m o.
          let M : Structure = over.structure in
          let st : Steps = select_each_from i ts M steps in
          let one = (h two.0).follows over K steps i m o in
          let made : IsMaking over K new (select_from (last_selected ts i st) t M st) = (k two.1).follows over K st (last_selected ts i st) one.making one.last in
          let e = each_from_push ts t i M steps in
          let all : IsMaking over K new (select_each_from i (ts ++ t ∷ []) M steps) = subst (IsMaking over K new) (sym e) made in
          record { making = all; last = subst (λ n. IsPlannedOperand M.relations K (select_each_from i (ts ++ t ∷ []) M steps) n new.draft.last) (sym (last_push ts t i (select_each_from i (ts ++ t ∷ []) M steps))) all.draft.last };
    }

-- ---- variables dropped one by one

length_made : (M : Structure) (kind : StepKind) (f : Form) (steps : Steps) → length (made M kind f steps) ≡ suc (length steps)
length_made M kind f steps = let l : length (steps ++ step_after M kind f steps ∷ []) ≡ length steps + length (step_after M kind f steps ∷ []) = length-append steps (step_after M kind f steps ∷ []) in omega arith

length_drop : (over : Ground) (v : Variable) (of : ℕ) (steps : Steps) → length (drop_variable over v of steps) ≡ suc (length steps)
length_drop over (time_variable v) of steps = length_made over.structure (DropTime of v) (exists v Time (formula_at steps of)) steps
length_drop over (data_variable v) of steps = length_made over.structure (DropData of v) (disjunction (for_each_sort over.sorts v (formula_at steps of))) steps

last_end : (over : Ground) (vs : List Variable) (of : ℕ) (st : Steps) → of ≡ length st → last_drop vs of (drop_each over vs of st) ≡ length (drop_each over vs of st)
last_end over [] of st e = e
last_end over (v ∷ vs) of st e = refl

each_drop_push : (over : Ground) (vs : List Variable) (v : Variable) (of : ℕ) (steps : Steps) → drop_each over (vs ++ v ∷ []) of steps ≡ drop_variable over v (last_drop vs of (drop_each over vs of steps)) (drop_each over vs of steps)
each_drop_push over [] v of steps = refl
each_drop_push over (u ∷ vs) v of steps =
    let st : Steps = drop_variable over u of steps in
    each_drop_push over vs v (suc (length steps)) st ∙ ap (λ n. drop_variable over v n (drop_each over vs (suc (length steps)) st)) (last_end over vs (suc (length steps)) st (sym (length_drop over u of steps)))

last_drop_push : (vs : List Variable) (v : Variable) (of : ℕ) (steps : Steps) → last_drop (vs ++ v ∷ []) of steps ≡ length steps
last_drop_push [] v of steps = refl
last_drop_push (u ∷ vs) v of steps = refl

abbrev pub DropsEach : PlannedOperand → List Variable → Making → Making → PlannedOperand → Type 0
DropsEach of vs old new last = MakesTo of (λ over i. drop_each over vs i) (λ over i steps. last_drop vs i (drop_each over vs i steps)) old new last

pub drops_none : (of : PlannedOperand) (old : Making) → DropsEach of [] old old of
drops_none of old = record { follows = λ over K steps i m o. record { making = m; last = o } }

pub drops_one : (of : PlannedOperand) (vs : List Variable) (v : Variable) (old mid new : Making) (last : PlannedOperand) → DropsEach of vs old mid last → MakesFrom last (λ over i. drop_variable over v i) mid new → DropsEach of (vs ++ v ∷ []) old new new.draft.last
drops_one of vs v old mid new last h k = record {
  follows = λ over K steps i m o.
      let st : Steps = drop_each over vs i steps in
      let one = h.follows over K steps i m o in
      let made : IsMaking over K new (drop_variable over v (last_drop vs i st) st) = k.follows over K st (last_drop vs i st) one.making one.last in
      let all : IsMaking over K new (drop_each over (vs ++ v ∷ []) i steps) = subst (IsMaking over K new) (sym (each_drop_push over vs v i steps)) made in
      record { making = all; last = subst (λ n. IsPlannedOperand over.structure.relations K (drop_each over (vs ++ v ∷ []) i steps) n new.draft.last) (sym (last_drop_push vs v i (drop_each over (vs ++ v ∷ []) i steps))) all.draft.last };
}

pub drops_more : (of : PlannedOperand) (all : List ProgramVariable) (i : ℕ) (x : ProgramVariable) (old mid new : Making) (last : PlannedOperand) → i < length all → x ≡ get_or all i x → DropsEach of (map variable_of (take i all)) old mid last
    → MakesFrom last (λ over j. drop_variable over (variable_of x) j) mid new → DropsEach of (map variable_of (take (i + 1) all)) old new new.draft.last
drops_more of all i x old mid new last lt is h k =
    subst (λ vs. DropsEach of vs old new new.draft.last) (sym (map-append variable_of (take i all) (x ∷ [])) ∙ ap (map variable_of) (sym (take_more all i x lt ∙ ap (λ y. take i all ++ y ∷ []) (sym is)))) (drops_one of (map variable_of (take i all)) (variable_of x) old mid new last h k)
