-- The core form of a formula, and of its negation, names what the formula names, and its parts have variables that occur together in the formula.
use Rattle.std.proofs.Common.{◌↔◌, Bool, true, false, List, [], ◌∷◌, ◌++◌, Contains}
use Rattle.std.specs.List.{AllByRecursion}
use Rattle.lrp_model.specs.Texts.{Identifier}
use Rattle.lrp_model.specs.Formulas.{Form, Forms, Question, atom, test, sorted, negation, conjunction, disjunction, implication, exists, forall, no_forms, form, joined}
use Rattle.lrp_model.specs.Variables.{Variable, data_variable, bound_by, variables_of_time, free, free_each, head_variables}
use Rattle.lrp_model.specs.Core.{conjuncts, disjuncts, all_conjuncts, all_disjuncts, and_list, or_list, and_two, positive_test, negative_test, with_sort, positive, negative, positives, negatives, column_elements, head_elements, guarded, core_form}
use Rattle.lrp_model.specs.declared.relations.Sort.{Sort}
use Rattle.lrp_model.specs.declared.relations.Sort.TheVariants.{Time, Data, Named}
use Rattle.lrp_model.specs.declared.relations.Column.{Column}
use Rattle.lrp_model.specs.declared.relations.Relation.{Relation}
use Rattle.lrp_model.specs.declared.formulas.Op.TheVariants.{Le, Lt, Ge, Gt, Eq}
use Rattle.lrp_model.specs.declared.formulas.TimeTerm.{TimeTerm}
use Rattle.lrp_model.specs.declared.formulas.Test.{Test}
use Rattle.lrp_model.specs.declared.formulas.Test.TheVariants.{Compare, Member, Equal}
use Rattle.lrp_model.proofs.Decided.{contains_first}
use Rattle.lrp_model.proofs.Logic.{same, then_iff, all_append}
use Rattle.lrp_plan_laws.specs.Scopes.{EachScope, EachOfScope}
use Rattle.lrp_plan_laws.proofs.Names.{Names, NamesEach, cons_named, two_named, one_named, exists_named, names_self}
use Rattle.lrp_plan_laws.proofs.Members.{all_self, all_later}
use Rattle.lrp_plan_laws.proofs.Marks.{Mark, marks, marks_each}

-- an equivalence from right to left
flip : {p q : Type 0} → p ↔ q → q ↔ p
flip e = (e.1, e.0)

-- the order of two lists makes no difference
swapped : {X : Type 0} (p : X → Type 0) (xs ys : List X) → AllByRecursion p (xs ++ ys) ↔ AllByRecursion p (ys ++ xs)
swapped p xs ys =
    let a = all_append p xs ys in
    let b = all_append p ys xs in
    ((λ h. let x = a.0 h in b.1 (x.1, x.0)), λ h. let x = b.0 h in a.1 (x.1, x.0))

module _ (db : List Relation) (ws : List Variable) (ks : List Mark) where
  -- two lists of formulas together name what both name
  pub joined_named : (fs gs : Forms) → NamesEach db (joined fs gs) ws ks ↔ (NamesEach db fs ws ks × NamesEach db gs ws ks)
  joined_named no_forms gs = ((λ h. ((tt, tt), h)), λ h. h.1)
  joined_named (form f fs) gs =
      let a = cons_named db ws ks f (joined fs gs) in
      let b = cons_named db ws ks f fs in
      let r : NamesEach db (joined fs gs) ws ks ↔ (NamesEach db fs ws ks × NamesEach db gs ws ks) = joined_named fs gs in
      ((λ h. let x = a.0 h in let y = r.0 x.1 in (b.1 (x.0, y.0), y.1)), λ h. let x = b.0 h.0 in a.1 (x.0, r.1 (x.1, h.1)))

  -- the elements that stand for a formula in an `and` name what it names
  conjuncts_named : (f : Form) → NamesEach db (conjuncts f) ws ks ↔ Names db f ws ks
  conjuncts_named (conjunction fs) = same
  conjuncts_named f = one_named db ws ks f

  -- and those in an `or`
  disjuncts_named : (f : Form) → NamesEach db (disjuncts f) ws ks ↔ Names db f ws ks
  disjuncts_named (disjunction fs) = same
  disjuncts_named f = one_named db ws ks f

  -- an `and` of a list names what the list names
  pub and_named : (fs : Forms) → Names db (and_list fs) ws ks ↔ NamesEach db fs ws ks
  and_named no_forms = same
  and_named (form f fs) =
      let j = joined_named (conjuncts f) (all_conjuncts fs) in
      let c = conjuncts_named f in
      let a = cons_named db ws ks f fs in
      let r : Names db (and_list fs) ws ks ↔ NamesEach db fs ws ks = and_named fs in
      ((λ h. let x = j.0 h in a.1 (c.0 x.0, r.0 x.1)), λ h. let x = a.0 h in j.1 (c.1 x.0, r.1 x.1))

  -- and an `or`
  or_named : (fs : Forms) → Names db (or_list fs) ws ks ↔ NamesEach db fs ws ks
  or_named no_forms = same
  or_named (form f fs) =
      let j = joined_named (disjuncts f) (all_disjuncts fs) in
      let c = disjuncts_named f in
      let a = cons_named db ws ks f fs in
      let r : Names db (or_list fs) ws ks ↔ NamesEach db fs ws ks = or_named fs in
      ((λ h. let x = j.0 h in a.1 (c.0 x.0, r.0 x.1)), λ h. let x = a.0 h in j.1 (c.1 x.0, r.1 x.1))

  -- a comparison that is turned round
  turned : (a b : TimeTerm) → AllByRecursion (Contains ws) (variables_of_time b ++ variables_of_time a) × Unit {0} ↔ (AllByRecursion (Contains ws) (variables_of_time a ++ variables_of_time b) × Unit {0})
  turned a b = let s = swapped (Contains ws) (variables_of_time b) (variables_of_time a) in ((λ h. (s.0 h.0, tt)), λ h. (s.1 h.0, tt))

  -- the core form of a test
  positive_test_named : (t : Test) → Names db (positive_test t) ws ks ↔ Names db (test t) ws ks
  positive_test_named (Compare a Le b) = same
  positive_test_named (Compare a Lt b) = same
  positive_test_named (Compare a Ge b) = turned a b
  positive_test_named (Compare a Gt b) = turned a b
  positive_test_named (Compare a Eq b) = same
  positive_test_named (Member term point) = same
  positive_test_named (Equal a b) = same

  -- and of its negation
  negative_test_named : (t : Test) → Names db (negative_test t) ws ks ↔ Names db (test t) ws ks
  negative_test_named (Compare a Le b) = turned a b
  negative_test_named (Compare a Lt b) = turned a b
  negative_test_named (Compare a Ge b) = same
  negative_test_named (Compare a Gt b) = same
  negative_test_named (Compare a Eq b) =
      let two = two_named db ws ks (test (Compare a Lt b)) (test (Compare b Lt a)) no_forms in
      ((λ h. (two.0 h).0), λ h. two.1 (h, ((turned a b).1 h, (tt, tt))))
  negative_test_named (Member term point) = same
  negative_test_named (Equal a b) = same

-- with the sort element of a variable, a formula names no more than the variable beside its own
sorted_two : (db : List Relation) (ws : List Variable) (ks : List Mark) (s : Sort) (v : Identifier) (f : Form) → Names db (and_two (sorted s v) f) (data_variable v ∷ ws) ks ↔ Names db f (data_variable v ∷ ws) ks
sorted_two db ws ks s v f =
    let a = and_named db (data_variable v ∷ ws) ks (form (sorted s v) (form f no_forms)) in
    let two = two_named db (data_variable v ∷ ws) ks (sorted s v) f no_forms in
    ((λ h. (two.0 (a.0 h)).1.0), λ h. a.1 (two.1 (((contains_first (data_variable v) ws, tt), tt), (h, (tt, tt)))))

-- a formula with the sort element of its variable, under the binder
with_sort_named : (db : List Relation) (ws : List Variable) (ks : List Mark) (named : Bool) (s : Sort) (v : Identifier) (f : Form) → Names db (with_sort named s v f) (bound_by s v ∷ ws) ks ↔ Names db f (bound_by s v ∷ ws) ks
with_sort_named db ws ks named Time v f = same
with_sort_named db ws ks false Data v f = same
with_sort_named db ws ks true Data v f = sorted_two db ws ks Data v f
with_sort_named db ws ks false (Named name) v f = same
with_sort_named db ws ks true (Named name) v f = sorted_two db ws ks (Named name) v f

-- a quantifier over the core form of a formula
quantified_named : (db : List Relation) (ws : List Variable) (ks : List Mark) (named : Bool) (s : Sort) (v : Identifier) (f g : Form) → ((us : List Variable) → Names db g us ks ↔ Names db f us ks)
    → Names db (exists v s (with_sort named s v g)) ws ks ↔ Names db (exists v s f) ws ks
quantified_named db ws ks named s v f g e =
    then_iff (exists_named db ws ks v s (with_sort named s v g)) (then_iff (with_sort_named db ws ks named s v g) (then_iff (e (bound_by s v ∷ ws)) (flip (exists_named db ws ks v s f))))

-- the two sides of an implication
both_named : (db : List Relation) (ws : List Variable) (ks : List Mark) (f g : Form) → NamesEach db (form f (form g no_forms)) ws ks ↔ Names db (implication f g) ws ks
both_named db ws ks f g =
    let two = two_named db ws ks f g no_forms in
    let v = all_append (Contains ws) (free f) (free g) in
    let k = all_append (Contains ks) (marks f db) (marks g db) in (
      (λ h. let x = two.0 h in (v.1 (x.0.0, x.1.0.0), k.1 (x.0.1, x.1.0.1))),
      λ h. let a = v.0 h.0 in let b = k.0 h.1 in two.1 ((a.0, b.0), ((a.1, b.1), (tt, tt))),
    )

-- two formulas that name what two others name
two_same : (db : List Relation) (ws : List Variable) (ks : List Mark) (f g h i : Form) → Names db h ws ks ↔ Names db f ws ks → Names db i ws ks ↔ Names db g ws ks → NamesEach db (form h (form i no_forms)) ws ks ↔ NamesEach db (form f (form g no_forms)) ws ks
two_same db ws ks f g h i a b =
    let x = two_named db ws ks h i no_forms in
    let y = two_named db ws ks f g no_forms in
    ((λ n. let z = x.0 n in y.1 (a.0 z.0, (b.0 z.1.0, (tt, tt)))), λ n. let z = y.0 n in x.1 (a.1 z.0, (b.1 z.1.0, (tt, tt))))

mutual
  -- the core form of a formula names what the formula names
  pub positive_named : (f : Form) (named : Bool) (db : List Relation) (ws : List Variable) (ks : List Mark) → Names db (positive f named) ws ks ↔ Names db f ws ks
  positive_named (atom name terms) named db ws ks = same
  positive_named (test t) named db ws ks = positive_test_named db ws ks t
  positive_named (sorted s v) named db ws ks = same
  positive_named (negation f) named db ws ks = negative_named f named db ws ks
  positive_named (conjunction fs) named db ws ks = then_iff (and_named db ws ks (positives fs named)) (positives_named fs named db ws ks)
  positive_named (disjunction fs) named db ws ks = then_iff (or_named db ws ks (positives fs named)) (positives_named fs named db ws ks)
  positive_named (implication f g) named db ws ks =
      then_iff (or_named db ws ks (form (negative f named) (form (positive g named) no_forms)))
      (then_iff (two_same db ws ks f g (negative f named) (positive g named) (negative_named f named db ws ks) (positive_named g named db ws ks)) (both_named db ws ks f g))
  positive_named (exists v s f) named db ws ks = quantified_named db ws ks named s v f (positive f named) (λ us. positive_named f named db us ks)
  positive_named (forall v s f) named db ws ks = quantified_named db ws ks named s v f (negative f named) (λ us. negative_named f named db us ks)

  -- and so does that of its negation
  pub negative_named : (f : Form) (named : Bool) (db : List Relation) (ws : List Variable) (ks : List Mark) → Names db (negative f named) ws ks ↔ Names db f ws ks
  negative_named (atom name terms) named db ws ks = same
  negative_named (test t) named db ws ks = negative_test_named db ws ks t
  negative_named (sorted s v) named db ws ks = same
  negative_named (negation f) named db ws ks = positive_named f named db ws ks
  negative_named (conjunction fs) named db ws ks = then_iff (and_named db ws ks (positives fs named)) (positives_named fs named db ws ks)
  negative_named (disjunction fs) named db ws ks = then_iff (and_named db ws ks (negatives fs named)) (negatives_named fs named db ws ks)
  negative_named (implication f g) named db ws ks =
      then_iff (and_named db ws ks (form (positive f named) (form (negative g named) no_forms)))
      (then_iff (two_same db ws ks f g (positive f named) (negative g named) (positive_named f named db ws ks) (negative_named g named db ws ks)) (both_named db ws ks f g))
  negative_named (exists v s f) named db ws ks = quantified_named db ws ks named s v f (positive f named) (λ us. positive_named f named db us ks)
  negative_named (forall v s f) named db ws ks = quantified_named db ws ks named s v f (negative f named) (λ us. negative_named f named db us ks)

  -- and each of a list
  pub positives_named : (fs : Forms) (named : Bool) (db : List Relation) (ws : List Variable) (ks : List Mark) → NamesEach db (positives fs named) ws ks ↔ NamesEach db fs ws ks
  positives_named no_forms named db ws ks = same
  positives_named (form f fs) named db ws ks =
      let a = cons_named db ws ks (positive f named) (positives fs named) in
      let b = cons_named db ws ks f fs in
      let p : Names db (positive f named) ws ks ↔ Names db f ws ks = positive_named f named db ws ks in
      let r : NamesEach db (positives fs named) ws ks ↔ NamesEach db fs ws ks = positives_named fs named db ws ks in
      ((λ h. let x = a.0 h in b.1 (p.0 x.0, r.0 x.1)), λ h. let x = b.0 h in a.1 (p.1 x.0, r.1 x.1))

  -- and the negation of each of a list
  pub negatives_named : (fs : Forms) (named : Bool) (db : List Relation) (ws : List Variable) (ks : List Mark) → NamesEach db (negatives fs named) ws ks ↔ NamesEach db fs ws ks
  negatives_named no_forms named db ws ks = same
  negatives_named (form f fs) named db ws ks =
      let a = cons_named db ws ks (negative f named) (negatives fs named) in
      let b = cons_named db ws ks f fs in
      let p : Names db (negative f named) ws ks ↔ Names db f ws ks = negative_named f named db ws ks in
      let r : NamesEach db (negatives fs named) ws ks ↔ NamesEach db fs ws ks = negatives_named fs named db ws ks in
      ((λ h. let x = a.0 h in b.1 (p.0 x.0, r.0 x.1)), λ h. let x = b.0 h in a.1 (p.1 x.0, r.1 x.1))

-- ---- a query

-- the core form of a query names what the formula of `head` names
pub core_named : (named : Bool) (q : Question) (db : List Relation) (ws : List Variable) (ks : List Mark) → Names db (core_form named q) ws ks ↔ Names db (guarded named q.head q.body) ws ks
core_named false q db ws ks = positive_named q.body false db ws ks
core_named true q db ws ks =
    let p = positive_named q.body true db ws ks in
    let a = and_named db ws ks (joined (head_elements q.head) (form (positive q.body true) no_forms)) in
    let j = joined_named db ws ks (head_elements q.head) (form (positive q.body true) no_forms) in
    let k = joined_named db ws ks (head_elements q.head) (form q.body no_forms) in
    let x = one_named db ws ks (positive q.body true) in
    let y = one_named db ws ks q.body in
    ((λ h. let w = j.0 (a.0 h) in k.1 (w.0, y.1 (p.0 (x.0 w.1)))), λ h. let w = k.0 h in a.1 (j.1 (w.0, x.1 (p.1 (y.0 w.1)))))

-- the sort element of one column
column_named : (db : List Relation) (ws : List Variable) (ks : List Mark) (s : Sort) (v : Identifier) → Contains ws (bound_by s v) → NamesEach db (column_elements s v) ws ks
column_named db ws ks Time v c = (tt, tt)
column_named db ws ks Data v c = ((c, tt), tt)
column_named db ws ks (Named name) v c = ((c, tt), tt)

-- the sort elements of a head name no more than its variables
pub head_named : (db : List Relation) (ws : List Variable) (ks : List Mark) (columns : List Column) → AllByRecursion (Contains ws) (head_variables columns) → NamesEach db (head_elements columns) ws ks
head_named db ws ks [] h = (tt, tt)
head_named db ws ks (c ∷ cs) h = (joined_named db ws ks (column_elements c.sort c.name) (head_elements cs)).1 (column_named db ws ks c.sort c.name h.0, head_named db ws ks cs h.1)

-- with or without sort elements, the formula of a query names no more than the head's variables beside the body's
pub guarded_within : (named : Bool) (q : Question) (db : List Relation) (ws : List Variable) (ks : List Mark) → AllByRecursion (Contains ws) (head_variables q.head) → Names db q.body ws ks → Names db (guarded named q.head q.body) ws ks
guarded_within false q db ws ks h b = b
guarded_within true q db ws ks h b = (joined_named db ws ks (head_elements q.head) (form q.body no_forms)).1 (head_named db ws ks q.head h, (one_named db ws ks q.body).1 b)

-- and it names all that the body names
pub guarded_body : (named : Bool) (q : Question) (db : List Relation) (ws : List Variable) (ks : List Mark) → Names db (guarded named q.head q.body) ws ks → Names db q.body ws ks
guarded_body false q db ws ks h = h
guarded_body true q db ws ks h = (one_named db ws ks q.body).0 ((joined_named db ws ks (head_elements q.head) (form q.body no_forms)).0 h).1

-- ---- variables that occur together

module _ (fits : List Variable → Type 0) (down : (vs ws : List Variable) → AllByRecursion (Contains ws) vs → fits ws → fits vs) (db : List Relation) where
  -- what names no more than a fitting list fits
  at_most : (f : Form) (room : List Variable) (ks : List Mark) → Names db f room ks → fits room → fits (free f)
  at_most f room ks h good = down (free f) room h.0 good

  -- two lists of formulas together
  scopes_joined : (fs gs : Forms) → EachOfScope fits fs → EachOfScope fits gs → EachOfScope fits (joined fs gs)
  scopes_joined no_forms gs a b = b
  scopes_joined (form f fs) gs a b = (a.0, scopes_joined fs gs a.1 b)

  -- the elements that stand for a formula in an `and`
  scopes_conjuncts : (f : Form) → EachScope fits f → EachOfScope fits (conjuncts f)
  scopes_conjuncts (conjunction fs) a = a.1
  scopes_conjuncts f a = (a, tt)

  -- and in an `or`
  scopes_disjuncts : (f : Form) → EachScope fits f → EachOfScope fits (disjuncts f)
  scopes_disjuncts (disjunction fs) a = a.1
  scopes_disjuncts f a = (a, tt)

  -- those of each formula of a list, in an `and`
  scopes_all_conjuncts : (fs : Forms) → EachOfScope fits fs → EachOfScope fits (all_conjuncts fs)
  scopes_all_conjuncts no_forms a = tt
  scopes_all_conjuncts (form f fs) a = scopes_joined (conjuncts f) (all_conjuncts fs) (scopes_conjuncts f a.0) (scopes_all_conjuncts fs a.1)

  -- and in an `or`
  scopes_all_disjuncts : (fs : Forms) → EachOfScope fits fs → EachOfScope fits (all_disjuncts fs)
  scopes_all_disjuncts no_forms a = tt
  scopes_all_disjuncts (form f fs) a = scopes_joined (disjuncts f) (all_disjuncts fs) (scopes_disjuncts f a.0) (scopes_all_disjuncts fs a.1)

  -- an `and` of a list that names no more than a fitting list
  scope_and : (fs : Forms) (room : List Variable) (ks : List Mark) → fits room → NamesEach db fs room ks → EachOfScope fits fs → EachScope fits (and_list fs)
  scope_and fs room ks good h a = (at_most (and_list fs) room ks ((and_named db room ks fs).1 h) good, scopes_all_conjuncts fs a)

  -- and an `or`
  scope_or : (fs : Forms) (room : List Variable) (ks : List Mark) → fits room → NamesEach db fs room ks → EachOfScope fits fs → EachScope fits (or_list fs)
  scope_or fs room ks good h a = (at_most (or_list fs) room ks ((or_named db room ks fs).1 h) good, scopes_all_disjuncts fs a)

  -- a comparison that is turned round
  scope_turned : (a b : TimeTerm) → fits (variables_of_time a ++ variables_of_time b) → fits (variables_of_time b ++ variables_of_time a)
  scope_turned a b good =
      down (variables_of_time b ++ variables_of_time a) (variables_of_time a ++ variables_of_time b) ((swapped (Contains (variables_of_time a ++ variables_of_time b)) (variables_of_time a) (variables_of_time b)).0 (all_self (variables_of_time a ++ variables_of_time b))) good

  -- the core form of a test
  scope_positive_test : (t : Test) → EachScope fits (test t) → EachScope fits (positive_test t)
  scope_positive_test (Compare a Le b) good = good
  scope_positive_test (Compare a Lt b) good = good
  scope_positive_test (Compare a Ge b) good = scope_turned a b good
  scope_positive_test (Compare a Gt b) good = scope_turned a b good
  scope_positive_test (Compare a Eq b) good = good
  scope_positive_test (Member term point) good = good
  scope_positive_test (Equal a b) good = good

  -- and of its negation
  scope_negative_test : (t : Test) → EachScope fits (test t) → EachScope fits (negative_test t)
  scope_negative_test (Compare a Le b) good = scope_turned a b good
  scope_negative_test (Compare a Lt b) good = scope_turned a b good
  scope_negative_test (Compare a Ge b) good = good
  scope_negative_test (Compare a Gt b) good = good
  scope_negative_test (Compare a Eq b) good =
      (at_most (negative_test (Compare a Eq b)) (variables_of_time a ++ variables_of_time b) [] ((negative_test_named db (variables_of_time a ++ variables_of_time b) [] (Compare a Eq b)).1 (all_self (variables_of_time a ++ variables_of_time b), tt)) good, (good, (scope_turned a b good, tt)))
  scope_negative_test (Member term point) good = good
  scope_negative_test (Equal a b) good = good

  -- a formula with a sort element
  scope_sorted : (s : Sort) (v : Identifier) (g : Form) (vs : List Variable) (ks : List Mark) → fits (data_variable v ∷ vs) → Names db g (data_variable v ∷ vs) ks → EachScope fits g → EachScope fits (and_two (sorted s v) g)
  scope_sorted s v g vs ks good h a =
      scope_and (form (sorted s v) (form g no_forms)) (data_variable v ∷ vs) ks good ((two_named db (data_variable v ∷ vs) ks (sorted s v) g no_forms).1 (((contains_first (data_variable v) vs, tt), tt), (h, (tt, tt))))
      (down (data_variable v ∷ []) (data_variable v ∷ vs) (contains_first (data_variable v) vs, tt) good, (a, tt))

  -- with or without one
  scope_with_sort : (named : Bool) (s : Sort) (v : Identifier) (g : Form) (vs : List Variable) (ks : List Mark) → fits (bound_by s v ∷ vs) → Names db g (bound_by s v ∷ vs) ks → EachScope fits g → EachScope fits (with_sort named s v g)
  scope_with_sort named Time v g vs ks good h a = a
  scope_with_sort false Data v g vs ks good h a = a
  scope_with_sort true Data v g vs ks good h a = scope_sorted Data v g vs ks good h a
  scope_with_sort false (Named name) v g vs ks good h a = a
  scope_with_sort true (Named name) v g vs ks good h a = scope_sorted (Named name) v g vs ks good h a

  -- a quantifier over g, that names what f names
  scope_quantified : (named : Bool) (s : Sort) (v : Identifier) (f g : Form) → fits (bound_by s v ∷ free f) → ((ws : List Variable) (ks : List Mark) → Names db g ws ks ↔ Names db f ws ks) → EachScope fits g → EachScope fits (exists v s (with_sort named s v g))
  scope_quantified named s v f g good e a =
      let room : List Variable = bound_by s v ∷ free f in
      let h : Names db g room (marks f db) = (e room (marks f db)).1 (all_later (bound_by s v) (free f) (free f) (all_self (free f)), all_self (marks f db)) in (
        down (bound_by s v ∷ free (with_sort named s v g)) room (contains_first (bound_by s v) (free f), ((with_sort_named db (free f) (marks f db) named s v g).1 h).0) good,
        scope_with_sort named s v g (free f) (marks f db) good h a,
      )

  mutual
    -- the core form of a formula
    pub scope_positive : (f : Form) (named : Bool) → EachScope fits f → EachScope fits (positive f named)
    scope_positive (atom name terms) named good = good
    scope_positive (test t) named good = scope_positive_test t good
    scope_positive (sorted s v) named good = good
    scope_positive (negation f) named good = scope_negative f named good
    scope_positive (conjunction fs) named good = scope_and (positives fs named) (free_each fs) (marks_each fs db) good.0 ((positives_named fs named db (free_each fs) (marks_each fs db)).1 (names_self db (conjunction fs))) (scope_positives fs named good.1)
    scope_positive (disjunction fs) named good = scope_or (positives fs named) (free_each fs) (marks_each fs db) good.0 ((positives_named fs named db (free_each fs) (marks_each fs db)).1 (names_self db (disjunction fs))) (scope_positives fs named good.1)
    scope_positive (implication f g) named good =
        let ws : List Variable = free f ++ free g in
        let ks : List Mark = marks f db ++ marks g db in
        scope_or (form (negative f named) (form (positive g named) no_forms)) ws ks good.0
        ((two_same db ws ks f g (negative f named) (positive g named) (negative_named f named db ws ks) (positive_named g named db ws ks)).1 ((both_named db ws ks f g).1 (names_self db (implication f g))))
        (scope_negative f named good.1.0, (scope_positive g named good.1.1, tt))
    scope_positive (exists v s f) named good = scope_quantified named s v f (positive f named) good.0 (λ ws ks. positive_named f named db ws ks) (scope_positive f named good.1)
    scope_positive (forall v s f) named good = scope_quantified named s v f (negative f named) good.0 (λ ws ks. negative_named f named db ws ks) (scope_negative f named good.1)

    -- and of its negation
    pub scope_negative : (f : Form) (named : Bool) → EachScope fits f → EachScope fits (negative f named)
    scope_negative (atom name terms) named good = good
    scope_negative (test t) named good = scope_negative_test t good
    scope_negative (sorted s v) named good = good
    scope_negative (negation f) named good = scope_positive f named good
    scope_negative (conjunction fs) named good = scope_and (positives fs named) (free_each fs) (marks_each fs db) good.0 ((positives_named fs named db (free_each fs) (marks_each fs db)).1 (names_self db (conjunction fs))) (scope_positives fs named good.1)
    scope_negative (disjunction fs) named good = scope_and (negatives fs named) (free_each fs) (marks_each fs db) good.0 ((negatives_named fs named db (free_each fs) (marks_each fs db)).1 (names_self db (disjunction fs))) (scope_negatives fs named good.1)
    scope_negative (implication f g) named good =
        let ws : List Variable = free f ++ free g in
        let ks : List Mark = marks f db ++ marks g db in
        scope_and (form (positive f named) (form (negative g named) no_forms)) ws ks good.0
        ((two_same db ws ks f g (positive f named) (negative g named) (positive_named f named db ws ks) (negative_named g named db ws ks)).1 ((both_named db ws ks f g).1 (names_self db (implication f g))))
        (scope_positive f named good.1.0, (scope_negative g named good.1.1, tt))
    scope_negative (exists v s f) named good = scope_quantified named s v f (positive f named) good.0 (λ ws ks. positive_named f named db ws ks) (scope_positive f named good.1)
    scope_negative (forall v s f) named good = scope_quantified named s v f (negative f named) good.0 (λ ws ks. negative_named f named db ws ks) (scope_negative f named good.1)

    -- each of a list
    pub scope_positives : (fs : Forms) (named : Bool) → EachOfScope fits fs → EachOfScope fits (positives fs named)
    scope_positives no_forms named good = tt
    scope_positives (form f fs) named good = (scope_positive f named good.0, scope_positives fs named good.1)

    -- and the negation of each of a list
    pub scope_negatives : (fs : Forms) (named : Bool) → EachOfScope fits fs → EachOfScope fits (negatives fs named)
    scope_negatives no_forms named good = tt
    scope_negatives (form f fs) named good = (scope_negative f named good.0, scope_negatives fs named good.1)

  -- the sort element of one column of the head
  scope_column : (s : Sort) (v : Identifier) (room : List Variable) → Contains room (bound_by s v) → fits room → EachOfScope fits (column_elements s v)
  scope_column Time v room c good = tt
  scope_column Data v room c good = (down (data_variable v ∷ []) room (c, tt) good, tt)
  scope_column (Named name) v room c good = (down (data_variable v ∷ []) room (c, tt) good, tt)

  -- and those of all
  scope_head : (columns : List Column) (room : List Variable) → AllByRecursion (Contains room) (head_variables columns) → fits room → EachOfScope fits (head_elements columns)
  scope_head [] room h good = tt
  scope_head (c ∷ cs) room h good = scopes_joined (column_elements c.sort c.name) (head_elements cs) (scope_column c.sort c.name room h.0 good) (scope_head cs room h.1 good)

  -- the core form of a query, where the head's variables and the body's fit together
  pub scope_core : (named : Bool) (q : Question) → fits (head_variables q.head ++ free q.body) → EachScope fits q.body → EachScope fits (core_form named q)
  scope_core false q good a = scope_positive q.body false a
  scope_core true q good a =
      let room : List Variable = head_variables q.head ++ free q.body in
      let ks : List Mark = marks q.body db in
      let two = (all_append (Contains room) (head_variables q.head) (free q.body)).0 (all_self room) in
      let h : Names db (positive q.body true) room ks = (positive_named q.body true db room ks).1 (two.1, all_self ks) in
      scope_and (joined (head_elements q.head) (form (positive q.body true) no_forms)) room ks good
      ((joined_named db room ks (head_elements q.head) (form (positive q.body true) no_forms)).1 (head_named db room ks q.head two.0, (one_named db room ks (positive q.body true)).1 h))
      (scopes_joined (head_elements q.head) (form (positive q.body true) no_forms) (scope_head q.head room two.0 good) (scope_positive q.body true a, tt))
