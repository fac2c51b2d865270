-- What an `and` that is being made has left, and what that names.
use Rattle.std.proofs.Common.{◌≡◌, ◌↔◌, ⊎_elim, Bool, true, false, cond, not, ◌||◌, ◌&&◌, List, [], ◌∷◌, ◌++◌, filter, flat_map, Contains, refl, sym, subst, bytes_eq}
use Rattle.std.specs.List.{AllByRecursion, list_any}
use Rattle.std.specs.Cmp.Lexicographic.{bytes_decides}
use Rattle.lrp_model.specs.Formulas.{test}
use Rattle.lrp_model.specs.Variables.{Variable, data_variable, same_variable, is_among, are_among, variables_of_test, variables_of_term, free}
use Rattle.lrp_model.specs.declared.relations.Relation.{Relation}
use Rattle.lrp_model.specs.declared.relations.Column.{Column}
use Rattle.lrp_model.specs.declared.formulas.DataTerm.TheVariants.{Var as data_var, Const as data_const}
use Rattle.lrp_model.specs.declared.formulas.Term.{Term}
use Rattle.lrp_model.specs.declared.formulas.Term.TheVariants.{Time as time_term, Data as data_term}
use Rattle.lrp_model.specs.declared.formulas.Test.{Test}
use Rattle.lrp_model.specs.Rows.{relation_named, columns_in}
use Rattle.lrp_model.specs.Sorts.{same_sort}
use Rattle.lrp_model.specs.Satisfaction.{Structure}
use Rattle.lrp_model.proofs.Decided.{cons_cases, contains_first, contains_later, contains_none}
use Rattle.lrp_model.proofs.Logic.{all_append}
use Rattle.lrp_plan_laws.specs.Atoms.{Atom}
use Rattle.lrp_plan_laws.specs.Projections.{distinct_variables as each_once}
use Rattle.lrp_plan_laws.specs.GuardedConjunctions.{SortElement, Standing, atom_form, sort_form, covered_by, stands_alone, still_needed, variables_left}
use Rattle.lrp_plan_laws.proofs.Elements.{split_all}
use Rattle.lrp_plan_laws.proofs.Members.{all_of, all_by, all_self, in_right}
use Rattle.lrp_plan_laws.proofs.Marks.{Mark, marks}
use Rattle.lrp_plan_laws.proofs.Names.{Names, NamesTest, same_own, without_is, are_among_is}

-- ---- lists of variables

-- the one or the other
or_left : (a b : Bool) → a ≡ true → (a || b) ≡ true
or_left true b e = refl
or_left false b e = cc

or_right : (a b : Bool) → b ≡ true → (a || b) ≡ true
or_right true b e = refl
or_right false b e = e

-- a variable of a list passes as one
pub among_has : (ws : List Variable) (v : Variable) → Contains ws v → is_among ws v ≡ true
among_has [] v c = absurd (contains_none v c)
among_has (w ∷ ws) v c =
    ⊎_elim (λ e. or_left (same_variable v w) (list_any (same_variable v) ws) (subst (λ x. same_variable v x ≡ true) (sym e) (same_own v)))
    (λ d. or_right (same_variable v w) (list_any (same_variable v) ws) (among_has ws v d)) (cons_cases w v ws c)

-- those of a list that pass
kept_at : {X : Type 0} (b : Bool) (x v : X) (ys : List X) → x ≡ v → b ≡ true → Contains (cond b (x ∷ ys) ys) v
kept_at true x v ys e t = subst (Contains (x ∷ ys)) e (contains_first x ys)
kept_at false x v ys e t = cc

later_at : {X : Type 0} (b : Bool) (x v : X) (ys : List X) → Contains ys v → Contains (cond b (x ∷ ys) ys) v
later_at true x v ys c = contains_later x v ys c
later_at false x v ys c = c

pub kept_has : {X : Type 0} (p : X → Bool) (xs : List X) (v : X) → Contains xs v → p v ≡ true → Contains (filter p xs) v
kept_has p [] v c t = absurd (contains_none v c)
kept_has p (x ∷ xs) v c t = ⊎_elim (λ e. kept_at (p x) x v (filter p xs) e (subst (λ y. p y ≡ true) (sym e) t)) (λ d. later_at (p x) x v (filter p xs) (kept_has p xs v d t)) (cons_cases x v xs c)

passes_at : {X : Type 0} (p : X → Bool) (b : Bool) (x v : X) (ys xs : List X) → p x ≡ b → (Contains ys v → Contains xs v × (p v ≡ true)) → Contains (cond b (x ∷ ys) ys) v → Contains (x ∷ xs) v × (p v ≡ true)
passes_at p true x v ys xs t rest c =
    ⊎_elim (λ e. (subst (Contains (x ∷ xs)) e (contains_first x xs), subst (λ y. p y ≡ true) e t)) (λ d. let r = rest d in (contains_later x v xs r.0, r.1)) (cons_cases x v ys c)
passes_at p false x v ys xs t rest c = let r = rest c in (contains_later x v xs r.0, r.1)

pub kept_is : {X : Type 0} (p : X → Bool) (xs : List X) (v : X) → Contains (filter p xs) v → Contains xs v × (p v ≡ true)
kept_is p [] v c = absurd (contains_none v c)
kept_is p (x ∷ xs) v c = passes_at p (p x) x v (filter p xs) xs refl (kept_is p xs v) c

-- each variable where it stands first: none is missing
pub once_has : (vs : List Variable) (v : Variable) → Contains vs v → Contains (each_once vs) v
once_has [] v c = absurd (contains_none v c)
once_has (w ∷ vs) v c =
    let rest : List Variable = filter (λ x. not (same_variable w x)) (each_once vs) in
    let back : AllByRecursion (Contains (w ∷ rest)) (each_once vs) = (without_is rest w (each_once vs)).0 (all_self rest) in
    ⊎_elim (λ e. subst (Contains (w ∷ rest)) e (contains_first w rest)) (λ d. all_of (Contains (w ∷ rest)) (each_once vs) v back (once_has vs v d)) (cons_cases w v vs c)

-- and none is new
pub once_in : (vs : List Variable) (v : Variable) → Contains (each_once vs) v → Contains vs v
once_in [] v c = absurd (contains_none v c)
once_in (w ∷ vs) v c =
    ⊎_elim (λ e. subst (Contains (w ∷ vs)) e (contains_first w vs)) (λ d. contains_later w v vs (once_in vs v (kept_is (λ x. not (same_variable w x)) (each_once vs) v d).0))
    (cons_cases w v (filter (λ x. not (same_variable w x)) (each_once vs)) c)

-- what holds of each, and what else holds of each
pub all_both : {X : Type 0} (p q : X → Type 0) (xs : List X) → AllByRecursion p xs → AllByRecursion q xs → AllByRecursion (λ x. p x × q x) xs
all_both p q [] h k = tt
all_both p q (x ∷ xs) h k = ((h.0, k.0), all_both p q xs h.1 k.1)

-- what holds of each of a list's lists
pub flat_all : {X Y : Type 0} (p : Y → Type 0) (f : X → List Y) (xs : List X) → AllByRecursion p (flat_map f xs) ↔ AllByRecursion (λ x. AllByRecursion p (f x)) xs
flat_all p f [] = ((λ h. tt), λ h. tt)
flat_all p f (x ∷ xs) =
    let r : AllByRecursion p (flat_map f xs) ↔ AllByRecursion (λ x. AllByRecursion p (f x)) xs = flat_all p f xs in
    let a = all_append p (f x) (flat_map f xs) in
    ((λ h. let y = a.0 h in (y.0, r.0 y.1)), λ h. a.1 (h.0, r.1 h.1))

-- elements that name: their variables and their marks
flat_named : {X : Type 0} (f : X → List Variable) (g : X → List Mark) (ws : List Variable) (ks : List Mark) (xs : List X)
    → AllByRecursion (λ x. AllByRecursion (Contains ws) (f x) × AllByRecursion (Contains ks) (g x)) xs ↔ (AllByRecursion (Contains ws) (flat_map f xs) × AllByRecursion (Contains ks) (flat_map g xs))
flat_named f g ws ks [] = ((λ h. (tt, tt)), λ h. tt)
flat_named f g ws ks (x ∷ xs) =
    let r : AllByRecursion (λ x. AllByRecursion (Contains ws) (f x) × AllByRecursion (Contains ks) (g x)) xs ↔ (AllByRecursion (Contains ws) (flat_map f xs) × AllByRecursion (Contains ks) (flat_map g xs)) = flat_named f g ws ks xs in
    let a = all_append (Contains ws) (f x) (flat_map f xs) in
    let b = all_append (Contains ks) (g x) (flat_map g xs) in
    ((λ h. let y = r.0 h.1 in (a.1 (h.0.0, y.0), b.1 (h.0.1, y.1))), λ h. let y = a.0 h.0 in let z = b.0 h.1 in ((y.0, z.0), r.1 (y.1, z.1)))

-- ---- what is left

module _ (db : List Relation) where
  -- what is left names no others
  abbrev pub LeftNames : Standing → List Variable → List Mark → Type 0
  LeftNames at ws ks =
      AllByRecursion (λ a. Names db (atom_form a) ws ks) at.atoms × (AllByRecursion (λ e. Names db (sort_form e) ws ks) at.sorts
      × (AllByRecursion (λ p. Names db p.formula ws ks) at.others × (AllByRecursion (NamesTest db ws ks) at.tests × AllByRecursion (λ p. Names db p.formula ws ks) at.negations)))

  -- the marks of what is left
  abbrev pub marks_left : Standing → List Mark
  marks_left at =
      flat_map (λ a. marks (atom_form a) db) at.atoms ++ (flat_map (λ e. marks (sort_form e) db) at.sorts
      ++ (flat_map (λ p. marks p.formula db) at.others ++ (flat_map (λ t. marks (test t) db) at.tests ++ flat_map (λ p. marks p.formula db) at.negations)))

  -- what is left names its variables and its marks
  pub left_is : (at : Standing) (ws : List Variable) (ks : List Mark) → LeftNames at ws ks ↔ (AllByRecursion (Contains ws) (variables_left at) × AllByRecursion (Contains ks) (marks_left at))
  left_is at ws ks =
      let a = flat_named (λ a. free (atom_form a)) (λ a. marks (atom_form a) db) ws ks at.atoms in
      let s = flat_named (λ e. free (sort_form e)) (λ e. marks (sort_form e) db) ws ks at.sorts in
      let o = flat_named (λ p. free p.formula) (λ p. marks p.formula db) ws ks at.others in
      let t = flat_named variables_of_test (λ t. marks (test t) db) ws ks at.tests in
      let n = flat_named (λ p. free p.formula) (λ p. marks p.formula db) ws ks at.negations in
      let va = flat_map (λ a. free (atom_form a)) at.atoms in
      let vs = flat_map (λ e. free (sort_form e)) at.sorts in
      let vo = flat_map (λ p. free p.formula) at.others in
      let vt = flat_map variables_of_test at.tests in
      let vn = flat_map (λ p. free p.formula) at.negations in
      let ma = flat_map (λ a. marks (atom_form a) db) at.atoms in
      let ms = flat_map (λ e. marks (sort_form e) db) at.sorts in
      let mo = flat_map (λ p. marks p.formula db) at.others in
      let mt = flat_map (λ t. marks (test t) db) at.tests in
      let mn = flat_map (λ p. marks p.formula db) at.negations in
      let w1 = all_append (Contains ws) va (vs ++ (vo ++ (vt ++ vn))) in
      let w2 = all_append (Contains ws) vs (vo ++ (vt ++ vn)) in
      let w3 = all_append (Contains ws) vo (vt ++ vn) in
      let w4 = all_append (Contains ws) vt vn in
      let k1 = all_append (Contains ks) ma (ms ++ (mo ++ (mt ++ mn))) in
      let k2 = all_append (Contains ks) ms (mo ++ (mt ++ mn)) in
      let k3 = all_append (Contains ks) mo (mt ++ mn) in
      let k4 = all_append (Contains ks) mt mn in (
        (λ h.
            let x1 = a.0 h.0 in
            let x2 = s.0 h.1.0 in
            let x3 = o.0 h.1.1.0 in
            let x4 = t.0 h.1.1.1.0 in
            let x5 = n.0 h.1.1.1.1 in
            (w1.1 (x1.0, w2.1 (x2.0, w3.1 (x3.0, w4.1 (x4.0, x5.0)))), k1.1 (x1.1, k2.1 (x2.1, k3.1 (x3.1, k4.1 (x4.1, x5.1)))))),
        λ h.
            let y1 = w1.0 h.0 in
            let y2 = w2.0 y1.1 in
            let y3 = w3.0 y2.1 in
            let y4 = w4.0 y3.1 in
            let z1 = k1.0 h.1 in
            let z2 = k2.0 z1.1 in
            let z3 = k3.0 z2.1 in
            let z4 = k4.0 z3.1 in
            (a.1 (y1.0, z1.0), (s.1 (y2.0, z2.0), (o.1 (y3.0, z3.0), (t.1 (y4.0, z4.0), n.1 (y4.1, z4.1))))),
      )

  -- so it does
  pub left_self : (at : Standing) → LeftNames at (variables_left at) (marks_left at)
  left_self at = (left_is at (variables_left at) (marks_left at)).1 (all_self (variables_left at), all_self (marks_left at))

  -- where less is left, its variables were left
  pub left_fewer : (at less : Standing) → ((ws : List Variable) (ks : List Mark) → LeftNames at ws ks → LeftNames less ws ks) → (v : Variable) → Contains (variables_left less) v → Contains (variables_left at) v
  left_fewer at less part v c = all_of (Contains (variables_left at)) (variables_left less) v ((left_is less (variables_left at) (marks_left at)).0 (part (variables_left at) (marks_left at) (left_self at))).0 c

  -- what is left names its variables alone
  pub left_moved : (at : Standing) (ws us : List Variable) (ks : List Mark) → ((v : Variable) → Contains (variables_left at) v → Contains ws v → Contains us v) → LeftNames at ws ks → LeftNames at us ks
  left_moved at ws us ks on h =
      let x = (left_is at ws ks).0 h in
      (left_is at us ks).1 (all_by (Contains us) (variables_left at) (λ v c. on v c (all_of (Contains ws) (variables_left at) v x.0 c)), x.1)

-- ---- a sort element that an atom makes needless

-- the variable stands among the terms
stands_free : (e : SortElement) (cs : List Column) (ts : List Term) → stands_alone e cs ts ≡ true → Contains (flat_map variables_of_term ts) (data_variable e.variable)
stands_free e [] ts h = cc
stands_free e (c ∷ cs) [] h = cc
stands_free e (c ∷ cs) (data_term (data_var v) ∷ ts) h = by_name (bytes_eq v e.variable) (same_sort c.sort e.sort) refl (λ k. stands_free e cs ts k) h
  where
    by_name : (a b : Bool) → bytes_eq v e.variable ≡ a → (stands_alone e cs ts ≡ true → Contains (flat_map variables_of_term ts) (data_variable e.variable)) → ((a && b) || stands_alone e cs ts) ≡ true → Contains (data_variable v ∷ flat_map variables_of_term ts) (data_variable e.variable)
    by_name true true q rest k = subst (λ w. Contains (data_variable v ∷ flat_map variables_of_term ts) (data_variable w)) ((bytes_decides v e.variable).0 q) (contains_first (data_variable v) (flat_map variables_of_term ts))
    by_name true false q rest k = contains_later (data_variable v) (data_variable e.variable) (flat_map variables_of_term ts) (rest k)
    by_name false b q rest k = contains_later (data_variable v) (data_variable e.variable) (flat_map variables_of_term ts) (rest k)
stands_free e (c ∷ cs) (data_term (data_const t) ∷ ts) h = stands_free e cs ts h
stands_free e (c ∷ cs) (time_term t ∷ ts) h = in_right (variables_of_term (time_term t)) (flat_map variables_of_term ts) (data_variable e.variable) (stands_free e cs ts h)

module _ (M : Structure) (db : List Relation) (a : Atom) where
  passed_at : (e : SortElement) (b : Bool) (ws : List Variable) (ks : List Mark) (rest : List SortElement) → stands_alone e (columns_in (relation_named M.relations a.name)) a.terms ≡ b → Names db (atom_form a) ws ks
      → AllByRecursion (λ e. Names db (sort_form e) ws ks) rest → AllByRecursion (λ e. Names db (sort_form e) ws ks) (cond (not (not b)) (e ∷ rest) rest)
  passed_at e true ws ks rest s n h = ((((all_of (Contains ws) (flat_map variables_of_term a.terms) (data_variable e.variable) n.0 (stands_free e (columns_in (relation_named M.relations a.name)) a.terms s)), tt), tt), h)
  passed_at e false ws ks rest s n h = h

  -- those that are passed over name variables of the atom
  passed : (es : List SortElement) (ws : List Variable) (ks : List Mark) → Names db (atom_form a) ws ks → AllByRecursion (λ e. Names db (sort_form e) ws ks) (filter (λ e. not (not (stands_alone e (columns_in (relation_named M.relations a.name)) a.terms))) es)
  passed [] ws ks n = tt
  passed (e ∷ es) ws ks n = passed_at e (stands_alone e (columns_in (relation_named M.relations a.name)) a.terms) ws ks (filter (λ e. not (not (stands_alone e (columns_in (relation_named M.relations a.name)) a.terms))) es) refl n (passed es ws ks n)

  -- so all sort elements name what those name that are still needed
  pub needed_named : (es : List SortElement) (ws : List Variable) (ks : List Mark) → Names db (atom_form a) ws ks → AllByRecursion (λ e. Names db (sort_form e) ws ks) es ↔ AllByRecursion (λ e. Names db (sort_form e) ws ks) (still_needed M a es)
  needed_named es ws ks n =
      let s = split_all (λ e. Names db (sort_form e) ws ks) (λ e. not (stands_alone e (columns_in (relation_named M.relations a.name)) a.terms)) es in
      ((λ h. (s.0 h).0), λ h. s.1 (h, passed es ws ks n))

-- ---- tests

-- the variables of tests that are covered
pub covered_tests : (variables : List Variable) (ts : List Test) → AllByRecursion (λ t. AllByRecursion (Contains variables) (variables_of_test t)) (covered_by variables ts)
covered_tests variables [] = tt
covered_tests variables (t ∷ ts) = covered_at t (covered_by variables ts) (are_among (variables_of_test t) variables) refl (covered_tests variables ts)
  where
    covered_at : (t : Test) (us : List Test) (b : Bool) → are_among (variables_of_test t) variables ≡ b → AllByRecursion (λ u. AllByRecursion (Contains variables) (variables_of_test u)) us → AllByRecursion (λ u. AllByRecursion (Contains variables) (variables_of_test u)) (cond b (t ∷ us) us)
    covered_at t us true e h = (are_among_is (variables_of_test t) variables e, h)
    covered_at t us false e h = h
