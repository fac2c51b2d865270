-- What a formula names: free variables, and periods. A formula made of others names what they name.
use Rattle.std.proofs.Common.{◌≡◌, ◌↔◌, ⊎_elim, Bool, true, false, cond, not, ◌&&◌, ◌||◌, List, [], ◌∷◌, Contains, refl, sym, ap, subst, filter}
use Rattle.std.specs.List.{AllByRecursion, list_any}
use Rattle.std.specs.Cmp.Lexicographic.{bytes_decides}
use Rattle.lrp_model.specs.Texts.{Identifier}
use Rattle.lrp_model.specs.Formulas.{Form, Forms, test, exists, no_forms, form}
use Rattle.lrp_model.specs.Variables.{Variable, time_variable, data_variable, bound_by, same_variable, is_among, are_among, free, free_each}
use Rattle.lrp_model.specs.Steps.{tests_as_forms}
use Rattle.lrp_model.specs.declared.relations.Sort.{Sort}
use Rattle.lrp_model.specs.declared.relations.Relation.{Relation}
use Rattle.lrp_model.specs.declared.formulas.Test.{Test}
use Rattle.lrp_model.proofs.Decided.{cons_cases, contains_first, contains_later}
use Rattle.lrp_model.proofs.Logic.{same, all_append}
use Rattle.lrp_plan_laws.proofs.Members.{all_self}
use Rattle.lrp_plan_laws.proofs.Marks.{Mark, marks, marks_each}

-- ---- tests on variables

-- variables that pass as the same are the same
pub same_is : (v w : Variable) → same_variable v w ≡ true → v ≡ w
same_is (time_variable v) (time_variable w) e = ap time_variable ((bytes_decides v w).0 e)
same_is (data_variable v) (data_variable w) e = ap data_variable ((bytes_decides v w).0 e)
same_is (time_variable v) (data_variable w) e = cc
same_is (data_variable v) (time_variable w) e = cc

-- a variable passes as itself
pub same_own : (v : Variable) → same_variable v v ≡ true
same_own (time_variable v) = (bytes_decides v v).1 refl
same_own (data_variable v) = (bytes_decides v v).1 refl

-- the first variable of a list, or a later one
any_cons : (v w : Variable) (ws : List Variable) (b : Bool) → same_variable v w ≡ b → (list_any (same_variable v) ws ≡ true → Contains ws v) → (b || list_any (same_variable v) ws) ≡ true → Contains (w ∷ ws) v
any_cons v w ws true e rest h = subst (Contains (w ∷ ws)) (sym (same_is v w e)) (contains_first w ws)
any_cons v w ws false e rest h = contains_later w v ws (rest h)

-- a variable that passes as one of a list is one of it
pub is_among_is : (ws : List Variable) (v : Variable) → is_among ws v ≡ true → Contains ws v
is_among_is [] v e = cc
is_among_is (w ∷ ws) v e = any_cons v w ws (same_variable v w) refl (is_among_is ws v) e

-- the first variable and the others
all_cons : (ws : List Variable) (v : Variable) (vs : List Variable) (b : Bool) → is_among ws v ≡ b → (are_among vs ws ≡ true → AllByRecursion (Contains ws) vs) → (b && are_among vs ws) ≡ true → AllByRecursion (Contains ws) (v ∷ vs)
all_cons ws v vs true e rest h = (is_among_is ws v e, rest h)
all_cons ws v vs false e rest h = cc

-- variables that pass as among others are among them
pub are_among_is : (vs ws : List Variable) → are_among vs ws ≡ true → AllByRecursion (Contains ws) vs
are_among_is [] ws e = tt
are_among_is (v ∷ vs) ws e = all_cons ws v vs (is_among ws v) refl (are_among_is vs ws) e

-- ---- without a variable

-- one variable that is b, or is not
kept_at : (ws : List Variable) (b w : Variable) (rest : List Variable) (t : Bool) → same_variable b w ≡ t → AllByRecursion (Contains ws) (cond (not t) (w ∷ rest) rest) ↔ (Contains (b ∷ ws) w × AllByRecursion (Contains ws) rest)
kept_at ws b w rest true e = ((λ h. (subst (Contains (b ∷ ws)) (same_is b w e) (contains_first b ws), h)), λ h. h.1)
kept_at ws b w rest false e =
    ((λ h. (contains_later b w ws h.0, h.1)), λ h. (⊎_elim (λ q. let t : same_variable b w ≡ true = subst (λ x. same_variable b x ≡ true) q (same_own b) in cc) (λ c. c) (cons_cases b w ws h.0), h.1))

-- the variables other than b are among ws exactly where all are among b and ws
pub without_is : (ws : List Variable) (b : Variable) (vs : List Variable) → AllByRecursion (Contains ws) (filter (λ w. not (same_variable b w)) vs) ↔ AllByRecursion (Contains (b ∷ ws)) vs
without_is ws b [] = same
without_is ws b (v ∷ vs) =
    let r : AllByRecursion (Contains ws) (filter (λ w. not (same_variable b w)) vs) ↔ AllByRecursion (Contains (b ∷ ws)) vs = without_is ws b vs in
    let k = kept_at ws b v (filter (λ w. not (same_variable b w)) vs) (same_variable b v) refl in
    ((λ h. let x = k.0 h in (x.0, r.0 x.1)), λ h. k.1 (h.0, r.1 h.1))

-- ---- what formulas name

-- the free variables are among ws, and the periods among ks
abbrev pub Names : List Relation → Form → List Variable → List Mark → Type 0
Names db f ws ks = AllByRecursion (Contains ws) (free f) × AllByRecursion (Contains ks) (marks f db)

-- each formula of a list names no others
abbrev pub NamesEach : List Relation → Forms → List Variable → List Mark → Type 0
NamesEach db fs ws ks = AllByRecursion (Contains ws) (free_each fs) × AllByRecursion (Contains ks) (marks_each fs db)

-- a test names no others
abbrev pub NamesTest : List Relation → List Variable → List Mark → Test → Type 0
NamesTest db ws ks t = Names db (test t) ws ks

module _ (db : List Relation) (ws : List Variable) (ks : List Mark) where
  -- a list names what its first formula names and what the others name
  pub cons_named : (f : Form) (fs : Forms) → NamesEach db (form f fs) ws ks ↔ (Names db f ws ks × NamesEach db fs ws ks)
  cons_named f fs =
      let v = all_append (Contains ws) (free f) (free_each fs) in
      let k = all_append (Contains ks) (marks f db) (marks_each fs db) in
      ((λ h. (((v.0 h.0).0, (k.0 h.1).0), ((v.0 h.0).1, (k.0 h.1).1))), λ h. (v.1 (h.0.0, h.1.0), k.1 (h.0.1, h.1.1)))

  -- what its first two formulas name and what the others name
  pub two_named : (f g : Form) (fs : Forms) → NamesEach db (form f (form g fs)) ws ks ↔ (Names db f ws ks × (Names db g ws ks × NamesEach db fs ws ks))
  two_named f g fs =
      let a = cons_named f (form g fs) in
      let b = cons_named g fs in
      ((λ h. let x = a.0 h in (x.0, b.0 x.1)), λ h. a.1 (h.0, b.1 h.1))

  -- a formula alone in a list
  pub one_named : (f : Form) → NamesEach db (form f no_forms) ws ks ↔ Names db f ws ks
  one_named f = let a = cons_named f no_forms in ((λ h. (a.0 h).0), λ h. a.1 (h, (tt, tt)))

  -- tests as formulas name what the tests name
  pub tests_named : (ts : List Test) → NamesEach db (tests_as_forms ts) ws ks ↔ AllByRecursion (NamesTest db ws ks) ts
  tests_named [] = ((λ h. tt), λ h. (tt, tt))
  tests_named (t ∷ ts) =
      let a = cons_named (test t) (tests_as_forms ts) in
      let r : NamesEach db (tests_as_forms ts) ws ks ↔ AllByRecursion (NamesTest db ws ks) ts = tests_named ts in
      ((λ h. let x = a.0 h in (x.0, r.0 x.1)), λ h. a.1 (h.0, r.1 h.1))

  -- a quantifier names what its formula names beside its variable
  pub exists_named : (v : Identifier) (s : Sort) (f : Form) → Names db (exists v s f) ws ks ↔ Names db f (bound_by s v ∷ ws) ks
  exists_named v s f = let w = without_is ws (bound_by s v) (free f) in ((λ h. (w.0 h.0, h.1)), λ h. (w.1 h.0, h.1))

-- a formula names what it names
pub names_self : (db : List Relation) (f : Form) → Names db f (free f) (marks f db)
names_self db f = (all_self (free f), all_self (marks f db))
