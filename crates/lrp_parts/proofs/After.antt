-- The variables and the tests of a disjunct's atoms, each atom after the others.
use Rattle.std.proofs.Common.{◌≡◌, ◌≤◌, ◌<◌, ℕ, zero, suc, max, Bool, true, false, cond, List, [], ◌∷◌, ◌++◌, flat_map, Contains, Some, ◌⊎◌, inl, inr, refl, sym, ap, subst, ◌∙◌, bytes_eq, append_assoc, append-nil, arith}
use Rattle.std.specs.Prelude.{◌||◌, filter, slice_get}
use Rattle.std.specs.List.{list_all, list_any}
use Rattle.std.proofs.lemmas.Bool.{and_from, and_parts, false≢true}
use Rattle.std.proofs.lemmas.Option.{slice_get_within}
use Rattle.lrp_model.specs.Reach.{test_reach}
use Rattle.lrp_model.specs.Texts.{Identifier}
use Rattle.lrp_model.specs.declared.formulas.Test.{Test}
use Rattle.lrp_model.proofs.Decided.{cons_cases, contains_first, contains_later, contains_none}
use Rattle.lrp_tables.specs.Calls.{tests_reach}
use Rattle.lrp_tables.specs.Columns.{joint, scan_texts, scan_times, texts_of_term, texts_of_test, times_of_term, times_of_test}
use Rattle.lrp_tables.specs.Tables.{AreNamesAmong}
use Rattle.lrp_tables.proofs.Joining.{in_joint_right, joint_front, of_joint}
use Rattle.lrp_parts.specs.Derivations.{FollowsAtom}
use Rattle.lrp_kept.specs.Disjuncts.{AreJoined, is_test_covered}
use Rattle.lrp_kept.specs.declared.disjuncts.JoinedAtom.{JoinedAtom}
use Rattle.lrp_holdings.proofs.Chained.{some_is}

-- ---- tests that are kept

kept_by : (p : Test → Bool) (ts : List Test) (t u : Test) (b : Bool) → p u ≡ b → p t ≡ true → (u ≡ t) ⊎ Contains ts t → (Contains ts t → Contains (filter p ts) t) → Contains (cond b (u ∷ filter p ts) (filter p ts)) t
kept_by p ts t u true q e (inl s) rest = subst (λ x. Contains (u ∷ filter p ts) x) s (contains_first u (filter p ts))
kept_by p ts t u true q e (inr d) rest = contains_later u t (filter p ts) (rest d)
kept_by p ts t u false q e (inl s) rest = absurd (false≢true (sym q ∙ ap p s ∙ e))
kept_by p ts t u false q e (inr d) rest = rest d

pub kept_test : (p : Test → Bool) (ts : List Test) (t : Test) → Contains ts t → p t ≡ true → Contains (filter p ts) t
kept_test p [] t c e = absurd (contains_none t c)
kept_test p (u ∷ ts) t c e = kept_by p ts t u (p u) refl e (cons_cases u t ts c) (λ d. kept_test p ts t d e)

in_by : (p : Test → Bool) (ts : List Test) (t u : Test) (b : Bool) → p u ≡ b → Contains (cond b (u ∷ filter p ts) (filter p ts)) t → (Contains (filter p ts) t → Contains ts t × (p t ≡ true)) → Contains (u ∷ ts) t × (p t ≡ true)
in_by p ts t u true q d rest = elim (cons_cases u t (filter p ts) d) [
  | inl s ↦ (subst (λ x. Contains (u ∷ ts) x) s (contains_first u ts), ap p (sym s) ∙ q)
  | inr k ↦ let r = rest k in (contains_later u t ts r.0, r.1)
]
in_by p ts t u false q d rest = let r = rest d in (contains_later u t ts r.0, r.1)

pub in_kept : (p : Test → Bool) (ts : List Test) (t : Test) → Contains (filter p ts) t → Contains ts t × (p t ≡ true)
in_kept p [] t c = absurd (contains_none t c)
in_kept p (u ∷ ts) t c = in_by p ts t u (p u) refl c (λ d. in_kept p ts t d)

low_by : (p : Test → Bool) (ts : List Test) (t : Test) (b : Bool) → tests_reach (filter p ts) ≤ tests_reach ts → tests_reach (cond b (t ∷ filter p ts) (filter p ts)) ≤ max (test_reach t) (tests_reach ts)
low_by p ts t true r = omega (arith, r)
low_by p ts t false r = omega (arith, r)

pub kept_reach_low : (p : Test → Bool) (ts : List Test) → tests_reach (filter p ts) ≤ tests_reach ts
kept_reach_low p [] = omega arith
kept_reach_low p (t ∷ ts) = low_by p ts t (p t) (kept_reach_low p ts)

-- ---- more variables

any_by : (b c d : Bool) → (b || c) ≡ true → (c ≡ true → d ≡ true) → (b || d) ≡ true
any_by true c d e f = refl
any_by false c d e f = f e

any_more : (v : Identifier) (ns more : List Identifier) → list_any (bytes_eq v) ns ≡ true → list_any (bytes_eq v) (ns ++ more) ≡ true
any_more v [] more e = absurd (false≢true e)
any_more v (n ∷ ns) more e = any_by (bytes_eq v n) (list_any (bytes_eq v) ns) (list_any (bytes_eq v) (ns ++ more)) e (λ f. any_more v ns more f)

all_more : (ns more vs : List Identifier) → list_all (λ v. list_any (bytes_eq v) ns) vs ≡ true → list_all (λ v. list_any (bytes_eq v) (ns ++ more)) vs ≡ true
all_more ns more [] e = refl
all_more ns more (v ∷ vs) e =
    let r = and_parts (list_any (bytes_eq v) ns) (list_all (λ v. list_any (bytes_eq v) ns) vs) e in
    and_from (list_any (bytes_eq v) (ns ++ more)) (list_all (λ v. list_any (bytes_eq v) (ns ++ more)) vs) (any_more v ns more r.0) (all_more ns more vs r.1)

pub covered_more : (ts more xs further : List Identifier) (t : Test) → is_test_covered ts xs t ≡ true → is_test_covered (ts ++ more) (xs ++ further) t ≡ true
covered_more ts more xs further t e =
    let r = and_parts (list_all (λ v. list_any (bytes_eq v) ts) (times_of_test t)) (list_all (λ v. list_any (bytes_eq v) xs) (texts_of_test t)) e in
    and_from (list_all (λ v. list_any (bytes_eq v) (ts ++ more)) (times_of_test t)) (list_all (λ v. list_any (bytes_eq v) (xs ++ further)) (texts_of_test t)) (all_more ts more (times_of_test t) r.0) (all_more xs further (texts_of_test t) r.1)

-- ---- atoms after variables

-- an atom after these variables has them, and the tests that they cover
pub record IsAfter (tests : List Test) (ts xs : List Identifier) (b : JoinedAtom) : Type 0 where
  pub times : (more : List Identifier) × (b.vars.times ≡ ts ++ more)
  pub texts : (more : List Identifier) × (b.vars.texts ≡ xs ++ more)
  pub kept : (t : Test) → Contains tests t → is_test_covered ts xs t ≡ true → Contains b.tests t

module _ (tests : List Test) where
  -- the first of them
  first_after : (ts xs : List Identifier) (a : JoinedAtom) → a.vars.times ≡ joint ts (scan_times a.terms) → a.vars.texts ≡ joint xs (scan_texts a.terms) → a.tests ≡ filter (is_test_covered a.vars.times a.vars.texts) tests → IsAfter tests ts xs a
  first_after ts xs a t x f =
      let front = joint_front ts (scan_times a.terms) in
      let other = joint_front xs (scan_texts a.terms) in
      record {
        times = (front.0, t ∙ front.1);
        texts = (other.0, x ∙ other.1);
        kept = λ u c e. subst (λ us. Contains us u) (sym f) (kept_test (is_test_covered a.vars.times a.vars.texts) tests u c
            (ap (λ ns. is_test_covered ns a.vars.texts u) (t ∙ front.1) ∙ ap (λ ns. is_test_covered (ts ++ front.0) ns u) (x ∙ other.1) ∙ covered_more ts front.0 xs other.0 u e));
      }

  later_after : (ts xs : List Identifier) (a b : JoinedAtom) → IsAfter tests ts xs a → IsAfter tests a.vars.times a.vars.texts b → IsAfter tests ts xs b
  later_after ts xs a b h k = record {
    times = (h.times.0 ++ k.times.0, k.times.1 ∙ ap (λ ns. ns ++ k.times.0) h.times.1 ∙ append_assoc ts h.times.0 k.times.0);
    texts = (h.texts.0 ++ k.texts.0, k.texts.1 ∙ ap (λ ns. ns ++ k.texts.0) h.texts.1 ∙ append_assoc xs h.texts.0 k.texts.0);
    kept = λ u c e. k.kept u c (ap (λ ns. is_test_covered ns a.vars.texts u) h.times.1 ∙ ap (λ ns. is_test_covered (ts ++ h.times.0) ns u) h.texts.1 ∙ covered_more ts h.times.0 xs h.texts.0 u e);
  }

  pub after : (ts xs : List Identifier) (all : List JoinedAtom) → AreJoined tests ts xs all → (j : ℕ) (b : JoinedAtom) → slice_get all j ≡ Some b → IsAfter tests ts xs b
  after ts xs [] h j b e = absurd (let l : j < 0 = slice_get_within [] j b e in omega (arith, l))
  after ts xs (a ∷ all) h zero b e = subst (λ k. IsAfter tests ts xs k) (some_is a b e) (first_after ts xs a h.0 h.1 h.2)
  after ts xs (a ∷ all) h (suc j) b e = later_after ts xs a b (first_after ts xs a h.0 h.1 h.2) (after a.vars.times a.vars.texts all h.3 j b e)

  -- the tests of each are among all, and it covers them
  pub own_tests : (ts xs : List Identifier) (all : List JoinedAtom) → AreJoined tests ts xs all → (i : ℕ) (a : JoinedAtom) → slice_get all i ≡ Some a → a.tests ≡ filter (is_test_covered a.vars.times a.vars.texts) tests
  own_tests ts xs [] h i a e = absurd (let l : i < 0 = slice_get_within [] i a e in omega (arith, l))
  own_tests ts xs (c ∷ all) h zero a e = subst (λ (k : JoinedAtom). k.tests ≡ filter (is_test_covered k.vars.times k.vars.texts) tests) (some_is c a e) h.2
  own_tests ts xs (c ∷ all) h (suc i) a e = own_tests c.vars.times c.vars.texts all h.3 i a e

  pub rises : (ts xs : List Identifier) (all : List JoinedAtom) → AreJoined tests ts xs all → (i j : ℕ) (a b : JoinedAtom) → i ≤ j → slice_get all i ≡ Some a → slice_get all j ≡ Some b → FollowsAtom a b
  rises ts xs [] h i j a b le e f = absurd (let l : i < 0 = slice_get_within [] i a e in omega (arith, l))
  rises ts xs (c ∷ all) h zero zero a b le e f = subst (λ k. FollowsAtom a k) (sym (some_is c a e) ∙ some_is c b f) (record { times = ([], sym (append-nil a.vars.times)); texts = ([], sym (append-nil a.vars.texts)); tests = λ t k. k })
  rises ts xs (c ∷ all) h zero (suc j) a b le e f = subst (λ k. FollowsAtom k b) (some_is c a e) (record {
    times = (after c.vars.times c.vars.texts all h.3 j b f).times;
    texts = (after c.vars.times c.vars.texts all h.3 j b f).texts;
    tests = λ t k. let r = in_kept (is_test_covered c.vars.times c.vars.texts) tests t (subst (λ us. Contains us t) h.2 k) in (after c.vars.times c.vars.texts all h.3 j b f).kept t r.0 r.1;
  })
  rises ts xs (c ∷ all) h (suc i) zero a b le e f = absurd (omega (arith, le))
  rises ts xs (c ∷ all) h (suc i) (suc j) a b le e f = rises c.vars.times c.vars.texts all h.3 i j a b (omega (arith, le)) e f

  -- the variables of an atom's own terms are among its own
  pub own_times : (ts xs : List Identifier) (all : List JoinedAtom) → AreJoined tests ts xs all → (i : ℕ) (a : JoinedAtom) → slice_get all i ≡ Some a → AreNamesAmong (flat_map times_of_term a.terms) a.vars.times
  own_times ts xs [] h i a e = absurd (let l : i < 0 = slice_get_within [] i a e in omega (arith, l))
  own_times ts xs (c ∷ all) h zero a e = subst (λ (k : JoinedAtom). AreNamesAmong (flat_map times_of_term k.terms) k.vars.times) (some_is c a e)
      (λ v in_terms. subst (λ ns. Contains ns v) (sym h.0) (in_joint_right ts (scan_times c.terms) v (in_joint_right [] (flat_map times_of_term c.terms) v in_terms)))
  own_times ts xs (c ∷ all) h (suc i) a e = own_times c.vars.times c.vars.texts all h.3 i a e

  pub own_texts : (ts xs : List Identifier) (all : List JoinedAtom) → AreJoined tests ts xs all → (i : ℕ) (a : JoinedAtom) → slice_get all i ≡ Some a → AreNamesAmong (flat_map texts_of_term a.terms) a.vars.texts
  own_texts ts xs [] h i a e = absurd (let l : i < 0 = slice_get_within [] i a e in omega (arith, l))
  own_texts ts xs (c ∷ all) h zero a e = subst (λ (k : JoinedAtom). AreNamesAmong (flat_map texts_of_term k.terms) k.vars.texts) (some_is c a e)
      (λ v in_terms. subst (λ ns. Contains ns v) (sym h.1) (in_joint_right xs (scan_texts c.terms) v (in_joint_right [] (flat_map texts_of_term c.terms) v in_terms)))
  own_texts ts xs (c ∷ all) h (suc i) a e = own_texts c.vars.times c.vars.texts all h.3 i a e

  pub own_reach : (ts xs : List Identifier) (all : List JoinedAtom) → AreJoined tests ts xs all → (i : ℕ) (a : JoinedAtom) → slice_get all i ≡ Some a → tests_reach a.tests ≤ tests_reach tests
  own_reach ts xs all h i a e = subst (λ us. tests_reach us ≤ tests_reach tests) (sym (own_tests ts xs all h i a e)) (kept_reach_low (is_test_covered a.vars.times a.vars.texts) tests)

  of_first : (xs : List Identifier) (k : JoinedAtom) (all : List JoinedAtom) → k.vars.texts ≡ joint xs (scan_texts k.terms) → (v : Identifier) → Contains k.vars.texts v → Contains xs v ⊎ ((j : JoinedAtom) × Contains (k ∷ all) j × Contains (flat_map texts_of_term j.terms) v)
  of_first xs k all e v c = elim (of_joint xs (scan_texts k.terms) v (subst (λ ns. Contains ns v) e c)) [
    | inl d ↦ inl d
    | inr d ↦ elim (of_joint [] (flat_map texts_of_term k.terms) v d) [ inl n ↦ absurd (contains_none v n) | inr m ↦ inr (k, contains_first k all, m) ]
  ]

  -- a text variable of an atom was there before, or is of some atom's terms
  pub some_terms : (ts xs : List Identifier) (all : List JoinedAtom) → AreJoined tests ts xs all → (i : ℕ) (a : JoinedAtom) → slice_get all i ≡ Some a → (v : Identifier) → Contains a.vars.texts v → Contains xs v ⊎ ((j : JoinedAtom) × Contains all j × Contains (flat_map texts_of_term j.terms) v)
  some_terms ts xs [] h i a e v c = absurd (let l : i < 0 = slice_get_within [] i a e in omega (arith, l))
  some_terms ts xs (k ∷ all) h zero a e v c = of_first xs k all h.1 v (subst (λ (m : JoinedAtom). Contains m.vars.texts v) (sym (some_is k a e)) c)
  some_terms ts xs (k ∷ all) h (suc i) a e v c = elim (some_terms k.vars.times k.vars.texts all h.3 i a e v c) [ inr r ↦ inr (r.0, contains_later k r.0 all r.1, r.2) | inl d ↦ of_first xs k all h.1 v d ]
