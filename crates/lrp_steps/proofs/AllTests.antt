-- Tests as conditions of a pattern, one after another.
use Rattle.std.proofs.Common.{◌≡◌, ℕ, zero, suc, ◌+◌, ◌-◌, ◌<◌, ◌≤◌, ◌^◌, inr, Bool, true, false, List, [], ◌∷◌, ◌++◌, length, take, map, sym, ap, subst, ◌∙◌, arith, get_or}
use Rattle.std.specs.Prelude.{pos, nat_abs, max, All, ◌==◌, if◌then◌else◌}
use Rattle.std.specs.List.{AllByRecursion}
use Rattle.std.proofs.lemmas.List.{take_more}
use Rattle.lrp_theory.specs.Divides.{Divides}
use Rattle.lrp_model.specs.Texts.{Text, Identifier}
use Rattle.lrp_model.specs.Reach.{test_reach}
use Rattle.lrp_model.specs.Satisfaction.{Passes}
use Rattle.lrp_model.specs.declared.formulas.Test.{Test}
use Rattle.lrp_model.proofs.Ascending.{all_at}
use Rattle.lrp_model.proofs.Logic.{all_append}
use Rattle.lrp_systems.specs.Parts.{Fits}
use Rattle.lrp_tables.specs.Calls.{test_period, tests_reach}
use Rattle.lrp_steps.specs.declared.pattern.Pattern.{Pattern}
use Rattle.lrp_steps.specs.Conditions.{condition_reach, IsWithTest, HasNoTest, IsWithTests, HasNoTests}
use Rattle.lrp_steps.specs.Patterns.{parts_of}
use Rattle.lrp_steps.proofs.Conditioned.{condition_within}
use Rattle.lrp_steps.proofs.Steps.{free, free_reach, free_suits}

-- what holds of all of a list holds of its front
pub all_take : {X : Type 0} (P : X → Type 0) (n : ℕ) (xs : List X) → AllByRecursion P xs → AllByRecursion P (take n xs)
all_take P zero xs h = tt
all_take P (suc n) [] h = tt
all_take P (suc n) (x ∷ xs) h = (h.0, all_take P n xs h.1)

-- one element more
pub front_more : {X : Type 0} (xs : List X) (i : ℕ) (x : X) → i < length xs → x ≡ get_or xs i x → take (i + 1) xs ≡ take i xs ++ x ∷ []
front_more xs i x low is = take_more xs i x low ∙ ap (λ y. take i xs ++ y ∷ []) (sym is)

-- and of each of its elements
pub all_there : {X : Type 0} (P : X → Type 0) (xs : List X) (i : ℕ) (x : X) → i < length xs → x ≡ get_or xs i x → AllByRecursion P xs → P x
all_there P xs i x low is h = all_at P xs x h (i, low, sym is)

-- the reach of tests with one more
tests_append : (done : List Test) (test : Test) → tests_reach (done ++ test ∷ []) ≡ max (tests_reach done) (test_reach test)
tests_append [] test = omega arith
tests_append (t ∷ done) test = by (test_reach t) (tests_reach (done ++ test ∷ [])) (tests_reach done) (test_reach test) (tests_append done test)
  where
    by : (a b c d : ℕ) → b ≡ max c d → max a b ≡ max (max a c) d
    by a b c d h = omega (arith, h)

-- a test reaches no farther than all of them
pub test_within : (tests : List Test) (i : ℕ) (test : Test) → i < length tests → test ≡ get_or tests i test → test_reach test ≤ tests_reach tests
test_within [] i test low is = absurd (omega arith)
test_within (t ∷ tests) zero test low is = let e : test_reach test ≡ test_reach t = ap test_reach is in by (test_reach t) (tests_reach tests) (test_reach test) e
  where
    by : (a b c : ℕ) → c ≡ a → c ≤ max a b
    by a b c e = omega (arith, e)
test_within (t ∷ tests) (suc i) test low is = by (test_reach t) (tests_reach tests) (test_reach test) (test_within tests i test (omega arith) is)
  where
    by : (a b c : ℕ) → c ≤ b → c ≤ max a b
    by a b c h = omega (arith, h)

module _ (domain : List Text) (times texts : List Identifier) where
  -- nothing is asked yet
  pub tests_none : (old : Pattern) → old ≡ free → IsWithTests domain times texts [] old
  tests_none old e = record {
    size = ap (λ (p : Pattern). length p.texts) e;
    to = λ env ns a h. tt;
    from = λ env ns a h. free_suits old e (map env.times times) ns;
    fits = λ k d h. subst (λ (p : Pattern). All (Fits (length times) k) (parts_of p)) (sym e) (λ i x low. absurd (omega arith));
    reach = λ k high h. free_reach old e k high;
  }

  module _ (done : List Test) (test : Test) (old : Pattern) (w : IsWithTests domain times texts done old) where
    -- one test more is asked
    pub tests_more : (new : Pattern) → IsWithTest domain times texts test old new → IsWithTests domain times texts (done ++ test ∷ []) new
    tests_more new v = record {
      size = v.size;
      to = λ env ns a h. let x = v.to env ns a h in (all_append (Passes env) done (test ∷ [])).1 (w.to env ns a x.0, (x.1, tt));
      from = λ env ns a h. let x = (all_append (Passes env) done (test ∷ [])).0 h in v.from env ns a (w.from env ns a x.0) x.1.0;
      fits = λ k d h. let x = (all_append (λ t. Divides (test_period t) (pos k)) done (test ∷ [])).0 d in v.fits k x.1.0 (inr (own k (2 ^ 62) h)) (w.fits k x.0 (others k (2 ^ 62) h));
      reach = λ k high h. v.reach k high (brought_within k (nat_abs (test_period test) == k) high (own k high h)) (w.reach k high (others k high h));
    }
      where
        own : (k high : ℕ) → tests_reach (done ++ test ∷ []) + k ≤ high → condition_reach test + k ≤ high
        own k high h = by (tests_reach (done ++ test ∷ [])) (tests_reach done) (test_reach test) (condition_reach test) (tests_append done test) (condition_within test) h
          where
            by : (a b c d : ℕ) → a ≡ max b c → d ≤ c → a + k ≤ high → d + k ≤ high
            by a b c d e g h = omega (arith, e, g, h)

        others : (k high : ℕ) → tests_reach (done ++ test ∷ []) + k ≤ high → tests_reach done + k ≤ high
        others k high h = by (tests_reach (done ++ test ∷ [])) (tests_reach done) (test_reach test) (tests_append done test) h
          where
            by : (a b c : ℕ) → a ≡ max b c → a + k ≤ high → b + k ≤ high
            by a b c e h = omega (arith, e, h)

        brought_within : (k : ℕ) (b : Bool) (high : ℕ) → condition_reach test + k ≤ high → (if b then condition_reach test else condition_reach test + (k - 1)) ≤ high
        brought_within k true high h = at_most (condition_reach test) h
          where
            at_most : (a : ℕ) → a + k ≤ high → a ≤ high
            at_most a h = omega (arith, h)
        brought_within k false high h = less (condition_reach test) h
          where
            less : (a : ℕ) → a + k ≤ high → a + (k - 1) ≤ high
            less a h = omega (arith, h)

    -- nothing passes one more
    pub tests_no : HasNoTest domain times texts test old → HasNoTests domain times texts (done ++ test ∷ [])
    tests_no fails = record { none = λ env ns a h. let x = (all_append (Passes env) done (test ∷ [])).0 h in fails.none env ns a (w.from env ns a x.0) x.1.0 }

-- nothing passes all where nothing passes the first ones
pub none_of_front : (domain : List Text) (times texts : List Identifier) (tests : List Test) (n : ℕ) → HasNoTests domain times texts (take n tests) → HasNoTests domain times texts tests
none_of_front domain times texts tests n fails = record { none = λ env ns a h. fails.none env ns a (all_take (Passes env) n tests h) }
