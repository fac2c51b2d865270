-- Steps that are the same in two plans mean the same, where the relations that they scan have the same rows.
use Rattle.std.proofs.Common.{◌≡◌, ◌≢◌, ◌↔◌, ◌⊎◌, inl, inr, ⊎_elim, ◌<◌, ◌≤◌, ◌+◌, ℕ, zero, suc, List, [], ◌∷◌, ◌++◌, length, map, Option, Some, None, slice_get, unwrap_or, option_map, Contains, refl, sym, ap, subst, ◌∙◌, arith}
use Rattle.std.specs.Prelude.{pos, filter, not}
use Rattle.std.specs.List.{AllByRecursion}
use Rattle.std.proofs.lemmas.Int.{ints}
use Rattle.lrp_model.specs.Texts.{Identifier, Text}
use Rattle.lrp_model.specs.Rows.{Datum, time, text, rows_of}
use Rattle.lrp_model.specs.Formulas.{Form, Forms, Question, atom, test, sorted, negation, conjunction, disjunction, exists, no_forms, form}
use Rattle.lrp_model.specs.Variables.{Variable, data_variable, bound_by, same_variable, free, free_each}
use Rattle.lrp_model.specs.Satisfaction.{Assignment, Either, ForSome, IsOfSort, Satisfies, SatisfiesAll, Structure, structure, with_value}
use Rattle.lrp_model.specs.Steps.{tests_as_forms}
use Rattle.lrp_model.specs.declared.formulas.Term.{Term}
use Rattle.lrp_model.specs.declared.formulas.Test.{Test}
use Rattle.lrp_model.specs.declared.relations.Column.{Column}
use Rattle.lrp_model.specs.declared.relations.Sort.{Sort}
use Rattle.lrp_model.specs.declared.relations.Sort.TheVariants.{Time}
use Rattle.lrp_model.specs.declared.plans.StepKind.{StepKind}
use Rattle.lrp_model.specs.declared.plans.StepKind.TheVariants.{Scan, Leaf, Sort as SortStep, Join, Select, Union, Minus, Complement, DropTime, DropData, Extend}
use Rattle.lrp_plan_laws.specs.Made.{AreWithout, HeadStep, IsStepFormula, operands}
use Rattle.lrp_model.proofs.Decided.{contains_first, contains_later}
use Rattle.lrp_eval.specs.Running.{SameVariables}
use Rattle.lrp_eval.proofs.Denotes.{same_append, same_filter}

-- the formulas have the same variables, and say the same, each in its structure
pub record IsSame (M N : Structure) (f g : Form) : Type 0 where
  pub variables : SameVariables (free f) (free g)
  pub means : (env : Assignment) → Satisfies f M env ↔ Satisfies g N env

none_more : (xs : List Variable) → SameVariables xs xs
none_more xs v = ((λ c. c), λ c. c)

some_map : {A : Type 0} (p q : A → Type 0) → ((a : A) → p a → q a) → ForSome p → ForSome q
some_map p q g h k = h (λ a x. k a (g a x))

-- a drop of texts, by what it says
abbrev pub SaysForSome : Structure → List Text → Identifier → Form → Form → Type 0
SaysForSome O texts v of f = (env : Assignment) → Satisfies f O env ↔ ForSome (λ t. Contains texts t × Satisfies of O (with_value v (text t) env))

module _ (M N : Structure) where
  same_as : (f g x y : Form) → f ≡ x → g ≡ y → IsSame M N x y → IsSame M N f g
  same_as f g x y e d h = subst (λ z. IsSame M N z g) (sym e) (subst (λ z. IsSame M N x z) (sym d) h)

  same_atom : (name : Identifier) (terms : List Term) → rows_of N.relations name ≡ rows_of M.relations name → IsSame M N (atom name terms) (atom name terms)
  same_atom name terms rows = record {
    variables = none_more (free (atom name terms));
    means = λ env. ((λ h. (h.0, subst (λ rs. Contains rs h.0) (sym rows) h.1, h.2)), λ h. (h.0, subst (λ rs. Contains rs h.0) rows h.1, h.2));
  }

  same_test : (t : Test) → IsSame M N (test t) (test t)
  same_test t = record { variables = none_more (free (test t)); means = λ env. ((λ h. h), λ h. h) }

  same_sort : (s : Sort) (v : Identifier) → M.domain s ≡ N.domain s → IsSame M N (sorted s v) (sorted s v)
  same_sort s v e = record {
    variables = none_more (free (sorted s v));
    means = λ env. ((λ h. subst (λ ts. Contains ts (env.texts v)) e h), λ h. subst (λ ts. Contains ts (env.texts v)) (sym e) h);
  }

  same_tests : (ts : List Test) (env : Assignment) → SatisfiesAll (tests_as_forms ts) M env ↔ SatisfiesAll (tests_as_forms ts) N env
  same_tests [] env = ((λ h. h), λ h. h)
  same_tests (t ∷ ts) env = let r : SatisfiesAll (tests_as_forms ts) M env ↔ SatisfiesAll (tests_as_forms ts) N env = same_tests ts env in ((λ h. (h.0, r.0 h.1)), λ h. (h.0, r.1 h.1))

  same_join : (f g a b : Form) (ts : List Test) → IsSame M N f a → IsSame M N g b → IsSame M N (conjunction (form f (form g (tests_as_forms ts)))) (conjunction (form a (form b (tests_as_forms ts))))
  same_join f g a b ts h k = record {
    variables = same_append (free f) (free g ++ free_each (tests_as_forms ts)) (free a) (free b ++ free_each (tests_as_forms ts)) h.variables
        (same_append (free g) (free_each (tests_as_forms ts)) (free b) (free_each (tests_as_forms ts)) k.variables (none_more (free_each (tests_as_forms ts))));
    means = λ env. (
      (λ x. ((h.means env).0 x.0, ((k.means env).0 x.1.0, (same_tests ts env).0 x.1.1))),
      λ x. ((h.means env).1 x.0, ((k.means env).1 x.1.0, (same_tests ts env).1 x.1.1)),
    );
  }

  same_select : (f a : Form) (t : Test) → IsSame M N f a → IsSame M N (conjunction (form f (form (test t) no_forms))) (conjunction (form a (form (test t) no_forms)))
  same_select f a t h = record {
    variables = same_append (free f) (free_each (form (test t) no_forms)) (free a) (free_each (form (test t) no_forms)) h.variables (none_more (free_each (form (test t) no_forms)));
    means = λ env. ((λ x. ((h.means env).0 x.0, x.1)), λ x. ((h.means env).1 x.0, x.1));
  }

  same_union : (f g a b : Form) → IsSame M N f a → IsSame M N g b → IsSame M N (disjunction (form f (form g no_forms))) (disjunction (form a (form b no_forms)))
  same_union f g a b h k = record {
    variables = same_append (free f) (free_each (form g no_forms)) (free a) (free_each (form b no_forms)) h.variables (same_append (free g) [] (free b) [] k.variables (none_more []));
    means = λ env. (
      (λ x. λ l r. x (λ y. l ((h.means env).0 y)) (λ e. r (λ l2 r2. e (λ y. l2 ((k.means env).0 y)) r2))),
      λ x. λ l r. x (λ y. l ((h.means env).1 y)) (λ e. r (λ l2 r2. e (λ y. l2 ((k.means env).1 y)) r2)),
    );
  }

  same_minus : (f g a b : Form) → IsSame M N f a → IsSame M N g b → IsSame M N (conjunction (form f (form (negation g) no_forms))) (conjunction (form a (form (negation b) no_forms)))
  same_minus f g a b h k = record {
    variables = same_append (free f) (free_each (form (negation g) no_forms)) (free a) (free_each (form (negation b) no_forms)) h.variables (same_append (free g) [] (free b) [] k.variables (none_more []));
    means = λ env. (
      (λ x. ((h.means env).0 x.0, ((λ y. x.1.0 ((k.means env).1 y)), x.1.1))),
      λ x. ((h.means env).1 x.0, ((λ y. x.1.0 ((k.means env).0 y)), x.1.1)),
    );
  }

  same_negation : (f a : Form) → IsSame M N f a → IsSame M N (negation f) (negation a)
  same_negation f a h = record { variables = h.variables; means = λ env. ((λ x y. x ((h.means env).1 y)), λ x y. x ((h.means env).0 y)) }

  same_time : (v : Identifier) (f a : Form) → IsSame M N f a → IsSame M N (exists v Time f) (exists v Time a)
  same_time v f a h = record {
    variables = same_filter (λ w. not (same_variable (bound_by Time v) w)) (free f) (free a) h.variables;
    means = λ env. (
      some_map (λ d. IsOfSort M Time d × Satisfies f M (with_value v d env)) (λ d. IsOfSort N Time d × Satisfies a N (with_value v d env)) (λ d x. (there d x.0, (h.means (with_value v d env)).0 x.1)),
      some_map (λ d. IsOfSort N Time d × Satisfies a N (with_value v d env)) (λ d. IsOfSort M Time d × Satisfies f M (with_value v d env)) (λ d x. (back d x.0, (h.means (with_value v d env)).1 x.1)),
    );
  }
    where
      there : (d : Datum) → IsOfSort M Time d → IsOfSort N Time d
      there (time x) h = tt
      there (text t) h = absurd h

      back : (d : Datum) → IsOfSort N Time d → IsOfSort M Time d
      back (time x) h = tt
      back (text t) h = absurd h

  same_texts : (texts : List Text) (v : Identifier) (of f from g : Form) → AreWithout v (free of) (free f) → AreWithout v (free from) (free g) → SaysForSome M texts v of f → SaysForSome N texts v from g → IsSame M N of from → IsSame M N f g
  same_texts texts v of f from g a b s t h = record {
    variables = λ w. (
      (λ c. let x = (a w).0 c in (b w).1 ((h.variables w).0 x.0, x.1)),
      λ c. let x = (b w).0 c in (a w).1 ((h.variables w).1 x.0, x.1),
    );
    means = λ env. (
      (λ x. (t env).1 (some_map (λ d. Contains texts d × Satisfies of M (with_value v (text d) env)) (λ d. Contains texts d × Satisfies from N (with_value v (text d) env)) (λ d y. (y.0, (h.means (with_value v (text d) env)).0 y.1)) ((s env).0 x))),
      λ x. (s env).1 (some_map (λ d. Contains texts d × Satisfies from N (with_value v (text d) env)) (λ d. Contains texts d × Satisfies of M (with_value v (text d) env)) (λ d y. (y.0, (h.means (with_value v (text d) env)).1 y.1)) ((t env).0 x)),
    );
  }

  -- two steps of one kind whose operands mean the same do so too
  pub same_kind : (first second : HeadStep) (at there : ℕ → Form) (texts : List Text) (k : StepKind) (f g : Form)
      → ((l : ℕ) → Contains (operands k) l → IsSame M N (at l) (there l))
      → ((name : Identifier) (terms : List Term) → k ≡ Scan name terms → rows_of N.relations name ≡ rows_of M.relations name)
      → ((of : ℕ) → k ≡ Extend of → ⊥)
      → ((of : ℕ) (v : Identifier) → k ≡ DropData of v → SaysForSome M texts v (at of) f)
      → ((of : ℕ) (v : Identifier) → k ≡ DropData of v → SaysForSome N texts v (there of) g)
      → IsStepFormula M first at k f → IsStepFormula N second there k g → IsSame M N f g
  same_kind first second at there texts (Scan name terms) f g ops rows last a b p q = same_as f g (atom name terms) (atom name terms) p q (same_atom name terms (rows name terms refl))
  same_kind first second at there texts (Leaf t) f g ops rows last a b p q = same_as f g (test t) (test t) p q (same_test t)
  same_kind first second at there texts (SortStep v s ts) f g ops rows last a b p q = same_as f g (sorted s v) (sorted s v) p.0 q.0 (same_sort s v (sym p.1 ∙ q.1))
  same_kind first second at there texts (Join l r tests) f g ops rows last a b p q =
      same_as f g (conjunction (form (at l) (form (at r) (tests_as_forms tests)))) (conjunction (form (there l) (form (there r) (tests_as_forms tests)))) p q
      (same_join (at l) (at r) (there l) (there r) tests (ops l (contains_first l (r ∷ []))) (ops r (contains_later l r (r ∷ []) (contains_first r []))))
  same_kind first second at there texts (Select of t) f g ops rows last a b p q =
      same_as f g (conjunction (form (at of) (form (test t) no_forms))) (conjunction (form (there of) (form (test t) no_forms))) p q (same_select (at of) (there of) t (ops of (contains_first of [])))
  same_kind first second at there texts (Union l r) f g ops rows last a b p q =
      same_as f g (disjunction (form (at l) (form (at r) no_forms))) (disjunction (form (there l) (form (there r) no_forms))) p q
      (same_union (at l) (at r) (there l) (there r) (ops l (contains_first l (r ∷ []))) (ops r (contains_later l r (r ∷ []) (contains_first r []))))
  same_kind first second at there texts (Minus l r) f g ops rows last a b p q =
      same_as f g (conjunction (form (at l) (form (negation (at r)) no_forms))) (conjunction (form (there l) (form (negation (there r)) no_forms))) p q
      (same_minus (at l) (at r) (there l) (there r) (ops l (contains_first l (r ∷ []))) (ops r (contains_later l r (r ∷ []) (contains_first r []))))
  same_kind first second at there texts (Complement of) f g ops rows last a b p q = same_as f g (negation (at of)) (negation (there of)) p q (same_negation (at of) (there of) (ops of (contains_first of [])))
  same_kind first second at there texts (DropTime of v) f g ops rows last a b p q = same_as f g (exists v Time (at of)) (exists v Time (there of)) p q (same_time v (at of) (there of) (ops of (contains_first of [])))
  same_kind first second at there texts (DropData of v) f g ops rows last a b p q = same_texts texts v (at of) f (there of) g p q (a of v refl) (b of v refl) (ops of (contains_first of []))
  same_kind first second at there texts (Extend of) f g ops rows last a b p q = absurd (last of refl)
