-- The expanded query of a file is satisfied exactly where the file's query is, by the meaning of its definitions.
use Rattle.std.proofs.Common.{◌≡◌, ◌↔◌, Bool, true, false, cond, List, [], ◌∷◌, ◌++◌, Option, Some, None, map, refl, sym, ap, ap₂, subst, ◌∙◌, bytes_eq}
use Rattle.std.specs.Prelude.{reverse, find}
use Rattle.std.specs.Cmp.Lexicographic.{bytes_decides}
use Rattle.std.proofs.lemmas.List.{append_assoc, reverse-append, append-nil}
use Rattle.lrp_model.specs.Texts.{Identifier}
use Rattle.lrp_model.specs.Rows.{Datum, Holds, relation_named, columns_in}
use Rattle.lrp_model.specs.DatabaseMeaning.{column_of}
use Rattle.lrp_model.specs.Satisfaction.{Structure, Assignment, Satisfies, assign, assignment, with_value}
use Rattle.lrp_model.specs.Sorting.{Binders}
use Rattle.lrp_model.specs.Checked.{plain}
use Rattle.lrp_model.specs.RawQueries.{RawQuestion, RawDefinitionView}
use Rattle.lrp_model.specs.declared.relations.Relation.{Relation}
use Rattle.lrp_model.specs.declared.raw.RawColumn.{RawColumn}
use Rattle.lrp_model.proofs.Logic.{same, then_iff}
use Rattle.lrp_tense.specs.Expanding.{expanded_question, operator_number, operators}
use Rattle.lrp_wide.specs.Meaning.{Interpretation, Signature, WideSatisfies, with_definition, interpretation, of_database, Where, columns_where}
use Rattle.lrp_wide.specs.Inlining.{Known, counted_in, counted_from, inlined_query, known_named, known_with, known_of, meant_by, without_relation, own_setting}
use Rattle.lrp_wide.specs.WideSorting.{defined_relation, query_of}
use Rattle.lrp_wide.proofs.SatisfyNotions.{columns_of, BindsFresh, IsSortedText, IsSortedDefinition, AreSortedTexts}
use Rattle.lrp_wide.proofs.SatisfyTerms.{Carries, carries_value, keeps_itself}
use Rattle.lrp_wide.proofs.SatisfyUses.{HasValues}
use Rattle.lrp_wide.proofs.SatisfyOperators.{operators_kept}
use Rattle.lrp_wide.proofs.SatisfyFormulas.{Inlines, Means, satisfied}
use Rattle.lrp_wide.proofs.SatisfyFresh.{texts_expanded}

-- ---- the first one in a list

pub find_other : {A : Type 0} (t : A → Bool) (x : A) → t x ≡ false → (xs : List A) → find t (xs ++ x ∷ []) ≡ find t xs
find_other {A} t x e [] = ap (λ b. cond b (Some x) None) e
find_other {A} t x e (y ∷ xs) = ap (λ o. cond (t y) (Some y) o) (find_other t x e xs)

pub find_last : {A : Type 0} (t : A → Bool) (x : A) → t x ≡ true → (xs : List A) → find t xs ≡ None → find t (xs ++ x ∷ []) ≡ Some x
find_last {A} t x e [] h = ap (λ b. cond b (Some x) None) e
find_last {A} t x e (y ∷ xs) h = at_test (t y) h (λ k. find_last t x e xs k)
  where
    at_test : (b : Bool) → cond b (Some y) (find t xs) ≡ None → (find t xs ≡ None → find t (xs ++ x ∷ []) ≡ Some x) → cond b (Some y) (find t (xs ++ x ∷ [])) ≡ Some x
    at_test true k r = cc
    at_test false k r = r k

pub find_neither : {A : Type 0} (t : A → Bool) (x : A) (xs : List A) → find t (xs ++ x ∷ []) ≡ None → (find t xs ≡ None) × (t x ≡ false)
find_neither {A} t x [] h = (refl, at_test (t x) h)
  where
    at_test : (b : Bool) → cond b (Some x) None ≡ None → b ≡ false
    at_test true k = cc
    at_test false k = refl
find_neither {A} t x (y ∷ xs) h = at_test (t y) h (λ k. find_neither t x xs k)
  where
    at_test : (b : Bool) → cond b (Some y) (find t (xs ++ x ∷ [])) ≡ None → (find t (xs ++ x ∷ []) ≡ None → (find t xs ≡ None) × (t x ≡ false)) → (cond b (Some y) (find t xs) ≡ None) × (t x ≡ false)
    at_test true k r = cc
    at_test false k r = r k

-- ---- the columns of a definition

module _ (name : Identifier → Identifier) (cs : Binders) (other : Assignment) where
  carries_columns : (columns : List RawColumn) (ds : List Datum) (bs : Binders) (env : Assignment) → Carries name bs cs env other → HasValues name cs other (map column_of columns) ds
      → Carries name (reverse columns ++ bs) cs (assign (map column_of columns) ds env) other
  carries_columns [] [] bs env h v = h
  carries_columns [] (d ∷ ds) bs env h v = absurd v
  carries_columns (c ∷ columns) [] bs env h v = absurd v
  carries_columns (c ∷ columns) (d ∷ ds) bs env h v =
      let turned : reverse columns ++ c ∷ bs ≡ reverse (c ∷ columns) ++ bs = sym (ap (λ l. l ++ bs) (reverse-append (c ∷ []) columns) ∙ append_assoc (reverse columns) (c ∷ []) bs) in
      subst (λ l. Carries name l cs (assign (map column_of columns) ds (with_value c.name d env)) other) turned
      (carries_columns columns ds (c ∷ bs) (with_value c.name d env) (carries_value name bs cs env other c h d v.0) v.1)

  carries_nothing : (env : Assignment) → Carries name [] cs env other
  carries_nothing env = record { sorts = λ w s b. cc; times = λ w s b k. cc; texts = λ w s b k. cc }

  carries_all : (columns : List RawColumn) (ds : List Datum) → HasValues name cs other (map column_of columns) ds → Carries name (reverse columns) cs (assignment (map column_of columns) ds) other
  carries_all columns ds v = subst (λ l. Carries name l cs (assignment (map column_of columns) ds) other) (append-nil (reverse columns)) (carries_columns columns ds [] _ (carries_nothing _) v)

-- ---- a definition more

-- what is known of the names at a definition
pub record AreMeant (M : Structure) (R : Identifier → Type 0) (all : List Relation) (ks : List Known) (columns : Signature) (holds : Identifier → List Datum → Type 0) : Type 0 where
  pub columns_same : (n : Identifier) → columns n ≡ columns_of all n
  pub means : (n : Identifier) → Means M n (holds n) (R n) (columns_of all n) (meant_by M.relations ks n)
  pub relations : (n : Identifier) → relation_named all n ≡ None → relation_named M.relations n ≡ None
  pub definitions : (n : Identifier) → relation_named all n ≡ None → known_named ks n ≡ None

none_meant : (o : Option Relation) → without_relation o None ≡ None
none_meant None = refl
none_meant (Some r) = refl

-- with no definition
meant_at_first : (M : Structure) (R : Identifier → Type 0) → AreMeant M R M.relations [] (of_database M.relations).columns (of_database M.relations).holds
meant_at_first M R = record {
  columns_same = λ n. refl;
  means = λ n. subst (λ o. Means M n (Holds M.relations n) (R n) (columns_of M.relations n) o) (sym (none_meant (relation_named M.relations n))) (record { columns_same = refl; holds = λ ds. same });
  relations = λ n e. e;
  definitions = λ n e. refl;
}

module _ (M : Structure) (R : Identifier → Type 0) (all : List Relation) (ks : List Known) (I : Interpretation) (h : AreMeant M R all ks I.columns I.holds) (d : RawDefinitionView) (t : IsSortedDefinition all M R d) where
  -- its formula in each setting
  definition_inlines : R d.name → Inlines M (known_with M.relations ks d) (λ ds. WideSatisfies d.body I (reverse d.columns) M (assignment (map column_of d.columns) ds))
  definition_inlines r =
      let x = t.text r in
      record {
        says = λ s cs other ds f v. then_iff
            (operators_kept I (columns_of all) M (query_of d) h.columns_same x.names x.stars x.fit (assignment (map column_of d.columns) ds))
            (satisfied M I ks R (columns_of all) h.columns_same h.means (expanded_question (query_of d)).body s (reverse d.columns) cs (assignment (map column_of d.columns) ds) other x.fit
            (texts_expanded R (columns_of all) M (operator_number (operators d.body)) d.body [] x.texts) f (carries_all s.name cs other d.columns ds v));
      }

  abbrev more : Interpretation
  more = with_definition M I d

  abbrev all_more : List Relation
  all_more = all ++ defined_relation d ∷ []

  abbrev known_more : List Known
  known_more = ks ++ known_with M.relations ks d ∷ []

  columns_more : (n : Identifier) (b : Bool) → bytes_eq d.name n ≡ b → columns_where b (map column_of d.columns) (I.columns n) ≡ columns_of all_more n
  columns_more n true e = let same : d.name ≡ n = (bytes_decides d.name n).0 e in sym (ap columns_in (find_last (λ r. bytes_eq r.name n) (defined_relation d) e all (subst (λ m. relation_named all m ≡ None) same t.fresh)))
  columns_more n false e = h.columns_same n ∙ sym (ap columns_in (find_other (λ r. bytes_eq r.name n) (defined_relation d) e all))

  means_more : (n : Identifier) (b : Bool) → bytes_eq d.name n ≡ b
      → Means M n (λ ds. Where b (WideSatisfies d.body I (reverse d.columns) M (assignment (map column_of d.columns) ds)) (I.holds n ds)) (R n) (columns_of all_more n) (meant_by M.relations known_more n)
  means_more n true e =
      let same : d.name ≡ n = (bytes_decides d.name n).0 e in
      let free : relation_named all n ≡ None = subst (λ m. relation_named all m ≡ None) same t.fresh in
      let here : meant_by M.relations known_more n ≡ Some (known_with M.relations ks d) = ap₂ without_relation (h.relations n free) (find_last (λ k. bytes_eq k.name n) (known_with M.relations ks d) e ks (h.definitions n free)) in
      subst (λ o. Means M n (λ ds. WideSatisfies d.body I (reverse d.columns) M (assignment (map column_of d.columns) ds)) (R n) (columns_of all_more n) o) (sym here)
      (record { columns_same = columns_more n true e; distinct = t.distinct; inlines = λ r. definition_inlines (subst R (sym same) r) })
  means_more n false e =
      let there : meant_by M.relations known_more n ≡ meant_by M.relations ks n = ap (λ o. without_relation (relation_named M.relations n) o) (find_other (λ k. bytes_eq k.name n) (known_with M.relations ks d) e ks) in
      let others : columns_of all_more n ≡ columns_of all n = ap columns_in (find_other (λ r. bytes_eq r.name n) (defined_relation d) e all) in
      subst (λ o. Means M n (I.holds n) (R n) (columns_of all_more n) o) (sym there) (subst (λ cs. Means M n (I.holds n) (R n) cs (meant_by M.relations ks n)) (sym others) (h.means n))

  meant_more : AreMeant M R all_more known_more more.columns more.holds
  meant_more = record {
    columns_same = λ n. columns_more n (bytes_eq d.name n) refl;
    means = λ n. means_more n (bytes_eq d.name n) refl;
    relations = λ n e. h.relations n (find_neither (λ r. bytes_eq r.name n) (defined_relation d) all e).0;
    definitions = λ n e.
        let x = find_neither (λ r. bytes_eq r.name n) (defined_relation d) all e in
        find_other (λ k. bytes_eq k.name n) (known_with M.relations ks d) x.1 ks ∙ h.definitions n x.0;
  }

-- ---- the query

query_kept : (M : Structure) (R : Identifier → Type 0) (all : List Relation) (ks : List Known) (I : Interpretation) (q : RawQuestion) → AreMeant M R all ks I.columns I.holds → IsSortedText all M R q
    → BindsFresh (inlined_query M.relations ks q).body (reverse q.head) → (env : Assignment) → WideSatisfies q.body I (reverse q.head) M env ↔ Satisfies (plain (inlined_query M.relations ks q).body (reverse q.head)) M env
query_kept M R all ks I q h x f env =
    then_iff (operators_kept I (columns_of all) M q h.columns_same x.names x.stars x.fit env)
    (satisfied M I ks R (columns_of all) h.columns_same h.means (expanded_question q).body (own_setting (counted_from 1 (counted_in M.relations ks q.body))) (reverse q.head) (reverse q.head) env env x.fit
    (texts_expanded R (columns_of all) M (operator_number (operators q.body)) q.body [] x.texts) f (keeps_itself (reverse q.head) env))

-- after these definitions
kept_beside : (ds : List RawDefinitionView) (M : Structure) (R : Identifier → Type 0) (all : List Relation) (ks : List Known) (I : Interpretation) (q : RawQuestion) → AreMeant M R all ks I.columns I.holds → AreSortedTexts all M R ds q
    → BindsFresh (inlined_query M.relations (known_of M.relations ks ds) q).body (reverse q.head)
    → (env : Assignment) → WideSatisfies q.body (interpretation M I ds) (reverse q.head) M env ↔ Satisfies (plain (inlined_query M.relations (known_of M.relations ks ds) q).body (reverse q.head)) M env
kept_beside [] M R all ks I q h t f env = query_kept M R all ks I q h t f env
kept_beside (d ∷ ds) M R all ks I q h t f env =
    kept_beside ds M R (all ++ defined_relation d ∷ []) (ks ++ known_with M.relations ks d ∷ []) (with_definition M I d) q (meant_more M R all ks I h d t.0) t.1 f env

-- a whole file
pub file_kept : (M : Structure) (R : Identifier → Type 0) (ds : List RawDefinitionView) (q : RawQuestion) → AreSortedTexts M.relations M R ds q → BindsFresh (inlined_query M.relations (known_of M.relations [] ds) q).body (reverse q.head)
    → (env : Assignment) → WideSatisfies q.body (interpretation M (of_database M.relations) ds) (reverse q.head) M env ↔ Satisfies (plain (inlined_query M.relations (known_of M.relations [] ds) q).body (reverse q.head)) M env
file_kept M R ds q t f env = kept_beside ds M R M.relations [] (of_database M.relations) q (meant_at_first M R) t f env
