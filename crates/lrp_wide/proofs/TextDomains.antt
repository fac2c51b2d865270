-- The texts of each sort are the same in a file and in its expanded query.
use Rattle.std.proofs.Common.{◌≡◌, ◌↔◌, ◌⊎◌, inl, inr, ⊎_elim, Bool, true, false, List, [], ◌∷◌, ◌++◌, map, refl, sym, subst, ◌∙◌, cond, append-nil, Contains}
use Rattle.std.specs.Prelude.{flat_map, reverse, filter}
use Rattle.lrp_model.specs.Texts.{Text, Identifier, in_order}
use Rattle.lrp_model.specs.DatabaseMeaning.{column_of}
use Rattle.lrp_model.specs.Sorts.{same_sort}
use Rattle.lrp_model.specs.Checked.{plain, plain_question}
use Rattle.lrp_model.specs.Domains.{database_texts, form_texts, domain, all_texts}
use Rattle.lrp_model.specs.Satisfaction.{HaveDistinctNames}
use Rattle.lrp_model.specs.RawQueries.{RawForm, RawQuestion, RawFileView, HasNoOperator}
use Rattle.lrp_model.specs.declared.relations.Sort.{Sort}
use Rattle.lrp_model.specs.declared.relations.Relation.{Relation}
use Rattle.lrp_model.proofs.DomainLaws.{contains_in_order}
use Rattle.lrp_model.proofs.Decided.{cons_cases, contains_first, contains_later, contains_none}
use Rattle.lrp_tense.proofs.HeadNames.{AgreeOn, sort_among, turned_sort}
use Rattle.lrp_wide.specs.Meaning.{signature, own_texts, atom_names, named_by, file_texts, wide_domain}
use Rattle.lrp_wide.specs.Inlining.{known_of, own_setting, counted_from, counted_in, expanded_file}
use Rattle.lrp_wide.proofs.SatisfyNotions.{BindsFresh}
use Rattle.lrp_wide.proofs.SatisfyAnswers.{HaveSameTexts}
use Rattle.lrp_wide.proofs.TextSays.{Among, AnyOf, Says, own_said, either, no_second, same_iff, by_list, iff_then, turned_iff, among_both}
use Rattle.lrp_wide.proofs.TextUses.{Nothing, own_columns}
use Rattle.lrp_wide.proofs.TextNamed.{definition_texts, Brings}
use Rattle.lrp_wide.proofs.TextFile.{AreKnownTexts, file_columns, columns_given, brought_first, query_brings, plain_texts}

-- ---- texts of one sort

-- one of the entries is this text of this sort
abbrev pub IsText : Sort → Text → (Sort × Text) → Type 0
IsText s t e = (same_sort e.0 s ≡ true) × (e.1 ≡ t)

pub contains_any : (s : Sort) (t : Text) (xs : List (Sort × Text)) → Contains (map (λ e. e.1) (filter (λ e. same_sort e.0 s) xs)) t ↔ AnyOf (IsText s t) xs
contains_any s t [] = ((λ c. contains_none t c), λ h. absurd h)
contains_any s t (e ∷ xs) = by (same_sort e.0 s) refl (contains_any s t xs)
  where
    left : List Text
    left = map (λ e. e.1) (filter (λ e. same_sort e.0 s) xs)

    by : (b : Bool) → same_sort e.0 s ≡ b → Contains left t ↔ AnyOf (IsText s t) xs → Contains (map (λ e. e.1) (cond b (e ∷ filter (λ e. same_sort e.0 s) xs) (filter (λ e. same_sort e.0 s) xs))) t ↔ (IsText s t e ⊎ AnyOf (IsText s t) xs)
    by true k r = (
      (λ c. ⊎_elim (λ y. inl (k, y)) (λ y. inr (r.0 y)) (cons_cases e.1 t left c)),
      λ h. ⊎_elim (λ y. subst (λ z. Contains (e.1 ∷ left) z) y.1 (contains_first e.1 left)) (λ y. contains_later e.1 t left (r.1 y)) h,
    )
    by false k r = ((λ c. inr (r.0 c)), λ h. ⊎_elim (λ y. let z : same_sort e.0 s ≡ true = y.0 in cc) (λ y. r.1 y) h)

pub any_here : {A : Type 0} (P : A → Type 0) (x : A) (xs : List A) → Among x xs → P x → AnyOf P xs
any_here P x [] a p = absurd a
any_here P x (y ∷ xs) a p = ⊎_elim (λ e. inl (subst P (sym e) p)) (λ b. inr (any_here P x xs b p)) a

any_through : {A : Type 0} (P : A → Type 0) (xs ys : List A) → ((x : A) → Among x xs → Among x ys) → AnyOf P xs → AnyOf P ys
any_through P [] ys f h = absurd h
any_through P (x ∷ xs) ys f h = ⊎_elim (λ p. any_here P x ys (f x (inl refl)) p) (λ a. any_through P xs ys (λ z b. f z (inr b)) a) h

-- lists of the same entries have the same texts of each sort
pub same_domain : (xs ys : List (Sort × Text)) → ((x : Sort × Text) → Among x xs ↔ Among x ys) → (s : Sort) (t : Text)
    → Contains (in_order (map (λ e. e.1) (filter (λ e. same_sort e.0 s) xs))) t ↔ Contains (in_order (map (λ e. e.1) (filter (λ e. same_sort e.0 s) ys))) t
same_domain xs ys h s t =
    let one : (zs : List (Sort × Text)) → Contains (in_order (map (λ e. e.1) (filter (λ e. same_sort e.0 s) zs))) t ↔ AnyOf (IsText s t) zs =
    λ zs. iff_then (contains_in_order (map (λ e. e.1) (filter (λ e. same_sort e.0 s) zs)) t) (contains_any s t zs) in
    iff_then (one xs) (iff_then (any_through (IsText s t) xs ys (λ x. (h x).0), any_through (IsText s t) ys xs (λ x. (h x).1)) (turned_iff (one ys)))

-- ---- files

module _ (db : List Relation) (f : RawFileView) (known : AreKnownTexts db f.definitions f.query) (distinct : HaveDistinctNames (map column_of f.query.head)) where
  abbrev body : RawForm
  body = (expanded_file db f).body

  same_entries : BindsFresh body (reverse f.query.head) → HasNoOperator body → (x : Sort × Text) → Among x (file_texts db f) ↔ Among x (all_texts db (plain_question (expanded_file db f)))
  same_entries fresh none x =
      let q : RawQuestion = f.query in
      let columns = file_columns db f.definitions q known in
      let number = counted_from 1 (counted_in db (known_of db [] f.definitions) q.body) in
      let brings = query_brings x db (signature db f.definitions) q (own_setting number) (reverse q.head) (λ v s b. b) db [] [] f.definitions (brought_first x db (signature db f.definitions) (columns_given (signature db f.definitions) db f.definitions columns)) known columns in
      let said : Says x (own_columns db) Nothing body (reverse q.head) ↔ (Among x (own_texts q.body (signature db f.definitions) (reverse q.head)) ⊎ Brings x (signature db f.definitions) (reverse f.definitions) (atom_names q.body)) =
      subst (λ ds. Says x (own_columns db) Nothing body (reverse q.head) ↔ (Among x (own_texts q.body (signature db f.definitions) (reverse q.head)) ⊎ Brings x (signature db f.definitions) ds (atom_names q.body))) (append-nil (reverse f.definitions)) (brings fresh) in
      let own : Says x (own_columns db) Nothing body (reverse q.head) ↔ Among x (own_texts body (own_columns db) (reverse q.head)) =
      iff_then (own_said x (own_columns db) Nothing body (reverse q.head)) (no_second (none_of (atom_names body))) in
      let agree : AgreeOn (map column_of q.head) (reverse q.head) = λ n. sort_among q.head n ∙ sym (turned_sort q.head distinct n) in
      let plain_is : own_texts body (own_columns db) (reverse q.head) ≡ form_texts (plain body (reverse q.head)) db (map column_of q.head) = plain_texts db body (reverse q.head) (map column_of q.head) none agree in
      let here = own_texts q.body (signature db f.definitions) (reverse q.head) in
      let there = flat_map (definition_texts x (signature db f.definitions)) (named_by (reverse f.definitions) (atom_names q.body)) in
      iff_then (among_both x (database_texts db) (here ++ there))
      (iff_then (either same_iff (iff_then (among_both x here there) (iff_then (turned_iff said) (iff_then own (by_list x _ _ plain_is)))))
      (turned_iff (among_both x (database_texts db) (form_texts (plain body (reverse q.head)) db (map column_of q.head)))))
    where
      none_of : (names : List Identifier) → AnyOf Nothing names → ⊥
      none_of [] h = h
      none_of (n ∷ names) h = ⊎_elim (λ e. e) (λ y. none_of names y) h

  pub have_same_texts : BindsFresh body (reverse f.query.head) → HasNoOperator body → HaveSameTexts (wide_domain db f) (domain db (plain_question (expanded_file db f)))
  have_same_texts fresh none s t = same_domain (file_texts db f) (all_texts db (plain_question (expanded_file db f))) (same_entries fresh none) s t
