-- The texts of a file that has no faults of its own are well-sorted, each beside the definitions before it.
use Rattle.std.proofs.Common.{◌≡◌, ◌↔◌, ◌⊎◌, inl, inr, ⊎_elim, ℕ, Bool, true, false, ◌||◌, List, [], ◌∷◌, ◌++◌, Option, Some, None, map, refl, sym, ap, subst, ◌∙◌, cond, append_assoc, append-nil, Contains}
use Rattle.std.specs.Prelude.{reverse, flat_map, filter}
use Rattle.std.proofs.lemmas.List.{reverse-append}
use Rattle.std.specs.List.{AllByRecursion}
use Rattle.std.specs.Str.{bytes_eq}
use Rattle.std.specs.Cmp.Lexicographic.{bytes_decides}
use Rattle.lrp_model.specs.Texts.{Text, Identifier}
use Rattle.lrp_model.specs.Domains.{database_texts, term_texts}
use Rattle.lrp_model.specs.Sorts.{same_sort}
use Rattle.lrp_model.specs.Faults.{fault_if, is_named_in, ninth}
use Rattle.lrp_model.specs.Rows.{relation_named}
use Rattle.lrp_model.specs.Checked.{term_of}
use Rattle.lrp_model.specs.Sorting.{Binders, form_faults, head_faults, query_fault, query_faults, widened}
use Rattle.lrp_model.specs.RawQueries.{RawForm, RawForms, RawQuestion, RawDefinitionView, RawFileView, raw_atom, raw_compare, raw_member, raw_not, raw_and, raw_or, raw_implies, raw_group, raw_exists, raw_forall, raw_ranged, raw_paired, no_raws, raw}
use Rattle.lrp_model.specs.declared.relations.Sort.{Sort}
use Rattle.lrp_model.specs.declared.relations.Sort.TheVariants.{Time, Data, Named}
use Rattle.lrp_model.specs.declared.relations.Column.{Column}
use Rattle.lrp_model.specs.declared.relations.Relation.{Relation}
use Rattle.lrp_model.specs.declared.faults.QueryKind.TheVariants.{Wide, Defined}
use Rattle.lrp_model.specs.declared.tokens.Place.{Place}
use Rattle.lrp_model.specs.declared.raw.Ranged.TheVariants.{Once, Always}
use Rattle.lrp_model.specs.declared.raw.Paired.TheVariants.{Since, Until}
use Rattle.lrp_model.specs.declared.raw.RawTerm.{RawTerm}
use Rattle.lrp_model.specs.declared.raw.RawTermKind.{RawTermKind}
use Rattle.lrp_model.specs.declared.raw.RawTermKind.TheVariants.{Int, Text as text_kind, Var, Shifted}
use Rattle.lrp_model.proofs.DomainLaws.{contains_in_order}
use Rattle.lrp_model.proofs.NoFaults.{both_none, none_if, not_wide}
use Rattle.lrp_model.proofs.Logic.{all_append}
use Rattle.lrp_tense.specs.Meaning.{operator_variable}
use Rattle.lrp_tense.specs.Expanding.{Naming, renamed_to, moment_of, between_of, operators, operator_number, expanded, expanded_each, expanded_question, HasPlainNames}
use Rattle.lrp_tense.proofs.NoOperators.{none_left}
use Rattle.lrp_tense.proofs.HeadNames.{query_distinct}
use Rattle.lrp_tense.proofs.Scoping.{own_name, other_name}
use Rattle.lrp_wide.specs.Meaning.{Signature, signature, own_texts, own_texts_each, atom_names, atom_names_each, named_by, file_texts, wide_domain, wide_structure}
use Rattle.lrp_wide.specs.Stars.{BindsNoStar}
use Rattle.lrp_wide.specs.Inlining.{Known, inlined, known_with}
use Rattle.lrp_wide.specs.WideSorting.{defined_relation, query_of, starred, name_faults, faults_beside, text_faults, own_faults}
use Rattle.lrp_wide.proofs.SatisfyNotions.{columns_of, TextIn, TextsIn, HasTexts, HaveTexts, IsSortedText, AreSortedTexts}
use Rattle.lrp_wide.proofs.SatisfyFile.{find_last}
use Rattle.lrp_wide.proofs.FreshTexts.{HasLetters, expanded_letters}
use Rattle.lrp_wide.proofs.SortedTexts.{IsNamed, AreNamedIn, own_alone, sound}
use Rattle.lrp_wide.proofs.TextSays.{Among, AnyOf, argument_texts, text_in, terms_say, among_both, same_iff, by_list, iff_then}
use Rattle.lrp_wide.proofs.TextNamed.{definition_texts, Brings, brings_any, brings_itself, brings_other}
use Rattle.lrp_wide.proofs.TextFile.{IsKnownText, AreKnownTexts, AreBrought, GivesColumns, HasColumns, columns_given, own_given, given_more, brought_first, brought_more, file_columns, find_front}
use Rattle.lrp_wide.proofs.TextDomains.{contains_any, any_here}

-- ---- names of relations

unnamed : (all : List Relation) (n : Identifier) → is_named_in (map (λ r. r.name) all) n ≡ false → relation_named all n ≡ None
unnamed [] n e = refl
unnamed (r ∷ all) n e = by (bytes_eq n r.name) refl e (unnamed all n)
  where
    by : (t : Bool) → bytes_eq n r.name ≡ t → (t || is_named_in (map (λ r. r.name) all) n) ≡ false → (is_named_in (map (λ r. r.name) all) n ≡ false → relation_named all n ≡ None) → relation_named (r ∷ all) n ≡ None
    by true s f k = cc
    by false s f k =
        let other : bytes_eq r.name n ≡ false = other_name r.name n (λ same. let t : bytes_eq n r.name ≡ true = (bytes_decides n r.name).1 (sym same) in cc) in
        ap (λ b. cond b (Some r) (relation_named all n)) other ∙ k f

-- ---- names of atoms, before operators are written out

module _ (P : Identifier → Type 0) (number : Place → ℕ) where
  first : (ms ns : List Identifier) → AllByRecursion P (ms ++ ns) → AllByRecursion P ms
  first ms ns h = ((all_append P ms ns).0 h).0

  second : (ms ns : List Identifier) → AllByRecursion P (ms ++ ns) → AllByRecursion P ns
  second ms ns h = ((all_append P ms ns).0 h).1

  both : (ms ns : List Identifier) → AllByRecursion P ms → AllByRecursion P ns → AllByRecursion P (ms ++ ns)
  both ms ns h k = (all_append P ms ns).1 (h, k)

  mutual
    pub names_written : (f : RawForm) (names : Naming) → AllByRecursion P (atom_names (expanded f number names)) → AllByRecursion P (atom_names f)
    names_written (raw_atom p n ts) names h = h
    names_written (raw_compare p l op r) names h = h
    names_written (raw_member p t point) names h = h
    names_written (raw_not p f) names h = names_written f names h
    names_written (raw_and p fs) names h = names_written_each fs names h
    names_written (raw_or p fs) names h = names_written_each fs names h
    names_written (raw_implies p f g) names h =
        let a = atom_names (expanded f number names) in
        let b = atom_names (expanded g number names) in
        both (atom_names f) (atom_names g) (names_written f names (first a b h)) (names_written g names (second a b h))
    names_written (raw_group p f) names h = names_written f names h
    names_written (raw_exists p c f) names h = names_written f (renamed_to c.name c.name ∷ names) h
    names_written (raw_forall p c f) names h = names_written f (renamed_to c.name c.name ∷ names) h
    names_written (raw_ranged Once o from to f) names h =
        let inner = renamed_to o.name (moment_of number o) ∷ names in
        names_written f inner (first (atom_names (expanded f number inner)) [] h)
    names_written (raw_ranged Always o from to f) names h = names_written f (renamed_to o.name (moment_of number o) ∷ names) h
    names_written (raw_paired Since o f g) names h =
        let fs = renamed_to o.name (between_of number o) ∷ names in
        let gs = renamed_to o.name (moment_of number o) ∷ names in
        let a = atom_names (expanded g number gs) in
        let b = atom_names (expanded f number fs) in
        both (atom_names f) (atom_names g) (names_written f fs (first b [] (second a (b ++ []) h))) (names_written g gs (first a (b ++ []) h))
    names_written (raw_paired Until o f g) names h =
        let fs = renamed_to o.name (between_of number o) ∷ names in
        let gs = renamed_to o.name (moment_of number o) ∷ names in
        let a = atom_names (expanded g number gs) in
        let b = atom_names (expanded f number fs) in
        both (atom_names f) (atom_names g) (names_written f fs (first b [] (second a (b ++ []) h))) (names_written g gs (first a (b ++ []) h))

    names_written_each : (fs : RawForms) (names : Naming) → AllByRecursion P (atom_names_each (expanded_each fs number names)) → AllByRecursion P (atom_names_each fs)
    names_written_each no_raws names h = h
    names_written_each (raw f fs) names h =
        let a = atom_names (expanded f number names) in
        let b = atom_names_each (expanded_each fs number names) in
        both (atom_names f) (atom_names_each fs) (names_written f names (first a b h)) (names_written_each fs names (second a b h))

-- ---- each text

-- what is known of a text as it is written
pub record IsPlainText (f : RawForm) : Type 0 where
  pub names : HasPlainNames f
  pub letters : HasLetters f
  pub stars : BindsNoStar f

known_text : (all : List Relation) (q : RawQuestion) → IsPlainText q.body → query_faults all (starred all q) ≡ [] → IsKnownText all q
known_text all q t e =
    let body : RawForm = inlined all [] (expanded_question q).body own_alone in
    let number : Place → ℕ = operator_number (operators q.body) in
    let x = both_none (head_faults all [] q.head ++ ninth (query_fault Wide) 0 0 q.head) (widened (reverse q.head) [] body (form_faults body all (reverse q.head))) e in
    let y = sound (expanded_question q).body (none_left q.body number []) (expanded_letters q.body t.letters number [] tt) all (reverse q.head) (not_wide (reverse q.head) [] body (form_faults body all (reverse q.head)) x.1).1 in
    record { names = t.names; fit = y.fit; known = y.names }

-- those of a file
abbrev pub ArePlainTexts : List RawDefinitionView → RawQuestion → Type 0
ArePlainTexts ds q = AllByRecursion (λ d. IsPlainText d.body) ds × IsPlainText q.body

known_texts : (all : List Relation) (ds : List RawDefinitionView) (q : RawQuestion) → ArePlainTexts ds q → name_faults all ds ≡ [] → faults_beside all ds q ≡ [] → AreKnownTexts all ds q
known_texts all [] q t n e = known_text all q t.1 e
known_texts all (d ∷ ds) q t n e =
    let x = both_none (fault_if (is_named_in (map (λ r. r.name) all) d.name) (query_fault Defined d.place)) (name_faults (all ++ defined_relation d ∷ []) ds) n in
    let y = both_none (query_faults all (starred all (query_of d))) (faults_beside (all ++ defined_relation d ∷ []) ds q) e in (
      record {
        fresh = unnamed all d.name (none_if (is_named_in (map (λ r. r.name) all) d.name) (query_fault Defined d.place) x.0);
        distinct = query_distinct all (starred all (query_of d)) y.0;
        text = known_text all (query_of d) t.0.0 y.0;
      },
      known_texts (all ++ defined_relation d ∷ []) ds q (t.0.1, t.1) x.1 y.1,
    )

pub known_file : (db : List Relation) (f : RawFileView) → ArePlainTexts f.definitions f.query → own_faults db f ≡ [] → AreKnownTexts db f.definitions f.query
known_file db f t e = let x = both_none (name_faults db f.definitions) (text_faults db f) e in known_texts db f.definitions f.query t x.0 x.1

-- ---- texts of the file

same_itself : (s : Sort) → same_sort s s ≡ true
same_itself Time = refl
same_itself Data = refl
same_itself (Named n) = own_name n

module _ (db : List Relation) (f : RawFileView) where
  abbrev T : Signature
  T = signature db f.definitions

  abbrev IsInFile : (Sort × Text) → Type 0
  IsInFile x = Among x (file_texts db f)

  -- all that the name brings is in the file
  abbrev pub IsReached : Identifier → Type 0
  IsReached n = (x : Sort × Text) → Brings x T (reverse f.definitions) (n ∷ []) → IsInFile x

  in_domain : (s : Sort) (t : Text) → IsInFile (s, t) → Contains (wide_domain db f s) t
  in_domain s t h =
      (contains_in_order (map (λ e. e.1) (filter (λ e. same_sort e.0 s) (file_texts db f))) t).1
      ((contains_any s t (file_texts db f)).1 (any_here (λ e. (same_sort e.0 s ≡ true) × (e.1 ≡ t)) (s, t) (file_texts db f) h (same_itself s, refl)))

  texts_in : (cs : List Column) (ts : List RawTerm) → ((x : Sort × Text) → Among x (argument_texts cs ts) → IsInFile x) → TextsIn (wide_structure db f) cs ts
  texts_in [] ts h = tt
  texts_in (c ∷ cs) [] h = tt
  texts_in (c ∷ cs) (t ∷ ts) h = by t.kind h (texts_in cs ts)
    where
      by : (k : RawTermKind) → ((x : Sort × Text) → Among x (text_in c.sort k (argument_texts cs ts)) → IsInFile x) → (((x : Sort × Text) → Among x (argument_texts cs ts) → IsInFile x) → TextsIn (wide_structure db f) cs ts)
          → TextIn (wide_structure db f) c.sort k × TextsIn (wide_structure db f) cs ts
      by (Int z) h r = (tt, r h)
      by (text_kind u) h r = (in_domain c.sort u (h (c.sort, u) (inl refl)), r (λ x a. h x (inr a)))
      by (Var v) h r = (tt, r h)
      by (Shifted v plus) h r = (tt, r h)

  module _ (all : List Relation) (columns : HasColumns T all) where
    abbrev IsReachedIn : Identifier → Type 0
    IsReachedIn n = IsNamed (relation_named all n) × IsReached n

    abbrev AreIn : List (Sort × Text) → Type 0
    AreIn xs = (x : Sort × Text) → Among x xs → IsInFile x

    front : (xs ys : List (Sort × Text)) → AreIn (xs ++ ys) → AreIn xs
    front xs ys h x a = h x ((among_both x xs ys).1 (inl a))

    back : (xs ys : List (Sort × Text)) → AreIn (xs ++ ys) → AreIn ys
    back xs ys h x a = h x ((among_both x xs ys).1 (inr a))

    left : (ms ns : List Identifier) → AllByRecursion IsReachedIn (ms ++ ns) → AllByRecursion IsReachedIn ms
    left ms ns h = ((all_append IsReachedIn ms ns).0 h).0

    right : (ms ns : List Identifier) → AllByRecursion IsReachedIn (ms ++ ns) → AllByRecursion IsReachedIn ns
    right ms ns h = ((all_append IsReachedIn ms ns).0 h).1

    mutual
      has_texts : (g : RawForm) (bs : Binders) → AllByRecursion IsReachedIn (atom_names g) → AreIn (own_texts g T bs) → HasTexts g IsReached (columns_of all) (wide_structure db f)
      has_texts (raw_atom p n ts) bs r h =
          (r.0.1, subst (λ cs. TextsIn (wide_structure db f) cs ts) (sym (columns n r.0.0)) (texts_in (T n) ts (λ x a. h x ((by_list x (term_texts (T n) (map (term_of bs) ts)) (argument_texts (T n) ts) (terms_say (T n) ts bs)).1 a))))
      has_texts (raw_compare p l op k) bs r h = tt
      has_texts (raw_member p t point) bs r h = tt
      has_texts (raw_not p g) bs r h = has_texts g bs r h
      has_texts (raw_and p fs) bs r h = have_texts fs bs r h
      has_texts (raw_or p fs) bs r h = have_texts fs bs r h
      has_texts (raw_implies p g i) bs r h = (has_texts g bs (left (atom_names g) (atom_names i) r) (front (own_texts g T bs) (own_texts i T bs) h), has_texts i bs (right (atom_names g) (atom_names i) r) (back (own_texts g T bs) (own_texts i T bs) h))
      has_texts (raw_group p g) bs r h = has_texts g bs r h
      has_texts (raw_exists p c g) bs r h = has_texts g (c ∷ bs) r h
      has_texts (raw_forall p c g) bs r h = has_texts g (c ∷ bs) r h
      has_texts (raw_ranged word o from to g) bs r h = has_texts g (operator_variable o ∷ bs) r h
      has_texts (raw_paired word o g i) bs r h =
          let is = operator_variable o ∷ bs in
          (has_texts g is (left (atom_names g) (atom_names i) r) (front (own_texts g T is) (own_texts i T is) h), has_texts i is (right (atom_names g) (atom_names i) r) (back (own_texts g T is) (own_texts i T is) h))

      have_texts : (fs : RawForms) (bs : Binders) → AllByRecursion IsReachedIn (atom_names_each fs) → AreIn (own_texts_each fs T bs) → HaveTexts fs IsReached (columns_of all) (wide_structure db f)
      have_texts no_raws bs r h = tt
      have_texts (raw g fs) bs r h = (has_texts g bs (left (atom_names g) (atom_names_each fs) r) (front (own_texts g T bs) (own_texts_each fs T bs) h), have_texts fs bs (right (atom_names g) (atom_names_each fs) r) (back (own_texts g T bs) (own_texts_each fs T bs) h))

    -- names of which each brings what is in the file
    all_reached : (names : List Identifier) → AreNamedIn all names → ((n : Identifier) → IsNamed (relation_named all n) → (x : Sort × Text) → Brings x T (reverse f.definitions) (n ∷ []) → AnyOf (λ m. m ≡ n) names → IsInFile x) → AllByRecursion IsReachedIn names
    all_reached [] k h = tt
    all_reached (n ∷ names) k h = ((k.0, λ x b. h n k.0 x b (inl refl)), all_reached names k.1 (λ m i x b a. h m i x b (inr a)))

    -- a text whose own texts, and what its names bring, are in the file
    sorted_text : (q : RawQuestion) → IsPlainText q.body → IsKnownText all q → AreIn (own_texts q.body T (reverse q.head))
        → ((n : Identifier) → IsNamed (relation_named all n) → (x : Sort × Text) → Brings x T (reverse f.definitions) (n ∷ []) → AnyOf (λ m. m ≡ n) (atom_names q.body) → IsInFile x) → IsSortedText all (wide_structure db f) IsReached q
    sorted_text q t k own brought = record {
      names = t.names;
      stars = t.stars;
      fit = k.fit;
      texts = has_texts q.body (reverse q.head) (all_reached (atom_names q.body) (names_written (λ n. IsNamed (relation_named all n)) (operator_number (operators q.body)) q.body [] k.known) brought) own;
    }

  -- a name of these relations brings no more where further definitions stand
  stays : (x : Sort × Text) (q : RawQuestion) (all : List Relation) (n : Identifier) → IsNamed (relation_named all n) → (before ds : List RawDefinitionView) → AreKnownTexts all ds q → Brings x T (reverse ds ++ before) (n ∷ []) ↔ Brings x T before (n ∷ [])
  stays x q all n k before [] t = same_iff
  stays x q all n k before (d ∷ ds) t =
      let turned : reverse ds ++ d ∷ before ≡ reverse (d ∷ ds) ++ before = sym (ap (λ l. l ++ before) (reverse-append (d ∷ []) ds) ∙ append_assoc (reverse ds) (d ∷ []) before) in
      let other : bytes_eq d.name n ≡ false = other_name d.name n (λ e. let free : relation_named all n ≡ None = subst (λ m. relation_named all m ≡ None) e t.0.fresh in subst IsNamed free k) in
      subst (λ l. Brings x T l (n ∷ []) ↔ Brings x T before (n ∷ [])) turned
      (iff_then (stays x q (all ++ defined_relation d ∷ []) n (still (relation_named all n) refl k) (d ∷ before) ds t.1) (brings_other x T d before n other))
    where
      still : (o : Option Relation) → relation_named all n ≡ o → IsNamed o → IsNamed (relation_named (all ++ defined_relation d ∷ []) n)
      still None e k = absurd k
      still (Some r) e k = subst IsNamed (sym (find_front (λ r. bytes_eq r.name n) all (defined_relation d ∷ []) r e)) tt

  any_brings : (x : Sort × Text) (ds : List RawDefinitionView) (n : Identifier) (names : List Identifier) → AnyOf (λ m. m ≡ n) names → Brings x T ds (n ∷ []) → Brings x T ds names
  any_brings x ds n names a b = (brings_any x T ds names).1 (found names a)
    where
      found : (ms : List Identifier) → AnyOf (λ m. m ≡ n) ms → AnyOf (λ m. Brings x T ds (m ∷ [])) ms
      found [] a = absurd a
      found (m ∷ ms) a = ⊎_elim (λ e. inl (subst (λ z. Brings x T ds (z ∷ [])) (sym e) b)) (λ c. inr (found ms c)) a

  module _ (own : (x : Sort × Text) → Among x (own_texts f.query.body T (reverse f.query.head)) → IsInFile x) (brought : (x : Sort × Text) → Brings x T (reverse f.definitions) (atom_names f.query.body) → IsInFile x) where
    sorted_texts : (all : List Relation) (ks : List Known) (before ds : List RawDefinitionView) → reverse ds ++ before ≡ reverse f.definitions → ((x : Sort × Text) → AreBrought x db T all ks before) → GivesColumns T all ds → ArePlainTexts ds f.query → AreKnownTexts all ds f.query
        → AreSortedTexts all (wide_structure db f) IsReached ds f.query
    sorted_texts all ks before [] e h g t k = sorted_text all (columns_given T all [] g) f.query t.1 k own (λ n i x b a. brought x (any_brings x (reverse f.definitions) n (atom_names f.query.body) a b))
    sorted_texts all ks before (d ∷ ds) e h g t k =
        let columns : HasColumns T all = columns_given T all (d ∷ ds) g in
        let turned : reverse ds ++ d ∷ before ≡ reverse f.definitions = sym (ap (λ l. l ++ before) (reverse-append (d ∷ []) ds) ∙ append_assoc (reverse ds) (d ∷ []) before) ∙ e in
        let named_here : IsNamed (relation_named (all ++ defined_relation d ∷ []) d.name) = subst IsNamed (sym (find_last (λ r. bytes_eq r.name d.name) (defined_relation d) (own_name d.name) all k.0.fresh)) tt in
        -- what the definition has, and what its names bring, its name brings
        let brings : (x : Sort × Text) → Among x (definition_texts x T d) ⊎ Brings x T before (atom_names d.body) → Brings x T (reverse f.definitions) (d.name ∷ []) =
        λ x b. subst (λ l. Brings x T l (d.name ∷ [])) turned ((stays x f.query (all ++ defined_relation d ∷ []) d.name named_here (d ∷ before) ds k.1).1 ((brings_itself x T d before ((h x).nothing d.name k.0.fresh)).1 b)) in (
          record {
            fresh = k.0.fresh;
            distinct = k.0.distinct;
            text = λ r. sorted_text all columns (query_of d) t.0.0 k.0.text (λ x a. r x (brings x (inl a)))
                (λ n i x b a. r x (brings x (inr (any_brings x before n (atom_names d.body) a ((stays x f.query all n i before (d ∷ ds) k).0 (subst (λ l. Brings x T l (n ∷ [])) (sym e) b))))));
          },
          sorted_texts (all ++ defined_relation d ∷ []) (ks ++ known_with db ks d ∷ []) (d ∷ before) ds turned
              (λ x. brought_more x db T all ks before (h x) columns d k.0.fresh k.0.distinct k.0.text (own_given T all d ds g k.0.fresh)) (given_more T all d ds g) (t.0.1, t.1) k.1,
        )

  pub sorted_file : ArePlainTexts f.definitions f.query → AreKnownTexts db f.definitions f.query → AreSortedTexts db (wide_structure db f) IsReached f.definitions f.query
  sorted_file t k =
      let g = file_columns db f.definitions f.query k in
      let here = own_texts f.query.body T (reverse f.query.head) in
      sorted_texts (λ x a. (among_both x (database_texts db) (here ++ rest x)).1 (inr ((among_both x here (rest x)).1 (inl a)))) (λ x b. (among_both x (database_texts db) (here ++ rest x)).1 (inr ((among_both x here (rest x)).1 (inr b))))
      db [] [] f.definitions (append-nil (reverse f.definitions)) (λ x. brought_first x db T (columns_given T db f.definitions g)) g t k
    where
      rest : (Sort × Text) → List (Sort × Text)
      rest x = flat_map (definition_texts x T) (named_by (reverse f.definitions) (atom_names f.query.body))
