-- The texts of a file are those of its expanded query.
use Rattle.std.proofs.Common.{◌≡◌, ◌↔◌, ◌⊎◌, Bool, true, false, List, [], ◌∷◌, ◌++◌, Option, Some, None, map, refl, sym, ap, ap₂, subst, ◌∙◌, cond, append_assoc}
use Rattle.std.specs.Prelude.{reverse, find, unwrap_or}
use Rattle.std.proofs.lemmas.List.{reverse-append}
use Rattle.std.specs.List.{AllByRecursion}
use Rattle.std.specs.Str.{bytes_eq}
use Rattle.std.specs.Cmp.Lexicographic.{bytes_decides}
use Rattle.lrp_model.specs.Texts.{Text, Identifier}
use Rattle.lrp_model.specs.DatabaseMeaning.{column_of}
use Rattle.lrp_model.specs.RawTerms.{data_of}
use Rattle.lrp_model.specs.Checked.{plain, plain_each}
use Rattle.lrp_model.specs.Domains.{text_beside, sort_beside, form_texts, forms_texts}
use Rattle.lrp_model.specs.Rows.{relation_named, columns_in}
use Rattle.lrp_model.specs.Satisfaction.{HaveDistinctNames}
use Rattle.lrp_model.specs.Sorting.{Binders, binder_sort}
use Rattle.lrp_model.specs.RawQueries.{RawForm, RawForms, RawQuestion, RawDefinitionView, HasNoOperator, HaveNoOperator, raw_atom, raw_compare, raw_member, raw_not, raw_and, raw_or, raw_implies, raw_group, raw_exists, raw_forall, raw_ranged, raw_paired, no_raws, raw}
use Rattle.lrp_model.specs.declared.relations.Sort.{Sort}
use Rattle.lrp_model.specs.declared.relations.Sort.TheVariants.{Data}
use Rattle.lrp_model.specs.declared.relations.Column.{Column}
use Rattle.lrp_model.specs.declared.relations.Relation.{Relation}
use Rattle.lrp_model.specs.declared.formulas.DataTerm.{DataTerm}
use Rattle.lrp_model.specs.declared.formulas.DataTerm.TheVariants.{Var as data_var, Const as data_const}
use Rattle.lrp_model.specs.declared.raw.RawColumn.{RawColumn}
use Rattle.lrp_model.proofs.Logic.{all_append}
use Rattle.lrp_tense.specs.Expanding.{HasPlainNames, expanded_question}
use Rattle.lrp_tense.proofs.NoOperators.{none_left}
use Rattle.lrp_tense.proofs.Scoping.{own_name, bound_here, bound_further}
use Rattle.lrp_tense.proofs.HeadNames.{AgreeOn, agree_more, sort_among}
use Rattle.lrp_wide.specs.Meaning.{Signature, signature, columns_where, own_texts, own_texts_each, atom_names}
use Rattle.lrp_wide.specs.Inlining.{Known, UseSetting, without_relation, known_named, meant_by, inlined, known_with, known_of}
use Rattle.lrp_wide.specs.WideSorting.{defined_relation, query_of}
use Rattle.lrp_wide.proofs.SatisfyNotions.{columns_of, IsFit, AreFit, BindsFresh, BindFresh}
use Rattle.lrp_wide.proofs.SatisfyFile.{find_other, find_last, find_neither}
use Rattle.lrp_wide.proofs.SortedTexts.{IsNamed, AreNamedIn}
use Rattle.lrp_wide.proofs.TextSays.{Among, Says, own_said, shown, shown_is, are_data, compare_shown, either, same_iff, iff_then, turned_iff}
use Rattle.lrp_wide.proofs.TextOperators.{text_says}
use Rattle.lrp_wide.proofs.TextUses.{HasSorts, HaveSorts, Nothing, own_columns, SaysInUse, IsMet, IsMeant, inlined_says}
use Rattle.lrp_wide.proofs.TextNamed.{Brings, brings_any, brings_itself, brings_other}

-- ---- a text without faults

-- what is known of a text over these relations
pub record IsKnownText (all : List Relation) (q : RawQuestion) : Type 0 where
  pub names : HasPlainNames q.body
  pub fit : IsFit (expanded_question q).body (columns_of all) (reverse q.head)
  pub known : AreNamedIn all (atom_names (expanded_question q).body)

mutual
  pub fit_fresh : (f : RawForm) (S : Signature) (bs : Binders) → IsFit f S bs → BindsFresh f bs
  fit_fresh (raw_atom p n ts) S bs h = tt
  fit_fresh (raw_compare p l op r) S bs h = tt
  fit_fresh (raw_member p t point) S bs h = tt
  fit_fresh (raw_not p f) S bs h = fit_fresh f S bs h
  fit_fresh (raw_and p fs) S bs h = fit_fresh_each fs S bs h
  fit_fresh (raw_or p fs) S bs h = fit_fresh_each fs S bs h
  fit_fresh (raw_implies p f g) S bs h = (fit_fresh f S bs h.0, fit_fresh g S bs h.1)
  fit_fresh (raw_group p f) S bs h = fit_fresh f S bs h
  fit_fresh (raw_exists p c f) S bs h = (h.0, fit_fresh f S (c ∷ bs) h.1)
  fit_fresh (raw_forall p c f) S bs h = (h.0, fit_fresh f S (c ∷ bs) h.1)
  fit_fresh (raw_ranged word o from to f) S bs h = absurd h
  fit_fresh (raw_paired word o f g) S bs h = absurd h

  fit_fresh_each : (fs : RawForms) (S : Signature) (bs : Binders) → AreFit fs S bs → BindFresh fs bs
  fit_fresh_each no_raws S bs h = tt
  fit_fresh_each (raw f fs) S bs h = (fit_fresh f S bs h.0, fit_fresh_each fs S bs h.1)

-- ---- columns as binders

module _ (name : Identifier → Identifier) (cs : Binders) where
  -- a variable that is bound is one of the binders
  sorts_found : (bs : List RawColumn) → AllByRecursion (λ c. binder_sort cs (name c.name) ≡ Some c.sort) bs → HasSorts name bs cs
  sorts_found [] h v s b = cc
  sorts_found (c ∷ bs) h v s b = by (bytes_eq c.name v) refl (λ e. sorts_found bs h.1 v s e)
    where
      by : (t : Bool) → bytes_eq c.name v ≡ t → (binder_sort bs v ≡ Some s → binder_sort cs (name v) ≡ Some s) → binder_sort cs (name v) ≡ Some s
      by true e r =
          let same : c.name ≡ v = (bytes_decides c.name v).0 e in
          subst (λ n. binder_sort cs (name n) ≡ Some s) same (h.0 ∙ sym (bound_here c bs v e) ∙ b)
      by false e r = r (sym (bound_further c bs v e) ∙ b)

  all_turned : (P : RawColumn → Type 0) (columns : List RawColumn) → AllByRecursion P columns → AllByRecursion P (reverse columns)
  all_turned P [] h = tt
  all_turned P (c ∷ columns) h = subst (AllByRecursion P) (sym (reverse-append (c ∷ []) columns)) ((all_append P (reverse columns) (c ∷ [])).1 (all_turned P columns h.1, (h.0, tt)))

  raw_sorts : (columns : List RawColumn) → HaveSorts name cs (map column_of columns) → AllByRecursion (λ c. binder_sort cs (name c.name) ≡ Some c.sort) columns
  raw_sorts [] h = tt
  raw_sorts (c ∷ columns) h = (h.0, raw_sorts columns h.1)

  sorts_of_columns : (columns : List RawColumn) → HaveSorts name cs (map column_of columns) → HasSorts name (reverse columns) cs
  sorts_of_columns columns h = sorts_found (reverse columns) (all_turned (λ c. binder_sort cs (name c.name) ≡ Some c.sort) columns (raw_sorts columns h))

-- ---- definitions, one after another

abbrev pub BringsOf : (Sort × Text) → Signature → List RawDefinitionView → Identifier → Type 0
BringsOf x T ds n = Brings x T ds (n ∷ [])

-- what is known of the names: those of these relations bring what these definitions have, and no other name means anything
pub record AreBrought (x : Sort × Text) (db : List Relation) (T : Signature) (all : List Relation) (ks : List Known) (ds : List RawDefinitionView) : Type 0 where
  pub met : (n : Identifier) → IsNamed (relation_named all n) → IsMet x db T (BringsOf x T ds) n (meant_by db ks n)
  pub relations : (n : Identifier) → relation_named all n ≡ None → relation_named db n ≡ None
  pub definitions : (n : Identifier) → relation_named all n ≡ None → known_named ks n ≡ None
  pub nothing : (n : Identifier) → relation_named all n ≡ None → BringsOf x T ds n → ⊥

-- each name of these relations has its columns in the file
abbrev pub HasColumns : Signature → List Relation → Type 0
HasColumns T all = (n : Identifier) → IsNamed (relation_named all n) → columns_of all n ≡ T n

module _ (x : Sort × Text) (db : List Relation) (T : Signature) where
  all_meant : (all : List Relation) (ks : List Known) (ds : List RawDefinitionView) → AreBrought x db T all ks ds → HasColumns T all → (names : List Identifier) → AreNamedIn all names → AllByRecursion (IsMeant x db ks (columns_of all) T (BringsOf x T ds)) names
  all_meant all ks ds h columns [] k = tt
  all_meant all ks ds h columns (n ∷ names) k = ((columns n k.0, h.met n k.0), all_meant all ks ds h columns names k.1)

  -- a text that is written out in a setting has its own texts and those that its names bring
  text_brings : (all : List Relation) (ks : List Known) (ds : List RawDefinitionView) → AreBrought x db T all ks ds → HasColumns T all → (q : RawQuestion) → IsKnownText all q → (s : UseSetting) (cs : Binders) → HasSorts s.name (reverse q.head) cs
      → BindsFresh (inlined db ks (expanded_question q).body s) cs → Says x (own_columns db) Nothing (inlined db ks (expanded_question q).body s) cs ↔ (Among x (own_texts q.body T (reverse q.head)) ⊎ Brings x T ds (atom_names q.body))
  text_brings all ks ds h columns q t s cs sorts fresh =
      iff_then (inlined_says x db ks (columns_of all) T (BringsOf x T ds) (expanded_question q).body s (reverse q.head) cs (none_left q.body _ []) t.fit (all_meant all ks ds h columns (atom_names (expanded_question q).body) t.known) sorts fresh)
      (iff_then (text_says x T (BringsOf x T ds) q t.names (fit_fresh (expanded_question q).body (columns_of all) (reverse q.head) t.fit))
      (iff_then (own_said x T (BringsOf x T ds) q.body (reverse q.head)) (either same_iff (turned_iff (brings_any x T ds (atom_names q.body))))))

  -- one definition more
  module _ (all : List Relation) (ks : List Known) (ds : List RawDefinitionView) (h : AreBrought x db T all ks ds) (columns : HasColumns T all) (d : RawDefinitionView) (fresh : relation_named all d.name ≡ None) (distinct : HaveDistinctNames (map column_of d.columns))
      (t : IsKnownText all (query_of d)) (own : T d.name ≡ map column_of d.columns) where
    in_use : SaysInUse x db T (BringsOf x T (d ∷ ds)) d.name (known_with db ks d)
    in_use s cs f sorts =
        iff_then (text_brings all ks ds h columns (query_of d) t s cs (sorts_of_columns s.name cs d.columns sorts) f) (turned_iff (brings_itself x T d ds (h.nothing d.name fresh)))

    met_more : (n : Identifier) (b : Bool) → bytes_eq d.name n ≡ b → IsNamed (relation_named (all ++ defined_relation d ∷ []) n) → IsMet x db T (BringsOf x T (d ∷ ds)) n (meant_by db (ks ++ known_with db ks d ∷ []) n)
    met_more n true e k =
        let same : d.name ≡ n = (bytes_decides d.name n).0 e in
        let free : relation_named all n ≡ None = subst (λ m. relation_named all m ≡ None) same fresh in
        let here : meant_by db (ks ++ known_with db ks d ∷ []) n ≡ Some (known_with db ks d) = ap₂ without_relation (h.relations n free) (find_last (λ k. bytes_eq k.name n) (known_with db ks d) e ks (h.definitions n free)) in
        subst (IsMet x db T (BringsOf x T (d ∷ ds)) n) (sym here) (sym own ∙ ap T same, (distinct, subst (λ m. SaysInUse x db T (BringsOf x T (d ∷ ds)) m (known_with db ks d)) same in_use))
    met_more n false e k =
        let there : meant_by db (ks ++ known_with db ks d ∷ []) n ≡ meant_by db ks n = ap (λ o. without_relation (relation_named db n) o) (find_other (λ k. bytes_eq k.name n) (known_with db ks d) e ks) in
        let old : IsMet x db T (BringsOf x T ds) n (meant_by db ks n) = h.met n (subst IsNamed (find_other (λ r. bytes_eq r.name n) (defined_relation d) e all) k) in
        subst (IsMet x db T (BringsOf x T (d ∷ ds)) n) (sym there) (by (meant_by db ks n) old)
      where
        more : BringsOf x T (d ∷ ds) n ↔ BringsOf x T ds n
        more = brings_other x T d ds n e

        by : (o : Option Known) → IsMet x db T (BringsOf x T ds) n o → IsMet x db T (BringsOf x T (d ∷ ds)) n o
        by None m = (m.0, λ y. m.1 (more.0 y))
        by (Some k) m = (m.0, (m.1.0, λ s cs f sorts. iff_then (m.1.1 s cs f sorts) (turned_iff more)))

    pub brought_more : AreBrought x db T (all ++ defined_relation d ∷ []) (ks ++ known_with db ks d ∷ []) (d ∷ ds)
    brought_more = record {
      met = λ n k. met_more n (bytes_eq d.name n) refl k;
      relations = λ n e. h.relations n (find_neither (λ r. bytes_eq r.name n) (defined_relation d) all e).0;
      definitions = λ n e.
          let y = find_neither (λ r. bytes_eq r.name n) (defined_relation d) all e in
          find_other (λ k. bytes_eq k.name n) (known_with db ks d) y.1 ks ∙ h.definitions n y.0;
      nothing = λ n e b.
          let y = find_neither (λ r. bytes_eq r.name n) (defined_relation d) all e in
          h.nothing n y.0 ((brings_other x T d ds n y.1).0 b);
    }

-- with no definition
pub brought_first : (x : Sort × Text) (db : List Relation) (T : Signature) → HasColumns T db → AreBrought x db T db [] []
brought_first x db T columns = record {
  met = λ n k. subst (IsMet x db T (BringsOf x T []) n) (sym (none (relation_named db n))) (columns n k, λ y. y);
  relations = λ n e. e;
  definitions = λ n e. refl;
  nothing = λ n e y. y;
}
  where
    none : (o : Option Relation) → without_relation o None ≡ None
    none None = refl
    none (Some r) = refl

-- ---- the columns of names

pub find_front : {A : Type 0} (t : A → Bool) (xs ys : List A) (r : A) → find t xs ≡ Some r → find t (xs ++ ys) ≡ Some r
find_front {A} t [] ys r e = cc
find_front {A} t (x ∷ xs) ys r e = by (t x) e (λ k. find_front t xs ys r k)
  where
    by : (b : Bool) → cond b (Some x) (find t xs) ≡ Some r → (find t xs ≡ Some r → find t (xs ++ ys) ≡ Some r) → cond b (Some x) (find t (xs ++ ys)) ≡ Some r
    by true e k = e
    by false e k = k e

find_after : {A : Type 0} (t : A → Bool) (xs ys : List A) → find t xs ≡ None → find t (xs ++ ys) ≡ find t ys
find_after {A} t [] ys e = refl
find_after {A} t (x ∷ xs) ys e = by (t x) e (λ k. find_after t xs ys k)
  where
    by : (b : Bool) → cond b (Some x) (find t xs) ≡ None → (find t xs ≡ None → find t (xs ++ ys) ≡ find t ys) → cond b (Some x) (find t (xs ++ ys)) ≡ find t ys
    by true e k = cc
    by false e k = k e

-- the relations with those of further definitions give each name its columns
abbrev pub GivesColumns : Signature → List Relation → List RawDefinitionView → Type 0
GivesColumns T all ds = (n : Identifier) (r : Relation) → relation_named (all ++ map defined_relation ds) n ≡ Some r → T n ≡ r.columns

pub columns_given : (T : Signature) (all : List Relation) (ds : List RawDefinitionView) → GivesColumns T all ds → HasColumns T all
columns_given T all ds g n k = by (relation_named all n) refl k
  where
    by : (o : Option Relation) → relation_named all n ≡ o → IsNamed o → columns_of all n ≡ T n
    by None e k = absurd k
    by (Some r) e k = ap columns_in e ∙ sym (g n r (find_front (λ r. bytes_eq r.name n) all (map defined_relation ds) r e))

pub own_given : (T : Signature) (all : List Relation) (d : RawDefinitionView) (ds : List RawDefinitionView) → GivesColumns T all (d ∷ ds) → relation_named all d.name ≡ None → T d.name ≡ map column_of d.columns
own_given T all d ds g fresh =
    g d.name (defined_relation d) (find_after (λ r. bytes_eq r.name d.name) all (map defined_relation (d ∷ ds)) fresh ∙ ap (λ b. cond b (Some (defined_relation d)) (relation_named (map defined_relation ds) d.name)) (own_name d.name))

pub given_more : (T : Signature) (all : List Relation) (d : RawDefinitionView) (ds : List RawDefinitionView) → GivesColumns T all (d ∷ ds) → GivesColumns T (all ++ defined_relation d ∷ []) ds
given_more T all d ds g n r e = g n r (ap (λ l. relation_named l n) (sym (append_assoc all (defined_relation d ∷ []) (map defined_relation ds))) ∙ e)

-- ---- whole files

pub record IsKnownDefinition (all : List Relation) (d : RawDefinitionView) : Type 0 where
  pub fresh : relation_named all d.name ≡ None
  pub distinct : HaveDistinctNames (map column_of d.columns)
  pub text : IsKnownText all (query_of d)

-- each definition is known beside those before it, and the query beside them all
abbrev pub AreKnownTexts : List Relation → List RawDefinitionView → RawQuestion → Type 0
AreKnownTexts all [] q = IsKnownText all q
AreKnownTexts all (d ∷ ds) q = IsKnownDefinition all d × AreKnownTexts (all ++ defined_relation d ∷ []) ds q

module _ (x : Sort × Text) (db : List Relation) (T : Signature) (q : RawQuestion) (s : UseSetting) (cs : Binders) (sorts : HasSorts s.name (reverse q.head) cs) where
  abbrev pub QueryBrings : List Known → List RawDefinitionView → Type 0
  QueryBrings ks ds =
      BindsFresh (inlined db ks (expanded_question q).body s) cs → Says x (own_columns db) Nothing (inlined db ks (expanded_question q).body s) cs ↔ (Among x (own_texts q.body T (reverse q.head)) ⊎ Brings x T ds (atom_names q.body))

  pub query_brings : (all : List Relation) (ks : List Known) (before ds : List RawDefinitionView) → AreBrought x db T all ks before → AreKnownTexts all ds q → GivesColumns T all ds → QueryBrings (known_of db ks ds) (reverse ds ++ before)
  query_brings all ks before [] h t g = λ f. text_brings x db T all ks before h (columns_given T all [] g) q t s cs sorts f
  query_brings all ks before (d ∷ ds) h t g =
      let turned : reverse ds ++ d ∷ before ≡ reverse (d ∷ ds) ++ before = sym (ap (λ l. l ++ before) (reverse-append (d ∷ []) ds) ∙ append_assoc (reverse ds) (d ∷ []) before) in
      let more = brought_more x db T all ks before h (columns_given T all (d ∷ ds) g) d t.0.fresh t.0.distinct t.0.text (own_given T all d ds g t.0.fresh) in
      subst (QueryBrings (known_of db (ks ++ known_with db ks d ∷ []) ds)) turned
      (query_brings (all ++ defined_relation d ∷ []) (ks ++ known_with db ks d ∷ []) (d ∷ before) ds more t.1 (given_more T all d ds g))

-- ---- the columns of a file's names

columns_kept : (db : List Relation) (n : Identifier) (ds : List RawDefinitionView) (all : List Relation) (r : Relation) → relation_named all n ≡ Some r → (q : RawQuestion) → AreKnownTexts all ds q → signature db ds n ≡ columns_in (relation_named db n)
columns_kept db n [] all r e q t = refl
columns_kept db n (d ∷ ds) all r e q t = by (bytes_eq d.name n) refl (columns_kept db n ds (all ++ defined_relation d ∷ []) r (find_front (λ r. bytes_eq r.name n) all (defined_relation d ∷ []) r e) q t.1)
  where
    by : (b : Bool) → bytes_eq d.name n ≡ b → signature db ds n ≡ columns_in (relation_named db n) → columns_where b (map column_of d.columns) (signature db ds n) ≡ columns_in (relation_named db n)
    by true s k = let free : relation_named all n ≡ None = subst (λ m. relation_named all m ≡ None) ((bytes_decides d.name n).0 s) t.0.fresh in cc
    by false s k = k

columns_met : (db : List Relation) (n : Identifier) (r : Relation) (ds : List RawDefinitionView) → relation_named (map defined_relation ds) n ≡ Some r → signature db ds n ≡ r.columns
columns_met db n r [] e = cc
columns_met db n r (d ∷ ds) e = by (bytes_eq d.name n) e (λ k. columns_met db n r ds k)
  where
    by : (b : Bool) → cond b (Some (defined_relation d)) (relation_named (map defined_relation ds) n) ≡ Some r → (relation_named (map defined_relation ds) n ≡ Some r → signature db ds n ≡ r.columns) → columns_where b (map column_of d.columns) (signature db ds n) ≡ r.columns
    by true e k = let is : defined_relation d ≡ r = cc in ap (λ z. z.columns) is
    by false e k = k e

pub file_columns : (db : List Relation) (ds : List RawDefinitionView) (q : RawQuestion) → AreKnownTexts db ds q → GivesColumns (signature db ds) db ds
file_columns db ds q t n r e = by (relation_named db n) refl
  where
    by : (o : Option Relation) → relation_named db n ≡ o → signature db ds n ≡ r.columns
    by None k = columns_met db n r ds (sym (find_after (λ r. bytes_eq r.name n) db (map defined_relation ds) k) ∙ e)
    by (Some z) k =
        let there : relation_named (db ++ map defined_relation ds) n ≡ Some z = find_front (λ r. bytes_eq r.name n) db (map defined_relation ds) z k in
        let is : z ≡ r = cc in
        columns_kept db n ds db z k q t ∙ ap columns_in k ∙ ap (λ z. z.columns) is

-- ---- a formula without places

module _ (columns : List Column) (bs : Binders) (h : AgreeOn columns bs) where
  beside_agrees : (t : DataTerm) → sort_beside (map column_of bs) t ≡ sort_beside columns t
  beside_agrees (data_var v) = ap (λ o. unwrap_or o Data) (sort_among bs v ∙ sym (h v))
  beside_agrees (data_const t) = refl

  text_agrees : (a b : DataTerm) → text_beside (map column_of bs) a b ≡ text_beside columns a b
  text_agrees a (data_var v) = refl
  text_agrees a (data_const t) = ap (λ s. (s, t) ∷ []) (beside_agrees a)

  shown_agrees : (f : Bool) (a b : DataTerm) → shown f (map column_of bs) a b ≡ shown f columns a b
  shown_agrees true a b = ap₂ (λ xs ys. xs ++ ys) (text_agrees b a) (text_agrees a b)
  shown_agrees false a b = refl

mutual
  pub plain_texts : (db : List Relation) (f : RawForm) (bs : Binders) (columns : List Column) → HasNoOperator f → AgreeOn columns bs → own_texts f (own_columns db) bs ≡ form_texts (plain f bs) db columns
  plain_texts db (raw_atom p n ts) bs columns o h = refl
  plain_texts db (raw_compare p l op r) bs columns o h =
      compare_shown bs l op r ∙ shown_agrees columns bs h (are_data bs l.kind op r.kind) (data_of l.kind) (data_of r.kind) ∙ sym (shown_is (are_data bs l.kind op r.kind) columns l.kind r.kind op)
  plain_texts db (raw_member p t point) bs columns o h = refl
  plain_texts db (raw_not p f) bs columns o h = plain_texts db f bs columns o h
  plain_texts db (raw_and p fs) bs columns o h = plain_texts_each db fs bs columns o h
  plain_texts db (raw_or p fs) bs columns o h = plain_texts_each db fs bs columns o h
  plain_texts db (raw_implies p f g) bs columns o h = ap₂ (λ xs ys. xs ++ ys) (plain_texts db f bs columns o.0 h) (plain_texts db g bs columns o.1 h)
  plain_texts db (raw_group p f) bs columns o h = plain_texts db f bs columns o h
  plain_texts db (raw_exists p c f) bs columns o h = plain_texts db f (c ∷ bs) (column_of c ∷ columns) o (agree_more columns bs h c)
  plain_texts db (raw_forall p c f) bs columns o h = plain_texts db f (c ∷ bs) (column_of c ∷ columns) o (agree_more columns bs h c)
  plain_texts db (raw_ranged word a from to f) bs columns o h = absurd o
  plain_texts db (raw_paired word a f g) bs columns o h = absurd o

  plain_texts_each : (db : List Relation) (fs : RawForms) (bs : Binders) (columns : List Column) → HaveNoOperator fs → AgreeOn columns bs → own_texts_each fs (own_columns db) bs ≡ forms_texts (plain_each fs bs) db columns
  plain_texts_each db no_raws bs columns o h = refl
  plain_texts_each db (raw f fs) bs columns o h = ap₂ (λ xs ys. xs ++ ys) (plain_texts db f bs columns o.0 h) (plain_texts_each db fs bs columns o.1 h)
