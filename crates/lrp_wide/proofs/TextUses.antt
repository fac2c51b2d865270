-- Where uses of definitions and `*` are written out the texts are those of the formula and of the definitions that it names.
use Rattle.std.proofs.Common.{◌≡◌, ◌≢◌, ◌↔◌, ◌⊎◌, ℕ, suc, ◌+◌, Bool, true, false, List, [], ◌∷◌, ◌++◌, Option, Some, None, map, refl, sym, ap, subst, ◌∙◌, if◌then◌else◌}
use Rattle.std.specs.Prelude.{◌&&◌, unwrap_or}
use Rattle.std.specs.List.{AllByRecursion}
use Rattle.std.specs.Str.{bytes_eq}
use Rattle.std.specs.Cmp.Lexicographic.{bytes_decides}
use Rattle.lrp_model.specs.Texts.{Text, Identifier}
use Rattle.lrp_model.specs.DatabaseMeaning.{column_of}
use Rattle.lrp_model.specs.Sorts.{same_sort, is_data}
use Rattle.lrp_model.specs.RawTerms.{time_of, data_of}
use Rattle.lrp_model.specs.Checked.{compare_of}
use Rattle.lrp_model.specs.Domains.{test_texts}
use Rattle.lrp_model.specs.Rows.{relation_named, columns_in}
use Rattle.lrp_model.specs.Satisfaction.{HaveDistinctNames}
use Rattle.lrp_model.specs.Sorting.{Binders, binder_sort, alone_sort, kind_sort, is_data_term, differs, kind_faults}
use Rattle.lrp_model.specs.RawQueries.{RawForm, RawForms, HasNoOperator, HaveNoOperator, raw_atom, raw_compare, raw_member, raw_not, raw_and, raw_or, raw_implies, raw_group, raw_exists, raw_forall, raw_ranged, raw_paired, no_raws, raw}
use Rattle.lrp_model.specs.declared.relations.Sort.{Sort}
use Rattle.lrp_model.specs.declared.relations.Sort.TheVariants.{Data}
use Rattle.lrp_model.specs.declared.relations.Column.{Column}
use Rattle.lrp_model.specs.declared.relations.Relation.{Relation}
use Rattle.lrp_model.specs.declared.formulas.Op.TheVariants.{Eq}
use Rattle.lrp_model.specs.declared.formulas.DataTerm.TheVariants.{Var as data_var, Const as data_const}
use Rattle.lrp_model.specs.declared.formulas.Test.TheVariants.{Compare, Equal}
use Rattle.lrp_model.specs.declared.tokens.Place.{Place}
use Rattle.lrp_model.specs.declared.raw.RawColumn.{RawColumn}
use Rattle.lrp_model.specs.declared.raw.RawTerm.{RawTerm}
use Rattle.lrp_model.specs.declared.raw.RawTermKind.{RawTermKind}
use Rattle.lrp_model.specs.declared.raw.RawTermKind.TheVariants.{Int, Text as text_kind, Var, Shifted}
use Rattle.lrp_model.proofs.NoFaults.{not_false, same_sorts, no_time}
use Rattle.lrp_model.proofs.Logic.{all_append}
use Rattle.lrp_tense.specs.Expanding.{name_term}
use Rattle.lrp_tense.proofs.Scoping.{own_name, other_name, bound_here, bound_further}
use Rattle.lrp_tense.proofs.HeadNames.{sort_among}
use Rattle.lrp_wide.specs.Meaning.{Signature, is_star, is_star_kind, atom_names, atom_names_each}
use Rattle.lrp_wide.specs.Inlining.{UseSetting, Known, Passed, itself, equal, set_kind, set_term, set_column, column_added, some_each, star_variable, inner_name, star_total, star_columns, star_terms, starred_atom, plain_variable, pass_variable, passed, passed_name, compared_columns, with_comparisons, compared_form, counted_from, use_form, inlined_atom, meant_by, inlined, inlined_each}
use Rattle.lrp_wide.proofs.SatisfyNotions.{Unless, FitsColumn, FitColumns, IsFit, AreFit, BindsFresh, BindFresh}
use Rattle.lrp_wide.proofs.SatisfyNames.{NamedColumn, NamedBy, variable_passed, named}
use Rattle.lrp_wide.proofs.SatisfyTerms.{bound_of}
use Rattle.lrp_wide.proofs.SortedTexts.{inside_each}
use Rattle.lrp_wide.proofs.TextSays.{Among, Says, SaysOne, argument_texts, text_in, put_name, SameSort, same_compare, shifted_is_time, either, no_first, no_second, regroup, same_iff, by_list, iff_then, turned_iff}

-- ---- variables that are bound

-- each variable that is bound has its sort under its other name too
abbrev pub HasSorts : (Identifier → Identifier) → Binders → Binders → Type 0
HasSorts name bs cs = (v : Identifier) (s : Sort) → binder_sort bs v ≡ Some s → binder_sort cs (name v) ≡ Some s

-- a new binder hides none
hides_none : (cs : Binders) (n m : Identifier) (s : Sort) → binder_sort cs n ≡ None → binder_sort cs m ≡ Some s → n ≢ m
hides_none cs n m s free b e = let f : binder_sort cs m ≡ None = subst (λ x. binder_sort cs x ≡ None) e free in cc

sorts_inside : (name : Identifier → Identifier) (bs cs : Binders) (c d : RawColumn) → d.name ≡ name c.name → d.sort ≡ c.sort → binder_sort cs d.name ≡ None → HasSorts name bs cs → HasSorts name (c ∷ bs) (d ∷ cs)
sorts_inside name bs cs c d named same free h v s b = by (bytes_eq c.name v) refl
  where
    by : (t : Bool) → bytes_eq c.name v ≡ t → binder_sort (d ∷ cs) (name v) ≡ Some s
    by true e =
        let is : c.name ≡ v = (bytes_decides c.name v).0 e in
        subst (λ n. binder_sort (d ∷ cs) n ≡ Some s) (named ∙ ap name is) (bound_here d cs d.name (own_name d.name) ∙ ap Some same ∙ sym (bound_here c bs v e) ∙ b)
    by false e =
        let old : binder_sort cs (name v) ≡ Some s = h v s (sym (bound_further c bs v e) ∙ b) in
        bound_further d cs (name v) (other_name d.name (name v) (hides_none cs d.name (name v) s free old)) ∙ old

module _ (p : Place) (g : RawForm) where
  fresh_inside : (vs : List RawColumn) (cs : Binders) → BindsFresh (some_each p vs g) cs → BindsFresh g (inside_each vs cs)
  fresh_inside [] cs f = f
  fresh_inside (c ∷ vs) cs f = fresh_inside vs (c ∷ cs) f.1

  kept_inside : (vs : List RawColumn) (cs : Binders) → BindsFresh (some_each p vs g) cs → (n : Identifier) (s : Sort) → binder_sort cs n ≡ Some s → binder_sort (inside_each vs cs) n ≡ Some s
  kept_inside [] cs f n s b = b
  kept_inside (c ∷ vs) cs f n s b = kept_inside vs (c ∷ cs) f.1 n s (bound_further c cs n (other_name c.name n (hides_none cs c.name n s f.0 b)) ∙ b)

  all_inside : (vs : List RawColumn) (cs : Binders) → BindsFresh (some_each p vs g) cs → AllByRecursion (λ c. binder_sort (inside_each vs cs) c.name ≡ Some c.sort) vs
  all_inside [] cs f = tt
  all_inside (c ∷ vs) cs f = (kept_inside vs (c ∷ cs) f.1 c.name c.sort (bound_here c cs c.name (own_name c.name)), all_inside vs (c ∷ cs) f.1)

  says_inside : (x : Sort × Text) (S : Signature) (B : Identifier → Type 0) (vs : List RawColumn) (cs : Binders) → Says x S B (some_each p vs g) cs ↔ Says x S B g (inside_each vs cs)
  says_inside x S B [] cs = same_iff
  says_inside x S B (c ∷ vs) cs = says_inside x S B vs (c ∷ cs)

-- ---- terms

set_puts : (s : UseSetting) (k : RawTermKind) → set_kind s k ≡ put_name s.name k
set_puts s (Int x) = refl
set_puts s (text_kind t) = refl
set_puts s (Var v) = refl
set_puts s (Shifted v plus) = refl

sorts_of : (name : Identifier → Identifier) (bs cs : Binders) → HasSorts name bs cs → (k : RawTermKind) (q : Place) → kind_faults bs k q ≡ [] → SameSort name bs cs k
sorts_of name bs cs h (Int x) q f = tt
sorts_of name bs cs h (text_kind t) q f = tt
sorts_of name bs cs h (Var v) q f = let b = bound_of (binder_sort bs v) false q f in h v b.0 b.1 ∙ sym b.1
sorts_of name bs cs h (Shifted v plus) q f = let b = bound_of (binder_sort bs v) true q f in h v b.0 b.1 ∙ sym b.1

-- a `*` is no text
star_text : (s : Sort) (k : RawTermKind) (rest : List (Sort × Text)) → is_star_kind k ≡ true → text_in s k rest ≡ rest
star_text s (Int x) rest e = refl
star_text s (text_kind t) rest e = cc
star_text s (Var v) rest e = refl
star_text s (Shifted v plus) rest e = refl

set_text : (s : UseSetting) (sort : Sort) (k : RawTermKind) (xs ys : List (Sort × Text)) → xs ≡ ys → text_in sort (set_kind s k) xs ≡ text_in sort k ys
set_text s sort (Int x) xs ys e = e
set_text s sort (text_kind t) xs ys e = ap (λ l. (sort, t) ∷ l) e
set_text s sort (Var v) xs ys e = e
set_text s sort (Shifted v plus) xs ys e = e

-- an atom of a relation has the texts that it had
star_texts : (s : UseSetting) (p : Place) (cs : List Column) (ts : List RawTerm) (k : ℕ) → argument_texts cs (star_terms s p k cs ts) ≡ argument_texts cs ts
star_texts s p [] ts k = refl
star_texts s p (c ∷ cs) [] k = refl
star_texts s p (c ∷ cs) (t ∷ ts) k = by (is_star t) refl (λ i. star_texts s p cs ts i)
  where
    by : (b : Bool) → is_star t ≡ b → ((i : ℕ) → argument_texts cs (star_terms s p i cs ts) ≡ argument_texts cs ts)
        → argument_texts (c ∷ cs) (if b then name_term p (star_variable k) ∷ star_terms s p (suc k) cs ts else set_term s t ∷ star_terms s p k cs ts) ≡ text_in c.sort t.kind (argument_texts cs ts)
    by true e r = r (suc k) ∙ sym (star_text c.sort t.kind (argument_texts cs ts) e)
    by false e r = set_text s c.sort t.kind (argument_texts cs (star_terms s p k cs ts)) (argument_texts cs ts) (r k)

-- a variable that stands for a column has its sort
variable_sort : (bs : Binders) (s : Sort) (q : Place) (v : Identifier) (k : RawTermKind) → plain_variable k ≡ Some v → kind_faults bs k q ≡ [] → differs (kind_sort bs k) s ≡ false → binder_sort bs v ≡ Some s
variable_sort bs s q v (Int x) e f d = cc
variable_sort bs s q v (text_kind t) e f d = cc
variable_sort bs s q v (Var u) e f d =
    let b = bound_of (binder_sort bs u) false q f in
    let is : u ≡ v = cc in
    let same : same_sort b.0 s ≡ true = not_false (same_sort b.0 s) (subst (λ o. differs (alone_sort o) s ≡ false) b.1 d) in
    subst (λ w. binder_sort bs w ≡ Some s) is (b.1 ∙ ap Some (same_sorts b.0 s same))
variable_sort bs s q v (Shifted u plus) e f d = cc

-- ---- comparisons of columns

and_false : (d e : Bool) → e ≡ false → (d && e) ≡ false
and_false true e h = h
and_false false e h = refl

no_texts : (last : Binders) (n : Identifier) (p q : Place) (k : RawTermKind) → is_data_term (kind_sort last k) ≡ false → test_texts (map column_of last) (compare_of last (name_term p n) Eq (record { kind = k; place = q })) ≡ []
no_texts last n p q k e =
    ap (λ b. test_texts (map column_of last) (if b then Equal (data_var n) (data_of k) else Compare (time_of (Var n)) Eq (time_of k))) (and_false (is_data_term (alone_sort (binder_sort last n))) (is_data_term (kind_sort last k)) e)

one_text : (last : Binders) (n : Identifier) (p q : Place) (u : Text) (s : Sort) → binder_sort last n ≡ Some s → is_data s ≡ true → test_texts (map column_of last) (compare_of last (name_term p n) Eq (record { kind = text_kind u; place = q })) ≡ (s, u) ∷ []
one_text last n p q u s e d =
    ap (λ b. test_texts (map column_of last) (if b && true then Equal (data_var n) (data_const u) else Compare (time_of (Var n)) Eq (time_of (text_kind u)))) (ap (λ o. is_data_term (alone_sort o)) e ∙ d)
    ∙ ap (λ z. (z, u) ∷ []) (ap (λ o. unwrap_or o Data) (sort_among last n ∙ e))

abbrev pub Nothing : Identifier → Type 0
Nothing n = ⊥

module _ (x : Sort × Text) (T : Signature) (s : UseSetting) (p : Place) (k : ℕ) (bs last : Binders) (f : RawForm) where
  -- the comparisons say the texts of the atom
  compared_said : (columns : List Column) (ts : List RawTerm) (j : ℕ) → FitColumns bs columns ts → AllByRecursion (λ c. binder_sort last c.name ≡ Some c.sort) (compared_columns (passed s p k j columns ts))
      → SaysOne x T Nothing (with_comparisons p (passed s p k j columns ts) f) last ↔ (Among x (argument_texts columns ts) ⊎ Says x T Nothing f last)
  compared_said [] ts j i h = iff_then (no_second (λ e. e)) (turned_iff (no_first (λ e. e)))
  compared_said (c ∷ columns) [] j i h = absurd i
  compared_said (c ∷ columns) (t ∷ ts) j i h = by (is_star_kind t.kind) t.kind refl i.0 h (λ n g. compared_said columns ts n i.1 g)
    where
      rest : List (Sort × Text)
      rest = argument_texts columns ts

      -- a column that is compared
      own : RawColumn
      own = column_added p (inner_name k c.name) c.sort

      by : (b : Bool) (kind : RawTermKind) → is_star_kind kind ≡ b → Unless b (FitsColumn bs c (record { kind = kind; place = t.place }))
          → AllByRecursion (λ c. binder_sort last c.name ≡ Some c.sort) (compared_columns (if b then itself c.name (star_variable j) ∷ passed s p k (suc j) columns ts else pass_variable s p k c (record { kind = kind; place = t.place }) (plain_variable kind) ∷ passed s p k j columns ts))
          → ((n : ℕ) → AllByRecursion (λ c. binder_sort last c.name ≡ Some c.sort) (compared_columns (passed s p k n columns ts)) → SaysOne x T Nothing (with_comparisons p (passed s p k n columns ts) f) last ↔ (Among x rest ⊎ Says x T Nothing f last))
          → SaysOne x T Nothing (with_comparisons p (if b then itself c.name (star_variable j) ∷ passed s p k (suc j) columns ts else pass_variable s p k c (record { kind = kind; place = t.place }) (plain_variable kind) ∷ passed s p k j columns ts) f) last
          ↔ (Among x (text_in c.sort kind rest) ⊎ Says x T Nothing f last)
      by true kind e i h r = iff_then (r (suc j) h) (either (by_list x rest (text_in c.sort kind rest) (sym (star_text c.sort kind rest e))) same_iff)
      by false (Int z) e i h r = iff_then (iff_then (either (by_list x _ [] (no_texts last own.name p (s.place t.place) (Int z) refl)) same_iff) (no_first (λ n. n))) (r j h.1)
      by false (text_kind u) e i h r =
          iff_then (either (iff_then (by_list x _ ((c.sort, u) ∷ []) (one_text last own.name p (s.place t.place) u c.sort h.0 (no_time c.sort i.sort))) (no_second (λ n. n))) (r j h.1)) (turned_iff regroup)
      by false (Var v) e i h r = r j h
      by false (Shifted v plus) e i h r =
          iff_then (iff_then (either (by_list x _ [] (no_texts last own.name p (s.place t.place) (Shifted (s.name v) plus) (shifted_is_time (binder_sort last (s.name v))))) same_iff) (no_first (λ n. n))) (r j h.1)

-- where nothing is compared the formula stands alone
plain_comparisons : (p : Place) (ps : List Passed) (f : RawForm) → compared_columns ps ≡ [] → with_comparisons p ps f ≡ raw f no_raws
plain_comparisons p [] f e = refl
plain_comparisons p (itself c n ∷ ps) f e = plain_comparisons p ps f e
plain_comparisons p (equal b c t ∷ ps) f e = cc

last_fresh : (p : Place) (ps : List Passed) (f : RawForm) (cs : Binders) → BindFresh (with_comparisons p ps f) cs → BindsFresh f cs
last_fresh p [] f cs h = h.0
last_fresh p (itself c n ∷ ps) f cs h = last_fresh p ps f cs h
last_fresh p (equal b c t ∷ ps) f cs h = last_fresh p ps f cs h.1

-- ---- uses

-- the columns have their sorts under these names
abbrev pub HaveSorts : (Identifier → Identifier) → Binders → List Column → Type 0
HaveSorts name cs columns = AllByRecursion (λ c. binder_sort cs (name c.name) ≡ Some c.sort) columns

module _ (name : Identifier → Identifier) (s : UseSetting) (p : Place) (k : ℕ) (bs last : Binders) (h : HasSorts s.name bs last) where
  columns_sorted : (columns : List Column) (ts : List RawTerm) (j : ℕ) → FitColumns bs columns ts → NamedBy name s k j columns ts → AllByRecursion (λ c. binder_sort last c.name ≡ Some c.sort) (star_columns p j columns ts)
      → AllByRecursion (λ c. binder_sort last c.name ≡ Some c.sort) (compared_columns (passed s p k j columns ts)) → HaveSorts name last columns
  columns_sorted [] ts j f n stars owns = tt
  columns_sorted (c ∷ columns) [] j f n stars owns = absurd f
  columns_sorted (c ∷ columns) (t ∷ ts) j f n stars owns = by (is_star t) (plain_variable t.kind) refl f.0 n stars owns (λ i. columns_sorted columns ts i f.1)
    where
      by : (b : Bool) (o : Option Identifier) → plain_variable t.kind ≡ o → Unless b (FitsColumn bs c t) → NamedColumn name j c (variable_passed s k c o) b (λ i. NamedBy name s k i columns ts)
          → AllByRecursion (λ c. binder_sort last c.name ≡ Some c.sort) (if b then column_added p (star_variable j) c.sort ∷ star_columns p (suc j) columns ts else star_columns p j columns ts)
          → AllByRecursion (λ c. binder_sort last c.name ≡ Some c.sort) (compared_columns (if b then itself c.name (star_variable j) ∷ passed s p k (suc j) columns ts else pass_variable s p k c t o ∷ passed s p k j columns ts))
          → ((i : ℕ) → NamedBy name s k i columns ts → AllByRecursion (λ c. binder_sort last c.name ≡ Some c.sort) (star_columns p i columns ts)
          → AllByRecursion (λ c. binder_sort last c.name ≡ Some c.sort) (compared_columns (passed s p k i columns ts)) → HaveSorts name last columns)
          → (binder_sort last (name c.name) ≡ Some c.sort) × HaveSorts name last columns
      by true o e f n stars owns r = (ap (binder_sort last) n.0 ∙ stars.0, r (suc j) n.1 stars.1 owns)
      by false (Some v) e f n stars owns r = (ap (binder_sort last) n.0 ∙ h v c.sort (variable_sort bs c.sort t.place v t.kind e f.bound f.sort), r j n.1 stars owns)
      by false None e f n stars owns r = (ap (binder_sort last) n.0 ∙ owns.0, r j n.1 stars owns.1)

-- the columns of the database's names
abbrev pub own_columns : List Relation → Signature
own_columns db n = columns_in (relation_named db n)

module _ (x : Sort × Text) (db : List Relation) (T : Signature) (B : Identifier → Type 0) where
  -- what a definition says in each use
  abbrev pub SaysInUse : Identifier → Known → Type 0
  SaysInUse n d = (s : UseSetting) (cs : Binders) → BindsFresh (d.form s) cs → HaveSorts s.name cs d.columns → Says x (own_columns db) Nothing (d.form s) cs ↔ B n

  -- a name is a relation's, which brings nothing, or a definition's, which brings what it says
  abbrev pub IsMet : Identifier → Option Known → Type 0
  IsMet n None = (own_columns db n ≡ T n) × (B n → ⊥)
  IsMet n (Some d) = (d.columns ≡ T n) × (HaveDistinctNames d.columns × SaysInUse n d)

  module _ (s : UseSetting) (p : Place) (k : ℕ) (n : Identifier) (bs cs : Binders) (h : HasSorts s.name bs cs) where
    -- an atom of a relation
    relation_says : (columns : List Column) (ts : List RawTerm) → own_columns db n ≡ columns → (B n → ⊥) → Says x (own_columns db) Nothing (starred_atom s p k n columns ts) cs ↔ (Among x (argument_texts columns ts) ⊎ B n)
    relation_says columns ts e none =
        iff_then (says_inside p (raw_atom p n (star_terms s p k columns ts)) x (own_columns db) Nothing (star_columns p k columns ts) cs)
        (iff_then (either (by_list x _ _ (ap (λ c. argument_texts c (star_terms s p k columns ts)) e ∙ star_texts s p columns ts k)) same_iff) (iff_then (no_second (λ e. e)) (turned_iff (no_second none))))

    -- a use of a definition
    use_says : (d : Known) (ts : List RawTerm) → FitColumns bs d.columns ts → HaveDistinctNames d.columns → SaysInUse n d → BindsFresh (use_form s p k d ts) cs
        → Says x (own_columns db) Nothing (use_form s p k d ts) cs ↔ (Among x (argument_texts d.columns ts) ⊎ B n)
    use_says d ts fits distinct says fresh =
        iff_then (says_inside p whole x (own_columns db) Nothing stars cs) (by (compared_columns ps) refl (fresh_inside p whole stars cs fresh))
      where
        ps : List Passed
        ps = passed s p k (suc k) d.columns ts

        inside : UseSetting
        inside = record { name = passed_name ps k; place = λ q. p; number = counted_from (suc k + star_total d.columns ts) d.counted }

        stars : List RawColumn
        stars = star_columns p (suc k) d.columns ts

        whole : RawForm
        whole = compared_form p (compared_columns ps) ps (d.form inside)

        around : Binders
        around = inside_each stars cs

        -- in each scope that has the variables
        there : (last : Binders) → HasSorts (λ v. v) around last → AllByRecursion (λ c. binder_sort last c.name ≡ Some c.sort) (compared_columns ps) → BindsFresh (d.form inside) last
            → SaysOne x (own_columns db) Nothing (with_comparisons p ps (d.form inside)) last ↔ (Among x (argument_texts d.columns ts) ⊎ B n)
        there last kept owns f =
            let carried : HasSorts s.name bs last = λ v z b. kept (s.name v) z (kept_inside p whole stars cs fresh (s.name v) z (h v z b)) in
            let all : AllByRecursion (λ c. binder_sort last c.name ≡ Some c.sort) stars = all_kept stars (all_inside p whole stars cs fresh) in
            let sorts : HaveSorts (passed_name ps k) last d.columns = columns_sorted (passed_name ps k) s p k bs last carried d.columns ts (suc k) fits (named s p k d.columns ts (suc k) distinct) all owns in
            iff_then (compared_said x (own_columns db) s p k bs last (d.form inside) d.columns ts (suc k) fits owns) (either same_iff (says inside last f sorts))
          where
            all_kept : (vs : List RawColumn) → AllByRecursion (λ c. binder_sort around c.name ≡ Some c.sort) vs → AllByRecursion (λ c. binder_sort last c.name ≡ Some c.sort) vs
            all_kept [] a = tt
            all_kept (c ∷ vs) a = (kept c.name c.sort a.0, all_kept vs a.1)

        by : (l : List RawColumn) → compared_columns ps ≡ l → BindsFresh (compared_form p l ps (d.form inside)) around → Says x (own_columns db) Nothing (compared_form p l ps (d.form inside)) around ↔ (Among x (argument_texts d.columns ts) ⊎ B n)
        by [] e f =
            let one = there around (λ v z b. b) (subst (λ l. AllByRecursion (λ c. binder_sort around c.name ≡ Some c.sort) l) (sym e) tt) f in
            iff_then (turned_iff (no_second (λ n. n))) (subst (λ fs. SaysOne x (own_columns db) Nothing fs around ↔ (Among x (argument_texts d.columns ts) ⊎ B n)) (plain_comparisons p ps (d.form inside) e) one)
        by (c ∷ l) e f =
            let g : RawForm = raw_and p (with_comparisons p ps (d.form inside)) in
            let last : Binders = inside_each (c ∷ l) around in
            let b : BindsFresh g last = fresh_inside p g (c ∷ l) around f in
            let owns : AllByRecursion (λ c. binder_sort last c.name ≡ Some c.sort) (compared_columns ps) = subst (λ m. AllByRecursion (λ c. binder_sort last c.name ≡ Some c.sort) m) (sym e) (all_inside p g (c ∷ l) around f) in
            iff_then (says_inside p g x (own_columns db) Nothing (c ∷ l) around) (there last (kept_inside p g (c ∷ l) around f) owns (last_fresh p ps (d.form inside) last b))

    -- an atom
    atom_says : (o : Option Known) (ts : List RawTerm) → IsMet n o → FitColumns bs (T n) ts → BindsFresh (inlined_atom s p k n (own_columns db n) ts o) cs
        → Says x (own_columns db) Nothing (inlined_atom s p k n (own_columns db n) ts o) cs ↔ (Among x (argument_texts (T n) ts) ⊎ B n)
    atom_says None ts m fits fresh = iff_then (relation_says (own_columns db n) ts refl m.1) (either (by_list x _ _ (ap (λ c. argument_texts c ts) m.0)) same_iff)
    atom_says (Some d) ts m fits fresh =
        iff_then (use_says d ts (subst (λ c. FitColumns bs c ts) (sym m.0) fits) m.1.0 m.1.1 fresh) (either (by_list x _ _ (ap (λ c. argument_texts c ts) m.0)) same_iff)

-- ---- formulas

module _ (x : Sort × Text) (db : List Relation) (ks : List Known) (S T : Signature) (B : Identifier → Type 0) where
  -- the name has the same columns by both
  abbrev pub IsMeant : Identifier → Type 0
  IsMeant n = (S n ≡ T n) × IsMet x db T B n (meant_by db ks n)

  front : (ms ns : List Identifier) → AllByRecursion IsMeant (ms ++ ns) → AllByRecursion IsMeant ms
  front ms ns h = ((all_append IsMeant ms ns).0 h).0

  back : (ms ns : List Identifier) → AllByRecursion IsMeant (ms ++ ns) → AllByRecursion IsMeant ns
  back ms ns h = ((all_append IsMeant ms ns).0 h).1

  mutual
    pub inlined_says : (f : RawForm) (s : UseSetting) (bs cs : Binders) → HasNoOperator f → IsFit f S bs → AllByRecursion IsMeant (atom_names f) → HasSorts s.name bs cs → BindsFresh (inlined db ks f s) cs
        → Says x (own_columns db) Nothing (inlined db ks f s) cs ↔ Says x T B f bs
    inlined_says (raw_atom p n ts) s bs cs o i m h f = atom_says x db T B s (s.place p) (s.number p) n bs cs h (meant_by db ks n) ts m.0.1 (subst (λ c. FitColumns bs c ts) m.0.0 i) f
    inlined_says (raw_compare p l op r) s bs cs o i m h f =
        by_list x _ _ (same_compare s.name bs cs l op r (set_term s l) (set_term s r) (set_puts s l.kind) (set_puts s r.kind) (sorts_of s.name bs cs h l.kind l.place i.0) (sorts_of s.name bs cs h r.kind r.place i.1.0))
    inlined_says (raw_member p t point) s bs cs o i m h f = same_iff
    inlined_says (raw_not p g) s bs cs o i m h f = inlined_says g s bs cs o i m h f
    inlined_says (raw_and p fs) s bs cs o i m h f = inlined_says_each fs s bs cs o i m h f
    inlined_says (raw_or p fs) s bs cs o i m h f = inlined_says_each fs s bs cs o i m h f
    inlined_says (raw_implies p g j) s bs cs o i m h f =
        either (inlined_says g s bs cs o.0 i.0 (front (atom_names g) (atom_names j) m) h f.0) (inlined_says j s bs cs o.1 i.1 (back (atom_names g) (atom_names j) m) h f.1)
    inlined_says (raw_group p g) s bs cs o i m h f = inlined_says g s bs cs o i m h f
    inlined_says (raw_exists p c g) s bs cs o i m h f = inlined_says g s (c ∷ bs) (set_column s c ∷ cs) o i.1 m (sorts_inside s.name bs cs c (set_column s c) refl refl f.0 h) f.1
    inlined_says (raw_forall p c g) s bs cs o i m h f = inlined_says g s (c ∷ bs) (set_column s c ∷ cs) o i.1 m (sorts_inside s.name bs cs c (set_column s c) refl refl f.0 h) f.1
    inlined_says (raw_ranged word a from to g) s bs cs o i m h f = absurd o
    inlined_says (raw_paired word a g j) s bs cs o i m h f = absurd o

    inlined_says_each : (fs : RawForms) (s : UseSetting) (bs cs : Binders) → HaveNoOperator fs → AreFit fs S bs → AllByRecursion IsMeant (atom_names_each fs) → HasSorts s.name bs cs → BindFresh (inlined_each db ks fs s) cs
        → SaysOne x (own_columns db) Nothing (inlined_each db ks fs s) cs ↔ SaysOne x T B fs bs
    inlined_says_each no_raws s bs cs o i m h f = same_iff
    inlined_says_each (raw g fs) s bs cs o i m h f =
        either (inlined_says g s bs cs o.0 i.0 (front (atom_names g) (atom_names_each fs) m) h f.0) (inlined_says_each fs s bs cs o.1 i.1 (back (atom_names g) (atom_names_each fs) m) h f.1)
