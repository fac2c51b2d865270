-- The texts of a query as it is written are those of its expansion.
use Rattle.std.proofs.Common.{◌≡◌, ◌≢◌, ℕ, ◌<◌, ◌^◌, length, Bool, true, false, ◌&&◌, List, [], ◌∷◌, ◌++◌, Some, map, refl, sym, ap, ap₂, ◌∙◌, cond, append-nil}
use Rattle.std.specs.Prelude.{reverse, unwrap_or, filter, if◌then◌else◌}
use Rattle.std.specs.List.{AllByRecursion}
use Rattle.std.specs.Str.{bytes_eq}
use Rattle.std.specs.Cmp.Lexicographic.{bytes_decides}
use Rattle.lrp_model.specs.Texts.{Text, Identifier, in_order}
use Rattle.lrp_model.specs.Rows.{relation_named, columns_in}
use Rattle.lrp_model.specs.Sorts.{same_sort}
use Rattle.lrp_model.specs.DatabaseMeaning.{column_of}
use Rattle.lrp_model.specs.Domains.{database_texts, term_texts, sort_beside, text_beside, test_texts, form_texts, forms_texts, all_texts}
use Rattle.lrp_model.specs.Satisfaction.{Structure, structure}
use Rattle.lrp_model.specs.Sorting.{Binders, binder_sort, alone_sort, shifted_sort, kind_sort, term_sort, is_data_term, IsWellSorted}
use Rattle.lrp_model.specs.Checked.{term_of, compare_of, plain, plain_each, plain_question}
use Rattle.lrp_model.specs.RawTerms.{time_of, data_of, term_by, is_equality}
use Rattle.lrp_model.specs.RawQueries.{Operator, RawForm, RawForms, RawQuestion, raw_atom, raw_compare, raw_member, raw_not, raw_and, raw_or, raw_implies, raw_group, raw_exists, raw_forall, raw_ranged, raw_paired, no_raws, raw}
use Rattle.lrp_model.specs.declared.tokens.Place.{Place}
use Rattle.lrp_model.specs.declared.relations.Sort.{Sort}
use Rattle.lrp_model.specs.declared.relations.Sort.TheVariants.{Data}
use Rattle.lrp_model.specs.declared.relations.Column.{Column}
use Rattle.lrp_model.specs.declared.relations.Relation.{Relation}
use Rattle.lrp_model.specs.declared.formulas.Op.{Op}
use Rattle.lrp_model.specs.declared.formulas.Term.{Term}
use Rattle.lrp_model.specs.declared.formulas.Test.TheVariants.{Compare, Equal}
use Rattle.lrp_model.specs.declared.raw.RawColumn.{RawColumn}
use Rattle.lrp_model.specs.declared.raw.RawTerm.{RawTerm}
use Rattle.lrp_model.specs.declared.raw.RawTermKind.{RawTermKind}
use Rattle.lrp_model.specs.declared.raw.RawTermKind.TheVariants.{Int, Text as text_kind, Var, Shifted}
use Rattle.lrp_model.specs.declared.raw.Ranged.TheVariants.{Once, Always}
use Rattle.lrp_model.specs.declared.raw.Paired.TheVariants.{Since, Until}
use Rattle.lrp_tense.specs.Meaning.{operator_variable}
use Rattle.lrp_tense.specs.TenseDomains.{written_texts, written_texts_each, tense_texts, tense_structure}
use Rattle.lrp_tense.specs.Expanding.{operators, operators_each, operator_number, Naming, present_name, renamed, renamed_kind, renamed_to, IsPlain, IsPlainKind, IsPlainTerm, moment_of, between_of, time_binder, expanded, expanded_each, expanded_question, HasPlainNames, HavePlainNames, IsExpandable}
use Rattle.lrp_tense.proofs.Numbering.{are_numbered}
use Rattle.lrp_tense.proofs.Scoping.{AreNumbered, numbered_parts, IsApart, nothing_apart, apart_left, apart_right, apart_binder, apart_moment, apart_between, own_name, other_name, bound_here, bound_further}
use Rattle.lrp_tense.proofs.HeadNames.{sort_among, AgreeOn, agree_more, head_agrees}

-- ---- sorts

-- each variable has its sort under its present name too
abbrev KeepsSorts : Naming → Binders → Binders → Type 0
KeepsSorts names bs cs = (w : Identifier) → IsPlain w → binder_sort cs (present_name names w) ≡ binder_sort bs w

-- with one more variable, whose present name is no other's
sorts_more : (names : Naming) (bs cs : Binders) (c d : RawColumn) → d.sort ≡ c.sort → ((w : Identifier) → IsPlain w → c.name ≢ w → d.name ≢ present_name names w) → KeepsSorts names bs cs → KeepsSorts (renamed_to c.name d.name ∷ names) (c ∷ bs) (d ∷ cs)
sorts_more names bs cs c d same free h w wp = by (bytes_eq c.name w) refl
  where
    by : (b : Bool) → bytes_eq c.name w ≡ b → binder_sort (d ∷ cs) (cond b d.name (present_name names w)) ≡ binder_sort (c ∷ bs) w
    by true e = bound_here d cs d.name (own_name d.name) ∙ ap Some same ∙ sym (bound_here c bs w e)
    by false e =
        bound_further d cs (present_name names w) (other_name d.name (present_name names w) (free w wp (λ s. let t : bytes_eq c.name w ≡ true = (bytes_decides c.name w).1 s in cc))) ∙ h w wp ∙ sym (bound_further c bs w e)

-- a variable of a name that no variable has hides nothing
sorts_aside : (names : Naming) (bs cs : Binders) (d : RawColumn) → ((w : Identifier) → IsPlain w → d.name ≢ present_name names w) → KeepsSorts names bs cs → KeepsSorts names bs (d ∷ cs)
sorts_aside names bs cs d free h w wp = bound_further d cs (present_name names w) (other_name d.name (present_name names w) (free w wp)) ∙ h w wp

-- ---- terms

-- the sides of an `=` are both texts
abbrev are_texts : Op → Binders → RawTerm → RawTerm → Bool
are_texts op bs l r = is_equality op && is_data_term (term_sort bs l) && is_data_term (term_sort bs r)

module _ (names : Naming) (bs cs : Binders) (h : KeepsSorts names bs cs) where
  kept_sort : (k : RawTermKind) → IsPlainKind k → kind_sort cs (renamed_kind names k) ≡ kind_sort bs k
  kept_sort (Int x) p = refl
  kept_sort (text_kind t) p = refl
  kept_sort (Var n) p = ap alone_sort (h n p)
  kept_sort (Shifted n plus) p = ap shifted_sort (h n p)

  -- a term of an atom
  one_text : (c : Column) (columns : List Column) (b : Bool) (k : RawTermKind) (us vs : List Term) → term_texts columns us ≡ term_texts columns vs
      → term_texts (c ∷ columns) (term_by b k ∷ us) ≡ term_texts (c ∷ columns) (term_by b (renamed_kind names k) ∷ vs)
  one_text c columns true (Int x) us vs e = ap (λ l. (c.sort, []) ∷ l) e
  one_text c columns true (text_kind t) us vs e = ap (λ l. (c.sort, t) ∷ l) e
  one_text c columns true (Var n) us vs e = e
  one_text c columns true (Shifted n plus) us vs e = ap (λ l. (c.sort, []) ∷ l) e
  one_text c columns false (Int x) us vs e = e
  one_text c columns false (text_kind t) us vs e = e
  one_text c columns false (Var n) us vs e = e
  one_text c columns false (Shifted n plus) us vs e = e

  atom_texts : (columns : List Column) (ts : List RawTerm) → AllByRecursion IsPlainTerm ts → term_texts columns (map (term_of bs) ts) ≡ term_texts columns (map (term_of cs) (map (renamed names) ts))
  atom_texts [] ts p = refl
  atom_texts (c ∷ columns) [] p = refl
  atom_texts (c ∷ columns) (t ∷ ts) p =
      one_text c columns (is_data_term (term_sort bs t)) t.kind (map (term_of bs) ts) (map (term_of cs) (map (renamed names) ts)) (atom_texts columns ts p.1)
      ∙ ap (λ s. term_texts (c ∷ columns) (term_by (is_data_term s) (renamed_kind names t.kind) ∷ map (term_of cs) (map (renamed names) ts))) (sym (kept_sort t.kind p.0))

  module _ (columns : List Column) (agree : AgreeOn columns cs) where
    -- the sort beside a term in `=`
    beside : (k : RawTermKind) → IsPlainKind k → sort_beside (map column_of bs) (data_of k) ≡ sort_beside columns (data_of (renamed_kind names k))
    beside (Int x) p = refl
    beside (text_kind t) p = refl
    beside (Var n) p = ap (λ o. unwrap_or o Data) (sort_among bs n ∙ sym (h n p) ∙ sym (agree (present_name names n)))
    beside (Shifted n plus) p = refl

    side_text : (j k : RawTermKind) → IsPlainKind j → text_beside (map column_of bs) (data_of j) (data_of k) ≡ text_beside columns (data_of (renamed_kind names j)) (data_of (renamed_kind names k))
    side_text j (Int x) p = ap (λ s. (s, []) ∷ []) (beside j p)
    side_text j (text_kind t) p = ap (λ s. (s, t) ∷ []) (beside j p)
    side_text j (Var n) p = refl
    side_text j (Shifted n plus) p = ap (λ s. (s, []) ∷ []) (beside j p)

    -- a comparison
    compared : (op : Op) (l r : RawTerm) → IsPlainTerm l → IsPlainTerm r → test_texts (map column_of bs) (compare_of bs l op r) ≡ test_texts columns (compare_of cs (renamed names l) op (renamed names r))
    compared op l r lp rp =
        by (are_texts op bs l r) ∙ ap (λ b. test_texts columns (if b then Equal (data_of (renamed_kind names l.kind)) (data_of (renamed_kind names r.kind)) else Compare (time_of (renamed_kind names l.kind)) op (time_of (renamed_kind names r.kind))))
        (ap₂ (λ x y. is_equality op && is_data_term x && is_data_term y) (sym (kept_sort l.kind lp)) (sym (kept_sort r.kind rp)))
      where
        by : (b : Bool) → test_texts (map column_of bs) (if b then Equal (data_of l.kind) (data_of r.kind) else Compare (time_of l.kind) op (time_of r.kind))
            ≡ test_texts columns (if b then Equal (data_of (renamed_kind names l.kind)) (data_of (renamed_kind names r.kind)) else Compare (time_of (renamed_kind names l.kind)) op (time_of (renamed_kind names r.kind)))
        by true = ap₂ (λ xs ys. xs ++ ys) (side_text r.kind l.kind rp) (side_text l.kind r.kind lp)
        by false = refl

-- ---- formulas

-- what is known around a formula with operators at these places
record Around (number : Place → ℕ) (names : Naming) (bs cs : Binders) (columns : List Column) (ps : List Place) : Type 0 where
  numbered : AreNumbered number ps
  apart : IsApart names number ps
  sorts : KeepsSorts names bs cs
  agree : AgreeOn columns cs

module _ (number : Place → ℕ) (names : Naming) (bs cs : Binders) (columns : List Column) where
  left : (ps qs : List Place) → Around number names bs cs columns (ps ++ qs) → Around number names bs cs columns ps
  left ps qs a = record { numbered = (numbered_parts number ps qs a.numbered).0; apart = apart_left names number ps qs a.apart; sorts = a.sorts; agree = a.agree }

  right : (ps qs : List Place) → Around number names bs cs columns (ps ++ qs) → Around number names bs cs columns qs
  right ps qs a = record { numbered = (numbered_parts number ps qs a.numbered).1; apart = apart_right names number ps qs a.apart; sorts = a.sorts; agree = a.agree }

  -- inside a quantifier
  inside : (c : RawColumn) (ps : List Place) → IsPlain c.name → Around number names bs cs columns ps → Around number (renamed_to c.name c.name ∷ names) (c ∷ bs) (c ∷ cs) (column_of c ∷ columns) ps
  inside c ps p a = record {
    numbered = a.numbered;
    apart = apart_binder names number ps c.name p a.apart;
    sorts = sorts_more names bs cs c c refl (λ w wp ne s. a.apart.own w c.name wp p (λ z. ne (sym z)) (sym s)) a.sorts;
    agree = agree_more columns cs a.agree c;
  }

  module _ (o : Operator) (ps : List Place) (p : IsPlain o.name) (a : Around number names bs cs columns (o.place ∷ ps)) where
    abbrev moment : RawColumn
    moment = time_binder o.place (moment_of number o)

    abbrev between : RawColumn
    between = time_binder o.place (between_of number o)

    -- at the moment that an operator asks for
    at_moment : Around number (renamed_to o.name (moment_of number o) ∷ names) (operator_variable o ∷ bs) (moment ∷ cs) (column_of moment ∷ columns) ps
    at_moment = record {
      numbered = a.numbered.1.1;
      apart = apart_moment names number o.place ps o.name p a.numbered a.apart;
      sorts = sorts_more names bs cs (operator_variable o) moment refl (λ w wp ne s. (a.apart.fresh w o.name wp p).0.0 (sym s)) a.sorts;
      agree = agree_more columns cs a.agree moment;
    }

    -- at each moment between
    at_between : Around number (renamed_to o.name (between_of number o) ∷ names) (operator_variable o ∷ bs) (between ∷ moment ∷ cs) (column_of between ∷ column_of moment ∷ columns) ps
    at_between = record {
      numbered = a.numbered.1.1;
      apart = apart_between names number o.place ps o.name p a.numbered a.apart;
      sorts = sorts_more names bs (moment ∷ cs) (operator_variable o) between refl (λ w wp ne s. (a.apart.fresh w o.name wp p).0.1 (sym s)) (sorts_aside names bs cs moment (λ w wp s. (a.apart.fresh w o.name wp p).0.0 (sym s)) a.sorts);
      agree = agree_more (column_of moment ∷ columns) (moment ∷ cs) (agree_more columns cs a.agree moment) between;
    }

-- the texts of both formulas of an operator
both_texts : (xs ys us vs : List (Sort × Text)) → xs ≡ us → ys ≡ vs → xs ++ ys ≡ us ++ (vs ++ [])
both_texts xs ys us vs e d = ap₂ (λ x y. x ++ y) e (d ∙ sym (append-nil vs))

module _ (db : List Relation) (number : Place → ℕ) where
  mutual
    same_texts : (f : RawForm) (names : Naming) (bs cs : Binders) (columns : List Column) → HasPlainNames f → Around number names bs cs columns (operators f) → written_texts f db bs ≡ form_texts (plain (expanded f number names) cs) db columns
    same_texts (raw_atom p n ts) names bs cs columns hp a = atom_texts names bs cs a.sorts (columns_in (relation_named db n)) ts hp
    same_texts (raw_compare p l op r) names bs cs columns hp a = compared names bs cs a.sorts columns a.agree op l r hp.0 hp.1
    same_texts (raw_member p t point) names bs cs columns hp a = refl
    same_texts (raw_not p f) names bs cs columns hp a = same_texts f names bs cs columns hp a
    same_texts (raw_and p fs) names bs cs columns hp a = same_texts_each fs names bs cs columns hp a
    same_texts (raw_or p fs) names bs cs columns hp a = same_texts_each fs names bs cs columns hp a
    same_texts (raw_implies p f g) names bs cs columns hp a =
        ap₂ (λ xs ys. xs ++ ys) (same_texts f names bs cs columns hp.0 (left number names bs cs columns (operators f) (operators g) a)) (same_texts g names bs cs columns hp.1 (right number names bs cs columns (operators f) (operators g) a))
    same_texts (raw_group p f) names bs cs columns hp a = same_texts f names bs cs columns hp a
    same_texts (raw_exists p c f) names bs cs columns hp a = same_texts f (renamed_to c.name c.name ∷ names) (c ∷ bs) (c ∷ cs) (column_of c ∷ columns) hp.1 (inside number names bs cs columns c (operators f) hp.0 a)
    same_texts (raw_forall p c f) names bs cs columns hp a = same_texts f (renamed_to c.name c.name ∷ names) (c ∷ bs) (c ∷ cs) (column_of c ∷ columns) hp.1 (inside number names bs cs columns c (operators f) hp.0 a)
    same_texts (raw_ranged Once o from to f) names bs cs columns hp a =
        let d : RawColumn = time_binder o.place (moment_of number o) in
        same_texts f (renamed_to o.name d.name ∷ names) (operator_variable o ∷ bs) (d ∷ cs) (column_of d ∷ columns) hp.1 (at_moment number names bs cs columns o (operators f) hp.0 a) ∙ sym (append-nil _)
    same_texts (raw_ranged Always o from to f) names bs cs columns hp a =
        let d : RawColumn = time_binder o.place (moment_of number o) in
        same_texts f (renamed_to o.name d.name ∷ names) (operator_variable o ∷ bs) (d ∷ cs) (column_of d ∷ columns) hp.1 (at_moment number names bs cs columns o (operators f) hp.0 a)
    same_texts (raw_paired Since o f g) names bs cs columns hp a =
        let d : RawColumn = time_binder o.place (moment_of number o) in
        let e : RawColumn = time_binder o.place (between_of number o) in
        let ps : List Place = operators f ++ operators g in
        both_texts _ _ _ _
        (same_texts g (renamed_to o.name d.name ∷ names) (operator_variable o ∷ bs) (d ∷ cs) (column_of d ∷ columns) hp.2 (right number (renamed_to o.name d.name ∷ names) (operator_variable o ∷ bs) (d ∷ cs) (column_of d ∷ columns) (operators f) (operators g) (at_moment number names bs cs columns o ps hp.0 a)))
        (same_texts f (renamed_to o.name e.name ∷ names) (operator_variable o ∷ bs) (e ∷ d ∷ cs) (column_of e ∷ column_of d ∷ columns) hp.1 (left number (renamed_to o.name e.name ∷ names) (operator_variable o ∷ bs) (e ∷ d ∷ cs) (column_of e ∷ column_of d ∷ columns) (operators f) (operators g) (at_between number names bs cs columns o ps hp.0 a)))
    same_texts (raw_paired Until o f g) names bs cs columns hp a =
        let d : RawColumn = time_binder o.place (moment_of number o) in
        let e : RawColumn = time_binder o.place (between_of number o) in
        let ps : List Place = operators f ++ operators g in
        both_texts _ _ _ _
        (same_texts g (renamed_to o.name d.name ∷ names) (operator_variable o ∷ bs) (d ∷ cs) (column_of d ∷ columns) hp.2 (right number (renamed_to o.name d.name ∷ names) (operator_variable o ∷ bs) (d ∷ cs) (column_of d ∷ columns) (operators f) (operators g) (at_moment number names bs cs columns o ps hp.0 a)))
        (same_texts f (renamed_to o.name e.name ∷ names) (operator_variable o ∷ bs) (e ∷ d ∷ cs) (column_of e ∷ column_of d ∷ columns) hp.1 (left number (renamed_to o.name e.name ∷ names) (operator_variable o ∷ bs) (e ∷ d ∷ cs) (column_of e ∷ column_of d ∷ columns) (operators f) (operators g) (at_between number names bs cs columns o ps hp.0 a)))

    same_texts_each : (fs : RawForms) (names : Naming) (bs cs : Binders) (columns : List Column) → HavePlainNames fs → Around number names bs cs columns (operators_each fs) → written_texts_each fs db bs ≡ forms_texts (plain_each (expanded_each fs number names) cs) db columns
    same_texts_each no_raws names bs cs columns hp a = refl
    same_texts_each (raw f fs) names bs cs columns hp a =
        ap₂ (λ xs ys. xs ++ ys) (same_texts f names bs cs columns hp.0 (left number names bs cs columns (operators f) (operators_each fs) a))
        (same_texts_each fs names bs cs columns hp.1 (right number names bs cs columns (operators f) (operators_each fs) a))

-- ---- queries

-- the structure with these texts
abbrev with_texts : List Relation → List (Sort × Text) → Structure
with_texts db texts = record { relations = db; domain = λ s. in_order (map (λ entry. entry.1) (filter (λ entry. same_sort entry.0 s) texts)) }

pub same_structure : (q : RawQuestion) → IsExpandable q → length (operators q.body) < 2 ^ 64 → (db : List Relation) → IsWellSorted db (expanded_question q) → tense_structure db q ≡ structure db (plain_question (expanded_question q))
same_structure q x small db sorted =
    let number = operator_number (operators q.body) in
    let own : written_texts q.body db (reverse q.head) ≡ form_texts (plain (expanded q.body number []) (reverse q.head)) db (map column_of q.head) =
    same_texts db number q.body [] (reverse q.head) (reverse q.head) (map column_of q.head) x.names
    (record { numbered = are_numbered (operators q.body) small x.places; apart = nothing_apart number (operators q.body); sorts = λ w p. refl; agree = head_agrees db (expanded_question q) sorted }) in
    let all : tense_texts db q ≡ all_texts db (plain_question (expanded_question q)) = ap (λ texts. database_texts db ++ texts) own in
    ap (with_texts db) all
