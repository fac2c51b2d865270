-- An assignment satisfies a text with its operators written out exactly where it satisfies the written one, whatever its names mean.
use Rattle.std.proofs.Common.{◌≡◌, ◌≢◌, ◌↔◌, inl, inr, ℕ, Bool, None, Some, true, false, List, [], ◌∷◌, ◌++◌, map, refl, sym, ap, subst, ◌∙◌, bytes_eq}
use Rattle.std.specs.Prelude.{ℤ, reverse}
use Rattle.std.specs.List.{AllByRecursion}
use Rattle.std.specs.Cmp.Lexicographic.{bytes_decides}
use Rattle.lrp_model.specs.Texts.{Identifier}
use Rattle.lrp_model.specs.Rows.{Datum, time, text}
use Rattle.lrp_model.specs.Satisfaction.{Structure, Assignment, IsOfSort, with_value, term_value}
use Rattle.lrp_model.specs.Sorting.{Binders, binder_sort, alone_sort, is_data_term, variable_faults}
use Rattle.lrp_model.specs.Checked.{term_of}
use Rattle.lrp_model.specs.QueryMeaning.{star_name}
use Rattle.lrp_model.specs.declared.tokens.Place.{Place}
use Rattle.lrp_model.specs.declared.relations.Sort.{Sort}
use Rattle.lrp_model.specs.declared.relations.Sort.TheVariants.{Time, Data, Named}
use Rattle.lrp_model.specs.declared.relations.Column.{Column}
use Rattle.lrp_model.specs.declared.raw.RawColumn.{RawColumn}
use Rattle.lrp_model.specs.declared.raw.RawTerm.{RawTerm}
use Rattle.lrp_model.specs.declared.raw.RawTermKind.{RawTermKind}
use Rattle.lrp_model.specs.declared.raw.RawTermKind.TheVariants.{Int, Text, Var, Shifted}
use Rattle.lrp_model.specs.declared.raw.Ranged.TheVariants.{Once, Always}
use Rattle.lrp_model.specs.declared.raw.Paired.TheVariants.{Since, Until}
use Rattle.lrp_model.specs.RawQueries.{Operator, RawForm, RawForms, RawQuestion, raw_atom, raw_compare, raw_member, raw_not, raw_and, raw_or, raw_implies, raw_group, raw_exists, raw_forall, raw_ranged, raw_paired, no_raws, raw}
use Rattle.lrp_model.proofs.Logic.{same, choose}
use Rattle.lrp_tense.specs.Meaning.{operator_variable}
use Rattle.lrp_tense.specs.Expanding.{operators, Naming, present_name, renamed, renamed_kind, renamed_to, IsPlain, IsPlainTerm, moment_of, between_of, time_binder, name_term, expanded, expanded_each, expanded_question, operator_number, HasPlainNames, HavePlainNames}
use Rattle.lrp_tense.proofs.Iff.{both_iff, two_iff, three_iff, imply_iff, not_iff, either_iff, some_iff, each_iff, some_time, each_time, le_iff, lt_iff, plus_zero, plus_end}
use Rattle.lrp_tense.proofs.Timely.{are_times, shifted_times}
use Rattle.lrp_tense.proofs.FreshNames.{moment_not_plain, between_not_plain}
use Rattle.lrp_tense.proofs.Terms.{same_terms, same_member, same_compare}
use Rattle.lrp_tense.proofs.Scoping.{Follows, is_for_texts, own_name, other_name, bound_here, bound_further, set_own, set_other, followed_time, followed_text, followed_aside}
use Rattle.lrp_wide.specs.Meaning.{Interpretation, Signature, WideSatisfies, WideSatisfiesAll, WideSatisfiesSome, HoldsOf, ForValue, is_star, is_star_kind}
use Rattle.lrp_wide.specs.Stars.{BindsNoStar, BindNoStar}
use Rattle.lrp_wide.proofs.SatisfyNamings.{IsNamedAs, no_names, differs_from, apart, one_more, one_aside}
use Rattle.lrp_wide.proofs.SatisfyNotions.{Unless, FitsColumn, FitColumns, IsFit, AreFit}

-- ---- `*` stays

-- a `*` has its own name, and no other variable has it
pub record KeepsStar (names : Naming) : Type 0 where
  pub star : present_name names star_name ≡ star_name
  pub others : (w : Identifier) → w ≢ star_name → present_name names w ≢ star_name

keeps_more : (names : Naming) (v n : Identifier) → v ≢ star_name → n ≢ star_name → KeepsStar names → KeepsStar (renamed_to v n ∷ names)
keeps_more names v n ve ne k = record {
  star = choose (λ m. m ≡ star_name) v star_name n (present_name names star_name) (λ e. absurd (ve e)) (λ other. k.star);
  others = λ w we. choose (λ m. m ≢ star_name) v w n (present_name names w) (λ e. ne) (λ other. k.others w we);
}

same_test : (b c : Bool) → (b ≡ true → c ≡ true) → (c ≡ true → b ≡ true) → b ≡ c
same_test true true f g = refl
same_test false false f g = refl
same_test true false f g = sym (f refl)
same_test false true f g = g refl

star_plain : IsPlain star_name
star_plain = ((λ e. cc), tt)

star_kind_kept : (names : Naming) → KeepsStar names → (t : RawTermKind) → is_star_kind (renamed_kind names t) ≡ is_star_kind t
star_kind_kept names k (Int x) = refl
star_kind_kept names k (Text t) = refl
star_kind_kept names k (Shifted n plus) = refl
star_kind_kept names k (Var n) =
    same_test (bytes_eq (present_name names n) star_name) (bytes_eq n star_name)
    (λ e. by_test (bytes_eq n star_name) refl ((bytes_decides (present_name names n) star_name).0 e))
    (λ e. (bytes_decides (present_name names n) star_name).1 (ap (present_name names) ((bytes_decides n star_name).0 e) ∙ k.star))
  where
    by_test : (b : Bool) → bytes_eq n star_name ≡ b → present_name names n ≡ star_name → b ≡ true
    by_test true e f = refl
    by_test false e f = absurd (k.others n (λ s. let t : bytes_eq n star_name ≡ true = (bytes_decides n star_name).1 s in cc) f)

-- ---- atoms

first_same : {A : Type 0} (a b : A) → a ∷ [] ≡ b ∷ [] → a ≡ b
first_same {A} a b e = cc

module _ (M : Structure) (names : Naming) (bs cs : Binders) (env other : Assignment) (k : KeepsStar names) (h : Follows names bs cs env other) where
  renamed_holds : (columns : List Column) (ts : List RawTerm) (P : List Datum → Type 0) → AllByRecursion IsPlainTerm ts → FitColumns cs columns (map (renamed names) ts)
      → HoldsOf M bs env P columns ts ↔ HoldsOf M cs other P columns (map (renamed names) ts)
  renamed_holds [] ts P hp t = same
  renamed_holds (c ∷ columns) [] P hp t = same
  renamed_holds (c ∷ columns) (a ∷ ts) P hp t =
      by_star (is_star a) (is_star (renamed names a)) (sym (star_kind_kept names k a.kind)) t.0 (λ d. renamed_holds columns ts (λ ds. P (d ∷ ds)) hp.1 t.1)
    where
      by_star : (b d : Bool) → b ≡ d → Unless d (FitsColumn cs c (renamed names a)) → ((e : Datum) → HoldsOf M bs env (λ ds. P (e ∷ ds)) columns ts ↔ HoldsOf M cs other (λ ds. P (e ∷ ds)) columns (map (renamed names) ts))
          → ForValue M c (term_value env (term_of bs a)) b (λ e. HoldsOf M bs env (λ ds. P (e ∷ ds)) columns ts)
          ↔ ForValue M c (term_value other (term_of cs (renamed names a))) d (λ e. HoldsOf M cs other (λ ds. P (e ∷ ds)) columns (map (renamed names) ts))
      by_star true true e f r = some_iff (λ d o. r d)
      by_star false false e f r =
          let x : term_value env (term_of bs a) ≡ term_value other (term_of cs (renamed names a)) = first_same _ _ (same_terms names bs cs env other h (a ∷ []) (hp.0, tt) (ap (λ fs. fs ++ []) f.bound)) in
          subst (λ d. HoldsOf M bs env (λ ds. P (term_value env (term_of bs a) ∷ ds)) columns ts ↔ HoldsOf M cs other (λ ds. P (d ∷ ds)) columns (map (renamed names) ts)) x (r (term_value env (term_of bs a)))
      by_star true false e f r = cc
      by_star false true e f r = cc

-- ---- a quantifier's variable

module _ (names : Naming) (bs cs : Binders) (env other : Assignment) (c : RawColumn) (M : Structure) (cp : IsPlain c.name) (n : IsNamedAs names bs cs) (h : Follows names bs cs env other) (free : binder_sort cs c.name ≡ None) where
  followed : (s : Sort) → c.sort ≡ s → (d : Datum) → IsOfSort M s d → Follows (renamed_to c.name c.name ∷ names) (c ∷ bs) (c ∷ cs) (with_value c.name d env) (with_value c.name d other)
  followed Time e (time x) o = followed_time names bs cs env other c c refl (λ w wp ne. differs_from names bs cs n c free c.name (inl refl) w wp ne) h x (ap (λ s. is_data_term (alone_sort (Some s))) e)
  followed Time e (text t) o = absurd o
  followed Data e (time x) o = absurd o
  followed Data e (text t) o = followed_text names bs cs env other c c refl (λ w wp ne. differs_from names bs cs n c free c.name (inl refl) w wp ne) h t (ap (λ s. is_data_term (alone_sort (Some s))) e)
  followed (Named m) e (time x) o = absurd o
  followed (Named m) e (text t) o = followed_text names bs cs env other c c refl (λ w wp ne. differs_from names bs cs n c free c.name (inl refl) w wp ne) h t (ap (λ s. is_data_term (alone_sort (Some s))) e)

-- ---- an operator's variables

module _ (o : Operator) (number : Place → ℕ) (names : Naming) (bs cs : Binders) (env other : Assignment) (op : IsPlain o.name) (n : IsNamedAs names bs cs) (h : Follows names bs cs env other) (free : binder_sort cs (moment_of number o) ≡ None) where
  abbrev moment : RawColumn
  moment = time_binder o.place (moment_of number o)

  abbrev between : RawColumn
  between = time_binder o.place (between_of number o)

  moment_new : IsPlain (moment_of number o) → ⊥
  moment_new p = moment_not_plain o.name (moment_of number o) (number o.place) p refl

  between_new : IsPlain (between_of number o) → ⊥
  between_new p = between_not_plain o.name (between_of number o) (number o.place) p refl

  moment_free : (w : Identifier) → IsPlain w → moment_of number o ≢ present_name names w
  moment_free w wp = apart names bs cs n moment free moment_new w wp

  -- the operator's variable is one for times, where its term has no fault
  now_sort : binder_sort (moment ∷ cs) (present_name names o.name) ≡ binder_sort bs o.name
  now_sort = bound_further moment cs (present_name names o.name) (other_name (moment_of number o) (present_name names o.name) (moment_free o.name op)) ∙ h.sorts o.name op

  times_by_end : (q : Place) → variable_faults (binder_sort (moment ∷ cs) (present_name names o.name)) true q ≡ [] → is_for_texts bs o.name ≡ false
  times_by_end q e = subst (λ s. is_data_term (alone_sort s) ≡ false) now_sort (shifted_times (binder_sort (moment ∷ cs) (present_name names o.name)) q e)

  times_by_side : is_data_term (alone_sort (binder_sort (moment ∷ cs) (present_name names o.name))) ≡ false → is_for_texts bs o.name ≡ false
  times_by_side e = subst (λ s. is_data_term (alone_sort s) ≡ false) now_sort e

  moment_named : IsNamedAs (renamed_to o.name (moment_of number o) ∷ names) (operator_variable o ∷ bs) (moment ∷ cs)
  moment_named = one_more names bs cs n moment free (operator_variable o) refl (inr moment_new)

  module _ (k : is_for_texts bs o.name ≡ false) (x : ℤ) where
    at_moment : (with_value (moment_of number o) (time x) other).times (moment_of number o) ≡ x
    at_moment = set_own (moment_of number o) x (other.times (moment_of number o))

    at_now : (with_value (moment_of number o) (time x) other).times (present_name names o.name) ≡ env.times o.name
    at_now = set_other (moment_of number o) (present_name names o.name) x (other.times (present_name names o.name)) (moment_free o.name op) ∙ h.times o.name op k

    moment_followed : Follows (renamed_to o.name (moment_of number o) ∷ names) (operator_variable o ∷ bs) (moment ∷ cs) (with_value o.name (time x) env) (with_value (moment_of number o) (time x) other)
    moment_followed = followed_time names bs cs env other (operator_variable o) moment refl (λ w wp ne. moment_free w wp) h x refl

    module _ (second : binder_sort (moment ∷ cs) (between_of number o) ≡ None) (y : ℤ) where
      beside : IsNamedAs names bs (moment ∷ cs)
      beside = one_aside names bs cs n moment free moment_new

      between_free : (w : Identifier) → IsPlain w → between_of number o ≢ present_name names w
      between_free w wp = apart names bs (moment ∷ cs) beside between second between_new w wp

      not_moment : between_of number o ≢ moment_of number o
      not_moment e =
          let a : binder_sort (moment ∷ cs) (moment_of number o) ≡ None = subst (λ m. binder_sort (moment ∷ cs) m ≡ None) e second in
          let b : binder_sort (moment ∷ cs) (moment_of number o) ≡ Some Time = bound_here moment cs (moment_of number o) (own_name (moment_of number o)) in
          cc

      between_named : IsNamedAs (renamed_to o.name (between_of number o) ∷ names) (operator_variable o ∷ bs) (between ∷ moment ∷ cs)
      between_named = one_more names bs (moment ∷ cs) beside between second (operator_variable o) refl (inr between_new)

      between_at : (with_value (between_of number o) (time y) (with_value (moment_of number o) (time x) other)).times (between_of number o) ≡ y
      between_at = set_own (between_of number o) y ((with_value (moment_of number o) (time x) other).times (between_of number o))

      between_moment : (with_value (between_of number o) (time y) (with_value (moment_of number o) (time x) other)).times (moment_of number o) ≡ x
      between_moment = set_other (between_of number o) (moment_of number o) y ((with_value (moment_of number o) (time x) other).times (moment_of number o)) not_moment ∙ at_moment

      between_now : (with_value (between_of number o) (time y) (with_value (moment_of number o) (time x) other)).times (present_name names o.name) ≡ env.times o.name
      between_now = set_other (between_of number o) (present_name names o.name) y ((with_value (moment_of number o) (time x) other).times (present_name names o.name)) (between_free o.name op) ∙ at_now

      between_followed : Follows (renamed_to o.name (between_of number o) ∷ names) (operator_variable o ∷ bs) (between ∷ moment ∷ cs) (with_value o.name (time y) env) (with_value (between_of number o) (time y) (with_value (moment_of number o) (time x) other))
      between_followed =
          followed_time names bs (moment ∷ cs) env (with_value (moment_of number o) (time x) other) (operator_variable o) between refl (λ w wp ne. between_free w wp)
          (followed_aside names bs cs env other moment x (λ w wp. moment_free w wp) h) y refl

-- ---- formulas

module _ (I : Interpretation) (columns : Signature) (columns_same : (n : Identifier) → I.columns n ≡ columns n) where
  mutual
    same_meaning : (f : RawForm) (number : Place → ℕ) (names : Naming) (bs cs : Binders) (M : Structure) (env other : Assignment)
        → HasPlainNames f → BindsNoStar f → IsNamedAs names bs cs → KeepsStar names → IsFit (expanded f number names) columns cs → Follows names bs cs env other
        → WideSatisfies f I bs M env ↔ WideSatisfies (expanded f number names) I cs M other
    same_meaning (raw_atom p name ts) number names bs cs M env other hp w n z t h =
        subst (λ all. HoldsOf M bs env (I.holds name) all ts ↔ HoldsOf M cs other (I.holds name) all (map (renamed names) ts)) (sym (columns_same name))
        (renamed_holds M names bs cs env other z h (columns name) ts (I.holds name) hp t)
    same_meaning (raw_compare p l op r) number names bs cs M env other hp w n z t h = same_compare names bs cs env other h op p l r hp.0 hp.1 t
    same_meaning (raw_member p term point) number names bs cs M env other hp w n z t h = same_member names bs cs env other h term point hp t.0 t.1
    same_meaning (raw_not p f) number names bs cs M env other hp w n z t h = not_iff (same_meaning f number names bs cs M env other hp w n z t h)
    same_meaning (raw_and p fs) number names bs cs M env other hp w n z t h = same_all fs number names bs cs M env other hp w n z t h
    same_meaning (raw_or p fs) number names bs cs M env other hp w n z t h = same_some fs number names bs cs M env other hp w n z t h
    same_meaning (raw_implies p f g) number names bs cs M env other hp w n z t h =
        imply_iff (same_meaning f number names bs cs M env other hp.0 w.0 n z t.0 h) (same_meaning g number names bs cs M env other hp.1 w.1 n z t.1 h)
    same_meaning (raw_group p f) number names bs cs M env other hp w n z t h = same_meaning f number names bs cs M env other hp w n z t h
    same_meaning (raw_exists p c f) number names bs cs M env other hp w n z t h =
        some_iff (λ d o. same_meaning f number (renamed_to c.name c.name ∷ names) (c ∷ bs) (c ∷ cs) M (with_value c.name d env) (with_value c.name d other) hp.1 w.1
        (one_more names bs cs n c t.0 c refl (inl refl)) (keeps_more names c.name c.name w.0 w.0 z) t.1 (followed names bs cs env other c M hp.0 n h t.0 c.sort refl d o))
    same_meaning (raw_forall p c f) number names bs cs M env other hp w n z t h =
        each_iff (λ d o. same_meaning f number (renamed_to c.name c.name ∷ names) (c ∷ bs) (c ∷ cs) M (with_value c.name d env) (with_value c.name d other) hp.1 w.1
        (one_more names bs cs n c t.0 c refl (inl refl)) (keeps_more names c.name c.name w.0 w.0 z) t.1 (followed names bs cs env other c M hp.0 n h t.0 c.sort refl d o))
    same_meaning (raw_ranged Once o from to f) number names bs cs M env other hp w n z t h =
        let k : is_for_texts bs o.name ≡ false = times_by_end o number names bs cs env other hp.0 n h t.0 o.name_place t.1.0.1.0 in
        some_time M (λ x.
        let a = at_moment o number names bs cs env other hp.0 n h t.0 k x in
        let b = at_now o number names bs cs env other hp.0 n h t.0 k x in
        three_iff (le_iff _ _ _ _ (plus_end _ _ from b) (plus_zero _ _ a)) (le_iff _ _ _ _ (plus_zero _ _ a) (plus_end _ _ to b))
        (same_meaning f number (renamed_to o.name (moment_of number o) ∷ names) (operator_variable o ∷ bs) (time_binder o.place (moment_of number o) ∷ cs) M (with_value o.name (time x) env) (with_value (moment_of number o) (time x) other)
        hp.1 w.1 (moment_named o number names bs cs env other hp.0 n h t.0) (keeps_more names o.name (moment_of number o) w.0 (moment_not_plain o.name star_name (number o.place) star_plain) z) t.1.1.1.0
        (moment_followed o number names bs cs env other hp.0 n h t.0 k x)))
    same_meaning (raw_ranged Always o from to f) number names bs cs M env other hp w n z t h =
        let k : is_for_texts bs o.name ≡ false = times_by_end o number names bs cs env other hp.0 n h t.0 o.name_place t.1.0.0.1.0 in
        each_time M (λ x.
        let a = at_moment o number names bs cs env other hp.0 n h t.0 k x in
        let b = at_now o number names bs cs env other hp.0 n h t.0 k x in
        imply_iff (two_iff (le_iff _ _ _ _ (plus_end _ _ from b) (plus_zero _ _ a)) (le_iff _ _ _ _ (plus_zero _ _ a) (plus_end _ _ to b)))
        (same_meaning f number (renamed_to o.name (moment_of number o) ∷ names) (operator_variable o ∷ bs) (time_binder o.place (moment_of number o) ∷ cs) M (with_value o.name (time x) env) (with_value (moment_of number o) (time x) other)
        hp.1 w.1 (moment_named o number names bs cs env other hp.0 n h t.0) (keeps_more names o.name (moment_of number o) w.0 (moment_not_plain o.name star_name (number o.place) star_plain) z) t.1.1
        (moment_followed o number names bs cs env other hp.0 n h t.0 k x)))
    same_meaning (raw_paired Since o f g) number names bs cs M env other hp w n z t h =
        let k : is_for_texts bs o.name ≡ false = times_by_side o number names bs cs env other hp.0 n h t.0 (are_times (time_binder o.place (moment_of number o) ∷ cs) (name_term o.place (moment_of number o)) (name_term o.name_place (present_name names o.name)) t.1.0.1.1).1 in
        some_time M (λ x.
        let a = at_moment o number names bs cs env other hp.0 n h t.0 k x in
        let b = at_now o number names bs cs env other hp.0 n h t.0 k x in
        three_iff (le_iff _ _ _ _ (plus_zero _ _ a) (plus_zero _ _ b))
        (same_meaning g number (renamed_to o.name (moment_of number o) ∷ names) (operator_variable o ∷ bs) (time_binder o.place (moment_of number o) ∷ cs) M (with_value o.name (time x) env) (with_value (moment_of number o) (time x) other)
        hp.2 w.1.1 (moment_named o number names bs cs env other hp.0 n h t.0) (keeps_more names o.name (moment_of number o) w.0 (moment_not_plain o.name star_name (number o.place) star_plain) z) t.1.1.0
        (moment_followed o number names bs cs env other hp.0 n h t.0 k x))
        (each_time M (λ y.
        let c = between_at o number names bs cs env other hp.0 n h t.0 k x t.1.1.1.0.0 y in
        let d = between_moment o number names bs cs env other hp.0 n h t.0 k x t.1.1.1.0.0 y in
        let e = between_now o number names bs cs env other hp.0 n h t.0 k x t.1.1.1.0.0 y in
        imply_iff (two_iff (lt_iff _ _ _ _ (plus_zero _ _ d) (plus_zero _ _ c)) (le_iff _ _ _ _ (plus_zero _ _ c) (plus_zero _ _ e)))
        (same_meaning f number (renamed_to o.name (between_of number o) ∷ names) (operator_variable o ∷ bs) (time_binder o.place (between_of number o) ∷ time_binder o.place (moment_of number o) ∷ cs) M (with_value o.name (time y) env) (with_value (between_of number o) (time y) (with_value (moment_of number o) (time x) other))
        hp.1 w.1.0 (between_named o number names bs cs env other hp.0 n h t.0 k x t.1.1.1.0.0 y) (keeps_more names o.name (between_of number o) w.0 (between_not_plain o.name star_name (number o.place) star_plain) z) t.1.1.1.0.1.1
        (between_followed o number names bs cs env other hp.0 n h t.0 k x t.1.1.1.0.0 y)))))
    same_meaning (raw_paired Until o f g) number names bs cs M env other hp w n z t h =
        let k : is_for_texts bs o.name ≡ false = times_by_side o number names bs cs env other hp.0 n h t.0 (are_times (time_binder o.place (moment_of number o) ∷ cs) (name_term o.place (moment_of number o)) (name_term o.name_place (present_name names o.name)) t.1.0.1.1).1 in
        some_time M (λ x.
        let a = at_moment o number names bs cs env other hp.0 n h t.0 k x in
        let b = at_now o number names bs cs env other hp.0 n h t.0 k x in
        three_iff (le_iff _ _ _ _ (plus_zero _ _ b) (plus_zero _ _ a))
        (same_meaning g number (renamed_to o.name (moment_of number o) ∷ names) (operator_variable o ∷ bs) (time_binder o.place (moment_of number o) ∷ cs) M (with_value o.name (time x) env) (with_value (moment_of number o) (time x) other)
        hp.2 w.1.1 (moment_named o number names bs cs env other hp.0 n h t.0) (keeps_more names o.name (moment_of number o) w.0 (moment_not_plain o.name star_name (number o.place) star_plain) z) t.1.1.0
        (moment_followed o number names bs cs env other hp.0 n h t.0 k x))
        (each_time M (λ y.
        let c = between_at o number names bs cs env other hp.0 n h t.0 k x t.1.1.1.0.0 y in
        let d = between_moment o number names bs cs env other hp.0 n h t.0 k x t.1.1.1.0.0 y in
        let e = between_now o number names bs cs env other hp.0 n h t.0 k x t.1.1.1.0.0 y in
        imply_iff (two_iff (le_iff _ _ _ _ (plus_zero _ _ e) (plus_zero _ _ c)) (lt_iff _ _ _ _ (plus_zero _ _ c) (plus_zero _ _ d)))
        (same_meaning f number (renamed_to o.name (between_of number o) ∷ names) (operator_variable o ∷ bs) (time_binder o.place (between_of number o) ∷ time_binder o.place (moment_of number o) ∷ cs) M (with_value o.name (time y) env) (with_value (between_of number o) (time y) (with_value (moment_of number o) (time x) other))
        hp.1 w.1.0 (between_named o number names bs cs env other hp.0 n h t.0 k x t.1.1.1.0.0 y) (keeps_more names o.name (between_of number o) w.0 (between_not_plain o.name star_name (number o.place) star_plain) z) t.1.1.1.0.1.1
        (between_followed o number names bs cs env other hp.0 n h t.0 k x t.1.1.1.0.0 y)))))

    same_all : (fs : RawForms) (number : Place → ℕ) (names : Naming) (bs cs : Binders) (M : Structure) (env other : Assignment)
        → HavePlainNames fs → BindNoStar fs → IsNamedAs names bs cs → KeepsStar names → AreFit (expanded_each fs number names) columns cs → Follows names bs cs env other
        → WideSatisfiesAll fs I bs M env ↔ WideSatisfiesAll (expanded_each fs number names) I cs M other
    same_all no_raws number names bs cs M env other hp w n z t h = same
    same_all (raw f fs) number names bs cs M env other hp w n z t h =
        both_iff (same_meaning f number names bs cs M env other hp.0 w.0 n z t.0 h) (same_all fs number names bs cs M env other hp.1 w.1 n z t.1 h)

    same_some : (fs : RawForms) (number : Place → ℕ) (names : Naming) (bs cs : Binders) (M : Structure) (env other : Assignment)
        → HavePlainNames fs → BindNoStar fs → IsNamedAs names bs cs → KeepsStar names → AreFit (expanded_each fs number names) columns cs → Follows names bs cs env other
        → WideSatisfiesSome fs I bs M env ↔ WideSatisfiesSome (expanded_each fs number names) I cs M other
    same_some no_raws number names bs cs M env other hp w n z t h = same
    same_some (raw f fs) number names bs cs M env other hp w n z t h =
        either_iff (same_meaning f number names bs cs M env other hp.0 w.0 n z t.0 h) (same_some fs number names bs cs M env other hp.1 w.1 n z t.1 h)

-- ---- texts

-- with no operator or quantifier around, each variable is its own
itself : (bs : Binders) (env : Assignment) → Follows [] bs bs env env
itself bs env = record { sorts = λ w p. refl; times = λ w p e. refl; texts = λ w p e. refl }

pub operators_kept : (I : Interpretation) (columns : Signature) (M : Structure) (q : RawQuestion) → ((n : Identifier) → I.columns n ≡ columns n) → HasPlainNames q.body → BindsNoStar q.body → IsFit (expanded_question q).body columns (reverse q.head)
    → (env : Assignment) → WideSatisfies q.body I (reverse q.head) M env ↔ WideSatisfies (expanded_question q).body I (reverse q.head) M env
operators_kept I columns M q alike plain stars fit env =
    same_meaning I columns alike q.body (operator_number (operators q.body)) [] (reverse q.head) (reverse q.head) M env env plain stars (no_names (reverse q.head)) (record { star = refl; others = λ w ne. ne }) fit (itself (reverse q.head) env)
