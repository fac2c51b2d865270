-- An assignment satisfies the expanded formula exactly where it satisfies the written one.
use Rattle.std.proofs.Common.{◌≡◌, ◌≢◌, ◌↔◌, ℕ, ◌<◌, ◌^◌, length, Some, true, false, List, [], ◌∷◌, ◌++◌, map, refl, sym, ap, subst, ◌∙◌}
use Rattle.std.specs.Prelude.{ℤ, reverse}
use Rattle.lrp_model.specs.Texts.{Identifier}
use Rattle.lrp_model.specs.Rows.{Datum, time, text, Holds}
use Rattle.lrp_model.specs.Satisfaction.{Structure, Assignment, with_value, term_value, Satisfies, SatisfiesAll, SatisfiesSome, IsOfSort}
use Rattle.lrp_model.specs.Sorting.{Binders, binder_sort, alone_sort, is_data_term, variable_faults}
use Rattle.lrp_model.specs.Checked.{term_of, plain, plain_each}
use Rattle.lrp_model.specs.declared.tokens.Place.{Place}
use Rattle.lrp_model.specs.declared.relations.Sort.{Sort}
use Rattle.lrp_model.specs.declared.relations.Sort.TheVariants.{Time, Data, Named}
use Rattle.lrp_model.specs.declared.raw.RawColumn.{RawColumn}
use Rattle.lrp_model.specs.declared.raw.Ranged.TheVariants.{Once, Always}
use Rattle.lrp_model.specs.declared.raw.Paired.TheVariants.{Since, Until}
use Rattle.lrp_model.proofs.Logic.{same}
use Rattle.lrp_model.specs.RawQueries.{Operator, RawForm, RawForms, RawQuestion, raw_atom, raw_compare, raw_member, raw_not, raw_and, raw_or, raw_implies, raw_group, raw_exists, raw_forall, raw_ranged, raw_paired, no_raws, raw}
use Rattle.lrp_tense.specs.Meaning.{operator_variable, TenseSatisfies, TenseSatisfiesAll, TenseSatisfiesSome}
use Rattle.lrp_tense.specs.Expanding.{operators, operators_each, Naming, present_name, renamed, renamed_to, IsPlain, moment_of, between_of, time_binder, name_term, expanded, expanded_each, expanded_question, operator_number, HasPlainNames, HavePlainNames, IsExpandable}
use Rattle.lrp_tense.specs.Laws.{KeepsMeaning}
use Rattle.lrp_tense.proofs.SameTexts.{same_structure}
use Rattle.lrp_tense.proofs.Iff.{both_iff, two_iff, three_iff, imply_iff, not_iff, either_iff, some_iff, each_iff, some_time, each_time, le_iff, lt_iff, plus_zero, plus_end}
use Rattle.lrp_tense.proofs.Timely.{IsTimely, AreTimely, shifted_times, are_times, timely_body}
use Rattle.lrp_tense.proofs.Numbering.{are_numbered}
use Rattle.lrp_tense.proofs.Terms.{by_equal, same_terms, same_member, same_compare}
use Rattle.lrp_tense.proofs.FreshNames.{moment_not_between}
use Rattle.lrp_tense.proofs.Scoping.{AreNumbered, numbered_parts, IsApart, nothing_apart, apart_left, apart_right, apart_binder, apart_moment, apart_between, Follows, is_for_texts, bound_further, other_name, set_own, set_other, followed_time, followed_text, followed_aside}

-- ---- a quantifier's variable

followed : (names : Naming) (bs cs : Binders) (env other : Assignment) (number : Place → ℕ) (ps : List Place) (c : RawColumn) (M : Structure) → IsPlain c.name → IsApart names number ps → Follows names bs cs env other
    → (s : Sort) → c.sort ≡ s → (d : Datum) → IsOfSort M s d → Follows (renamed_to c.name c.name ∷ names) (c ∷ bs) (c ∷ cs) (with_value c.name d env) (with_value c.name d other)
followed names bs cs env other number ps c M cp v h Time e (time x) o =
    followed_time names bs cs env other c c refl (λ w wp ne s. v.own w c.name wp cp (λ z. ne (sym z)) (sym s)) h x (ap (λ s. is_data_term (alone_sort (Some s))) e)
followed names bs cs env other number ps c M cp v h Time e (text t) o = absurd o
followed names bs cs env other number ps c M cp v h Data e (time x) o = absurd o
followed names bs cs env other number ps c M cp v h Data e (text t) o =
    followed_text names bs cs env other c c refl (λ w wp ne s. v.own w c.name wp cp (λ z. ne (sym z)) (sym s)) h t (ap (λ s. is_data_term (alone_sort (Some s))) e)
followed names bs cs env other number ps c M cp v h (Named n) e (time x) o = absurd o
followed names bs cs env other number ps c M cp v h (Named n) e (text t) o =
    followed_text names bs cs env other c c refl (λ w wp ne s. v.own w c.name wp cp (λ z. ne (sym z)) (sym s)) h t (ap (λ s. is_data_term (alone_sort (Some s))) e)

-- ---- an operator's variables

-- what is known at an operator
module _ (o : Operator) (number : Place → ℕ) (names : Naming) (bs cs : Binders) (env other : Assignment) (ps : List Place) (op : IsPlain o.name) (n : AreNumbered number (o.place ∷ ps)) (v : IsApart names number (o.place ∷ ps)) (h : Follows names bs cs env other) where
  moment_free : (w : Identifier) → IsPlain w → moment_of number o ≢ present_name names w
  moment_free w wp e = (v.fresh w o.name wp op).0.0 (sym e)

  between_free : (w : Identifier) → IsPlain w → between_of number o ≢ present_name names w
  between_free w wp e = (v.fresh w o.name wp op).0.1 (sym e)

  -- the operator's variable is one for times, where its term has no fault
  times_by_end : (q : Place) → variable_faults (binder_sort (time_binder o.place (moment_of number o) ∷ cs) (present_name names o.name)) true q ≡ [] → is_for_texts bs o.name ≡ false
  times_by_end q e =
      subst (λ s. is_data_term (alone_sort s) ≡ false) (bound_further (time_binder o.place (moment_of number o)) cs (present_name names o.name) (other_name (moment_of number o) (present_name names o.name) (moment_free o.name op)) ∙ h.sorts o.name op)
      (shifted_times (binder_sort (time_binder o.place (moment_of number o) ∷ cs) (present_name names o.name)) q e)

  times_by_side : is_data_term (alone_sort (binder_sort (time_binder o.place (moment_of number o) ∷ cs) (present_name names o.name))) ≡ false → is_for_texts bs o.name ≡ false
  times_by_side e =
      subst (λ s. is_data_term (alone_sort s) ≡ false) (bound_further (time_binder o.place (moment_of number o)) cs (present_name names o.name) (other_name (moment_of number o) (present_name names o.name) (moment_free o.name op)) ∙ h.sorts o.name op) e

  module _ (k : is_for_texts bs o.name ≡ false) (x : ℤ) where
    at_moment : (with_value (moment_of number o) (time x) other).times (moment_of number o) ≡ x
    at_moment = set_own (moment_of number o) x (other.times (moment_of number o))

    at_now : (with_value (moment_of number o) (time x) other).times (present_name names o.name) ≡ env.times o.name
    at_now = set_other (moment_of number o) (present_name names o.name) x (other.times (present_name names o.name)) (moment_free o.name op) ∙ h.times o.name op k

    moment_followed : Follows (renamed_to o.name (moment_of number o) ∷ names) (operator_variable o ∷ bs) (time_binder o.place (moment_of number o) ∷ cs) (with_value o.name (time x) env) (with_value (moment_of number o) (time x) other)
    moment_followed = followed_time names bs cs env other (operator_variable o) (time_binder o.place (moment_of number o)) refl (λ w wp ne. moment_free w wp) h x refl

    module _ (y : ℤ) where
      between_at : (with_value (between_of number o) (time y) (with_value (moment_of number o) (time x) other)).times (between_of number o) ≡ y
      between_at = set_own (between_of number o) y ((with_value (moment_of number o) (time x) other).times (between_of number o))

      between_moment : (with_value (between_of number o) (time y) (with_value (moment_of number o) (time x) other)).times (moment_of number o) ≡ x
      between_moment = set_other (between_of number o) (moment_of number o) y ((with_value (moment_of number o) (time x) other).times (moment_of number o)) (λ e. moment_not_between o.name o.name (number o.place) (number o.place) op op n.0 n.0 (sym e)) ∙ at_moment

      between_now : (with_value (between_of number o) (time y) (with_value (moment_of number o) (time x) other)).times (present_name names o.name) ≡ env.times o.name
      between_now = set_other (between_of number o) (present_name names o.name) y ((with_value (moment_of number o) (time x) other).times (present_name names o.name)) (between_free o.name op) ∙ at_now

      between_followed : Follows (renamed_to o.name (between_of number o) ∷ names) (operator_variable o ∷ bs) (time_binder o.place (between_of number o) ∷ time_binder o.place (moment_of number o) ∷ cs) (with_value o.name (time y) env) (with_value (between_of number o) (time y) (with_value (moment_of number o) (time x) other))
      between_followed =
          followed_time names bs (time_binder o.place (moment_of number o) ∷ cs) env (with_value (moment_of number o) (time x) other) (operator_variable o) (time_binder o.place (between_of number o)) refl (λ w wp ne. between_free w wp)
          (followed_aside names bs cs env other (time_binder o.place (moment_of number o)) x (λ w wp. moment_free w wp) h) y refl

-- ---- formulas

mutual
  pub same_meaning : (f : RawForm) (number : Place → ℕ) (names : Naming) (bs cs : Binders) (M : Structure) (env other : Assignment)
      → HasPlainNames f → AreNumbered number (operators f) → IsApart names number (operators f) → IsTimely (expanded f number names) cs → Follows names bs cs env other
      → TenseSatisfies f bs M env ↔ Satisfies (plain (expanded f number names) cs) M other
  same_meaning (raw_atom p name ts) number names bs cs M env other hp n v t h =
      by_equal (λ values. Holds M.relations name values) (map (term_value env) (map (term_of bs) ts)) (map (term_value other) (map (term_of cs) (map (renamed names) ts))) (same_terms names bs cs env other h ts hp t)
  same_meaning (raw_compare p l op r) number names bs cs M env other hp n v t h = same_compare names bs cs env other h op p l r hp.0 hp.1 t
  same_meaning (raw_member p term point) number names bs cs M env other hp n v t h = same_member names bs cs env other h term point hp t.0 t.1
  same_meaning (raw_not p f) number names bs cs M env other hp n v t h = not_iff (same_meaning f number names bs cs M env other hp n v t h)
  same_meaning (raw_and p fs) number names bs cs M env other hp n v t h = same_all fs number names bs cs M env other hp n v t h
  same_meaning (raw_or p fs) number names bs cs M env other hp n v t h = same_some fs number names bs cs M env other hp n v t h
  same_meaning (raw_implies p f g) number names bs cs M env other hp n v t h =
      let m = numbered_parts number (operators f) (operators g) n in
      imply_iff (same_meaning f number names bs cs M env other hp.0 m.0 (apart_left names number (operators f) (operators g) v) t.0 h)
      (same_meaning g number names bs cs M env other hp.1 m.1 (apart_right names number (operators f) (operators g) v) t.1 h)
  same_meaning (raw_group p f) number names bs cs M env other hp n v t h = same_meaning f number names bs cs M env other hp n v t h
  same_meaning (raw_exists p c f) number names bs cs M env other hp n v t h =
      some_iff (λ d o. same_meaning f number (renamed_to c.name c.name ∷ names) (c ∷ bs) (c ∷ cs) M (with_value c.name d env) (with_value c.name d other) hp.1 n (apart_binder names number (operators f) c.name hp.0 v) t
      (followed names bs cs env other number (operators f) c M hp.0 v h c.sort refl d o))
  same_meaning (raw_forall p c f) number names bs cs M env other hp n v t h =
      each_iff (λ d o. same_meaning f number (renamed_to c.name c.name ∷ names) (c ∷ bs) (c ∷ cs) M (with_value c.name d env) (with_value c.name d other) hp.1 n (apart_binder names number (operators f) c.name hp.0 v) t
      (followed names bs cs env other number (operators f) c M hp.0 v h c.sort refl d o))
  same_meaning (raw_ranged Once o from to f) number names bs cs M env other hp n v t h =
      let k : is_for_texts bs o.name ≡ false = times_by_end o number names bs cs env other (operators f) hp.0 n v h o.name_place t.0.1.0 in
      some_time M (λ x.
      let a = at_moment o number names bs cs env other (operators f) hp.0 n v h k x in
      let b = at_now o number names bs cs env other (operators f) hp.0 n v h k x in
      three_iff (le_iff _ _ _ _ (plus_end _ _ from b) (plus_zero _ _ a)) (le_iff _ _ _ _ (plus_zero _ _ a) (plus_end _ _ to b))
      (same_meaning f number (renamed_to o.name (moment_of number o) ∷ names) (operator_variable o ∷ bs) (time_binder o.place (moment_of number o) ∷ cs) M (with_value o.name (time x) env) (with_value (moment_of number o) (time x) other)
      hp.1 n.1.1 (apart_moment names number o.place (operators f) o.name hp.0 n v) t.1.1.0 (moment_followed o number names bs cs env other (operators f) hp.0 n v h k x)))
  same_meaning (raw_ranged Always o from to f) number names bs cs M env other hp n v t h =
      let k : is_for_texts bs o.name ≡ false = times_by_end o number names bs cs env other (operators f) hp.0 n v h o.name_place t.0.0.1.0 in
      each_time M (λ x.
      let a = at_moment o number names bs cs env other (operators f) hp.0 n v h k x in
      let b = at_now o number names bs cs env other (operators f) hp.0 n v h k x in
      imply_iff (two_iff (le_iff _ _ _ _ (plus_end _ _ from b) (plus_zero _ _ a)) (le_iff _ _ _ _ (plus_zero _ _ a) (plus_end _ _ to b)))
      (same_meaning f number (renamed_to o.name (moment_of number o) ∷ names) (operator_variable o ∷ bs) (time_binder o.place (moment_of number o) ∷ cs) M (with_value o.name (time x) env) (with_value (moment_of number o) (time x) other)
      hp.1 n.1.1 (apart_moment names number o.place (operators f) o.name hp.0 n v) t.1 (moment_followed o number names bs cs env other (operators f) hp.0 n v h k x)))
  same_meaning (raw_paired Since o f g) number names bs cs M env other hp n v t h =
      let m = numbered_parts number (operators f) (operators g) n.1.1 in
      let k : is_for_texts bs o.name ≡ false = times_by_side o number names bs cs env other (operators f ++ operators g) hp.0 n v h (are_times (time_binder o.place (moment_of number o) ∷ cs) (name_term o.place (moment_of number o)) (name_term o.name_place (present_name names o.name)) t.0.1.1).1 in
      some_time M (λ x.
      let a = at_moment o number names bs cs env other (operators f ++ operators g) hp.0 n v h k x in
      let b = at_now o number names bs cs env other (operators f ++ operators g) hp.0 n v h k x in
      three_iff (le_iff _ _ _ _ (plus_zero _ _ a) (plus_zero _ _ b))
      (same_meaning g number (renamed_to o.name (moment_of number o) ∷ names) (operator_variable o ∷ bs) (time_binder o.place (moment_of number o) ∷ cs) M (with_value o.name (time x) env) (with_value (moment_of number o) (time x) other)
      hp.2 m.1 (apart_right (renamed_to o.name (moment_of number o) ∷ names) number (operators f) (operators g) (apart_moment names number o.place (operators f ++ operators g) o.name hp.0 n v)) t.1.0
      (moment_followed o number names bs cs env other (operators f ++ operators g) hp.0 n v h k x))
      (each_time M (λ y.
      let c = between_at o number names bs cs env other (operators f ++ operators g) hp.0 n v h k x y in
      let d = between_moment o number names bs cs env other (operators f ++ operators g) hp.0 n v h k x y in
      let e = between_now o number names bs cs env other (operators f ++ operators g) hp.0 n v h k x y in
      imply_iff (two_iff (lt_iff _ _ _ _ (plus_zero _ _ d) (plus_zero _ _ c)) (le_iff _ _ _ _ (plus_zero _ _ c) (plus_zero _ _ e)))
      (same_meaning f number (renamed_to o.name (between_of number o) ∷ names) (operator_variable o ∷ bs) (time_binder o.place (between_of number o) ∷ time_binder o.place (moment_of number o) ∷ cs) M (with_value o.name (time y) env) (with_value (between_of number o) (time y) (with_value (moment_of number o) (time x) other))
      hp.1 m.0 (apart_left (renamed_to o.name (between_of number o) ∷ names) number (operators f) (operators g) (apart_between names number o.place (operators f ++ operators g) o.name hp.0 n v)) t.1.1.0.1
      (between_followed o number names bs cs env other (operators f ++ operators g) hp.0 n v h k x y)))))
  same_meaning (raw_paired Until o f g) number names bs cs M env other hp n v t h =
      let m = numbered_parts number (operators f) (operators g) n.1.1 in
      let k : is_for_texts bs o.name ≡ false = times_by_side o number names bs cs env other (operators f ++ operators g) hp.0 n v h (are_times (time_binder o.place (moment_of number o) ∷ cs) (name_term o.place (moment_of number o)) (name_term o.name_place (present_name names o.name)) t.0.1.1).1 in
      some_time M (λ x.
      let a = at_moment o number names bs cs env other (operators f ++ operators g) hp.0 n v h k x in
      let b = at_now o number names bs cs env other (operators f ++ operators g) hp.0 n v h k x in
      three_iff (le_iff _ _ _ _ (plus_zero _ _ b) (plus_zero _ _ a))
      (same_meaning g number (renamed_to o.name (moment_of number o) ∷ names) (operator_variable o ∷ bs) (time_binder o.place (moment_of number o) ∷ cs) M (with_value o.name (time x) env) (with_value (moment_of number o) (time x) other)
      hp.2 m.1 (apart_right (renamed_to o.name (moment_of number o) ∷ names) number (operators f) (operators g) (apart_moment names number o.place (operators f ++ operators g) o.name hp.0 n v)) t.1.0
      (moment_followed o number names bs cs env other (operators f ++ operators g) hp.0 n v h k x))
      (each_time M (λ y.
      let c = between_at o number names bs cs env other (operators f ++ operators g) hp.0 n v h k x y in
      let d = between_moment o number names bs cs env other (operators f ++ operators g) hp.0 n v h k x y in
      let e = between_now o number names bs cs env other (operators f ++ operators g) hp.0 n v h k x y in
      imply_iff (two_iff (le_iff _ _ _ _ (plus_zero _ _ e) (plus_zero _ _ c)) (lt_iff _ _ _ _ (plus_zero _ _ c) (plus_zero _ _ d)))
      (same_meaning f number (renamed_to o.name (between_of number o) ∷ names) (operator_variable o ∷ bs) (time_binder o.place (between_of number o) ∷ time_binder o.place (moment_of number o) ∷ cs) M (with_value o.name (time y) env) (with_value (between_of number o) (time y) (with_value (moment_of number o) (time x) other))
      hp.1 m.0 (apart_left (renamed_to o.name (between_of number o) ∷ names) number (operators f) (operators g) (apart_between names number o.place (operators f ++ operators g) o.name hp.0 n v)) t.1.1.0.1
      (between_followed o number names bs cs env other (operators f ++ operators g) hp.0 n v h k x y)))))

  same_all : (fs : RawForms) (number : Place → ℕ) (names : Naming) (bs cs : Binders) (M : Structure) (env other : Assignment)
      → HavePlainNames fs → AreNumbered number (operators_each fs) → IsApart names number (operators_each fs) → AreTimely (expanded_each fs number names) cs → Follows names bs cs env other
      → TenseSatisfiesAll fs bs M env ↔ SatisfiesAll (plain_each (expanded_each fs number names) cs) M other
  same_all no_raws number names bs cs M env other hp n v t h = same
  same_all (raw f fs) number names bs cs M env other hp n v t h =
      let m = numbered_parts number (operators f) (operators_each fs) n in
      both_iff (same_meaning f number names bs cs M env other hp.0 m.0 (apart_left names number (operators f) (operators_each fs) v) t.0 h)
      (same_all fs number names bs cs M env other hp.1 m.1 (apart_right names number (operators f) (operators_each fs) v) t.1 h)

  same_some : (fs : RawForms) (number : Place → ℕ) (names : Naming) (bs cs : Binders) (M : Structure) (env other : Assignment)
      → HavePlainNames fs → AreNumbered number (operators_each fs) → IsApart names number (operators_each fs) → AreTimely (expanded_each fs number names) cs → Follows names bs cs env other
      → TenseSatisfiesSome fs bs M env ↔ SatisfiesSome (plain_each (expanded_each fs number names) cs) M other
  same_some no_raws number names bs cs M env other hp n v t h = same
  same_some (raw f fs) number names bs cs M env other hp n v t h =
      let m = numbered_parts number (operators f) (operators_each fs) n in
      either_iff (same_meaning f number names bs cs M env other hp.0 m.0 (apart_left names number (operators f) (operators_each fs) v) t.0 h)
      (same_some fs number names bs cs M env other hp.1 m.1 (apart_right names number (operators f) (operators_each fs) v) t.1 h)

-- ---- queries

-- with no operator or quantifier around, each variable is its own
itself : (bs : Binders) (env : Assignment) → Follows [] bs bs env env
itself bs env = record { sorts = λ w p. refl; times = λ w p e. refl; texts = λ w p e. refl }

pub kept_meaning : (q : RawQuestion) → IsExpandable q → length (operators q.body) < 2 ^ 64 → KeepsMeaning q (expanded_question q)
kept_meaning q h small db well = record {
  texts = same_structure q h small db well;
  satisfied = λ M env.
      same_meaning q.body (operator_number (operators q.body)) [] (reverse q.head) (reverse q.head) M env env h.names (are_numbered (operators q.body) small h.places) (nothing_apart (operator_number (operators q.body)) (operators q.body)) (timely_body db (expanded_question q) well) (itself (reverse q.head) env);
}
