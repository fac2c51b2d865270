-- The answer of a keeper's state is just that of the query over the rows now held, and its zones are small.
use Rattle.std.proofs.Common.{◌≡◌, ℕ, true, List, length, map, Contains, Some, sym, ap, ap₂, subst, ◌∙◌}
use Rattle.std.specs.Prelude.{◌&&◌, reverse, slice_get}
use Rattle.std.specs.List.{AllByRecursion}
use Rattle.std.proofs.lemmas.Bool.{and_parts}
use Rattle.slab.specs.Slab.{get}
use Rattle.lrp_model.specs.Checked.{plain_question}
use Rattle.lrp_model.specs.DatabaseMeaning.{column_of}
use Rattle.lrp_model.specs.Domains.{constants}
use Rattle.lrp_model.specs.Formulas.{Question, question_of}
use Rattle.lrp_model.specs.Sorts.{time_count}
use Rattle.lrp_model.specs.Texts.{Identifier}
use Rattle.lrp_model.specs.Variables.{head_variables}
use Rattle.lrp_model.specs.declared.relations.Column.{Column}
use Rattle.lrp_store.specs.Tables.{InAnswer}
use Rattle.lrp_answers.specs.declared.answer.Answer.{Answer}
use Rattle.lrp_tables.specs.Columns.{head_times}
use Rattle.lrp_kept.specs.Choices.{listed_disjuncts}
use Rattle.lrp_parts.specs.Derivations.{Ground, Levels}
use Rattle.lrp_kept.specs.Disjuncts.{AreDisjunctsOf, IsDisjunctOf}
use Rattle.lrp_kept.specs.Held.{greatest_bounds, names_of, relations_of}
use Rattle.lrp_keep.specs.Keeps.{IsKeptAnswer}
use Rattle.lrp_kept.specs.KeptForm.{all_occur, bound_variables, kept_elements, is_conjunctive, is_disjunct, is_kept, query_disjuncts}
use Rattle.lrp_kept.specs.Limits.{kept_reach}
use Rattle.lrp_keep.specs.States.{IsAnswerOfState, IsKeeping, ground_at, levels_of, keeper_view}
use Rattle.lrp_kept.specs.declared.disjuncts.Disjunct.{Disjunct}
use Rattle.lrp_keep.specs.declared.kept_query.KeptQuery.{KeptQuery}
use Rattle.lrp_keep.specs.declared.states.State.{State}
use Rattle.lrp_keep.proofs.KeptAnswers.{IsWholeAt, RestsOn, answer_from, answer_to, one_passes, zip_back}
use Rattle.lrp_keep.proofs.LowRows.{kept_low}
use Rattle.lrp_keep.proofs.Resting.{rests_on}
use Rattle.lrp_parts.proofs.SmallAnswers.{small_zones}
use Rattle.lrp_tables.proofs.HeadCounts.{times_counted}
use Rattle.lrp_keep.proofs.WholeAtoms.{is_whole_at}

-- each disjunct of a query in kept form is whole
pub whole_each : (names : List Identifier) (q : Question) (ds : List Disjunct) → is_kept q ≡ true → AreDisjunctsOf names q ds → (i : ℕ) (d : Disjunct) → slice_get ds i ≡ Some d → IsWholeAt d
whole_each names q ds kept are i d at =
    let x = zip_back (IsDisjunctOf names) (listed_disjuncts q) ds i d are.each at in
    let f = x.0 in
    let good : is_disjunct q.head f ≡ true = one_passes (is_disjunct q.head) (query_disjuncts q) f kept x.1 in
    let first = and_parts (is_conjunctive (kept_elements f) && all_occur (kept_elements f) (head_variables q.head)) (all_occur (kept_elements f) (bound_variables f)) good in
    is_whole_at names f d x.2 (and_parts (is_conjunctive (kept_elements f)) (all_occur (kept_elements f) (head_variables q.head)) first.0).0

module _ (of : KeptQuery) (s : State) (is : IsKeeping of s) where
  abbrev g : Ground
  g = ground_at of s.rows s.period.number

  abbrev q : Question
  q = question_of of.query.now

  abbrev ds : List Disjunct
  ds = of.disjuncts.items

  abbrev all : List Levels
  all = levels_of s

  whole : (i : ℕ) (d : Disjunct) → slice_get ds i ≡ Some d → IsWholeAt d
  whole = whole_each (names_of s.rows) q ds is.kept is.state.disjuncts

  abbrev head : List Column
  head = map column_of (reverse is.query.query.raw.head)

  pub rests : RestsOn g q head ds
  rests =
      let same : plain_question is.query.query.raw ≡ q = sym is.query.query.is in
      subst (λ p. RestsOn g p head ds) same
      (rests_on g is.query.query.raw ds is.query.db is.query.query.sorted is.query.columns (ap (λ (p : Question). p.head) (sym same)) is.distinct
      (subst (λ p. AreDisjunctsOf (names_of s.rows) p ds) (sym same) is.state.disjuncts) whole
      (subst (λ p. is_kept p ≡ true) (sym same) is.kept) is.ascends
      (subst (λ p. AllByRecursion (Contains of.domain) (constants (relations_of (get s.rows.sources) s.rows.relations.items) p)) (sym same) is.known))

  pub kept_answer : (a : Answer) → IsAnswerOfState of s a → IsKeptAnswer (keeper_view of s) a
  kept_answer a h =
      let times : a.store.shape.times ≡ length (head_times q.head) = h.times in
      record {
        head = h.head;
        domain = h.domain;
        period = h.period;
        answers = λ tuple.
            let e : InAnswer a.head.columns a.domain a.store tuple ≡ InAnswer q.head g.domain a.store tuple = ap₂ (λ cs d. InAnswer cs d a.store tuple) h.head h.domain in (
              (λ x. answer_to g q head ds rests all is.state.derived a.store h.valid h.times h.texts h.holds tuple (subst (λ t. t) e x)),
              λ x. subst (λ t. t) (sym e) (answer_from g q head ds rests all is.state.derived a.store h.valid h.times h.texts h.holds tuple x),
            );
        small = small_zones a.store h.valid (time_count q.head) (kept_reach (relations_of (get s.rows.sources) s.rows.relations.items) (greatest_bounds s.rows.relations.items) s.period.number q) (times ∙ sym (times_counted q.head))
            (h.reach (kept_reach (relations_of (get s.rows.sources) s.rows.relations.items) (greatest_bounds s.rows.relations.items) s.period.number q) (kept_low g q ds all is.distinct is.state.disjuncts is.state.derived is.low (λ i d at. (whole i d at).some)));
      }
