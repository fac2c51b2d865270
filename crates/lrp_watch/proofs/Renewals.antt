-- From an answer over some relations to the query's least answer over them, and from the least answers to the lines.
use Rattle.std.proofs.Common.{◌≡◌, ◌∙◌, ℕ, ◌+◌, ◌<◌, ◌≤◌, zero, suc, List, [], ◌∷◌, ◌++◌, length, take, flat_map, get_or, set, get_or-set_same, get_or-set_other, length-set, Option, Some, None, option_map, unwrap_or, true, refl, sym, ap, ap₂, subst, arith, inl, inr}
use Rattle.std.specs.Prelude.{◌↔◌, ◌^◌, ◌*◌, ◌≤ℤ◌, pos, not, MatchOption}
use Rattle.std.specs.List.{AllByRecursion}
use Rattle.std.proofs.lemmas.Bool.{cases_eq}
use Rattle.lrp_model.specs.Checked.{plain_question}
use Rattle.lrp_model.specs.Core.{HasElements}
use Rattle.lrp_model.specs.Domains.{row_texts}
use Rattle.lrp_model.specs.Formulas.{Question}
use Rattle.lrp_model.specs.Kept.{AreValuesOf, IsKept, IsRowOf}
use Rattle.lrp_model.specs.Order.{IsLeast}
use Rattle.lrp_model.specs.Plans.{query_reach, scaled_reach}
use Rattle.lrp_model.specs.RawQueries.{RawQuestion}
use Rattle.lrp_model.specs.Rows.{Tuple}
use Rattle.lrp_model.specs.Satisfaction.{IsAnswer}
use Rattle.lrp_model.specs.Sorting.{IsWellSorted}
use Rattle.lrp_model.specs.Sorts.{is_data, time_count}
use Rattle.lrp_model.specs.Steps.{PlanStep, Steps, step_at}
use Rattle.lrp_model.specs.TestPoints.{points}
use Rattle.lrp_model.specs.Texts.{Text}
use Rattle.lrp_model.specs.Tuples.{in_head_order, text_at, texts_at}
use Rattle.lrp_model.specs.declared.relations.Column.{Column}
use Rattle.lrp_model.specs.declared.relations.Relation.{Relation}
use Rattle.lrp_model.specs.declared.relations.Row.{Row}
use Rattle.lrp_model.specs.declared.relations.Sort.{Sort}
use Rattle.lrp_model.specs.declared.relations.Value.{Value}
use Rattle.lrp_model.specs.declared.relations.Value.TheVariants.{Point, Const}
use Rattle.lrp_model.specs.declared.tuples.Shape.{Shape}
use Rattle.lrp_model.specs.declared.tuples.Spot.{Spot}
use Rattle.lrp_answers.specs.Spots.{spot_tuple}
use Rattle.lrp_answers.specs.declared.answer.Answer.{Answer}
use Rattle.lrp_cutting.specs.Settling.{IsSmallZone}
use Rattle.lrp_eval.specs.Answered.{IsAnswerOf}
use Rattle.lrp_outputs.specs.SmallAnswers.{IsSmallAnswer}
use Rattle.lrp_plan_laws.specs.Rising.{HasPeriods, IsRising, period_at}
use Rattle.lrp_plan_laws.specs.Settled.{HasSortedTexts, IsSettled, IsSoundPlan}
use Rattle.lrp_store.specs.Least.{IsLeastSpot}
use Rattle.lrp_store.specs.Tables.{InAnswer}
use Rattle.lrp_watch.specs.Decided.{CanBeDecided, IsRenumbered}
use Rattle.lrp_keep.specs.Keeps.{shape_for}
use Rattle.lrp_watch.specs.LeastAnswers.{IsLeastOver}
use Rattle.lrp_watch.proofs.Known.{StandsForTuples, shape_is}

-- ---- databases have texts in data columns

abbrev IsPlaced : Sort × Text → Type 0
IsPlaced entry = is_data entry.0 ≡ true

both : (xs ys : List (Sort × Text)) → AllByRecursion IsPlaced xs → AllByRecursion IsPlaced ys → AllByRecursion IsPlaced (xs ++ ys)
both [] ys h k = k
both (x ∷ xs) ys h k = (h.0, both xs ys h.1 k)

values_placed : (cs : List Column) (vs : List Value) → AreValuesOf cs vs → AllByRecursion IsPlaced (row_texts cs vs)
values_placed [] [] h = tt
values_placed [] (v ∷ vs) h = absurd h
values_placed (c ∷ cs) [] h = tt
values_placed (c ∷ cs) (Point p ∷ vs) h = values_placed cs vs h.1
values_placed (c ∷ cs) (Const t ∷ vs) h = (ap not h.0.0, values_placed cs vs h.1)

rows_placed : (cs : List Column) (rows : List Row) → AllByRecursion (IsRowOf cs) rows → AllByRecursion IsPlaced (flat_map (λ row. row_texts cs row.values) rows)
rows_placed cs [] h = tt
rows_placed cs (row ∷ rows) h = both (row_texts cs row.values) (flat_map (λ r. row_texts cs r.values) rows) (values_placed cs row.values h.0.values) (rows_placed cs rows h.1)

texts_placed : (db : List Relation) → AllByRecursion IsKept db → HasSortedTexts db
texts_placed [] h = tt
texts_placed (r ∷ rs) h = both (flat_map (λ row. row_texts r.columns row.values) r.rows) (flat_map (λ s. flat_map (λ row. row_texts s.columns row.values) s.rows) rs) (rows_placed r.columns r.rows h.0.rows) (texts_placed rs h.1)

-- ---- a well-sorted query is settled

abbrev pub KeptHavePeriods : Type 0
KeptHavePeriods = (db : List Relation) (q : Question) → AllByRecursion IsKept db → AllByRecursion (λ at. pos 1 ≤ℤ at.period) (points q.body) → HasPeriods db q

abbrev pub SortedAreSettled : Type 0
SortedAreSettled = (db : List Relation) (q : RawQuestion) → IsWellSorted db q → HasSortedTexts db → HasElements (plain_question q).body → HasPeriods db (plain_question q) → IsSettled db (plain_question q)

pub settled_query : KeptHavePeriods → SortedAreSettled → (db : List Relation) (q : Question) → AllByRecursion IsKept db → CanBeDecided db q → IsSettled db q
settled_query periods settled db q kept can =
    let same : q ≡ plain_question can.query.raw = can.query.is in
    subst (IsSettled db) (sym same)
    (settled db can.query.raw can.query.sorted (texts_placed db kept) (subst (λ (x : Question). HasElements x.body) same can.query.elements) (subst (HasPeriods db) same (periods db q kept can.points)))

-- ---- room for the least answer

wide_at : (steps : Steps) (db : List Relation) (q : Question) (Is : PlanStep → Type 0) → ((s : ℕ) (step : PlanStep) → step_at steps s ≡ Some step → IsRising steps db q s step) → MatchOption (step_at steps (length steps)) ⊥ Is → period_at steps (length steps) ≤ query_reach steps
wide_at steps db q Is rises last = by (step_at steps (length steps)) refl last
  where
    by : (o : Option PlanStep) → step_at steps (length steps) ≡ o → MatchOption o ⊥ Is → unwrap_or (option_map (λ step. step.period) o) 1 ≤ unwrap_or (option_map (λ step. step.reach) o) 0
    by None e m = absurd m
    by (Some step) e m = (rises (length steps) step e).wide

pub small_answer : (steps : Steps) (db : List Relation) (q : Question) (cap : ℕ) (a : Answer) → IsAnswerOf steps db q cap a → scaled_reach steps q ≤ 2 ^ 62 → IsSoundPlan steps db q → IsSmallAnswer a (query_reach steps)
small_answer steps db q cap a is reach sound =
    let k : pos a.store.period ≡ pos (period_at steps (length steps)) = sym a.period_is ∙ is.period in
    let same : a.store.period ≡ period_at steps (length steps) = cc in
    record {
      period = subst (λ n. n ≤ query_reach steps) (sym same) (wide_at steps db q _ (λ s step e. (sound.each s step e).rises) sound.head);
      scaled = subst (λ cs. 2 ^ (time_count cs + 1) * query_reach steps ≤ 2 ^ 62) (sym is.head) reach;
      small = λ cell z held. subst (λ cs. IsSmallZone z (time_count cs * query_reach steps)) (sym is.head) (is.small cell z held);
    }

-- ---- the least answer by other numbers

module _ (db : List Relation) (q : Question) (domain : List Text) (a : Answer) (head : a.head.columns ≡ q.head) (answers : (tuple : Tuple) → InAnswer a.head.columns a.domain a.store tuple ↔ IsAnswer db q tuple) where
  shape : a.store.shape ≡ shape_for q.head
  shape = shape_is a ∙ ap shape_for head

  pub none_over : ((tuple : Tuple) → InAnswer a.head.columns a.domain a.store tuple → ⊥) → IsLeastOver q domain db None
  none_over none = record { first = λ tuple h. none tuple ((answers tuple).1 h); known = tt }

  pub some_over : StandsForTuples → (old new : Spot) → IsLeastSpot a.head.columns a.domain a.store old → IsRenumbered a domain old new → IsLeastOver q domain db (Some new)
  some_over stood old new least r = record {
    first = subst (λ t. IsLeast (IsAnswer db q) t) (sym same) (record { is = (answers least.tuple).0 least.least.is; first = λ other h. least.least.first other ((answers other).1 h) });
    known = subst (λ (s : Shape). AllByRecursion (λ n. n < length domain) (take s.texts new.texts)) shape r.known;
  }
    where
      headed : spot_tuple q.head (shape_for q.head) domain new ≡ spot_tuple a.head.columns a.store.shape domain new
      headed = ap₂ (λ (cs : List Column) (s : Shape). spot_tuple cs s domain new) (sym head) (sym shape)

      told : spot_tuple a.head.columns a.store.shape domain new ≡ spot_tuple a.head.columns a.store.shape a.domain old
      told = ap₂ (λ xs ts. in_head_order a.head.columns (take a.store.shape.times xs) ts) r.times r.texts

      same : spot_tuple q.head (shape_for q.head) domain new ≡ least.tuple
      same = headed ∙ told ∙ stood a.head.columns a.store.shape a.domain old least.tuple least.least.is.shape least.stands

-- ---- texts that are numbered again, place after place

-- the first places have the numbers of their texts
pub record AreRenumbered (domain from : List Text) (olds : List ℕ) (count : ℕ) (news : List ℕ) : Type 0 where
  pub size : length news ≡ 8
  pub same : (i : ℕ) → i < count → text_at domain (get_or news i 0) ≡ text_at from (get_or olds i 0)
  pub known : (i : ℕ) → i < count → get_or news i 0 < length domain

pub none_renumbered : (domain from : List Text) (olds news : List ℕ) → length news ≡ 8 → AreRenumbered domain from olds 0 news
none_renumbered domain from olds news size = record { size = size; same = λ i h. absurd (omega (arith, h)); known = λ i h. absurd (omega (arith, h)) }

pub one_renumbered : (domain from : List Text) (olds news next : List ℕ) (count number : ℕ) → count < 8 → next ≡ set news count number → text_at domain number ≡ text_at from (get_or olds count 0) → number < length domain → AreRenumbered domain from olds count news → AreRenumbered domain from olds (count + 1) next
one_renumbered domain from olds news next count number low made same known h = record {
  size = ap length made ∙ length-set news count number ∙ h.size;
  same = λ i l. elim (cases_eq i count) [
    | inl e ↦ ap (λ k. text_at domain (get_or next k 0)) e ∙ ap (text_at domain) there ∙ same ∙ ap (λ k. text_at from (get_or olds k 0)) (sym e)
    | inr d ↦ ap (text_at domain) (elsewhere i d) ∙ h.same i (omega (arith, l, d))
  ];
  known = λ i l. elim (cases_eq i count) [
    | inl e ↦ subst (λ n. n < length domain) (sym (ap (λ k. get_or next k 0) e ∙ there)) known
    | inr d ↦ subst (λ n. n < length domain) (sym (elsewhere i d)) (h.known i (omega (arith, l, d)))
  ];
}
  where
    there : get_or next count 0 ≡ number
    there = ap (λ ns. get_or ns count 0) made ∙ get_or-set_same news count number 0 (let s : length news ≡ 8 = h.size in omega (arith, low, s))

    elsewhere : (i : ℕ) → (i ≡ count → ⊥) → get_or next i 0 ≡ get_or news i 0
    elsewhere i d = ap (λ ns. get_or ns i 0) made ∙ get_or-set_other news count i number 0 d

texts_same : (domain from : List Text) (n : ℕ) (olds news : List ℕ) → n ≤ length news → n ≤ length olds → ((i : ℕ) → i < n → text_at domain (get_or news i 0) ≡ text_at from (get_or olds i 0)) → texts_at domain (take n news) ≡ texts_at from (take n olds)
texts_same domain from zero olds news h k e = refl
texts_same domain from (suc n) olds [] h k e = absurd (omega (arith, h))
texts_same domain from (suc n) [] (y ∷ news) h k e = absurd (omega (arith, k))
texts_same domain from (suc n) (x ∷ olds) (y ∷ news) h k e = ap₂ (λ (t : Text) (ts : List Text). t ∷ ts) (e 0 (omega arith)) (texts_same domain from n olds news (omega (arith, h)) (omega (arith, k)) (λ i l. e (suc i) (omega (arith, l))))

all_known : (domain : List Text) (n : ℕ) (news : List ℕ) → ((i : ℕ) → i < n → get_or news i 0 < length domain) → AllByRecursion (λ k. k < length domain) (take n news)
all_known domain zero news e = tt
all_known domain (suc n) [] e = tt
all_known domain (suc n) (y ∷ news) e = (e 0 (omega arith), all_known domain n news (λ i l. e (suc i) (omega (arith, l))))

pub renumbered_all : (a : Answer) (domain : List Text) (old new : Spot) (count : ℕ) → count ≡ a.store.shape.texts → count ≤ 8 → length old.texts ≡ 8 → new.times ≡ old.times → AreRenumbered domain a.domain old.texts count new.texts → IsRenumbered a domain old new
renumbered_all a domain old new count is low size times h = record {
  times = times;
  texts = subst (λ n. texts_at domain (take n new.texts) ≡ texts_at a.domain (take n old.texts)) is (texts_same domain a.domain count old.texts new.texts (let s : length new.texts ≡ 8 = h.size in omega (arith, low, s)) (omega (arith, low, size)) h.same);
  known = subst (λ n. AllByRecursion (λ k. k < length domain) (take n new.texts)) is (all_known domain count new.texts h.known);
}

-- a number among the known ones is known
pub known_at : (bound count : ℕ) (xs : List ℕ) (i d : ℕ) → AllByRecursion (λ n. n < bound) (take count xs) → i < count → i < length xs → get_or xs i d < bound
known_at bound zero xs i d h low inside = absurd (omega (arith, low))
known_at bound (suc count) [] i d h low inside = absurd (omega (arith, inside))
known_at bound (suc count) (x ∷ xs) zero d h low inside = h.0
known_at bound (suc count) (x ∷ xs) (suc i) d h low inside = known_at bound count xs i d h.1 (omega (arith, low)) (omega (arith, inside))
