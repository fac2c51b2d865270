-- The first spot of what is held of all whole choices stands for the least answer of the query.
use Rattle.std.proofs.Common.{◌≡◌, ◌<◌, ◌≤◌, ◌+◌, ◌-◌, ℕ, zero, suc, List, [], ◌∷◌, ◌++◌, length, take, replicate, get_or, Option, Some, None, IsSome, refl, sym, ap, ap₂, subst, ◌∙◌, arith}
use Rattle.std.specs.Prelude.{ℤ, pos, slice_get, slice_index}
use Rattle.std.specs.FinMap as finite
use Rattle.std.specs.Ordering.{nat_cmp, ordering_then}
use Rattle.std.specs.Cmp.Lexicographic.{slice_cmp}
use Rattle.std.proofs.lemmas.Cmp.{nat_cmp_total, tied_itself}
use Rattle.std.proofs.lemmas.List.{get_or-take, length-map, length-take-le}
use Rattle.std.proofs.lemmas.Option.{same_Some}
use Rattle.slab.specs.Slab.{get}
use Rattle.lrp_model.specs.Formulas.{Question}
use Rattle.lrp_model.specs.Order.{IsLeast, rank_cmp}
use Rattle.lrp_model.specs.Rows.{Tuple, texts_of, times_of}
use Rattle.lrp_model.specs.Satisfaction.{HasShape, IsAnswer, assignment, structure}
use Rattle.lrp_model.specs.Sorts.{time_count}
use Rattle.lrp_model.specs.Texts.{Ascends, Text}
use Rattle.lrp_model.specs.declared.relations.Column.{Column}
use Rattle.lrp_model.specs.declared.relations.Relation.{Relation}
use Rattle.lrp_model.specs.declared.tuples.Shape.{Shape}
use Rattle.lrp_model.specs.declared.tuples.Spot.{Spot}
use Rattle.lrp_model.proofs.Unique.{shape_of}
use Rattle.lrp_theory.specs.Residues.{rank}
use Rattle.lrp_store.specs.Least.{IsSpotOf, StandsFor, held_cmp}
use Rattle.lrp_store.specs.Stores.{InStore, IsPadded, StoreView}
use Rattle.lrp_store.specs.Tables.{AreNumbered, AreTexts, StoreHolds}
use Rattle.lrp_store.proofs.Held.{held_of}
use Rattle.lrp_store.proofs.StoreFirst.{front_cmp}
use Rattle.lrp_answers.proofs.AnswerFirst.{IsTupleOf, length_texts, numbers_cmp, texts_exist, tuple_of}
use Rattle.lrp_tables.proofs.HeadCounts.{columns_counted, times_counted}
use Rattle.lrp_tables.proofs.TupleLaws.{tuple_texts, tuple_times}
use Rattle.lrp_tables.specs.Columns.{head_texts, head_times}
use Rattle.lrp_parts.specs.Derivations.{AreAnswersOf, Ground, HoldsIn, Levels}
use Rattle.lrp_parts.specs.Firsts.{IsFirstOfHeld, IsHeldSpot}
use Rattle.lrp_kept.specs.Held.{relations_of}
use Rattle.lrp_kept.specs.declared.disjuncts.Disjunct.{Disjunct}
use Rattle.lrp_keep.specs.Keeps.{IsKeptLeast, shape_for}
use Rattle.lrp_keep.specs.States.{IsKeeping, ground_at, keeper_view, levels_of}
use Rattle.lrp_keep.specs.Unions.{AreDerived, HoldsAmong}
use Rattle.lrp_keep.specs.declared.kept_query.KeptQuery.{KeptQuery}
use Rattle.lrp_keep.specs.declared.states.State.{State}
use Rattle.lrp_keep.proofs.KeeperAnswers.{rests}
use Rattle.lrp_keep.proofs.KeptAnswers.{RestsOn, choice_from, choice_to, whole_choice}
use Rattle.lrp_kept.proofs.SortedDisjuncts.{few_head_texts, few_head_times}
use Rattle.lrp_plan_laws.proofs.Elements.{found as at_place, within as there_is}

-- ---- values with zeros after them

one_more : (k : ℕ) → suc (0 + k) ≡ 0 + suc k
one_more k = omega arith

one_before : (n k : ℕ) → suc (n + k) ≡ suc n + k
one_before n k = omega arith

module _ {X : Type 0} (d : X) where
  filled_size : (xs : List X) (k : ℕ) → length (xs ++ replicate k d) ≡ length xs + k
  filled_size [] zero = refl
  filled_size [] (suc k) = ap suc (filled_size [] k) ∙ one_more k
  filled_size (x ∷ xs) k = ap suc (filled_size xs k) ∙ one_before (length xs) k

  filled_zeros : (xs : List X) (k i : ℕ) → length xs ≤ i → get_or (xs ++ replicate k d) i d ≡ d
  filled_zeros [] zero i l = refl
  filled_zeros [] (suc k) zero l = refl
  filled_zeros [] (suc k) (suc i) l = filled_zeros [] k i (omega arith)
  filled_zeros (x ∷ xs) k zero l = absurd (omega (arith, l))
  filled_zeros (x ∷ xs) k (suc i) l = filled_zeros xs k i (omega (arith, l))

  filled_front : (xs : List X) (k : ℕ) → take (length xs) (xs ++ replicate k d) ≡ xs
  filled_front [] k = refl
  filled_front (x ∷ xs) k = ap (λ ys. x ∷ ys) (filled_front xs k)

  filled : (n : ℕ) (xs : List X) → length xs ≡ n → n ≤ 8 → (ys : List X) × IsPadded d n ys × (take n ys ≡ xs)
  filled n xs e l = (
    xs ++ replicate (8 - n) d,
    record { size = filled_size xs (8 - n) ∙ (omega (arith, e, l)); zeros = λ i low. filled_zeros xs (8 - n) i (omega (arith, e, low)) },
    ap (λ k. take k (xs ++ replicate (8 - n) d)) (sym e) ∙ filled_front xs (8 - n),
  )

-- a tuple of a store has a spot
spot_from : (s : StoreView) (xs : List ℤ) (ns : List ℕ) → length xs ≡ s.shape.times → length ns ≡ s.shape.texts → s.shape.times ≤ 8 → s.shape.texts ≤ 8 → InStore s xs ns → (y : Spot) × IsSpotOf s y × (take s.shape.times y.times ≡ xs) × (take s.shape.texts y.texts ≡ ns)
spot_from s xs ns a b l m held =
    let x = filled (pos 0) s.shape.times xs a l in
    let n = filled 0 s.shape.texts ns b m in (
      record { times = x.0; texts = n.0 },
      record {
        times = x.1;
        texts = n.1;
        held = subst (λ ys. InStore s ys (take s.shape.texts n.0)) (sym x.2) (subst (λ ms. InStore s xs ms) (sym n.2) held);
      },
      x.2,
      n.2,
    )

-- spots compare like the tuples that they stand for
stands_cmp : (domain : List Text) → Ascends domain → (shape : Shape) (w y : Spot) (t u : Tuple) → StandsFor shape domain w t → StandsFor shape domain y u → held_cmp w.times w.texts y.times y.texts ≡ rank_cmp t u
stands_cmp domain ascends shape w y t u a b =
    ap₂ ordering_then
    (front_cmp (λ x z. nat_cmp (rank x) (rank z)) (pos 0) (tied_itself nat_cmp_total (rank (pos 0))) shape.times w.times y.times (a.times_padded.size ∙ sym b.times_padded.size) a.times_padded.zeros b.times_padded.zeros
    ∙ ap₂ (slice_cmp (λ x z. nat_cmp (rank x) (rank z))) a.times b.times)
    (front_cmp nat_cmp 0 (tied_itself nat_cmp_total 0) shape.texts w.texts y.texts (a.texts_padded.size ∙ sym b.texts_padded.size) a.texts_padded.zeros b.texts_padded.zeros
    ∙ numbers_cmp domain ascends (take shape.texts w.texts) (take shape.texts y.texts) (texts_of t) (texts_of u) a.texts b.texts)

-- ---- the tuple of a spot

module _ (columns : List Column) (domain : List Text) (s : StoreView) (low_times : s.shape.times ≤ 8) (low_texts : s.shape.texts ≤ 8) (numbered : AreNumbered domain s) (times_are : time_count columns ≡ s.shape.times) (columns_are : length columns ≡ s.shape.times + s.shape.texts) (spot : Spot) (found : IsSpotOf s spot) where
  abbrev xs : List ℤ
  xs = take s.shape.times spot.times

  abbrev ns : List ℕ
  ns = take s.shape.texts spot.texts

  length_xs : length xs ≡ s.shape.times
  length_xs = length-take-le s.shape.times spot.times (let l : length spot.times ≡ 8 = found.times.size in omega (arith, l, low_times))

  length_ns : length ns ≡ s.shape.texts
  length_ns = length-take-le s.shape.texts spot.texts (let l : length spot.texts ≡ 8 = found.texts.size in omega (arith, l, low_texts))

  known : (i : ℕ) → i < length ns → slice_index ns i < length domain
  known i l =
      let low : i < s.shape.texts = let e : length ns ≡ s.shape.texts = length_ns in omega (arith, l, e) in
      let some : IsSome (finite.get s.tables found.held.cell) = subst (λ o. IsSome o) (sym (held_of s.tables found.held.cell found.held.table found.held.held)) refl in
      subst (λ n. n < length domain) (sym (get_or-take s.shape.texts found.held.cell.texts i 0 low) ∙ ap (λ ms. slice_index ms i) found.held.named) (numbered found.held.cell i some low)

  texts : (ts : List Text) × AreTexts domain ns ts
  texts = texts_exist domain ns known

  made : (tuple : Tuple) × IsTupleOf columns xs texts.0 tuple
  made = tuple_of columns xs texts.0 (times_are ∙ sym length_xs) (let t : length texts.0 ≡ length ns = length_texts domain ns texts.0 texts.1 in let a : length xs ≡ s.shape.times = length_xs in let b : length ns ≡ s.shape.texts = length_ns in omega (arith, t, a, b, columns_are))

  spot_stands : (tuple : Tuple) × HasShape columns tuple × StandsFor s.shape domain spot tuple × StoreHolds domain s (times_of tuple) (texts_of tuple)
  spot_stands = (
    made.0,
    made.1.shape,
    record {
      times = sym made.1.times;
      texts = subst (AreTexts domain ns) (sym made.1.texts) texts.1;
      times_padded = found.times;
      texts_padded = found.texts;
    },
    (ns, subst (AreTexts domain ns) (sym made.1.texts) texts.1, subst (λ ys. InStore s ys ns) (sym made.1.times) found.held),
  )

-- ---- all whole choices

module _ (g : Ground) (q : Question) (bs : List Column) (ds : List Disjunct) (on : RestsOn g q bs ds) (all : List Levels) (derived : AreDerived g ds all) (few_times : length (head_times q.head) ≤ 8) (few_texts : length (head_texts q.head) ≤ 8) where
  abbrev db : List Relation
  db = relations_of (get g.rows.sources) g.rows.relations.items

  abbrev Held : List ℕ → Option StoreView → Type 0
  Held = HoldsAmong all (length all)

  abbrev shape : Shape
  shape = shape_for q.head

  -- what is held has the answers of a choice
  answers_of : (i : ℕ) (levels : Levels) → slice_get all i ≡ Some levels → (keys : List ℕ) (store : StoreView) → HoldsIn levels (length levels - 1) keys (Some store) → (d : Disjunct) × AreAnswersOf g d keys store
  answers_of i levels there keys store held =
      let at = at_place ds i (let l : i < length all = there_is all i levels there in let m : length all ≡ length ds = derived.count in omega (arith, l, m)) in
      let w = whole_choice g q bs ds on all derived i at.0 levels at.1 there keys (Some store) held in
      let a = w.1.answers w.0 in
      (at.0, subst (λ v. AreAnswersOf g at.0 keys v) (sym (same_Some store a.0 a.1)) a.2)

  module _ (d : Disjunct) (keys : List ℕ) (store : StoreView) (a : AreAnswersOf g d keys store) where
    times_is : store.shape.times ≡ length (head_times q.head)
    times_is = ap (λ (v : StoreView). v.shape.times) (sym a.store) ∙ sym a.made.times_named ∙ ap length a.table.times_are ∙ ap (λ cs. length (head_times cs)) on.head

    texts_is : store.shape.texts ≡ length (head_texts q.head)
    texts_is = ap (λ (v : StoreView). v.shape.texts) (sym a.store) ∙ sym a.made.texts_named ∙ ap length a.table.texts_are ∙ ap (λ cs. length (head_texts cs)) on.head

    shape_is : store.shape ≡ shape
    shape_is =
        let t : store.shape.times ≡ time_count q.head = times_is ∙ sym (times_counted q.head) in
        let c : length q.head ≡ length (head_times q.head) + length (head_texts q.head) = columns_counted q.head in
        let n : time_count q.head ≡ length (head_times q.head) = times_counted q.head in
        let x : store.shape.texts ≡ length q.head - time_count q.head = (let e : store.shape.texts ≡ length (head_texts q.head) = texts_is in omega (arith, c, n, e)) in
        ap₂ (λ i j. as_shape i j) t x
      where
        as_shape : ℕ → ℕ → Shape
        as_shape times texts = record { times = times; texts = texts }

    numbered_is : AreNumbered g.domain store
    numbered_is = subst (AreNumbered g.domain) a.store a.table.numbered

  -- each spot of theirs stands for an answer of the query
  spot_answer : (w : Spot) → IsHeldSpot Held w → (tuple : Tuple) × HasShape q.head tuple × StandsFor shape g.domain w tuple × IsAnswer db q tuple
  spot_answer w h =
      let a = answers_of h.is.0 h.is.1 h.is.3 h.keys h.store h.is.4 in
      let t : h.store.shape.times ≡ length (head_times q.head) = times_is a.0 h.keys h.store a.1 in
      let x : h.store.shape.texts ≡ length (head_texts q.head) = texts_is a.0 h.keys h.store a.1 in
      let c : length q.head ≡ length (head_times q.head) + length (head_texts q.head) = columns_counted q.head in
      let r = spot_stands q.head g.domain h.store (omega (arith, t, few_times)) (omega (arith, x, few_texts)) (numbered_is a.0 h.keys h.store a.1) (times_counted q.head ∙ sym t) (omega (arith, c, t, x)) w h.inside in (
        r.0,
        r.1,
        subst (λ k. StandsFor k g.domain w r.0) (shape_is a.0 h.keys h.store a.1) r.2,
        choice_to g q bs ds on all derived r.0 r.1 (record { number = h.is.0; levels = h.is.1; at = h.is.3; keys = h.keys; store = h.store; held = h.is.4; has = r.3 }),
      )

  -- and each answer has one
  answer_spot : (tuple : Tuple) → IsAnswer db q tuple → ((y : Spot) → IsHeldSpot Held y → StandsFor shape g.domain y tuple → ⊥) → ⊥
  answer_spot tuple x none = choice_from g q bs ds on all derived tuple x (λ c.
      let a = answers_of c.number c.levels c.at c.keys c.store c.held in
      let has : StoreHolds g.domain c.store (times_of tuple) (texts_of tuple) = c.has in
      let t : c.store.shape.times ≡ length (head_times q.head) = times_is a.0 c.keys c.store a.1 in
      let n : c.store.shape.texts ≡ length (head_texts q.head) = texts_is a.0 c.keys c.store a.1 in
      let fits = shape_of (structure db q) q.head tuple x.fits in
      let times : length (times_of tuple) ≡ length (head_times q.head) = sym (ap length (tuple_times q.head tuple (record { times = λ v. pos 0; texts = λ v. [] }) on.names fits)) ∙ length-map (head_times q.head) (assignment q.head tuple).times in
      let texts : length (texts_of tuple) ≡ length (head_texts q.head) = sym (ap length (tuple_texts q.head tuple (record { times = λ v. pos 0; texts = λ v. [] }) on.names fits)) ∙ length-map (head_texts q.head) (assignment q.head tuple).texts in
      let y = spot_from c.store (times_of tuple) has.0 (times ∙ sym t) (sym (length_texts g.domain has.0 (texts_of tuple) has.1) ∙ texts ∙ sym n) (omega (arith, t, few_times)) (omega (arith, n, few_texts)) has.2 in
      none y.0 (record { keys = c.keys; store = c.store; is = (c.number, c.levels, there_is all c.number c.levels c.at, c.at, c.held); inside = y.1 })
      (subst (λ k. StandsFor k g.domain y.0 tuple) (shape_is a.0 c.keys c.store a.1) (record {
        times = y.2;
        texts = subst (λ ms. AreTexts g.domain ms (texts_of tuple)) (sym y.3) has.1;
        times_padded = y.1.times;
        texts_padded = y.1.texts;
      })))

  pub no_answer : IsFirstOfHeld Held None → (tuple : Tuple) → IsAnswer db q tuple → ⊥
  no_answer f tuple x = answer_spot tuple x (λ y h stands. f.leads y h)

  pub least_answer : (w : Spot) → IsFirstOfHeld Held (Some w) → (tuple : Tuple) × HasShape q.head tuple × StandsFor shape g.domain w tuple × IsLeast (IsAnswer db q) tuple
  least_answer w f =
      let t = spot_answer w f.found in (
        t.0,
        t.1,
        t.2,
        record { is = t.3; first = λ other x e. answer_spot other x (λ y h stands. f.leads y h (stands_cmp g.domain on.ascends shape w y t.0 other t.2 stands ∙ e)) },
      )

-- ---- of a keeper

module _ (of : KeptQuery) (s : State) (is : IsKeeping of s) where
  few_times : length (head_times of.query.now.head.columns) ≤ 8
  few_times = subst (λ (p : Question). length (head_times p.head) ≤ 8) (sym is.query.query.is) (few_head_times is.query.db is.query.query.raw is.query.query.sorted)

  few_texts : length (head_texts of.query.now.head.columns) ≤ 8
  few_texts = subst (λ (p : Question). length (head_texts p.head) ≤ 8) (sym is.query.query.is) (few_head_texts is.query.db is.query.query.raw is.query.query.sorted)

  pub kept_least : (o : Option Spot) → IsFirstOfHeld (HoldsAmong (levels_of s) (length (levels_of s))) o → IsKeptLeast (keeper_view of s) o
  kept_least None f = no_answer (ground_at of s.rows s.period.number) _ _ _ (rests of s is) (levels_of s) is.state.derived few_times few_texts f
  kept_least (Some w) f =
      let r = least_answer (ground_at of s.rows s.period.number) _ _ _ (rests of s is) (levels_of s) is.state.derived few_times few_texts w f in
      record { tuple = r.0; shape = r.1; stands = r.2; least = r.3 }
