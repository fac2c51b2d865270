-- From what is kept at first to the lines that are told, or to the limit that is passed.
use Rattle.std.proofs.Common.{◌≡◌, ℕ, suc, ◌<◌, ◌≤◌, List, [], ◌∷◌, ◌++◌, length, take, map, flat_map, Option, option_map, refl, sym, ap, subst, arith, ◌∙◌}
use Rattle.std.specs.Prelude.{IfSome}
use Rattle.std.specs.List.{AllByRecursion, AllZip}
use Rattle.lrp_model.specs.Formulas.{Question, question_of}
use Rattle.lrp_model.specs.Rows.{Tuple}
use Rattle.lrp_model.specs.Texts.{Text}
use Rattle.lrp_model.specs.declared.formulas.Query.{Query}
use Rattle.lrp_model.specs.declared.relations.Column.{Column}
use Rattle.lrp_model.specs.declared.relations.Relation.{Relation}
use Rattle.lrp_model.specs.declared.tuples.Shape.{Shape}
use Rattle.lrp_model.specs.declared.tuples.Spot.{Spot}
use Rattle.lrp_answers.specs.declared.answer.Answer.{Answer}
use Rattle.lrp_tables.specs.Columns.{head_texts, head_times}
use Rattle.lrp_answers.specs.Spots.{spot_tuple}
use Rattle.lrp_edits.specs.declared.edits.Edit.{Edit}
use Rattle.lrp_kept.proofs.SortedDisjuncts.{few_head_texts, few_head_times}
use Rattle.lrp_keep.specs.Keeps.{KeepView, opened, IsPastLimit, StaysWithinLimits, shape_for}
use Rattle.lrp_keep.specs.declared.faults.KeepFault.{KeepFault}
use Rattle.lrp_watch.specs.Edits.{IsPassedAt, IsPassedAfter}
use Rattle.lrp_watch.specs.Faults.{IsFaultAt}
use Rattle.lrp_outputs.specs.First.{IsFirst, first_line}
use Rattle.lrp_watch.specs.LeastAnswers.{AreDone, CanGoOn, HasFewColumns, IsLeastOver, IsOverHead}
use Rattle.lrp_outputs.specs.Spots.{IsKnownLeast, answer_tuple}
use Rattle.lrp_watch.specs.Watching.{CanBeWatched, IsOpened, IsPassed, TellsLeasts, watched_constants}
use Rattle.lrp_watch.proofs.Known.{shape_is}
use Rattle.lrp_watch.proofs.Openings.{AreSameInOrder, can_go_on}

-- ---- the answer by whose head and constants the spots are told

module _ (k : KeepView) (a : Answer) (is : IsOverHead k.query k.domain a) where
  abbrev q : Question
  q = question_of k.query

  back : (P : List Column → Shape → List Text → Type 0) → P q.head (shape_for q.head) k.domain → P a.head.columns a.store.shape a.domain
  back P h =
      let named : P q.head (shape_for q.head) a.domain = subst (λ d. P q.head (shape_for q.head) d) (sym is.named) h in
      let headed : P a.head.columns (shape_for a.head.columns) a.domain = subst (λ cs. P cs (shape_for cs) a.domain) (sym is.head) named in
      subst (λ s. P a.head.columns s a.domain) (sym (shape_is a)) headed

  abbrev AreLeasts : List KeepView → List (Option Spot) → Type 0
  AreLeasts ks spots = AllZip (λ l least. IsLeastOver q k.domain l.relations least) ks spots

  abbrev AreFirsts : List KeepView → List (Option Tuple) → Type 0
  AreFirsts ks firsts = AllZip (λ l first. IsFirst l.relations q first) ks firsts

  firsts_of : (ks : List KeepView) (spots : List (Option Spot)) → AreLeasts ks spots → AreFirsts ks (map (option_map (spot_tuple q.head (shape_for q.head) k.domain)) spots)
  firsts_of [] [] h = tt
  firsts_of [] (s ∷ spots) h = absurd h
  firsts_of (l ∷ ks) [] h = absurd h
  firsts_of (l ∷ ks) (s ∷ spots) h = (h.0.first, firsts_of ks spots h.1)

  pub firsts_told : (ks : List KeepView) (spots : List (Option Spot)) → AreLeasts ks spots → AreFirsts ks (map (option_map (answer_tuple a)) spots)
  firsts_told ks spots h = back (λ cs s d. AreFirsts ks (map (option_map (spot_tuple cs s d)) spots)) (firsts_of ks spots h)

  abbrev AreKnown : Shape → List Text → List (Option Spot) → Type 0
  AreKnown s d spots = AllByRecursion (λ least. IfSome least (λ spot. AllByRecursion (λ n. n < length d) (take s.texts spot.texts))) spots

  known_of : (ks : List KeepView) (spots : List (Option Spot)) → AreLeasts ks spots → AreKnown (shape_for q.head) k.domain spots
  known_of [] [] h = tt
  known_of [] (s ∷ spots) h = absurd h
  known_of (l ∷ ks) [] h = absurd h
  known_of (l ∷ ks) (s ∷ spots) h = (h.0.known, known_of ks spots h.1)

  pub known_told : (ks : List KeepView) (spots : List (Option Spot)) → AreLeasts ks spots → AllByRecursion (IsKnownLeast a) spots
  known_told ks spots h = back (λ cs s d. AreKnown s d spots) (known_of ks spots h)

pub lines_of : (f : Option Spot → Option Tuple) (spots : List (Option Spot)) → flat_map (λ least. first_line (f least)) spots ≡ flat_map first_line (map f spots)
lines_of f [] = refl
lines_of f (s ∷ spots) = ap (λ bytes. first_line (f s) ++ bytes) (lines_of f spots)

-- ---- what is kept at first

module _ (query : Query) (db : List Relation) (edits : List Edit) (cap : ℕ) (domain : List Text) (k : KeepView) (named : domain ≡ watched_constants db (question_of query) edits) (is : k ≡ opened query db domain cap) where
  opened_is : IsOpened db (question_of query) edits cap k
  opened_is = subst (IsOpened db (question_of query) edits cap) (sym is) (record { query = refl; is = ap (λ d. opened query db d cap) named })

  within : StaysWithinLimits (opened query db domain cap) → StaysWithinLimits k
  within h = subst StaysWithinLimits (sym is) h

  pub goes : AreSameInOrder → CanBeWatched db (question_of query) edits → CanGoOn k edits
  goes same can =
      subst (λ (l : KeepView). CanGoOn l edits) (sym is) (subst (λ d. CanGoOn (opened query db d cap) edits) (sym named)
      (can_go_on same query db edits cap can))

  same_query : question_of k.query ≡ question_of query
  same_query = opened_is.query

  -- the answer is over the head and the constants that are kept
  over : (a : Answer) → IsOverHead query domain a → IsOverHead k.query k.domain a
  over a h = subst (λ (l : KeepView). IsOverHead l.query l.domain a) (sym is) h

  pub few_columns : CanBeWatched db (question_of query) edits → HasFewColumns query.head.columns
  few_columns can = record {
    times = subst (λ (p : Question). length (head_times p.head) ≤ 8) (sym can.query.is) (few_head_times db can.query.raw can.query.sorted);
    texts = subst (λ (p : Question). length (head_texts p.head) ≤ 8) (sym can.query.is) (few_head_texts db can.query.raw can.query.sorted);
  }

  pub known : (a : Answer) → IsOverHead query domain a → (now : KeepView) (spots : List (Option Spot)) → AreDone edits k now spots → AllByRecursion (IsKnownLeast a) spots
  known a answer now spots done = known_told k a (over a answer) (k ∷ done.later) spots done.leasts

  pub told : (a : Answer) → IsOverHead query domain a → (now : KeepView) (spots : List (Option Spot)) → StaysWithinLimits (opened query db domain cap) → AreDone edits k now spots → TellsLeasts db (question_of query) edits cap (flat_map (λ least. first_line (option_map (answer_tuple a) least)) spots)
  told a answer now spots h done = record {
    kept = k;
    opened = opened_is;
    within = within h;
    later = done.later;
    made = done.made;
    firsts = map (option_map (answer_tuple a)) spots;
    are = subst (λ q. AllZip (λ l first. IsFirst l.relations q first) (k ∷ done.later) (map (option_map (answer_tuple a)) spots)) same_query (firsts_told k a (over a answer) (k ∷ done.later) spots done.leasts);
    spelled = lines_of (option_map (answer_tuple a)) spots;
  }

  -- ---- the limit that is passed

  pub passed_first : (number : ℕ) (fault : KeepFault) → IsFaultAt 0 (IsPastLimit (opened query db domain cap)) number fault → IsPassed db (question_of query) edits cap number fault
  passed_first number fault h = record {
    kept = k;
    opened = opened_is;
    at = subst (λ n. IsPassedAt edits k n fault) (sym h.0) (subst (λ (l : KeepView). IsPastLimit l fault) (sym is) h.1);
  }

  pub passed_later : StaysWithinLimits (opened query db domain cap) → (number : ℕ) (fault : KeepFault) → IsPassedAfter edits k number fault → IsPassed db (question_of query) edits cap number fault
  passed_later h number fault p =
      let e : number ≡ suc (length p.before) = p.number_is ∙ omega arith in
      record {
        kept = k;
        opened = opened_is;
        at = subst (λ n. IsPassedAt edits k n fault) (sym e) (within h, subst (λ n. IsPassedAfter edits k n fault) e p);
      }
