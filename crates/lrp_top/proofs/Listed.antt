-- The page of spots that follow one another.
use Rattle.std.proofs.Common.{◌≡◌, ◌≤◌, ◌+◌, ◌^◌, ℕ, suc, List, [], ◌∷◌, ◌++◌, length, map, Option, Some, None, Result, Ok, Err, Bool, refl, sym, ap, ap₂, subst, ◌∙◌, arith, to_z, of_z, w64}
use Rattle.std.specs.Prelude.{ℤ, pos, negsuc, neg_ℤ, ◌≤ℤ◌, nat_abs, ◌↔◌, IsTrue, IfOk, IfSome}
use Rattle.std.specs.Borrow.{Bor}
use Rattle.std.specs.List.{AllByRecursion}
use Rattle.std.proofs.lemmas.Int.{ints}
use Rattle.std.proofs.lemmas.List.{length-map}
use Rattle.lrp_model.specs.Limits.{greatest_number}
use Rattle.lrp_model.specs.Formulas.{Question}
use Rattle.lrp_model.specs.Pages.{IsPage}
use Rattle.lrp_model.specs.Rows.{times_of, Tuple}
use Rattle.lrp_model.specs.Satisfaction.{IsAnswer}
use Rattle.lrp_model.specs.Sorts.{time_count, text_count}
use Rattle.lrp_model.proofs.ColumnCounts.{counts_split}
use Rattle.lrp_model.specs.declared.relations.Column.{Column}
use Rattle.lrp_model.specs.declared.relations.Relation.{Relation}
use Rattle.lrp_model.specs.declared.tuples.Shape.{Shape}
use Rattle.lrp_model.specs.declared.tuples.Spot.{Spot}
use Rattle.lrp_model.specs.declared.tuples.Tuple.{Tuple as ToldTuple}
use Rattle.lrp_answers.specs.declared.answer.Answer.{Answer}
use Rattle.lrp_model.specs.Steps.{Steps}
use Rattle.lrp_eval.specs.Answered.{IsAnswerOf}
use Rattle.lrp_store.specs.Tables.{InAnswer}
use Rattle.lrp_answers.specs.Giving.{GivesTuples}
use Rattle.lrp_answer_text.specs.Lines.{is_json}
use Rattle.lrp_answers.specs.Listing.{AreEnds, HasShapeOf, IsLeft, ListerView, WindowView, window_tuple, window_of}
use Rattle.lrp_token.specs.Reading.{HasCounts}
use Rattle.lrp_outputs.specs.Known.{HasTimes, IsKnownSpot}
use Rattle.lrp_answers.specs.Standing.{IsStanding}
use Rattle.lrp_outputs.specs.Spots.{answer_tuple}
use Rattle.lrp_outputs.specs.Outputs.{page_text}
use Rattle.lrp_top.specs.Resuming.{shape_of}
use Rattle.lrp_top.specs.Telling.{TellsPage}
use Rattle.lrp_outputs.specs.PageLines.{listed_bytes}
use Rattle.lrp_outputs.specs.declared.page.Page.{Page}
use Rattle.lrp_top.proofs.Answered.{HaveKnownTexts, same_page}

-- what a listing gives up to a limit, with the flag that something is left, is a page
abbrev pub AreGivenPages : Type 0
AreGivenPages = (w : WindowView) (after end : Option Tuple) (limit : ℕ) (page : List Tuple) (more : Bool) → GivesTuples w after page end → length page ≤ limit → (IsTrue more → length page ≡ limit) → (IsTrue more ↔ ((t : Tuple) × IsLeft w end t))
    → IsPage (InAnswer w.columns w.domain w.store) w.from w.to after limit page more

-- what was given is a page
pub page_given : AreGivenPages → (w v u : WindowView) (p after end : Option Tuple) (spots : List Spot) (limit : ℕ) (more : Bool) → v ≡ w → u ≡ v → p ≡ after → GivesTuples v p (map (window_tuple v) spots) end → length spots ≤ limit
    → ((t : Tuple) → IsLeft v end t → length spots ≡ limit) → (IsTrue more ↔ ((t : Tuple) × IsLeft u end t)) → IsPage (InAnswer w.columns w.domain w.store) w.from w.to after limit (map (window_tuple w) spots) more
page_given page_is w v u p after end spots limit more vw uv pa g few full is =
    let n : length (map (window_tuple w) spots) ≡ length spots = length-map spots (window_tuple w) in
    let given : GivesTuples w after (map (window_tuple w) spots) end = subst (λ (x : WindowView). GivesTuples x after (map (window_tuple x) spots) end) vw (subst (λ o. GivesTuples v o (map (window_tuple v) spots) end) pa g) in
    let left : IsTrue more ↔ ((t : Tuple) × IsLeft w end t) = subst (λ (x : WindowView). IsTrue more ↔ ((t : Tuple) × IsLeft x end t)) (uv ∙ vw) is in
    let whole : (t : Tuple) → IsLeft w end t → length spots ≡ limit = subst (λ (x : WindowView). (t : Tuple) → IsLeft x end t → length spots ≡ limit) vw full in
    page_is w after end limit (map (window_tuple w) spots) more given (omega arith) (λ m. let t = left.0 m in n ∙ whole t.0 t.1) left

-- an end of a window is its word
pub word : (z : ℤ) → neg_ℤ (pos (2 ^ 62)) ≤ℤ z → z ≤ℤ pos (2 ^ 62) → to_z w64 (of_z w64 z) ≡ z
word z l h = omega (arith, ints)

-- a listing of a window whose ends were handed over as words
pub new_window : {E : Type 0} (answer : Answer) (from to : ℤ) (made : Result ListerView E) → AreEnds from to → IfOk made (λ l. l.window ≡ window_of answer (to_z w64 (of_z w64 from)) (to_z w64 (of_z w64 to))) → IfOk made (λ l. l.window ≡ window_of answer from to)
new_window answer from to (Ok l) ends is = is ∙ ap₂ (window_of answer) (word from ends.from_low ends.from_high) (word to ends.to_low ends.to_high)
new_window answer from to (Err e) ends is = tt

-- ---- what is known of spots in a window

magnitude : (from to x : ℤ) → AreEnds from to → from ≤ℤ x → x ≤ℤ to → nat_abs x ≤ greatest_number
magnitude from to (pos n) e l h = let a : to ≤ℤ pos (2 ^ 62) = e.to_high in let r : n ≤ greatest_number = omega (arith, ints) in r
magnitude from to (negsuc n) e l h = let a : neg_ℤ (pos (2 ^ 62)) ≤ℤ from = e.from_low in let r : suc n ≤ greatest_number = omega (arith, ints) in r

magnitudes : (from to : ℤ) (xs : List ℤ) → AreEnds from to → AllByRecursion (λ x. (from ≤ℤ x) × (x ≤ℤ to)) xs → AllByRecursion (λ x. nat_abs x ≤ greatest_number) xs
magnitudes from to [] e h = tt
magnitudes from to (x ∷ xs) e h = (magnitude from to x e h.0.0 h.0.1, magnitudes from to xs e h.1)

known_at : HaveKnownTexts → (a : Answer) (from to : ℤ) (spot : Spot) → AreEnds from to → IsStanding (window_of a from to) spot → IsKnownSpot a spot
known_at known a from to spot e s =
    let times : HasTimes a spot = subst (λ xs. AllByRecursion (λ x. nat_abs x ≤ greatest_number) xs) (sym s.stands.times) (magnitudes from to (times_of (answer_tuple a spot)) e s.inside) in
    ((known a.store.shape a.domain spot (answer_tuple a spot) s.stands, times), (s.stands.times_padded.size, s.stands.texts_padded.size))

pub known_all : HaveKnownTexts → (a : Answer) (from to : ℤ) (spots : List Spot) → AreEnds from to → AllByRecursion (IsStanding (window_of a from to)) spots → AllByRecursion (IsKnownSpot a) spots
known_all known a from to [] e h = tt
known_all known a from to (spot ∷ spots) e h = (known_at known a from to spot e h.0, known_all known a from to spots e h.1)

-- ---- the page that is told

-- the page of the answers is the query's
pub told_page : (steps : Steps) (db : List Relation) (q : Question) (cap : ℕ) (a : Answer) (from to : ℤ) (begins : List Column → Option Tuple) (limit : ℕ) (civil json : Bool) (files : List ℕ) (page : Page)
    → IsAnswerOf steps db q cap a → page.answer ≡ a → page.civil ≡ civil → is_json page.form ≡ json → page.files ≡ files
    → IsPage (InAnswer a.head.columns a.domain a.store) from to (begins a.head.columns) limit (map (answer_tuple a) page.spots) page.more
    → TellsPage db q from to (begins q.head) limit civil json files (page_text page)
told_page steps db q cap a from to begins limit civil json files page is same dates form digest h = record {
  page = map (answer_tuple a) page.spots;
  more = page.more;
  is = subst (λ columns. IsPage (IsAnswer db q) from to (begins columns) limit (map (answer_tuple a) page.spots) page.more) is.head
      (same_page (InAnswer a.head.columns a.domain a.store) (IsAnswer db q) is.answers from to (begins a.head.columns) limit (map (answer_tuple a) page.spots) page.more h);
  spelled = ap (λ c. listed_bytes c (is_json page.form) page.files (map (answer_tuple page.answer) page.spots) page.more) dates ∙ ap (λ j. listed_bytes civil j page.files (map (answer_tuple page.answer) page.spots) page.more) form
      ∙ ap (λ d. listed_bytes civil json d (map (answer_tuple page.answer) page.spots) page.more) digest ∙ ap (λ b. listed_bytes civil json files (map (answer_tuple b) page.spots) page.more) same;
}

-- ---- counts of columns

-- a tuple of the head's shape has the shape of its answers
pub same_shape : (a : Answer) (head : List Column) (t : ToldTuple) → a.head.columns ≡ head → HasShapeOf (shape_of head) t → HasShapeOf a.store.shape t
same_shape a head t e h =
    let m : a.store.shape.times ≡ time_count head = sym a.times_are ∙ ap time_count e in
    let n : length head ≡ a.store.shape.times + a.store.shape.texts = ap (λ cs. length cs) (sym e) ∙ a.columns_are in
    let s : time_count head + text_count head ≡ length head = counts_split head in
    let d : text_count head ≡ a.store.shape.texts = omega arith in
    record { times = h.times ∙ sym m; texts = h.texts ∙ d; low = h.low; high = h.high }

pub some_shape : (a : Answer) (head : List Column) (o : Option (Bor ToldTuple)) → a.head.columns ≡ head → IfSome o (λ t. HasShapeOf (shape_of head) t.now) → IfSome o (λ t. HasShapeOf a.store.shape t.now)
some_shape a head None e h = tt
some_shape a head (Some t) e h = same_shape a head t.now e h

-- a tuple of a token has the shape
pub token_shape : (shape : Shape) (t : ToldTuple) → HasCounts shape t.times t.texts → AllByRecursion (λ x. nat_abs x ≤ greatest_number) t.times → HasShapeOf shape t
token_shape shape t c small = record { times = c.of_times; texts = c.of_texts; low = lows t.times small; high = highs t.times small }
  where
    low : (x : ℤ) → nat_abs x ≤ greatest_number → neg_ℤ (pos (2 ^ 62)) ≤ℤ x
    low (pos n) h = omega (arith, ints)
    low (negsuc n) h = let k : suc n ≤ greatest_number = h in omega (arith, ints)

    high : (x : ℤ) → nat_abs x ≤ greatest_number → x ≤ℤ pos (2 ^ 62)
    high (pos n) h = let k : n ≤ greatest_number = h in omega (arith, ints)
    high (negsuc n) h = omega (arith, ints)

    lows : (xs : List ℤ) → AllByRecursion (λ x. nat_abs x ≤ greatest_number) xs → AllByRecursion (λ x. neg_ℤ (pos (2 ^ 62)) ≤ℤ x) xs
    lows [] h = tt
    lows (x ∷ xs) h = (low x h.0, lows xs h.1)

    highs : (xs : List ℤ) → AllByRecursion (λ x. nat_abs x ≤ greatest_number) xs → AllByRecursion (λ x. x ≤ℤ pos (2 ^ 62)) xs
    highs [] h = tt
    highs (x ∷ xs) h = (high x h.0, highs xs h.1)
