-- What is told of a window: the number of its answers, and its ranges.
use Rattle.std.proofs.Common.{◌≡◌, ◌≤◌, ◌+◌, ◌∙◌, ℕ, List, [], ◌∷◌, length, Bool, true, false, of_z, refl, sym, ap, subst, to_z, arith, w64}
use Rattle.std.specs.Prelude.{ℤ, ◌≤ℤ◌, Contains}
use Rattle.std.specs.List.{AllByRecursion}
use Rattle.std.proofs.lemmas.Int.{ints}
use Rattle.lrp_theory.proofs.Members.{head_in, later}
use Rattle.lrp_calendar.specs.Moments.{IsCivilMinute}
use Rattle.lrp_model.specs.Formulas.{Question}
use Rattle.lrp_model.specs.Rows.{Tuple, time}
use Rattle.lrp_model.specs.Satisfaction.{IsAnswer}
use Rattle.lrp_model.specs.Sorts.{time_count}
use Rattle.lrp_model.specs.Steps.{Steps}
use Rattle.lrp_model.specs.declared.relations.Column.{Column}
use Rattle.lrp_model.specs.declared.relations.Relation.{Relation}
use Rattle.lrp_store.specs.Tables.{InAnswer}
use Rattle.lrp_answers.specs.declared.answer.Answer.{Answer}
use Rattle.lrp_eval.specs.Answered.{IsAnswerOf}
use Rattle.lrp_count.specs.Numbers.{HasSize}
use Rattle.lrp_count.specs.Ranges.{AreRanges, InWindowOf, IsAnswerTime, IsRange}
use Rattle.lrp_count.specs.declared.windows.Range.{Range}
use Rattle.lrp_count.proofs.RangeLaws.{moved_ranges}
use Rattle.lrp_count.proofs.Sizes.{same_sized}
use Rattle.lrp_outputs.specs.RangeLines.{HasEndsAs, IsDatedWhere, count_line, ranges_bytes}
use Rattle.lrp_words.specs.Ranges.{IsEnd}
use Rattle.lrp_answers.specs.Listing.{AreEnds}
use Rattle.lrp_top.specs.Telling.{TellsNumber, TellsRanges}
use Rattle.lrp_top.proofs.CivilSpots.{are_ends}
use Rattle.lrp_top.proofs.Listed.{word}

-- ---- columns

-- the store of answers has as many times as the head has time columns
pub times_in : (steps : Steps) (db : List Relation) (q : Question) (cap : ℕ) (a : Answer) → IsAnswerOf steps db q cap a → a.store.shape.times ≡ time_count q.head
times_in steps db q cap a is = sym a.times_are ∙ ap time_count is.head

pub few_times_in : (steps : Steps) (db : List Relation) (q : Question) (cap : ℕ) (a : Answer) → IsAnswerOf steps db q cap a → time_count q.head ≤ 1 → a.store.shape.times ≤ 1
few_times_in steps db q cap a is few = subst (λ n. n ≤ 1) (sym (times_in steps db q cap a is)) few

-- and no texts where that is the only column
pub no_texts_in : (steps : Steps) (db : List Relation) (q : Question) (cap : ℕ) (a : Answer) → IsAnswerOf steps db q cap a → time_count q.head ≡ 1 → length q.head ≡ 1 → a.store.shape.texts ≡ 0
no_texts_in steps db q cap a is one only =
    let times : a.store.shape.times ≡ 1 = times_in steps db q cap a is ∙ one in
    let columns : length a.head.columns ≡ a.store.shape.times + a.store.shape.texts = a.columns_are in
    let count : length a.head.columns ≡ 1 = ap (λ (h : List Column). length h) is.head ∙ only in
    omega arith

-- ---- numbers

pub told_number : (steps : Steps) (db : List Relation) (q : Question) (cap : ℕ) (a : Answer) → IsAnswerOf steps db q cap a → (from to low high : ℤ) → low ≡ from → high ≡ to
    → (n : ℕ) → HasSize (InWindowOf (InAnswer a.head.columns a.domain a.store) low high) n → TellsNumber db q from to (count_line n)
told_number steps db q cap a is from to low high f t n h =
    let Held : Tuple → Type 0 = InAnswer a.head.columns a.domain a.store in
    record {
      number = n;
      is = same_sized (InWindowOf Held from to) (InWindowOf (IsAnswer db q) from to) n (λ x k. record { is = (is.answers x).0 k.is; inside = k.inside; later = k.later }) (λ x k. record { is = (is.answers x).1 k.is; inside = k.inside; later = k.later })
          (subst (λ v. HasSize (InWindowOf Held from v) n) t (subst (λ u. HasSize (InWindowOf Held u high) n) f h));
      spelled = refl;
    }

-- ---- ranges

pub told_ranges : (steps : Steps) (db : List Relation) (q : Question) (cap : ℕ) (a : Answer) → IsAnswerOf steps db q cap a → (from to : ℤ) (limit : ℕ) (ranges : List Range) (more dates quotes civil json : Bool) → dates ≡ civil → quotes ≡ json
    → AreRanges (IsAnswerTime (InAnswer a.head.columns a.domain a.store)) from to limit ranges more → TellsRanges db q from to limit civil json (ranges_bytes dates quotes ranges more)
told_ranges steps db q cap a is from to limit ranges more dates quotes civil json c j h = record {
  ranges = ranges;
  more = more;
  are = moved_ranges (IsAnswerTime (InAnswer a.head.columns a.domain a.store)) (IsAnswerTime (IsAnswer db q)) from to limit ranges more (λ x k. (is.answers (time x ∷ [])).0 k) (λ x k. (is.answers (time x ∷ [])).1 k) h;
  spelled = ap (λ d. ranges_bytes d quotes ranges more) c ∙ ap (λ k. ranges_bytes civil k ranges more) j;
}

-- what holds of each member holds of all
all_of : {X : Type 0} (P : X → Type 0) (xs : List X) → ((x : X) → Contains xs x → P x) → AllByRecursion P xs
all_of P [] h = tt
all_of P (x ∷ xs) h = (h x (head_in x xs), all_of P xs (λ y k. h y (later x xs y k)))

-- what lies between two ends of a window is dated where they are
between : (civil : Bool) (from to : ℤ) → IsEnd civil from → IsEnd civil to → (x : ℤ) → from ≤ℤ x → x ≤ℤ to → IsDatedWhere civil x
between false from to f t x low high = tt
between true from to f t x low high =
    let first : IsCivilMinute from = f.minute in
    let last : IsCivilMinute to = t.minute in
    (omega (arith, ints, first.0, low), omega (arith, ints, last.1, high))

range_dates : (civil : Bool) (set : ℤ → Type 0) (from to : ℤ) → IsEnd civil from → IsEnd civil to → (range : Range) → IsRange set from to range → HasEndsAs civil range
range_dates civil set from to f t range r =
    let low : from ≤ℤ range.from = r.low in
    let some : range.from ≤ℤ range.to = r.some in
    let high : range.to ≤ℤ to = r.high in
    (between civil from to f t range.from low (omega (arith, ints)), (between civil from to f t range.to (omega (arith, ints)) high, tt))

-- the ends of the ranges of a window are dated where its own are
pub ranges_dates : (civil : Bool) (set : ℤ → Type 0) (from to low high : ℤ) → IsEnd civil from → IsEnd civil to → low ≡ from → high ≡ to → (limit : ℕ) (ranges : List Range) (more : Bool) → AreRanges set low high limit ranges more → AllByRecursion (HasEndsAs civil) ranges
ranges_dates civil set from to low high f t l h limit ranges more are =
    all_of (HasEndsAs civil) ranges (λ range listed. range_dates civil set low high (subst (IsEnd civil) (sym l) f) (subst (IsEnd civil) (sym h) t) range (are.each range listed))

-- ---- ends by their words

pub word_ends : (civil : Bool) (from to : ℤ) → IsEnd civil from → IsEnd civil to → AreEnds (to_z w64 (of_z w64 from)) (to_z w64 (of_z w64 to))
word_ends civil from to f t = subst (λ v. AreEnds (to_z w64 (of_z w64 from)) v) (sym (word to t.low t.high)) (subst (λ u. AreEnds u to) (sym (word from f.low f.high)) (are_ends civil from to f t))
