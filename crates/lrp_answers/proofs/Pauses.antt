-- Listings that stand still.
use Rattle.std.proofs.Common.{◌≡◌, ◌<◌, ℕ, zero, suc, List, [], ◌∷◌, length, take, Some, None, Equal, Less, Greater, true, false, arith, refl, sym, ap₂, subst, ◌∙◌}
use Rattle.std.specs.Prelude.{ℤ, IfSome, Option, slice_get}
use Rattle.std.specs.List.{AllByRecursion}
use Rattle.std.specs.Ordering.{is_eq}
use Rattle.std.specs.declared.cmp.Ordering.{Ordering}
use Rattle.std.specs.Cmp.Lexicographic.{slice_cmp}
use Rattle.std.specs.FinMap.{nat_cmp-IsAntisymmetric, slice_cmp-IsAntisymmetric}
use Rattle.lrp_model.specs.Rows.{texts_of}
use Rattle.lrp_model.specs.Texts.{Text, text_cmp}
use Rattle.lrp_model.specs.Tuples.{in_head_order, texts_at}
use Rattle.lrp_model.specs.declared.tuples.Tuple.{Tuple as ListedTuple}
use Rattle.lrp_answers.specs.declared.answer.Answer.{Answer}
use Rattle.lrp_store.specs.Tables.{AreTexts}
use Rattle.lrp_answers.specs.Listing.{WindowView, listed_tuple, window_of, window_tuple}
use Rattle.lrp_answers.specs.Pauses.{IsPausedIn, IsPausedOf, paused_window}
use Rattle.lrp_answers.specs.declared.paused.Paused.{Paused}

-- ---- numbers of texts

below : (domain : List Text) (n : ℕ) (t : Text) → slice_get domain n ≡ Some t → n < length domain
below [] n t e = cc
below (d ∷ ds) zero t e = omega arith
below (d ∷ ds) (suc n) t e = let r : n < length ds = below ds n t e in omega arith

all_below : (domain : List Text) (ns : List ℕ) (ts : List Text) → AreTexts domain ns ts → AllByRecursion (λ n. n < length domain) ns
all_below domain [] ts h = tt
all_below domain (n ∷ ns) [] h = absurd h
all_below domain (n ∷ ns) (t ∷ ts) h = (below domain n t h.0, all_below domain ns ts h.1)

-- the numbers of the spot where a listing stands are those of texts
pub spot_numbers : (answer : Answer) (paused : Paused) → IsPausedOf answer paused → AllByRecursion (λ n. n < length answer.domain) (take answer.store.shape.texts paused.spot.texts)
spot_numbers answer paused is = all_below answer.domain (take answer.store.shape.texts paused.spot.texts) (texts_of (window_tuple (paused_window answer paused) paused.spot)) is.stands.texts

-- ---- where a listing stands

equal_order : (o : Ordering) → is_eq o ≡ true → o ≡ Equal
equal_order Less e = absurd (let f : false ≡ true = e in cc)
equal_order Equal e = refl
equal_order Greater e = absurd (let f : false ≡ true = e in cc)

-- texts that compare alike are the same
same_texts : (ts us : List Text) → slice_cmp text_cmp ts us ≡ Equal → ts ≡ us
same_texts ts us e = slice_cmp-IsAntisymmetric (slice_cmp-IsAntisymmetric nat_cmp-IsAntisymmetric) ts us e

-- the tuple of the spot's times and texts is the spot's
pub stands_there : (answer : Answer) (paused : Paused) (t : ListedTuple) (order : Ordering)
    → t.times ≡ take answer.store.shape.times paused.spot.times → order ≡ slice_cmp text_cmp t.texts (texts_at answer.domain (take answer.store.shape.texts paused.spot.texts)) → is_eq order ≡ true
    → listed_tuple answer.head.columns t ≡ window_tuple (paused_window answer paused) paused.spot
stands_there answer paused t order same compared e =
    ap₂ (in_head_order answer.head.columns) same (same_texts t.texts (texts_at answer.domain (take answer.store.shape.texts paused.spot.texts)) (sym compared ∙ equal_order order e))

-- ---- one answer

-- a paused listing of a window of an answer is one of the answer
pub paused_of : (w : WindowView) (answer : Answer) (from to : ℤ) (paused : Paused) → w ≡ window_of answer from to → IsPausedIn w paused → IsPausedOf answer paused
paused_of w answer from to paused same is =
    let here : IsPausedIn (window_of answer from to) paused = subst (λ v. IsPausedIn v paused) same is in
    subst (λ v. IsPausedIn v paused) (ap₂ (window_of answer) (sym here.from_is) (sym here.to_is)) here

pub some_paused : (o : Option Paused) (w : WindowView) (answer : Answer) (from to : ℤ) → w ≡ window_of answer from to → IfSome o (IsPausedIn w) → IfSome o (IsPausedOf answer)
some_paused None w answer from to same is = tt
some_paused (Some paused) w answer from to same is = paused_of w answer from to paused same is
