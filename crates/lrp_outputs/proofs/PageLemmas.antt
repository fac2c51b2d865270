-- The lines of a page, and the token after them.
use Rattle.std.proofs.Common.{◌≡◌, ◌≤◌, ◌+◌, ◌-◌, ℕ, suc, List, [], ◌∷◌, ◌++◌, length, take, map, Option, Some, Bool, true, false, refl, sym, ap, ap₂, subst, ◌∙◌, arith}
use Rattle.std.specs.Prelude.{slice_get, flat_map}
use Rattle.std.specs.List.{AllByRecursion}
use Rattle.std.proofs.lemmas.List.{length-map, length-take-le}
use Rattle.lrp_model.specs.Pages.{last_of}
use Rattle.lrp_model.specs.Rows.{Tuple}
use Rattle.lrp_model.specs.PrintedPages.{token_after, token_of, token_text}
use Rattle.lrp_model.specs.Tuples.{texts_at}
use Rattle.lrp_model.specs.declared.tuples.Spot.{Spot}
use Rattle.lrp_store.specs.Stores.{IsStore}
use Rattle.lrp_answers.specs.declared.answer.Answer.{Answer}
use Rattle.lrp_calendar.specs.Moments.{IsCivilMinute}
use Rattle.lrp_answers.proofs.HeadOrder.{head_is}
use Rattle.lrp_token.specs.Spots.{spot_token}
use Rattle.lrp_outputs.specs.Known.{HaveCivilTimes}
use Rattle.lrp_outputs.specs.PageLines.{line_as}
use Rattle.lrp_outputs.specs.Spots.{answer_tuple}

-- ---- the last spot

pub last_mapped : (f : Spot → Tuple) (spots : List Spot) (last : Spot) → slice_get spots (length spots - 1) ≡ Some last → last_of (map f spots) ≡ Some (f last)
last_mapped f [] last e = cc
last_mapped f (x ∷ []) last e = let s : x ≡ last = cc in ap (λ y. Some (f y)) s
last_mapped f (x ∷ y ∷ ys) last e =
    let k : length (x ∷ y ∷ ys) - 1 ≡ suc (length (y ∷ ys) - 1) = omega arith in
    last_mapped f (y ∷ ys) last (subst (λ n. slice_get (x ∷ y ∷ ys) n ≡ Some last) k e)

-- ---- tokens

pub token_is : (a : Answer) (files : List ℕ) (spot : Spot) → IsStore a.store → length spot.times ≡ 8 → length spot.texts ≡ 8 → spot_token a.store.shape a.domain files spot ≡ token_of files (answer_tuple a spot)
token_is a files spot valid times texts =
    let shape = a.store.shape in
    let m : shape.times ≤ 8 = valid.times in
    let n : shape.texts ≤ 8 = valid.texts in
    let t : length (take shape.times spot.times) ≡ shape.times = length-take-le shape.times spot.times (omega arith) in
    let s : length (take shape.texts spot.texts) ≡ shape.texts = length-take-le shape.texts spot.texts (omega arith) in
    let u : length (texts_at a.domain (take shape.texts spot.texts)) ≡ shape.texts = length-map (take shape.texts spot.texts) _ ∙ s in
    let h = head_is a.head.columns (take shape.times spot.times) (texts_at a.domain (take shape.texts spot.texts)) (a.times_are ∙ sym t) (a.columns_are ∙ ap₂ (λ x y. x + y) (sym t) (sym u)) in
    ap₂ (token_text (Some files)) (sym h.times) (sym h.texts)

-- ---- lines

pub lines_mapped : (civil json : Bool) (f : Spot → Tuple) (spots : List Spot) → flat_map (λ spot. line_as civil json (f spot)) spots ≡ flat_map (line_as civil json) (map f spots)
lines_mapped civil json f [] = refl
lines_mapped civil json f (x ∷ xs) = ap (λ bytes. line_as civil json (f x) ++ bytes) (lines_mapped civil json f xs)

pub is_more : (files : List ℕ) (more : Bool) (last : Option Tuple) (tuple : Tuple) → more ≡ true → last ≡ Some tuple → token_after files more last ≡ Some (token_of files tuple)
is_more files more last tuple e f = ap₂ (token_after files) e f

-- ---- dates

-- the times of a spot, where they are civil ones
pub own_dates : (civil : Bool) (a : Answer) (spot : Spot) → civil ≡ true → HaveCivilTimes civil a (spot ∷ []) → AllByRecursion IsCivilMinute (take a.store.shape.times spot.times)
own_dates false a spot e h = cc
own_dates true a spot e h = h.0
