-- The answers of a query in parts: their room, the least of them, and a page of them.
use Rattle.std.proofs.Common.{◌≡◌, ◌⊎◌, inl, inr, map, ℕ, suc, ◌+◌, ◌*◌, ◌^◌, ◌≤◌, List, [], ◌∷◌, ◌++◌, take, Option, Some, None, option_map, Bool, Contains, refl, sym, ap, subst, ◌∙◌}
use Rattle.std.specs.Prelude.{ℤ, codes, slice_get, IfNone, IfSome}
use Rattle.std.specs.Borrow.{Bor}
use Rattle.std.specs.List.{AllByRecursion}
use Rattle.lrp_model.specs.Formulas.{Question}
use Rattle.lrp_model.specs.Order.{InWindow}
use Rattle.lrp_model.specs.Pages.{IsPage, Rises}
use Rattle.lrp_model.specs.Pairs.{AllPairsByRecursion}
use Rattle.lrp_model.specs.Plans.{query_reach, scaled_reach}
use Rattle.lrp_model.specs.Rows.{Tuple}
use Rattle.lrp_model.specs.Satisfaction.{IsAnswer}
use Rattle.lrp_model.specs.Sorts.{time_count}
use Rattle.lrp_model.specs.Steps.{Steps}
use Rattle.lrp_model.specs.DataTexts.{IsDomain}
use Rattle.lrp_model.specs.declared.relations.Column.{Column}
use Rattle.lrp_model.specs.declared.relations.Relation.{Relation}
use Rattle.lrp_model.specs.declared.tuples.Spot.{Spot}
use Rattle.lrp_model.specs.declared.tuples.Tuple.{Tuple as ToldTuple}
use Rattle.lrp_model.proofs.Ascending.{all_at}
use Rattle.lrp_store.specs.Least.{StandsFor}
use Rattle.lrp_store.specs.Tables.{InAnswer}
use Rattle.lrp_cutting.specs.Settling.{IsSmallZone}
use Rattle.lrp_answers.specs.Listing.{listed_tuple, told_after, window_of}
use Rattle.lrp_answers.specs.Merging.{IsEarlierSpot, IsMergedPage}
use Rattle.lrp_answers.specs.Parts.{AreAlike, IsInSomePart}
use Rattle.lrp_answers.specs.Spots.{spot_tuple}
use Rattle.lrp_answers.specs.Standing.{IsStanding}
use Rattle.lrp_answers.specs.declared.answer.Answer.{Answer}
use Rattle.lrp_answers.specs.declared.merging.SpotPage.{SpotPage}
use Rattle.lrp_answers.proofs.HeadOrder.{spot_tuple_is}
use Rattle.lrp_answers.proofs.MergedPages.{merged_page, spots_rise}
use Rattle.lrp_answers.proofs.MergeLaws.{all_by}
use Rattle.lrp_answers.proofs.PartLaws.{none_in_none, one_more, same_shape}
use Rattle.lrp_answer_text.specs.Lines.{is_json}
use Rattle.lrp_eval.specs.Answered.{AreAnswersInParts, HaveFirstAnswer, IsAnswerPart}
use Rattle.lrp_outputs.specs.First.{least_line}
use Rattle.lrp_outputs.specs.Outputs.{page_text, spot_text, witness_text}
use Rattle.lrp_outputs.specs.PageLines.{listed_bytes}
use Rattle.lrp_outputs.specs.PartLeasts.{IsLeastOfParts}
use Rattle.lrp_outputs.specs.SmallAnswers.{IsSmallAnswer}
use Rattle.lrp_outputs.specs.Spots.{answer_tuple}
use Rattle.lrp_outputs.specs.declared.page.Page.{Page}
use Rattle.lrp_outputs.specs.declared.witness.Witness.{Witness}
use Rattle.lrp_outputs.proofs.PartLeasts.{ranks_upto}
use Rattle.lrp_words.specs.declared.purpose.Paging.{Paging}
use Rattle.lrp_top.specs.Parts.{IsPageOfParts}
use Rattle.lrp_top.specs.Telling.{TellsPage, TellsWitness}
use Rattle.lrp_top.proofs.Answered.{same_page}

-- ---- what is known of the parts

module _ (planned : Steps) (db : List Relation) (q : Question) (parts : List Answer) (each : (part : Answer) → Contains parts part → IsAnswerPart planned db q part) where
  -- they have the head and the constants of the query
  pub alike : AreAlike parts
  alike = record {
    head = λ a b la lb. (each a la).head ∙ sym (each b lb).head;
    domain = λ a b la lb. (each a la).domain ∙ sym (each b lb).domain;
  }

  -- their zones are small
  pub small_part : scaled_reach planned q ≤ 2 ^ 62 → (part : Answer) → Contains parts part → IsSmallAnswer part (query_reach planned)
  small_part reach part listed =
      let is = each part listed in
      record {
        period = is.period;
        scaled = subst (λ cs. 2 ^ (time_count cs + 1) * query_reach planned ≤ 2 ^ 62) (sym is.head) reach;
        small = λ cell z held. subst (λ cs. IsSmallZone z (time_count cs * query_reach planned)) (sym is.head) (is.small cell z held);
      }

module _ (planned : Steps) (db : List Relation) (q : Question) (cap : ℕ) (parts : List Answer) (are : HaveFirstAnswer planned db q cap parts) where
  -- the least of them is the query's
  pub told_least : (w : Witness) (dates : Bool) → w.dates ≡ dates → IfNone w.least ((tuple : Tuple) → IsInSomePart parts tuple → ⊥) → IfSome w.least (IsLeastOfParts parts w.answer) → TellsWitness dates db q (witness_text w)
  told_least w dates same none some = subst (λ d. TellsWitness d db q (witness_text w)) same (by w.least refl)
    where
      by : (o : Option Spot) → w.least ≡ o → TellsWitness w.dates db q (witness_text w)
      by None e = inl (record {
        none = λ tuple h. let f = are.first tuple h in subst (λ p. IfNone p ((t : Tuple) → IsInSomePart parts t → ⊥)) e none f.0 f.1;
        spelled = ap (spot_text w.dates w.answer) e;
      })
      by (Some spot) e =
          let l : IsLeastOfParts parts w.answer spot = subst (λ p. IfSome p (IsLeastOfParts parts w.answer)) e some in
          inr (record {
            tuple = l.tuple;
            least = record { is = are.sound l.tuple l.least.is; first = λ other h. let f = are.first other h in ranks_upto l.tuple f.0 other (l.least.first f.0 f.1) f.2 };
            spelled = ap (spot_text w.dates w.answer) e
                ∙ ap (λ (t : Tuple). codes "Nonempty\n" ++ least_line w.dates t) (spot_tuple_is w.answer.head.columns w.answer.store.shape w.answer.domain spot l.tuple l.shape l.stands);
          })

module _ (planned : Steps) (db : List Relation) (q : Question) (cap : ℕ) (parts : List Answer) (are : AreAnswersInParts planned db q cap parts) where
  -- a page of them is the query's
  pub told_page : (from to : ℤ) (begins : List Column → Option Tuple) (limit : ℕ) (civil json : Bool) (files : List ℕ) (page : Page)
      → Contains parts page.answer → page.civil ≡ civil → is_json page.form ≡ json → page.files ≡ files
      → IsPage (IsInSomePart parts) from to (begins page.answer.head.columns) limit (map (answer_tuple page.answer) page.spots) page.more
      → TellsPage db q from to (begins q.head) limit civil json files (page_text page)
  told_page from to begins limit civil json files page listed dates form digest h = record {
    page = map (answer_tuple page.answer) page.spots;
    more = page.more;
    is = subst (λ columns. IsPage (IsAnswer db q) from to (begins columns) limit (map (answer_tuple page.answer) page.spots) page.more) (are.each page.answer listed).head
        (same_page (IsInSomePart parts) (IsAnswer db q) are.answers from to (begins page.answer.head.columns) limit (map (answer_tuple page.answer) page.spots) page.more h);
    spelled = ap (λ c. listed_bytes c (is_json page.form) page.files (map (answer_tuple page.answer) page.spots) page.more) dates
        ∙ ap (λ j. listed_bytes civil j page.files (map (answer_tuple page.answer) page.spots) page.more) form
        ∙ ap (λ d. listed_bytes civil json d (map (answer_tuple page.answer) page.spots) page.more) digest;
  }

-- ---- a page of the first parts, and of one more

-- spots stand for the same tuples by the columns and the domain of each part
module _ (parts : List Answer) (alike : AreAlike parts) (b a : Answer) (lb : Contains parts b) (la : Contains parts a) (from to : ℤ) where
  head : b.head.columns ≡ a.head.columns
  head = alike.head b a lb la

  domain : b.domain ≡ a.domain
  domain = alike.domain b a lb la

  one_tuple : (spot : Spot) → answer_tuple b spot ≡ answer_tuple a spot
  one_tuple spot =
      ap (λ cs. spot_tuple cs b.store.shape b.domain spot) head
      ∙ ap (λ s. spot_tuple a.head.columns s b.domain spot) (same_shape b a head)
      ∙ ap (λ d. spot_tuple a.head.columns a.store.shape d spot) domain

  tuples : (spots : List Spot) → map (answer_tuple b) spots ≡ map (answer_tuple a) spots
  tuples spots =
      ap (λ cs. map (λ spot. spot_tuple cs b.store.shape b.domain spot) spots) head
      ∙ ap (λ s. map (λ spot. spot_tuple a.head.columns s b.domain spot) spots) (same_shape b a head)
      ∙ ap (λ d. map (λ spot. spot_tuple a.head.columns a.store.shape d spot) spots) domain

  one_standing : (spot : Spot) → IsStanding (window_of b from to) spot → IsStanding (window_of a from to) spot
  one_standing spot h = record {
    stands = subst (λ t. StandsFor a.store.shape a.domain spot t) (one_tuple spot)
        (subst (λ d. StandsFor a.store.shape d spot (answer_tuple b spot)) domain (subst (λ s. StandsFor s b.domain spot (answer_tuple b spot)) (same_shape b a head) h.stands));
    inside = subst (InWindow from to) (one_tuple spot) h.inside;
  }

  pub all_standing : (spots : List Spot) → AllByRecursion (IsStanding (window_of b from to)) spots → AllByRecursion (IsStanding (window_of a from to)) spots
  all_standing [] h = tt
  all_standing (spot ∷ spots) h = (one_standing spot h.0, all_standing spots h.1)

  pub as_of : (Answers : Tuple → Type 0) (after : Option (Bor ToldTuple)) (limit : ℕ) (spots : List Spot) (more : Bool) → IsPage Answers from to (told_after b after) limit (map (answer_tuple b) spots) more → IsPage Answers from to (told_after a after) limit (map (answer_tuple a) spots) more
  as_of Answers after limit spots more h =
      subst (λ ts. IsPage Answers from to (told_after a after) limit ts more) (tuples spots)
      (subst (λ cs. IsPage Answers from to (option_map (λ t. listed_tuple cs t.now) after) limit (map (answer_tuple b) spots) more) head h)

-- what stands in a window stands for its tuple
all_stand : (a : Answer) (from to : ℤ) (spots : List Spot) → AllByRecursion (IsStanding (window_of a from to)) spots → AllByRecursion (λ spot. StandsFor a.store.shape a.domain spot (spot_tuple a.head.columns a.store.shape a.domain spot)) spots
all_stand a from to [] h = tt
all_stand a from to (spot ∷ spots) h = (h.0.stands, all_stand a from to spots h.1)

-- the spots of a page are in order
pub own_rises : (a : Answer) (from to : ℤ) (spots : List Spot) → IsDomain a.domain → AllByRecursion (IsStanding (window_of a from to)) spots → Rises (map (answer_tuple a) spots) → AllPairsByRecursion IsEarlierSpot spots
own_rises a from to spots known stand rises = spots_rise a.head.columns a.store.shape a.domain known.ascends spots (all_stand a from to spots stand) rises

module _ (parts : List Answer) (alike : AreAlike parts) (paging : Paging) (after : Option (Bor ToldTuple)) (n : ℕ) (b : Answer) (here : slice_get parts n ≡ Some b) (lb : Contains parts b) (own : SpotPage)
    (is_own : IsPage (InAnswer b.head.columns b.domain b.store) paging.from paging.to (told_after b after) paging.limit (map (answer_tuple b) own.spots) own.more) (own_stand : AllByRecursion (IsStanding (window_of b paging.from paging.to)) own.spots) where
  -- the page of one more, by the columns and the domain of a part
  pub more_parts : (a : Answer) → Contains parts a → IsDomain a.domain → (page made : SpotPage) → IsPageOfParts (take n parts) paging after a page → IsMergedPage page own paging.limit made → IsPageOfParts (take (suc n) parts) paging after a made
  more_parts a la known page made is merged = record {
    is = same_page (λ t. IsInSomePart (take n parts) t ⊎ InAnswer b.head.columns b.domain b.store t) (IsInSomePart (take (suc n) parts)) (λ t. ((one_more parts n b here t).1, (one_more parts n b here t).0))
        paging.from paging.to (told_after a after) paging.limit (map (answer_tuple a) made.spots) made.more
        (merged_page a.head.columns a.store.shape a.domain known.ascends (IsInSomePart (take n parts)) (InAnswer b.head.columns b.domain b.store) paging.from paging.to (told_after a after) paging.limit page own made merged
        (all_stand a paging.from paging.to page.spots is.standing) (all_stand a paging.from paging.to own.spots own_as_a)
        is.is (as_of parts alike b a lb la paging.from paging.to (InAnswer b.head.columns b.domain b.store) after paging.limit own.spots own.more is_own));
    standing = all_by (IsStanding (window_of a paging.from paging.to)) made.spots (λ spot c. by spot (merged.merged.from spot c));
  }
    where
      own_as_a : AllByRecursion (IsStanding (window_of a paging.from paging.to)) own.spots
      own_as_a = all_standing parts alike b a lb la paging.from paging.to own.spots own_stand

      by : (spot : Spot) → Contains page.spots spot ⊎ Contains own.spots spot → IsStanding (window_of a paging.from paging.to) spot
      by spot (inl c) = all_at (IsStanding (window_of a paging.from paging.to)) page.spots spot is.standing c
      by spot (inr c) = all_at (IsStanding (window_of a paging.from paging.to)) own.spots spot own_as_a c

  -- the page of the first part alone
  pub first_part : n ≡ 0 → (a : Answer) → Contains parts a → IsPageOfParts (take (suc n) parts) paging after a own
  first_part none a la = record {
    is = same_page (InAnswer b.head.columns b.domain b.store) (IsInSomePart (take (suc n) parts)) (λ t. ((λ h. (one_more parts n b here t).1 (inr h)), (λ h. only t ((one_more parts n b here t).0 h))))
        paging.from paging.to (told_after a after) paging.limit (map (answer_tuple a) own.spots) own.more
        (as_of parts alike b a lb la paging.from paging.to (InAnswer b.head.columns b.domain b.store) after paging.limit own.spots own.more is_own);
    standing = all_standing parts alike b a lb la paging.from paging.to own.spots own_stand;
  }
    where
      only : (t : Tuple) → IsInSomePart (take n parts) t ⊎ InAnswer b.head.columns b.domain b.store t → InAnswer b.head.columns b.domain b.store t
      only t (inl h) = absurd (none_in_none t (subst (λ k. IsInSomePart (take k parts) t) none h))
      only t (inr h) = h
