-- The least answer of some parts and one more.
use Rattle.std.proofs.Common.{◌≡◌, ◌≢◌, ◌⊎◌, inl, inr, ℕ, suc, ◌<◌, List, length, take, take_all, get_or, Option, Some, None, Ordering, Less, Equal, Greater, false, Contains, arith, refl, sym, ap₂, subst, ◌∙◌}
use Rattle.std.specs.Prelude.{pos, slice_get, IfNone, IfSome}
use Rattle.std.specs.Ordering.{nat_cmp, ordering_then, is_gt}
use Rattle.std.specs.Cmp.{IsTotalOrder}
use Rattle.std.specs.Cmp.Lexicographic.{slice_cmp}
use Rattle.std.proofs.lemmas.Option.{same_Some, slice_get_read}
use Rattle.std.proofs.lemmas.Cmp.{lists_total, nat_cmp_total, nat_list_cmp_total, on_total, then_total, tied_itself, upto}
use Rattle.lrp_theory.specs.Residues.{rank}
use Rattle.lrp_model.specs.Order.{rank_cmp}
use Rattle.lrp_model.specs.Rows.{Tuple, texts_of, times_of}
use Rattle.lrp_model.specs.Texts.{Ascends, Text}
use Rattle.lrp_model.specs.declared.tuples.Shape.{Shape}
use Rattle.lrp_model.specs.declared.tuples.Spot.{Spot}
use Rattle.lrp_model.proofs.Decided.{contains_none}
use Rattle.lrp_store.specs.Least.{IsLeastSpot, StandsFor, held_cmp}
use Rattle.lrp_store.specs.Tables.{InAnswer}
use Rattle.lrp_store.proofs.Held.{Contains-from_get}
use Rattle.lrp_store.proofs.StoreFirst.{front_cmp, held_itself}
use Rattle.lrp_answers.specs.declared.answer.Answer.{Answer}
use Rattle.lrp_answers.specs.Parts.{AreAlike, IsInSomePart}
use Rattle.lrp_answers.proofs.AnswerFirst.{numbers_cmp}
use Rattle.lrp_answers.proofs.PartLaws.{one_more, same_shape}
use Rattle.lrp_packed.specs.Leading.{IsNotLater}
use Rattle.lrp_outputs.specs.PartLeasts.{IsLeastOfParts, IsLeastUpTo}
use Rattle.lrp_outputs.specs.Spots.{HasKnownTexts}
use Rattle.lrp_outputs.proofs.Spots.{texts_known}
use Rattle.lrp_outputs.specs.declared.least.PartLeast.{PartLeast}

-- ---- the order of tuples by ranks

ranks_total : IsTotalOrder rank_cmp
ranks_total = then_total (on_total times_of (lists_total (on_total rank nat_cmp_total))) (on_total texts_of (lists_total nat_list_cmp_total))

not_gt : (o : Ordering) → o ≢ Greater → is_gt o ≡ false
not_gt Less h = refl
not_gt Equal h = refl
not_gt Greater h = absurd (h refl)

from_not_gt : (o : Ordering) → is_gt o ≡ false → o ≢ Greater
from_not_gt Less h e = cc
from_not_gt Equal h e = cc
from_not_gt Greater h e = cc

-- what does not come after a second one does not come after a third, where the second doesn't
pub ranks_upto : (t u v : Tuple) → rank_cmp t u ≢ Greater → rank_cmp u v ≢ Greater → rank_cmp t v ≢ Greater
ranks_upto t u v a b = from_not_gt (rank_cmp t v) (upto ranks_total t u v (not_gt (rank_cmp t u) a) (not_gt (rank_cmp u v) b))

-- spots compare like the tuples that they stand for
stands_cmp : (domain : List Text) → Ascends domain → (shape : Shape) (w y : Spot) (t u : Tuple) → StandsFor shape domain w t → StandsFor shape domain y u → held_cmp w.times w.texts y.times y.texts ≡ rank_cmp t u
stands_cmp domain ascends shape w y t u a b =
    ap₂ ordering_then
    (front_cmp (λ x z. nat_cmp (rank x) (rank z)) (pos 0) (tied_itself nat_cmp_total (rank (pos 0))) shape.times w.times y.times (a.times_padded.size ∙ sym b.times_padded.size) a.times_padded.zeros b.times_padded.zeros
    ∙ ap₂ (slice_cmp (λ x z. nat_cmp (rank x) (rank z))) a.times b.times)
    (front_cmp nat_cmp 0 (tied_itself nat_cmp_total 0) shape.texts w.texts y.texts (a.texts_padded.size ∙ sym b.texts_padded.size) a.texts_padded.zeros b.texts_padded.zeros
    ∙ numbers_cmp domain ascends (take shape.texts w.texts) (take shape.texts y.texts) (texts_of t) (texts_of u) a.texts b.texts)

-- ---- one part more

module _ (parts : List Answer) (alike : AreAlike parts) (n : ℕ) (part : Answer) (here : slice_get parts n ≡ Some part) (ascends : Ascends part.domain) where
  next_has : (tuple : Tuple) → InAnswer part.head.columns part.domain part.store tuple → IsInSomePart (take (suc n) parts) tuple
  next_has tuple h = (one_more parts n part here tuple).1 (inr h)

  first_have : (tuple : Tuple) → IsInSomePart (take n parts) tuple → IsInSomePart (take (suc n) parts) tuple
  first_have tuple h = (one_more parts n part here tuple).1 (inl h)

  either : (tuple : Tuple) → IsInSomePart (take (suc n) parts) tuple → IsInSomePart (take n parts) tuple ⊎ InAnswer part.head.columns part.domain part.store tuple
  either tuple h = (one_more parts n part here tuple).0 h

  -- neither has one
  both_none : ((tuple : Tuple) → IsInSomePart (take n parts) tuple → ⊥) → ((tuple : Tuple) → InAnswer part.head.columns part.domain part.store tuple → ⊥) → (tuple : Tuple) → IsInSomePart (take (suc n) parts) tuple → ⊥
  both_none f g tuple h = by (either tuple h)
    where
      by : IsInSomePart (take n parts) tuple ⊎ InAnswer part.head.columns part.domain part.store tuple → ⊥
      by (inl k) = f tuple k
      by (inr k) = g tuple k

  -- spots of another part and of this one compare like their tuples
  compared : (a : Answer) → Contains parts a → (w y : Spot) (t u : Tuple) → StandsFor a.store.shape a.domain w t → StandsFor part.store.shape part.domain y u → held_cmp w.times w.texts y.times y.texts ≡ rank_cmp t u
  compared a listed w y t u p q =
      let head : a.head.columns ≡ part.head.columns = alike.head a part listed (Contains-from_get parts n part here) in
      let domain : a.domain ≡ part.domain = alike.domain a part listed (Contains-from_get parts n part here) in
      stands_cmp part.domain ascends part.store.shape w y t u (subst (λ s. StandsFor s part.domain w t) (same_shape a part head) (subst (λ d. StandsFor a.store.shape d w t) domain p)) q

  -- the least of the first ones stays
  kept : (a : Answer) (w : Spot) → IsLeastOfParts (take n parts) a w → ((t : Tuple) → InAnswer part.head.columns part.domain part.store t → (s : Tuple) → StandsFor a.store.shape a.domain w s → rank_cmp s t ≢ Greater) → IsLeastOfParts (take (suc n) parts) a w
  kept a w l near = record {
    tuple = l.tuple;
    shape = l.shape;
    stands = l.stands;
    least = record {
      is = first_have l.tuple l.least.is;
      first = λ other h. by other (either other h);
    };
  }
    where
      by : (other : Tuple) → IsInSomePart (take n parts) other ⊎ InAnswer part.head.columns part.domain part.store other → rank_cmp l.tuple other ≢ Greater
      by other (inl k) = l.least.first other k
      by other (inr k) = near other k l.tuple l.stands

  -- or that of the next one takes its place
  taken : (y : Spot) → IsLeastSpot part.head.columns part.domain part.store y → ((t : Tuple) → IsInSomePart (take n parts) t → (s : Tuple) → StandsFor part.store.shape part.domain y s → rank_cmp s t ≢ Greater) → IsLeastOfParts (take (suc n) parts) part y
  taken y l near = record {
    tuple = l.tuple;
    shape = l.least.is.shape;
    stands = l.stands;
    least = record {
      is = next_has l.tuple l.least.is;
      first = λ other h. by other (either other h);
    };
  }
    where
      by : (other : Tuple) → IsInSomePart (take n parts) other ⊎ InAnswer part.head.columns part.domain part.store other → rank_cmp l.tuple other ≢ Greater
      by other (inl k) = near other k l.tuple l.stands
      by other (inr k) = l.least.first other k

  -- where the old one isn't later
  stays : (old : PartLeast) (own : Option Spot) → IsLeastUpTo parts n old → IfNone own ((tuple : Tuple) → InAnswer part.head.columns part.domain part.store tuple → ⊥) → IfSome own (λ spot. IsLeastSpot part.head.columns part.domain part.store spot) → IsNotLater old.least own → IsLeastUpTo parts (suc n) old
  stays old own up none some near = by old.least refl own near none some
    where
      by : (o : Option Spot) → old.least ≡ o → (p : Option Spot) → IsNotLater old.least p → IfNone p ((tuple : Tuple) → InAnswer part.head.columns part.domain part.store tuple → ⊥) → IfSome p (λ spot. IsLeastSpot part.head.columns part.domain part.store spot) → IsLeastUpTo parts (suc n) old
      by None e None near none some = record {
        none = subst (λ q. IfNone q ((tuple : Tuple) → IsInSomePart (take (suc n) parts) tuple → ⊥)) (sym e) (both_none (subst (λ q. IfNone q ((tuple : Tuple) → IsInSomePart (take n parts) tuple → ⊥)) e up.none) none);
        some = subst (λ q. IfSome q (λ spot. (a : Answer) × (slice_get parts old.part ≡ Some a) × IsLeastOfParts (take (suc n) parts) a spot)) (sym e) tt;
      }
      by None e (Some y) near none some = absurd (subst (λ q. IsNotLater q (Some y)) e near)
      by (Some w) e p near none some = record {
        none = subst (λ q. IfNone q ((tuple : Tuple) → IsInSomePart (take (suc n) parts) tuple → ⊥)) (sym e) tt;
        some = subst (λ q. IfSome q (λ spot. (a : Answer) × (slice_get parts old.part ≡ Some a) × IsLeastOfParts (take (suc n) parts) a spot)) (sym e)
            (let was = subst (λ q. IfSome q (λ spot. (a : Answer) × (slice_get parts old.part ≡ Some a) × IsLeastOfParts (take n parts) a spot)) e up.some in
            (was.0, was.1, kept was.0 w was.2 (nearer p (subst (λ q. IsNotLater q p) e near) none some was.0 (Contains-from_get parts old.part was.0 was.1))));
      }
        where
          nearer : (q : Option Spot) → IsNotLater (Some w) q → IfNone q ((tuple : Tuple) → InAnswer part.head.columns part.domain part.store tuple → ⊥) → IfSome q (λ spot. IsLeastSpot part.head.columns part.domain part.store spot)
              → (a : Answer) → Contains parts a → (t : Tuple) → InAnswer part.head.columns part.domain part.store t → (s : Tuple) → StandsFor a.store.shape a.domain w s → rank_cmp s t ≢ Greater
          nearer None k none some a listed t h s stands = absurd (none t h)
          nearer (Some y) k none some a listed t h s stands =
              let least : IsLeastSpot part.head.columns part.domain part.store y = some in
              ranks_upto s least.tuple t (subst (λ o. o ≢ Greater) (compared a listed w y s least.tuple stands least.stands) k) (least.least.first t h)

  -- where the next one isn't later
  moves : (old : PartLeast) (own : PartLeast) → own.part ≡ n → IsLeastUpTo parts n old → IfNone own.least ((tuple : Tuple) → InAnswer part.head.columns part.domain part.store tuple → ⊥) → IfSome own.least (λ spot. IsLeastSpot part.head.columns part.domain part.store spot) → IsNotLater own.least old.least → IsLeastUpTo parts (suc n) own
  moves old own place up none some near = by own.least refl old.least refl near
    where
      by : (o : Option Spot) → own.least ≡ o → (p : Option Spot) → old.least ≡ p → IsNotLater own.least old.least → IsLeastUpTo parts (suc n) own
      by None e None f near = record {
        none = subst (λ q. IfNone q ((tuple : Tuple) → IsInSomePart (take (suc n) parts) tuple → ⊥)) (sym e)
            (both_none (subst (λ q. IfNone q ((tuple : Tuple) → IsInSomePart (take n parts) tuple → ⊥)) f up.none) (subst (λ q. IfNone q ((tuple : Tuple) → InAnswer part.head.columns part.domain part.store tuple → ⊥)) e none));
        some = subst (λ q. IfSome q (λ spot. (a : Answer) × (slice_get parts own.part ≡ Some a) × IsLeastOfParts (take (suc n) parts) a spot)) (sym e) tt;
      }
      by None e (Some w) f near = absurd (subst (λ q. IsNotLater None q) f (subst (λ q. IsNotLater q old.least) e near))
      by (Some y) e p f near = record {
        none = subst (λ q. IfNone q ((tuple : Tuple) → IsInSomePart (take (suc n) parts) tuple → ⊥)) (sym e) tt;
        some = subst (λ q. IfSome q (λ spot. (a : Answer) × (slice_get parts own.part ≡ Some a) × IsLeastOfParts (take (suc n) parts) a spot)) (sym e)
            (part, subst (λ k. slice_get parts k ≡ Some part) (sym place) here, taken y least (farther p f (subst (λ q. IsNotLater (Some y) q) f (subst (λ q. IsNotLater q old.least) e near))));
      }
        where
          least : IsLeastSpot part.head.columns part.domain part.store y
          least = subst (λ q. IfSome q (λ spot. IsLeastSpot part.head.columns part.domain part.store spot)) e some

          farther : (q : Option Spot) → old.least ≡ q → IsNotLater (Some y) q → (t : Tuple) → IsInSomePart (take n parts) t → (s : Tuple) → StandsFor part.store.shape part.domain y s → rank_cmp s t ≢ Greater
          farther None g k t h s stands = absurd (subst (λ q. IfNone q ((tuple : Tuple) → IsInSomePart (take n parts) tuple → ⊥)) g up.none t h)
          farther (Some w) g k t h s stands =
              let was = subst (λ q. IfSome q (λ spot. (a : Answer) × (slice_get parts old.part ≡ Some a) × IsLeastOfParts (take n parts) a spot)) g up.some in
              let listed = Contains-from_get parts old.part was.0 was.1 in
              let head : was.0.head.columns ≡ part.head.columns = alike.head was.0 part listed (Contains-from_get parts n part here) in
              let domain : was.0.domain ≡ part.domain = alike.domain was.0 part listed (Contains-from_get parts n part here) in
              let there : StandsFor part.store.shape part.domain w was.2.tuple = subst (λ sh. StandsFor sh part.domain w was.2.tuple) (same_shape was.0 part head) (subst (λ d. StandsFor was.0.store.shape d w was.2.tuple) domain was.2.stands) in
              ranks_upto s was.2.tuple t (subst (λ o. o ≢ Greater) (stands_cmp part.domain ascends part.store.shape y w s was.2.tuple stands there) k) (was.2.least.first t h)

  -- the one or the other
  pub next : (old own new : PartLeast) → own.part ≡ n → IsLeastUpTo parts n old → IfNone own.least ((tuple : Tuple) → InAnswer part.head.columns part.domain part.store tuple → ⊥) → IfSome own.least (λ spot. IsLeastSpot part.head.columns part.domain part.store spot) → (new ≡ old) ⊎ (new ≡ own) → IsNotLater new.least old.least → IsNotLater new.least own.least → IsLeastUpTo parts (suc n) new
  next old own new place up none some (inl e) a b = subst (λ f. IsLeastUpTo parts (suc n) f) (sym e) (stays old own.least up none some (subst (λ (f : PartLeast). IsNotLater f.least own.least) e b))
  next old own new place up none some (inr e) a b = subst (λ f. IsLeastUpTo parts (suc n) f) (sym e) (moves old own place up none some (subst (λ (f : PartLeast). IsNotLater f.least old.least) e a))

-- no part at all
pub none_yet : (parts : List Answer) (part : ℕ) → IsLeastUpTo parts 0 (record { part = part; least = None })
none_yet parts part = record { none = λ tuple h. contains_none h.part h.listed; some = tt }

-- a least answer is not later than itself
pub not_later_itself : (o : Option Spot) → IsNotLater o o
not_later_itself None = tt
not_later_itself (Some s) = held_itself s.times s.texts

-- the place of the one or the other is that of a part
pub place_low : (parts : List Answer) (n : ℕ) (old own new : PartLeast) → n < length parts → own.part ≡ n → old.part < length parts → (new ≡ old) ⊎ (new ≡ own) → new.part < length parts
place_low parts n old own new l place low (inl e) = subst (λ (f : PartLeast). f.part < length parts) (sym e) low
place_low parts n old own new l place low (inr e) = subst (λ (f : PartLeast). f.part < length parts) (sym e) (subst (λ k. k < length parts) (sym place) l)

-- of all parts there is none, or it is of a part that was found
pub none_of_all : (parts : List Answer) (found : PartLeast) → IsLeastUpTo parts (length parts) found → IfNone found.least ((tuple : Tuple) → IsInSomePart parts tuple → ⊥)
none_of_all parts found up = subst (λ ps. IfNone found.least ((tuple : Tuple) → IsInSomePart ps tuple → ⊥)) (take_all (length parts) parts (omega arith)) up.none

pub some_of_all : (parts : List Answer) (found : PartLeast) (part : Answer) → IsLeastUpTo parts (length parts) found → slice_get parts found.part ≡ Some part → IfSome found.least (IsLeastOfParts parts part)
some_of_all parts found part up here = by found.least up.some
  where
    by : (o : Option Spot) → IfSome o (λ spot. (a : Answer) × (slice_get parts found.part ≡ Some a) × IsLeastOfParts (take (length parts) parts) a spot) → IfSome o (IsLeastOfParts parts part)
    by None h = tt
    by (Some spot) h =
        let same : h.0 ≡ part = same_Some h.0 part (sym h.1 ∙ here) in
        subst (λ ps. IsLeastOfParts ps part spot) (take_all (length parts) parts (omega arith)) (subst (λ (a : Answer). IsLeastOfParts (take (length parts) parts) a spot) same h.2)

-- the numbers of the texts of a least answer are those of texts
pub known_least : (parts : List Answer) (part : Answer) (o : Option Spot) → IfSome o (IsLeastOfParts parts part) → IfSome o (HasKnownTexts part)
known_least parts part None h = tt
known_least parts part (Some spot) h = texts_known part.store.shape part.domain spot h.tuple h.stands

-- the part that is taken out is the one at the place
pub taken_out : (parts items seen : List Answer) (place : ℕ) (part : Answer) → items ≡ parts → seen ≡ parts → place < length seen → part ≡ get_or items place part → slice_get parts place ≡ Some part
taken_out parts items seen place part is same low value =
    slice_get_read parts (length parts) place part refl (subst (λ ps. place < length ps) same low) (subst (λ ps. part ≡ get_or ps place part) is value)
