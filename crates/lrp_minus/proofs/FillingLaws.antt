-- The pieces of a zone are added to a cell of a store, one after another.
use Rattle.std.proofs.Common.{◌≡◌, ℕ, ◌+◌, ◌<◌, ◌≤◌, length, inl, inr, List, [], ◌∷◌, ◌++◌, take, Result, OnOk, arith, sym, ap, subst, ◌∙◌}
use Rattle.std.specs.Prelude.{ℤ, pos, Contains}
use Rattle.lrp_model.specs.declared.tuples.Cell.{Cell}
use Rattle.lrp_zone.specs.Zones.{ZoneView, IsMember, greatest_of}
use Rattle.lrp_store.specs.Stores.{StoreView, IsStore, IsPadded, InStore}
use Rattle.lrp_store.specs.Growing.{IsGrown, IsAdded, IsRefused, IsTupleOf}
use Rattle.lrp_store.specs.Settled.{InSome}
use Rattle.lrp_store.specs.declared.store.StoreFault.{StoreFault}
use Rattle.lrp_store.proofs.Grown.{grown_on, grown_same, grown_within, one_more_of}
use Rattle.lrp_systems.proofs.AddedAs.{added_as, refused_as}
use Rattle.lrp_cutting.specs.Differences.{greatest_reach}
use Rattle.lrp_minus.specs.Filling.{IsUncut}
use Rattle.lrp_cutting.specs.Leaving.{AreLeftOf}
use Rattle.lrp_cutting.proofs.Lists.{in_either, in_nothing, in_this, this_has}

-- the first pieces were added
pub record AreFilled (z : ZoneView) (cutters : List ZoneView) (named : List ℕ) (cap high : ℕ) (old now : StoreView) (done : List ZoneView) : Type 0 where
  pub grown : IsGrown (IsUncut z cutters named) cap high old now
  pub held : (xs : List ℤ) → InSome done xs → InStore now xs named

module _ (z : ZoneView) (cutters : List ZoneView) (named : List ℕ) (cap high : ℕ) (old : StoreView) where
  pub filled_none : IsStore old → AreFilled z cutters named cap high old old []
  filled_none is = record { grown = grown_same cap high _ old is; held = λ xs s. absurd (in_nothing xs s) }

  -- one piece more
  module _ (pieces : List ZoneView) (gap : AreLeftOf z (z ∷ []) cutters high pieces) (period : z.period ≡ old.period) (cell : Cell) (residues : z.residues ≡ take old.shape.times cell.residues) (texts : IsPadded 0 old.shape.texts cell.texts) (times : IsPadded (pos 0) old.shape.times cell.residues)
      (is_named : named ≡ take old.shape.texts cell.texts) (now : StoreView) (done : List ZoneView) (f : AreFilled z cutters named cap high old now done) (p : ZoneView) (here : Contains pieces p) where
    pub piece_period : p.period ≡ now.period
    piece_period = (gap.zones p here).1.period ∙ period ∙ sym f.grown.period

    pub piece_residues : p.residues ≡ take now.shape.times cell.residues
    piece_residues = (gap.zones p here).1.residues ∙ residues ∙ ap (λ q. take q.times cell.residues) (sym f.grown.shape)

    pub piece_texts : IsPadded 0 now.shape.texts cell.texts
    piece_texts = subst (λ q. IsPadded 0 q.texts cell.texts) (sym f.grown.shape) texts

    pub piece_times : IsPadded (pos 0) now.shape.times cell.residues
    piece_times = subst (λ q. IsPadded (pos 0) q.times cell.residues) (sym f.grown.shape) times

    same_texts : named ≡ take now.shape.texts cell.texts
    same_texts = is_named ∙ ap (λ q. take q.texts cell.texts) (sym f.grown.shape)

    is_left : (xs : List ℤ) → IsMember p xs → IsUncut z cutters named xs (take now.shape.texts cell.texts)
    is_left xs m = let t = gap.to xs (record { zone = p; listed = here; inside = m }) in record { member = this_has z xs t.0; none = t.1; same = same_texts }

    low : greatest_of p.bounds ≤ high
    low = gap.reach p here

    of_piece : (xs : List ℤ) (ns : List ℕ) → IsTupleOf p (take now.shape.texts cell.texts) xs ns → IsUncut z cutters named xs ns
    of_piece xs ns t = subst (λ ms. IsUncut z cutters named xs ms) t.same (is_left xs t.member)

    pub filled_more : (new : StoreView) → IsAdded (IsTupleOf p (take now.shape.texts cell.texts)) cap (greatest_of p.bounds) now new → AreFilled z cutters named cap high old new (done ++ p ∷ [])
    filled_more new h = record {
      grown = grown_on cap high _ _ old now new of_piece f.grown (grown_within cap (greatest_of p.bounds) high _ now new low h.grown);
      held = λ xs s. elim (in_either done (p ∷ []) xs s) [
        | inl a ↦ h.grown.kept xs named (f.held xs a)
        | inr b ↦ h.whole.each xs named (record { member = this_has p xs b; same = sym same_texts })
      ];
    }

    pub filled_refused : (new : StoreView) → IsRefused (IsTupleOf p (take now.shape.texts cell.texts)) cap (greatest_of p.bounds) now new → IsRefused (IsUncut z cutters named) cap high old new
    filled_refused new h = record { grown = grown_on cap high _ _ old now new of_piece f.grown (grown_within cap (greatest_of p.bounds) high _ now new low h.grown); more = one_more_of cap _ _ new of_piece h.more }

  -- all pieces were added
  pub filled_all : (pieces : List ZoneView) → AreLeftOf z (z ∷ []) cutters high pieces → (now : StoreView) → AreFilled z cutters named cap high old now pieces → IsAdded (IsUncut z cutters named) cap high old now
  filled_all pieces gap now f = record {
    grown = f.grown;
    whole = record { each = λ xs ns l. subst (λ ms. InStore now xs ms) l.same (f.held xs (gap.from xs (in_this z xs l.member) l.none)) };
  }

-- ---- nothing is taken away

-- without cutters the zone is left as it is
module _ (z : ZoneView) (cutters : List ZoneView) (none : length cutters ≡ 0) (old : StoreView) (is : IsStore old) (cell : Cell) (cap : ℕ) (new : StoreView) where
  to_left : (xs : List ℤ) (ns : List ℕ) → IsTupleOf z (take old.shape.texts cell.texts) xs ns → IsUncut z cutters (take old.shape.texts cell.texts) xs ns
  to_left xs ns t = record { member = t.member; none = λ s. let l : s.listed.0 < length cutters = s.listed.1 in absurd (omega arith); same = t.same }

  from_left : (xs : List ℤ) (ns : List ℕ) → IsUncut z cutters (take old.shape.texts cell.texts) xs ns → IsTupleOf z (take old.shape.texts cell.texts) xs ns
  from_left xs ns h = record { member = h.member; same = h.same }

  pub all_added : {T : Type 0} (r : Result T StoreFault) → OnOk r (IsAdded (IsTupleOf z (take old.shape.texts cell.texts)) cap (greatest_of z.bounds) old new) → OnOk r (IsAdded (IsUncut z cutters (take old.shape.texts cell.texts)) cap (greatest_reach (z ∷ cutters) + z.period) old new)
  all_added r ok = added_as (IsTupleOf z (take old.shape.texts cell.texts)) (IsUncut z cutters (take old.shape.texts cell.texts)) cap (greatest_of z.bounds) (greatest_reach (z ∷ cutters) + z.period) old new is to_left (omega arith) from_left r ok

  pub all_refused : IsRefused (IsTupleOf z (take old.shape.texts cell.texts)) cap (greatest_of z.bounds) old new → IsRefused (IsUncut z cutters (take old.shape.texts cell.texts)) cap (greatest_reach (z ∷ cutters) + z.period) old new
  all_refused h = refused_as (IsTupleOf z (take old.shape.texts cell.texts)) (IsUncut z cutters (take old.shape.texts cell.texts)) cap (greatest_of z.bounds) (greatest_reach (z ∷ cutters) + z.period) old new is to_left (omega arith) h
