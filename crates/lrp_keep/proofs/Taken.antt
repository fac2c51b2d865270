-- Stores are taken into one, value after value.
use Rattle.std.proofs.Common.{◌≡◌, ◌<◌, ◌+◌, ◌-◌, ◌^◌, inl, inr, ℕ, zero, suc, List, [], ◌∷◌, length, take, Option, Some, None, refl, sym, ap, subst, ◌∙◌, arith}
use Rattle.std.specs.Prelude.{ℤ, IsSome, slice_get}
use Rattle.lrp_cutting.specs.Settling.{IsPlaceOf}
use Rattle.lrp_holdings.specs.Holdings.{Held, HoldingsView, Holds, held_at}
use Rattle.lrp_store.specs.Stores.{HasReach, InStore, IsStore, StoreView}
use Rattle.lrp_tables.specs.Passes.{IsMadeFrom}
use Rattle.lrp_tables.specs.Pieces.{FitsCell, InPiece}
use Rattle.lrp_tables.specs.declared.pieces.Piece.{Piece}
use Rattle.lrp_tables.proofs.Adding.{IsZoneOf}
use Rattle.lrp_tables.proofs.Passing.{IsPassing}
use Rattle.lrp_zone.specs.Zones.{IsMember, IsZone, reach_of}
use Rattle.lrp_zone.proofs.Cases.{eq_or}
use Rattle.lrp_model.specs.Texts.{Text}
use Rattle.lrp_parts.specs.Derivations.{HoldsIn, Levels}
use Rattle.lrp_keep.specs.Unions.{HoldsAll, HoldsAmong}
use Rattle.lrp_keep.specs.Taken.{HasTaken, HasTakenSome, HasTakenValue, StaysSame}
use Rattle.lrp_holdings.proofs.Chained.{none_some, some_is}

-- ---- one zone

-- a zone in its own cell has its own tuples
pub same_zone : (piece : Piece) (s : StoreView) → IsPlaceOf s piece.cell piece.zone → IsZoneOf (IsMadeFrom StaysSame (InPiece s.shape.texts piece)) s piece.cell piece.zone (reach_of piece.zone)
same_zone piece s of = record {
  zone = of.zone;
  period = of.period;
  residues = of.residues;
  texts = of.texts;
  times = of.times;
  to = λ xs m. record { old_times = xs; old_texts = take s.shape.texts piece.cell.texts; is = record { member = m; same = refl }; made = record { times_are = refl; texts_are = refl } };
  from = λ xs ns h. (subst (λ ys. IsMember piece.zone ys) (sym h.made.times_are) h.is.member, h.is.same ∙ sym h.made.texts_are);
  low = omega arith;
}

-- ---- one store

-- the zones of a store have their place in one of its shape and period
pub fits_there : (piece : Piece) (from out : StoreView) → out.shape ≡ from.shape → out.period ≡ from.period → IsZone piece.zone × FitsCell from.shape from.period piece → IsPlaceOf out piece.cell piece.zone
fits_there piece from out e f h =
    let fits : FitsCell out.shape out.period piece = rw e (rw f h.1) in
    record { zone = h.0; period = fits.period_is; residues = fits.residues; texts = fits.cell.texts; times = fits.cell.residues }

module _ (from start out : StoreView) (p : IsPassing StaysSame (λ high. high) (2 ^ 32 - 1) from start out []) (any : HasReach from (2 ^ 62)) where
  -- with no zone left all tuples were taken
  pub all_taken : HasTaken from start out
  all_taken =
      let g = p.grown (2 ^ 62) any in
      record {
        valid = g.valid;
        shape = g.shape;
        period = g.period;
        to = λ xs ns h. elim (g.sound xs ns h) [ inl old ↦ inl old | inr m ↦ inr (subst (λ ms. InStore from xs ms) (sym m.made.texts_are) (subst (λ ys. InStore from ys m.old_texts) (sym m.made.times_are) m.is)) ];
        kept = g.kept;
        from = λ xs ns h. elim (p.after xs ns h) [
          | inl made ↦ made xs ns (record { times_are = refl; texts_are = refl })
          | inr j ↦ absurd (let l : j.listed.0 < 0 = j.listed.1 in omega (arith, l))
        ];
        within = λ high reach old. (p.grown high reach).reach high (omega arith) old;
      }

-- ---- no store, or one

pub nothing_taken : (old : StoreView) → IsStore old → HasTakenValue None old old
nothing_taken old is = record {
  valid = is;
  shape = refl;
  period = refl;
  to = λ xs ns h. inl h;
  kept = λ xs ns h. h;
  from = λ xs ns h. absurd (none_some h.store (sym h.is.is));
  within = λ high reach old. old;
}

pub one_taken : (from old new : StoreView) → HasTaken from old new → HasTakenValue (Some from) old new
one_taken from old new t = record {
  valid = t.valid;
  shape = t.shape;
  period = t.period;
  to = λ xs ns h. elim (t.to xs ns h) [ inl was ↦ inl was | inr i ↦ inr (record { keys = []; store = from; is = record { is = refl }; inside = i }) ];
  kept = t.kept;
  from = λ xs ns h. t.from xs ns (subst (λ s. InStore s xs ns) (some_is h.store from h.is.is) h.inside);
  within = λ high reach was. t.within high (reach [] from (record { is = refl })) was;
}

-- ---- slots

-- what is held in the slots below
abbrev pub HoldsBelow : HoldingsView (Option StoreView) → ℕ → List ℕ → Option StoreView → Type 0
HoldsBelow h count keys value = (slot : ℕ) × (slot < count) × (held_at h slot ≡ Some (record { owners = keys; value = value }))

module _ (h : HoldingsView (Option StoreView)) where
  pub none_below : (old : StoreView) → IsStore old → HasTakenSome (HoldsBelow h 0) old old
  none_below old is = record {
    valid = is;
    shape = refl;
    period = refl;
    to = λ xs ns i. inl i;
    kept = λ xs ns i. i;
    from = λ xs ns i. absurd (let l : i.is.0 < 0 = i.is.1 in omega (arith, l));
    within = λ high reach was. was;
  }

  -- a slot without a value
  pub skip_below : (count : ℕ) (old new : StoreView) → held_at h count ≡ None → HasTakenSome (HoldsBelow h count) old new → HasTakenSome (HoldsBelow h (count + 1)) old new
  skip_below count old new none t = record {
    valid = t.valid;
    shape = t.shape;
    period = t.period;
    to = λ xs ns i. elim (t.to xs ns i) [ inl was ↦ inl was | inr s ↦ inr (record { keys = s.keys; store = s.store; is = (s.is.0, (let l : s.is.0 < count = s.is.1 in omega (arith, l)), s.is.2); inside = s.inside }) ];
    kept = t.kept;
    from = λ xs ns i. elim (eq_or i.is.0 count) [
      | inl e ↦ absurd (none_some (record { owners = i.keys; value = Some i.store }) (sym none ∙ sym (ap (held_at h) e) ∙ i.is.2))
      | inr n ↦ t.from xs ns (record { keys = i.keys; store = i.store; is = (i.is.0, (let l : i.is.0 < count + 1 = i.is.1 in omega (arith, l, n)), i.is.2); inside = i.inside })
    ];
    within = λ high reach was. t.within high (λ keys s x. reach keys s (x.0, (let l : x.0 < count = x.1 in omega (arith, l)), x.2)) was;
  }

  -- one with a value
  pub one_below : (count : ℕ) (old now new : StoreView) (x : Held (Option StoreView)) → held_at h count ≡ Some x → HasTakenSome (HoldsBelow h count) old now → HasTakenValue x.value now new → HasTakenSome (HoldsBelow h (count + 1)) old new
  one_below count old now new x at t u = record {
    valid = u.valid;
    shape = u.shape ∙ t.shape;
    period = u.period ∙ t.period;
    to = λ xs ns i. elim (u.to xs ns i) [
      | inl before ↦ elim (t.to xs ns before) [
        | inl was ↦ inl was
        | inr s ↦ inr (record { keys = s.keys; store = s.store; is = (s.is.0, (let l : s.is.0 < count = s.is.1 in omega (arith, l)), s.is.2); inside = s.inside })
      ]
      | inr s ↦ inr (record { keys = x.owners; store = s.store; is = (count, omega arith, at ∙ ap (λ v. Some (record { owners = x.owners; value = v })) (sym s.is.is)); inside = s.inside })
    ];
    kept = λ xs ns i. u.kept xs ns (t.kept xs ns i);
    from = λ xs ns i. elim (eq_or i.is.0 count) [
      | inl e ↦ u.from xs ns (record { keys = i.keys; store = i.store; is = record { is = ap (λ (y : Held (Option StoreView)). y.value) (some_is (record { owners = i.keys; value = Some i.store }) x (sym i.is.2 ∙ ap (held_at h) e ∙ at)) }; inside = i.inside })
      | inr n ↦ u.kept xs ns (t.from xs ns (record { keys = i.keys; store = i.store; is = (i.is.0, (let l : i.is.0 < count + 1 = i.is.1 in omega (arith, l, n)), i.is.2); inside = i.inside }))
    ];
    within = λ high reach was. u.within high
        (λ keys s e. reach x.owners s (count, omega arith, at ∙ ap (λ v. Some (record { owners = x.owners; value = v })) (sym e.is)))
        (t.within high (λ keys s y. reach keys s (y.0, (let l : y.0 < count = y.1 in omega (arith, l)), y.2)) was);
  }

  -- all that is held
  pub all_below : (count : ℕ) (old new : StoreView) → ((slot : ℕ) → IsSome (held_at h slot) → slot < count) → HasTakenSome (HoldsBelow h count) old new → HasTakenSome (HoldsIn (h ∷ []) 0) old new
  all_below count old new low t = record {
    valid = t.valid;
    shape = t.shape;
    period = t.period;
    to = λ xs ns i. elim (t.to xs ns i) [ inl was ↦ inl was | inr s ↦ inr (record { keys = s.keys; store = s.store; is = (h, refl, (s.is.0, s.is.2)); inside = s.inside }) ];
    kept = t.kept;
    from = λ xs ns i. t.from xs ns (record { keys = i.keys; store = i.store; is = below i.keys (Some i.store) i.is; inside = i.inside });
    within = λ high reach was. t.within high (λ keys s y. reach keys s (h, refl, (y.0, y.2))) was;
  }
    where
      below : (keys : List ℕ) (value : Option StoreView) → HoldsIn (h ∷ []) 0 keys value → HoldsBelow h count keys value
      below keys value x =
          let same : h ≡ x.0 = some_is h x.0 x.1 in
          let e : held_at h x.2.0 ≡ Some (record { owners = keys; value = value }) = ap (λ v. held_at v x.2.0) same ∙ x.2.1 in
          (x.2.0, low x.2.0 (subst (λ o. IsSome o) (sym e) refl), e)

-- the last level of several
pub last_level : (levels : Levels) (h : HoldingsView (Option StoreView)) (old new : StoreView) → slice_get levels (length levels - 1) ≡ Some h → HasTakenSome (HoldsIn (h ∷ []) 0) old new → HasTakenSome (HoldsIn levels (length levels - 1)) old new
last_level levels h old new at t = record {
  valid = t.valid;
  shape = t.shape;
  period = t.period;
  to = λ xs ns i. elim (t.to xs ns i) [
    | inl was ↦ inl was
    | inr s ↦ inr (record { keys = s.keys; store = s.store; is = (h, at, subst (λ v. Holds v s.keys (Some s.store)) (sym (some_is h s.is.0 s.is.1)) s.is.2); inside = s.inside })
  ];
  kept = t.kept;
  from = λ xs ns i. t.from xs ns (record { keys = i.keys; store = i.store; is = (h, refl, subst (λ v. Holds v i.keys (Some i.store)) (some_is i.is.0 h (sym i.is.1 ∙ at)) i.is.2); inside = i.inside });
  within = λ high reach was. t.within high (λ keys s y. reach keys s (h, at, subst (λ v. Holds v keys (Some s)) (sym (some_is h y.0 y.1)) y.2)) was;
}

-- ---- all disjuncts

pub none_among : (all : List Levels) (old : StoreView) → IsStore old → HasTakenSome (HoldsAmong all 0) old old
none_among all old is = record {
  valid = is;
  shape = refl;
  period = refl;
  to = λ xs ns i. inl i;
  kept = λ xs ns i. i;
  from = λ xs ns i. absurd (let l : i.is.0 < 0 = i.is.2 in omega (arith, l));
  within = λ high reach was. was;
}

pub one_among : (all : List Levels) (count : ℕ) (levels : Levels) (old now new : StoreView) → slice_get all count ≡ Some levels → HasTakenSome (HoldsAmong all count) old now → HasTakenSome (HoldsIn levels (length levels - 1)) now new → HasTakenSome (HoldsAmong all (count + 1)) old new
one_among all count levels old now new at t u = record {
  valid = u.valid;
  shape = u.shape ∙ t.shape;
  period = u.period ∙ t.period;
  to = λ xs ns i. elim (u.to xs ns i) [
    | inl before ↦ elim (t.to xs ns before) [
      | inl was ↦ inl was
      | inr s ↦ inr (record { keys = s.keys; store = s.store; is = (s.is.0, s.is.1, (let l : s.is.0 < count = s.is.2 in omega (arith, l)), s.is.3, s.is.4); inside = s.inside })
    ]
    | inr s ↦ inr (record { keys = s.keys; store = s.store; is = (count, levels, omega arith, at, s.is); inside = s.inside })
  ];
  kept = λ xs ns i. u.kept xs ns (t.kept xs ns i);
  from = λ xs ns i. elim (eq_or i.is.0 count) [
    | inl e ↦ u.from xs ns (record { keys = i.keys; store = i.store; is = subst (λ (l : Levels). HoldsIn l (length l - 1) i.keys (Some i.store)) (some_is i.is.1 levels (sym i.is.3 ∙ ap (slice_get all) e ∙ at)) i.is.4; inside = i.inside })
    | inr n ↦ u.kept xs ns (t.from xs ns (record { keys = i.keys; store = i.store; is = (i.is.0, i.is.1, (let l : i.is.0 < count + 1 = i.is.2 in omega (arith, l, n)), i.is.3, i.is.4); inside = i.inside }))
  ];
  within = λ high reach was. u.within high
      (λ keys s x. reach keys s (count, levels, omega arith, at, x))
      (t.within high (λ keys s y. reach keys s (y.0, y.1, (let l : y.0 < count = y.2 in omega (arith, l)), y.3, y.4)) was);
}

there_at : (all : List Levels) (i : ℕ) (levels : Levels) → slice_get all i ≡ Some levels → i < length all
there_at [] i levels e = absurd (none_some levels e)
there_at (l ∷ all) zero levels e = omega arith
there_at (l ∷ all) (suc i) levels e = let k : i < length all = there_at all i levels e in omega (arith, k)

-- from nothing, the store holds the answers of all whole choices
pub holds_all : (all : List Levels) (domain : List Text) (old new : StoreView) → ((xs : List ℤ) (ns : List ℕ) → InStore old xs ns → ⊥) → HasTakenSome (HoldsAmong all (length all)) old new → HoldsAll all domain new
holds_all all domain old new none t = record {
  to = λ times texts h. elim (t.to times h.0 h.2) [
    | inl was ↦ absurd (none times h.0 was)
    | inr s ↦ record { number = s.is.0; levels = s.is.1; at = s.is.3; keys = s.keys; store = s.store; held = s.is.4; has = (h.0, h.1, s.inside) }
  ];
  from = λ times texts f. (f.has.0, f.has.1, t.from times f.has.0 (record { keys = f.keys; store = f.store; is = (f.number, f.levels, there_at all f.number f.levels f.at, f.at, f.held); inside = f.has.2 }));
}
