-- A zone over all columns in order has the solutions of its system.
use Rattle.std.proofs.Common.{◌≡◌, ℕ, zero, suc, ◌+◌, ◌-◌, ◌^◌, ◌<◌, ◌≤◌, Bool, true, false, List, [], ◌∷◌, Result, OnOk, arith, sym, ap, subst, ◌∙◌, take, get_or, length, map, max}
use Rattle.std.specs.Prelude.{ℤ, pos, All, ◌==◌, if◌then◌else◌}
use Rattle.std.proofs.lemmas.List.{ext_get_or, length-map}
use Rattle.lrp_theory.specs.Divides.{Divides}
use Rattle.lrp_theory.specs.Entries.{node}
use Rattle.lrp_model.specs.declared.tuples.Cell.{Cell}
use Rattle.lrp_zone.specs.Spread.{target}
use Rattle.lrp_zone.specs.Zones.{ZoneView, IsMember, columns_of, reach_of, greatest_of}
use Rattle.lrp_store.specs.Stores.{StoreView, IsStore, IsPadded}
use Rattle.lrp_store.specs.Growing.{IsAdded, IsRefused, IsTupleOf}
use Rattle.lrp_store.specs.declared.store.StoreFault.{StoreFault}
use Rattle.lrp_systems.specs.Parts.{PartView, InPart, Fits, part_reach, system_reach}
use Rattle.lrp_systems.specs.Sole.{IsCellOfZone, IsWholePart}
use Rattle.lrp_systems.specs.Systems.{IsSolution}
use Rattle.lrp_systems.proofs.AddedAs.{added_as, refused_as}
use Rattle.lrp_systems.proofs.CellPieces.{reach_own}
use Rattle.lrp_systems.proofs.Remaining.{value_at}

-- one part is the list of it
pub list_of_one : (parts : List PartView) (part : PartView) → length parts ≡ 1 → part ≡ get_or parts 0 part → part ∷ [] ≡ parts
list_of_one [] part e is = absurd (omega (arith, e))
list_of_one (p ∷ []) part e is = ap (λ q. q ∷ []) is
list_of_one (p ∷ q ∷ ps) part e is = absurd (omega (arith, e))

module _ (part : PartView) (k n : ℕ) (w : IsWholePart k n part) where
  -- the values at its places are the tuple
  values_same : (xs : List ℤ) → length xs ≡ n → map (node xs) part.places ≡ xs
  values_same xs e =
      let count : length part.places ≡ columns_of part.zone = w.valid.count in
      let columns : columns_of part.zone ≡ n = w.columns in
      ext_get_or (pos 0) (map (node xs) part.places) xs (length-map part.places (node xs) ∙ count ∙ columns ∙ sym e) (λ i h.
      let m : length (map (node xs) part.places) ≡ length part.places = length-map part.places (node xs) in
      let low : i < columns_of part.zone = omega (arith, h, m, count) in
      value_at part w.valid xs (suc i) (suc i) (omega (arith, low)) (w.each (suc i) (omega (arith, low, columns))))

  pub alone_to : (xs : List ℤ) → IsMember part.zone xs → All (λ q. InPart q xs) (part ∷ [])
  alone_to xs m zero d l = subst (IsMember part.zone) (sym (values_same xs (m.cell.count ∙ w.columns))) m
  alone_to xs m (suc i) d l = absurd (omega (arith, l))

  pub alone_from : (xs : List ℤ) → length xs ≡ n → All (λ q. InPart q xs) (part ∷ []) → IsMember part.zone xs
  alone_from xs e all = subst (IsMember part.zone) (values_same xs e) (all zero part (omega arith))

  count_is : length part.places ≡ n
  count_is = w.valid.count ∙ w.columns

  fits : (m : ℕ) → Divides (pos part.zone.period) (pos m) → reach_of part.zone + m ≤ 2 ^ 62 → Fits n m part
  fits m multiple reach = record {
    places = record {
      low = λ p h. (let c : length part.places ≡ n = count_is in let e : target part.places (p + 1) ≡ p + 1 = w.each (p + 1) (omega arith) in omega arith);
      high = λ p h. (let c : length part.places ≡ n = count_is in let e : target part.places p ≡ p = w.each p (omega arith) in omega arith);
      differ = λ p q pl ql e. (let c : length part.places ≡ n = count_is in sym (w.each p (omega arith)) ∙ e ∙ w.each q (omega arith));
    };
    multiple = multiple;
    reach = λ ne. reach;
  }

  -- its pieces reach little farther
  alone_within : (m : ℕ) → system_reach m (part ∷ []) ≤ reach_of part.zone + (m - 1)
  alone_within m = most (part.zone.period == m) (reach_of part.zone) (m - 1)
    where
      most : (b : Bool) (r d : ℕ) → max (if b then r else (r + d)) 0 ≤ r + d
      most true r d = omega arith
      most false r d = omega arith

  alone_reach : greatest_of part.zone.bounds ≤ system_reach k (part ∷ [])
  alone_reach =
      let e : part_reach k part ≡ reach_of part.zone = reach_own k part w.period in
      by (part_reach k part) (reach_of part.zone) e
    where
      by : (a b : ℕ) → a ≡ b → b ≤ max a 0
      by a b e = omega (arith, e)

module _ (s : StoreView) (is : IsStore s) (part : PartView) (w : IsWholePart s.period s.shape.times part) (texts : List ℕ) (padded : IsPadded 0 s.shape.texts texts) (c : Cell) (cell : IsCellOfZone part.zone (columns_of part.zone) texts c) where
  -- the cell is of the store's shape
  pub own_texts : IsPadded 0 s.shape.texts c.texts
  own_texts = subst (λ t. IsPadded 0 s.shape.texts t) (sym cell.texts) padded

  pub own_times : IsPadded (pos 0) s.shape.times c.residues
  own_times = subst (λ n. IsPadded (pos 0) n c.residues) w.columns cell.padded

  pub own_residues : part.zone.residues ≡ take s.shape.times c.residues
  own_residues = cell.residues ∙ ap (λ n. take n c.residues) w.columns

  abbrev Solution : List ℤ → List ℕ → Type 0
  Solution = IsSolution (part ∷ []) s.shape.times (take s.shape.texts texts)

  to_solution : (xs : List ℤ) → IsMember part.zone xs → Solution xs (take s.shape.texts c.texts)
  to_solution xs m = record { count = m.cell.count ∙ w.columns; inside = alone_to part s.period s.shape.times w xs m; same = ap (take s.shape.texts) (sym cell.texts) }

  -- the tuples of the zone with the cell's texts are the solutions
  of_tuple : (xs : List ℤ) (ns : List ℕ) → IsTupleOf part.zone (take s.shape.texts c.texts) xs ns → Solution xs ns
  of_tuple xs ns h = subst (λ ms. Solution xs ms) h.same (to_solution xs h.member)

  to_tuple : (xs : List ℤ) (ns : List ℕ) → Solution xs ns → IsTupleOf part.zone (take s.shape.texts c.texts) xs ns
  to_tuple xs ns m = record { member = alone_from part s.period s.shape.times w xs m.count m.inside; same = ap (take s.shape.texts) cell.texts ∙ m.same }

  module _ (cap : ℕ) (new : StoreView) where
    pub alone_added : {T : Type 0} (r : Result T StoreFault) → OnOk r (IsAdded (IsTupleOf part.zone (take s.shape.texts c.texts)) cap (greatest_of part.zone.bounds) s new) → OnOk r (IsAdded Solution cap (system_reach s.period (part ∷ [])) s new)
    alone_added r ok = added_as _ Solution cap (greatest_of part.zone.bounds) (system_reach s.period (part ∷ [])) s new is of_tuple (alone_reach part s.period s.shape.times w) to_tuple r ok

    pub alone_refused : IsRefused (IsTupleOf part.zone (take s.shape.texts c.texts)) cap (greatest_of part.zone.bounds) s new → IsRefused Solution cap (system_reach s.period (part ∷ [])) s new
    alone_refused no_more = refused_as _ Solution cap (greatest_of part.zone.bounds) (system_reach s.period (part ∷ [])) s new is of_tuple (alone_reach part s.period s.shape.times w) no_more

-- a zone of which a part was made, whose columns are the store's times
module _ (z : ZoneView) (part : PartView) (same : part.zone ≡ z) (s : StoreView) (is : IsStore s) (whole : IsWholePart z.period (columns_of z) part) (columns : columns_of z ≡ s.shape.times) where
  own : IsWholePart z.period s.shape.times part
  own = subst (λ n. IsWholePart z.period n part) columns whole

  -- it can be brought to a multiple of its period that leaves room
  pub lone_fits : Divides (pos z.period) (pos s.period) → reach_of z + s.period ≤ 2 ^ 62 → All (Fits s.shape.times s.period) (part ∷ [])
  lone_fits multiple reach zero d l = fits part z.period s.shape.times own s.period (subst (λ y. Divides (pos y.period) (pos s.period)) (sym same) multiple) (subst (λ y. reach_of y + s.period ≤ 2 ^ 62) (sym same) reach)
  lone_fits multiple reach (suc i) d l = absurd (omega (arith, l))

  -- its pieces reach as far as it does and the period less 1 more
  pub lone_within : system_reach s.period (part ∷ []) ≤ reach_of z + (s.period - 1)
  lone_within = subst (λ y. system_reach s.period (part ∷ []) ≤ reach_of y + (s.period - 1)) same (alone_within part z.period s.shape.times own s.period)

  module _ (named : List ℕ) where
    -- its tuples are the solutions
    pub of_lone : (xs : List ℤ) (ns : List ℕ) → IsTupleOf z named xs ns → IsSolution (part ∷ []) s.shape.times named xs ns
    of_lone xs ns h = record { count = h.member.cell.count ∙ columns; inside = alone_to part z.period s.shape.times own xs (subst (λ y. IsMember y xs) (sym same) h.member); same = h.same }

    pub to_lone : (xs : List ℤ) (ns : List ℕ) → IsSolution (part ∷ []) s.shape.times named xs ns → IsTupleOf z named xs ns
    to_lone xs ns h = record { member = subst (λ y. IsMember y xs) same (alone_from part z.period s.shape.times own xs h.count h.inside); same = h.same }

    module _ (cap : ℕ) (new : StoreView) where
      pub lone_added : {T : Type 0} (r : Result T StoreFault) → OnOk r (IsAdded (IsSolution (part ∷ []) s.shape.times named) cap (system_reach s.period (part ∷ [])) s new) → OnOk r (IsAdded (IsTupleOf z named) cap (reach_of z + (s.period - 1)) s new)
      lone_added r ok = added_as _ (IsTupleOf z named) cap (system_reach s.period (part ∷ [])) (reach_of z + (s.period - 1)) s new is to_lone lone_within of_lone r ok

      pub lone_refused : IsRefused (IsSolution (part ∷ []) s.shape.times named) cap (system_reach s.period (part ∷ [])) s new → IsRefused (IsTupleOf z named) cap (reach_of z + (s.period - 1)) s new
      lone_refused no_more = refused_as _ (IsTupleOf z named) cap (system_reach s.period (part ∷ [])) (reach_of z + (s.period - 1)) s new is to_lone lone_within no_more
