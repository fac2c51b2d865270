-- The values at places, and the cell of a store beneath a longer cell.
use Rattle.std.proofs.Common.{◌≡◌, ◌≢◌, ℕ, zero, suc, ◌+◌, ◌-◌, ◌<◌, ◌≤◌, inl, inr, ◌⊎◌, List, [], ◌∷◌, length, map, take, replicate, refl, sym, ap, subst, ◌∙◌, arith, get_or, set, get_or-set_other, get_or-set_same, below_more}
use Rattle.std.specs.Prelude.{ℤ, pos, All, ◌-ℤ◌, ◌≤ℤ◌}
use Rattle.std.specs.Int.{int_rem_euclid}
use Rattle.std.proofs.lemmas.Int.{ints}
use Rattle.std.proofs.lemmas.List.{ext_get_or, get_or-take, get_or-map, length-map, length-set, length-take-le}
use Rattle.lrp_theory.specs.Divides.{Divides}
use Rattle.lrp_theory.specs.Entries.{node}
use Rattle.lrp_theory.proofs.Modulo.{rem_divides, rem_low, rem_high}
use Rattle.lrp_model.specs.declared.tuples.Cell.{Cell}
use Rattle.lrp_zone.specs.Spread.{target}
use Rattle.lrp_zone.specs.Zones.{IsResidue}
use Rattle.lrp_store.specs.Stores.{StoreView, IsStore, IsPadded}
use Rattle.lrp_minus.specs.Beneath.{ArePlacesFor, ArePickedNumbers, AreResiduesAt, IsCellBeneath}
use Rattle.lrp_tables.specs.Calls.{number_at}
use Rattle.lrp_tables.specs.declared.names.Places.{Places}

-- ---- values that are put one after another

-- zeros stand everywhere
pub all_noughts : {X : Type 0} (nought : X) → IsPadded nought 0 (replicate 8 nought)
all_noughts nought = record { size = refl; zeros = λ i h. zeros 8 i }
  where
    zeros : (n i : ℕ) → get_or (replicate n nought) i nought ≡ nought
    zeros zero i = refl
    zeros (suc n) zero = refl
    zeros (suc n) (suc i) = zeros n i

-- one more value is put after the others
module _ {X : Type 0} (nought : X) (i : ℕ) (own : List X) (p : IsPadded nought i own) (x : X) where
  pub padded_more : IsPadded nought (i + 1) (set own i x)
  padded_more = record {
    size = length-set own i x ∙ p.size;
    zeros = λ j h. let ne : j ≢ i = omega arith in get_or-set_other own i j x nought ne ∙ p.zeros j (omega arith);
  }

  pub value_here : i < 8 → get_or (set own i x) i nought ≡ x
  value_here low = get_or-set_same own i x nought (let e : length own ≡ 8 = p.size in omega arith)

  pub value_before : (j : ℕ) → j < i → get_or (set own i x) j nought ≡ get_or own j nought
  value_before j low = let ne : j ≢ i = omega arith in get_or-set_other own i j x nought ne

-- the first residues were put
pub record FirstResidues (places : List ℕ) (residues : List ℤ) (i : ℕ) (own : List ℤ) : Type 0 where
  pub padded : IsPadded (pos 0) i own
  pub each : (p : ℕ) → p ≤ i → node own p ≡ node residues (target places p)

pub residues_none : (places : List ℕ) (residues : List ℤ) → FirstResidues places residues 0 (replicate 8 (pos 0))
residues_none places residues = record { padded = all_noughts (pos 0); each = each }
  where
    each : (p : ℕ) → p ≤ 0 → node (replicate 8 (pos 0)) p ≡ node residues (target places p)
    each zero h = refl
    each (suc p) h = absurd (omega arith)

pub residues_more : (places : List ℕ) (residues : List ℤ) (i : ℕ) (own : List ℤ) → i < 8 → FirstResidues places residues i own → (x : ℤ) → x ≡ node residues (get_or places i 0) → FirstResidues places residues (i + 1) (set own i x)
residues_more places residues i own low f x e = record { padded = padded_more (pos 0) i own f.padded x; each = each }
  where
    at_last : (p : ℕ) → p ≡ i → get_or (set own i x) p (pos 0) ≡ node residues (get_or places p 0)
    at_last p q = rw q (value_here (pos 0) i own f.padded x low ∙ e)

    each : (p : ℕ) → p ≤ i + 1 → node (set own i x) p ≡ node residues (target places p)
    each zero h = refl
    each (suc p) h = elim (cases p i (omega arith)) [
      | inl less ↦ value_before (pos 0) i own f.padded x p less ∙ f.each (suc p) (omega arith)
      | inr last ↦ at_last p last
    ]
      where
        cases : (p i : ℕ) → p ≤ i → (p < i) ⊎ (p ≡ i)
        cases p i h = grind arith

-- the first numbers were put
pub record FirstNumbers (places numbers : List ℕ) (i : ℕ) (own : List ℕ) : Type 0 where
  pub padded : IsPadded 0 i own
  pub each : (j : ℕ) → j < i → get_or own j 0 ≡ number_at numbers (get_or places j 0)

pub numbers_none : (places numbers : List ℕ) → FirstNumbers places numbers 0 (replicate 8 0)
numbers_none places numbers = record { padded = all_noughts 0; each = λ j h. absurd (omega arith) }

pub numbers_more : (places numbers : List ℕ) (i : ℕ) (own : List ℕ) → i < 8 → FirstNumbers places numbers i own → (x : ℕ) → x ≡ number_at numbers (get_or places i 0) → FirstNumbers places numbers (i + 1) (set own i x)
numbers_more places numbers i own low f x e = record {
  padded = padded_more 0 i own f.padded x;
  each = below_more (λ j. get_or (set own i x) j 0 ≡ number_at numbers (get_or places j 0)) i (λ j h. value_before 0 i own f.padded x j h ∙ f.each j h) (value_here 0 i own f.padded x low ∙ e);
}

-- the first residues are taken modulo another period
pub record FirstReduced (residues : List ℤ) (k : ℤ) (i : ℕ) (all : List ℤ) : Type 0 where
  pub size : length all ≡ length residues
  pub done : (j : ℕ) → j < i → get_or all j (pos 0) ≡ int_rem_euclid (get_or residues j (pos 0)) k

pub reduced_none : (residues : List ℤ) (k : ℤ) → FirstReduced residues k 0 residues
reduced_none residues k = record { size = refl; done = λ j h. absurd (omega arith) }

pub reduced_more : (residues : List ℤ) (k : ℤ) (i : ℕ) (all : List ℤ) → i < length residues → FirstReduced residues k i all → (x : ℤ) → x ≡ int_rem_euclid (get_or residues i (pos 0)) k → FirstReduced residues k (i + 1) (set all i x)
reduced_more residues k i all low f x e = record {
  size = length-set all i x ∙ f.size;
  done = below_more (λ j. get_or (set all i x) j (pos 0) ≡ int_rem_euclid (get_or residues j (pos 0)) k) i (λ j h. let ne : j ≢ i = omega arith in get_or-set_other all i j x (pos 0) ne ∙ f.done j h)
      (get_or-set_same all i x (pos 0) (let s : length all ≡ length residues = f.size in omega arith) ∙ e);
}

pub reduced_all : (residues : List ℤ) (k : ℤ) (i : ℕ) (all : List ℤ) → length residues ≤ i → FirstReduced residues k i all → all ≡ map (λ r. int_rem_euclid r k) residues
reduced_all residues k i all le f =
    ext_get_or (pos 0) all (map (λ r. int_rem_euclid r k) residues) (f.size ∙ sym (length-map residues (λ r. int_rem_euclid r k)))
    (λ j h. let s : length all ≡ length residues = f.size in f.done j (omega arith) ∙ sym (get_or-map (λ r. int_rem_euclid r k) residues j (pos 0) (pos 0) (omega arith)))

-- ---- residues modulo a divisor of their period

module _ (k : ℕ) (low : 0 < k) where
  abbrev rem : ℤ → ℤ
  rem r = int_rem_euclid r (pos k)

  rem_nought : rem (pos 0) ≡ pos 0
  rem_nought =
      let l : pos 0 ≤ℤ rem (pos 0) = rem_low k (pos 0) low in
      grind arith

  rem_node : (rs : List ℤ) (p : ℕ) → node (map rem rs) p ≡ rem (node rs p)
  rem_node rs zero = sym rem_nought
  rem_node [] (suc p) = sym rem_nought
  rem_node (r ∷ rs) (suc zero) = refl
  rem_node (r ∷ rs) (suc (suc p)) = rem_node rs (suc p)

  pub rem_residue : (rs : List ℤ) (p : ℕ) → IsResidue k (node (map rem rs) p)
  rem_residue rs p = subst (IsResidue k) (sym (rem_node rs p)) (record { low = rem_low k (node rs p) low; high = rem_high k (node rs p) low })

  pub rem_agrees : (rs : List ℤ) (p : ℕ) → Divides (pos k) (node rs p -ℤ node (map rem rs) p)
  rem_agrees rs p = let one : pos 1 ≤ℤ pos k = omega (arith, ints) in rem_divides (pos k) (node rs p) (node (map rem rs) p) one (rem_node rs p)

  pub rem_padded : (n : ℕ) (rs : List ℤ) → IsPadded (pos 0) n rs → IsPadded (pos 0) n (map rem rs)
  rem_padded n rs p = record {
    size = length-map rs rem ∙ p.size;
    zeros = λ i h. rem_node rs (suc i) ∙ ap rem (p.zeros i h) ∙ rem_nought;
  }

-- ---- the cell beneath

-- the numbers at places among the first ones
pub numbers_front : (n : ℕ) (numbers places : List ℕ) → All (λ p. (0 < p) × (p ≤ n)) places → map (number_at (take n numbers)) places ≡ map (number_at numbers) places
numbers_front n numbers places low =
    ext_get_or 0 (map (number_at (take n numbers)) places) (map (number_at numbers) places) (length-map places (number_at (take n numbers)) ∙ sym (length-map places (number_at numbers))) (λ i h.
    let e : length (map (number_at (take n numbers)) places) ≡ length places = length-map places (number_at (take n numbers)) in
    let l : i < length places = omega arith in
    let p = low i 0 l in
    let positive : 0 < get_or places i 0 = p.0 in
    let up : get_or places i 0 ≤ n = p.1 in
    get_or-map (number_at (take n numbers)) places i 0 0 l ∙ get_or-take n numbers (get_or places i 0 - 1) 0 (omega arith) ∙ sym (get_or-map (number_at numbers) places i 0 0 l))

pub beneath_is : (places : Places) (s : StoreView) → IsStore s → (cell : Cell) → ArePlacesFor 8 8 s places → (own : List ℤ) → AreResiduesAt places.times cell.residues own → (numbers : List ℕ) → ArePickedNumbers places.texts cell.texts numbers
    → (k : ℤ) → k ≡ pos s.period → (rs : List ℤ) → rs ≡ map (λ r. int_rem_euclid r k) own → IsCellBeneath places s cell (record { texts = numbers; residues = rs })
beneath_is places s is cell among own residues numbers texts k ek rs ers =
    subst (λ (l : List ℤ). IsCellBeneath places s cell (record { texts = numbers; residues = l })) (sym (ers ∙ ap (λ (d : ℤ). map (λ r. int_rem_euclid r d) own) ek)) (record {
      proper = record {
        texts = subst (λ n. IsPadded 0 n numbers) among.texts_count texts.padded;
        residues = rem_padded s.period is.period_low s.shape.times own (subst (λ n. IsPadded (pos 0) n own) among.times_count residues.padded);
        range = λ i h. rem_residue s.period is.period_low own i;
      };
      residues = record {
        each = λ p h. subst (λ r. Divides (pos s.period) (r -ℤ node (map (λ r. int_rem_euclid r (pos s.period)) own) p)) (residues.each p (let e : length places.times ≡ s.shape.times = among.times_count in omega arith)) (rem_agrees s.period is.period_low own p);
      };
      texts = ext_get_or 0 (take s.shape.texts numbers) (map (number_at cell.texts) places.texts) (length-take-le s.shape.texts numbers few ∙ sym count) (λ i h.
          let e : length (take s.shape.texts numbers) ≡ s.shape.texts = length-take-le s.shape.texts numbers few in
          let c : length places.texts ≡ s.shape.texts = among.texts_count in
          let l : i < length places.texts = omega arith in
          get_or-take s.shape.texts numbers i 0 (omega arith) ∙ texts.each i l ∙ sym (get_or-map (number_at cell.texts) places.texts i 0 0 l));
    })
  where
    few : s.shape.texts ≤ length numbers
    few = let e : length numbers ≡ 8 = texts.padded.size in let l : s.shape.texts ≤ 8 = is.texts in omega arith

    count : length (map (number_at cell.texts) places.texts) ≡ s.shape.texts
    count = length-map places.texts (number_at cell.texts) ∙ among.texts_count

-- places among fewer columns are places among eight
pub among_eight : (times texts : ℕ) (s : StoreView) (places : Places) → times ≤ 8 → texts ≤ 8 → ArePlacesFor times texts s places → ArePlacesFor 8 8 s places
among_eight times texts s places few_times few_texts a = record {
  times_count = a.times_count;
  texts_count = a.texts_count;
  in_times = record { low = a.in_times.low; high = λ p h. let l : target places.times p ≤ times = a.in_times.high p h in omega arith; differ = a.in_times.differ };
  in_texts = λ i d h. let l = a.in_texts i d h in let u : get_or places.texts i d ≤ texts = l.1 in (l.0, omega arith);
}
