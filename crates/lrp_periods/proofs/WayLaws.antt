-- A store's tuples inhabit no more cells of a multiple of its period than its own cells, times the ways to choose the residues of the columns anew.
use Rattle.std.proofs.Common.{◌≡◌, ◌≢◌, ℕ, zero, suc, ◌+◌, ◌*◌, ◌/◌, ◌^◌, ◌<◌, ◌≤◌, ◌⊎◌, inl, inr, List, length, refl, sym, ap, subst, ◌∙◌, arith, Contains, get_or, add-one}
use Rattle.std.proofs.Math.Nat.{pow-zero, pow-succ', mul-le-mul_right, mul-pos, div-lt_iff_lt-mul, lt-div-mul-add, div-mul-le_self, mul-div_cancel}
use Rattle.std.specs.Prelude.{ℤ, ◌*ℤ◌, pos, negsuc, nat_abs, AllPairs, neg_ℤ, ◌-ℤ◌, ◌≤ℤ◌, ◌<ℤ◌}
use Rattle.std.specs.FinMap as finite
use Rattle.std.specs.FinMap.{len-entries}
use Rattle.std.specs.List.{AllByRecursion}
use Rattle.std.proofs.lemmas.Bool.Decides.{Decides-eqb}
use Rattle.std.proofs.lemmas.Bool.{eqb-true}
use Rattle.std.proofs.lemmas.Int.{ints}
use Rattle.std.proofs.lemmas.List.{length-map, get_or_default, get_or-take}
use Rattle.std.proofs.lemmas.Map.Made.{IsDistinct-from_AllPairs}
use Rattle.std.proofs.lemmas.Map.Steps.{length-le_from_distinct_below}
use Rattle.std.proofs.lemmas.Map.Views.{Contains-from_any}
use Rattle.lrp_theory.specs.Divides.{Divides}
use Rattle.lrp_theory.specs.Entries.{node}
use Rattle.lrp_theory.proofs.Modulo.{Divides--, Divides-is, small_multiple}
use Rattle.lrp_theory.proofs.Multiples.{Divides-multiple, Divides-trans}
use Rattle.lrp_model.specs.declared.tuples.Cell.{Cell}
use Rattle.lrp_model.specs.Cells.{Many}
use Rattle.lrp_model.specs.Texts.{Text, Ascends}
use Rattle.lrp_zone.specs.Zones.{IsResidue}
use Rattle.lrp_store.specs.Stores.{StoreView, IsStore, InStore, IsInhabitedCell, LiesInCell}
use Rattle.lrp_store.specs.Growing.{InhabitsMany}
use Rattle.lrp_store.specs.Tables.{AreNumbered}
use Rattle.lrp_tables.specs.declared.table.Table.{Table}
use Rattle.lrp_store.proofs.Counted.{lies_in}
use Rattle.lrp_tables.specs.Caps.{InhabitsMoreThan}
use Rattle.lrp_tables.specs.Tables.{HasAssignment}
use Rattle.lrp_tables.proofs.CellsNamed.{many_placed, same_padded}
use Rattle.lrp_tables.proofs.Named.{pairs_left, pairs_right}
use Rattle.lrp_tables.proofs.TableMade.{tuples_of}
use Rattle.lrp_tables.proofs.Mapped.{Known, many_known, many_map}
use Rattle.lrp_plan_laws.proofs.Members.{all_of}
use Rattle.lrp_store.proofs.ZoneCounts.{key_is}

-- ---- numbers

-- a number and a lower one, put together, tell both
module _ (w : ℕ) where
  more : (i j d e : ℕ) → i < j → d < w → i * w + d ≡ j * w + e → ⊥
  more i j d e less low same = let r : (i + 1) * w ≤ j * w = mul-le-mul_right w (omega arith) in let x : (i + 1) * w ≡ i * w + w = omega arith in omega arith

  pub first_same : (i j d e : ℕ) → d < w → e < w → i * w + d ≡ j * w + e → i ≡ j
  first_same i j d e dl el same = elim (compare i j) [
    | inl less ↦ absurd (more i j d e less dl same)
    | inr other ↦ elim other [
      | inl e ↦ e
      | inr less ↦ absurd (more j i e d less el (sym same))
    ]
  ]
    where
      compare : (i j : ℕ) → (i < j) ⊎ ((i ≡ j) ⊎ (j < i))
      compare i j = grind arith

  pub second_same : (i j d e : ℕ) → i ≡ j → i * w + d ≡ j * w + e → d ≡ e
  second_same i j d e s same = let x : i * w ≡ j * w = ap (λ k. k * w) s in omega arith

  pub below : (i d n : ℕ) → i < n → d < w → i * w + d < n * w
  below i d n less low = let r : (i + 1) * w ≤ n * w = mul-le-mul_right w (omega arith) in let x : (i + 1) * w ≡ i * w + w = omega arith in omega arith

-- as many different numbers as there are below n, at most
pub few_numbers : (n : ℕ) (xs : List ℕ) → AllPairs ◌≢◌ xs → AllByRecursion (λ x. x < n) xs → length xs ≤ n
few_numbers n xs pairs low = length-le_from_distinct_below xs n (IsDistinct-from_AllPairs Decides-eqb xs pairs) (λ q h. all_of (λ x. x < n) xs q low (Contains-from_any (λ x y e. eqb-true x y e) q xs h))

-- ---- the ways that a cell is chosen anew

module _ (p ways : ℕ) where
  -- the number of the residues of the first n columns among those that agree modulo p
  abbrev way : ℕ → List ℤ → ℕ
  way zero rs = 0
  way (suc n) rs = way n rs * ways + nat_abs (node rs (suc n)) / p

  module _ (low : 0 < p) where
    pub digit_low : (r : ℤ) → IsResidue (ways * p) r → nat_abs r / p < ways
    digit_low r is = let a : pos 0 ≤ℤ r = is.low in let b : r <ℤ pos (ways * p) = is.high in (div-lt_iff_lt-mul {k = p} {x = nat_abs r} {y = ways} low).1 (omega (arith, ints))

    way_low : (n : ℕ) (rs : List ℤ) → ((i : ℕ) → i ≤ n → IsResidue (ways * p) (node rs i)) → way n rs < ways ^ n
    way_low zero rs range = let e : ways ^ 0 ≡ 1 = pow-zero ways in omega arith
    way_low (suc n) rs range =
        let r : way n rs < ways ^ n = way_low n rs (λ i l. range i (omega arith)) in
        let b : way n rs * ways + nat_abs (node rs (suc n)) / p < ways ^ n * ways = below ways (way n rs) (nat_abs (node rs (suc n)) / p) (ways ^ n) r (digit_low (node rs (suc n)) (range (suc n) (omega arith))) in
        let e : ways ^ suc n ≡ ways * ways ^ n = pow-succ' ways n in
        omega arith

    -- residues that agree modulo p and are chosen in one way are the same
    pub digit_same : (r t : ℤ) → IsResidue (ways * p) r → IsResidue (ways * p) t → Divides (pos p) (r -ℤ t) → nat_abs r / p ≡ nat_abs t / p → r ≡ t
    digit_same r t ir it agree same =
        let rl : pos 0 ≤ℤ r = ir.low in
        let tl : pos 0 ≤ℤ t = it.low in
        let ra : nat_abs r / p * p ≤ nat_abs r = div-mul-le_self (nat_abs r) p in
        let rb : nat_abs r < nat_abs r / p * p + p = lt-div-mul-add low in
        let ta : nat_abs t / p * p ≤ nat_abs t = div-mul-le_self (nat_abs t) p in
        let tb : nat_abs t < nat_abs t / p * p + p = lt-div-mul-add low in
        let x : nat_abs r / p * p ≡ nat_abs t / p * p = ap (λ k. k * p) same in
        let z : r -ℤ t ≡ pos 0 = small_multiple p (r -ℤ t) agree (near_low r t (nat_abs r / p * p) rl tl ra rb (subst (λ k. k ≤ nat_abs t) (sym x) ta) (subst (λ k. nat_abs t < k + p) (sym x) tb)) (near_high r t (nat_abs r / p * p) rl tl ra rb (subst (λ k. k ≤ nat_abs t) (sym x) ta) (subst (λ k. nat_abs t < k + p) (sym x) tb)) in
        omega (arith, ints)
      where
        near_low : (r t : ℤ) (b : ℕ) → pos 0 ≤ℤ r → pos 0 ≤ℤ t → b ≤ nat_abs r → nat_abs r < b + p → b ≤ nat_abs t → nat_abs t < b + p → neg_ℤ (pos p) <ℤ (r -ℤ t)
        near_low r t b rl tl ra rb ta tb = omega (arith, ints)

        near_high : (r t : ℤ) (b : ℕ) → pos 0 ≤ℤ r → pos 0 ≤ℤ t → b ≤ nat_abs r → nat_abs r < b + p → b ≤ nat_abs t → nat_abs t < b + p → (r -ℤ t) <ℤ pos p
        near_high r t b rl tl ra rb ta tb = omega (arith, ints)

    way_same : (n : ℕ) (rs ts : List ℤ) → ((i : ℕ) → i ≤ n → IsResidue (ways * p) (node rs i)) → ((i : ℕ) → i ≤ n → IsResidue (ways * p) (node ts i))
        → ((i : ℕ) → i ≤ n → Divides (pos p) (node rs i -ℤ node ts i)) → way n rs ≡ way n ts → (i : ℕ) → i < n → node rs (suc i) ≡ node ts (suc i)
    way_same zero rs ts ir it agree same i l = absurd (omega arith)
    way_same (suc n) rs ts ir it agree same i l =
        let dr = digit_low (node rs (suc n)) (ir (suc n) (omega arith)) in
        let dt = digit_low (node ts (suc n)) (it (suc n) (omega arith)) in
        let front : way n rs ≡ way n ts = first_same ways (way n rs) (way n ts) (nat_abs (node rs (suc n)) / p) (nat_abs (node ts (suc n)) / p) dr dt same in
        elim (last i n l) [
          | inl less ↦ way_same n rs ts (λ j k. ir j (omega arith)) (λ j k. it j (omega arith)) (λ j k. agree j (omega arith)) front i less
          | inr e ↦ rw e (digit_same (node rs (suc n)) (node ts (suc n)) (ir (suc n) (omega arith)) (it (suc n) (omega arith)) (agree (suc n) (omega arith)) (second_same ways (way n rs) (way n ts) _ _ front same))
        ]
      where
        last : (i n : ℕ) → i < suc n → (i < n) ⊎ (i ≡ n)
        last i n l = grind arith

-- ---- a store at a multiple of its period

module _ (s : StoreView) (is : IsStore s) (ways : ℕ) where
  abbrev Inhabited : Cell → Type 0
  Inhabited = IsInhabitedCell s.shape (ways * s.period) (InStore s)

  abbrev OfStore : Type 0
  OfStore = Known Inhabited

  key : (k : OfStore) → Contains (finite.keys s.tables) k.1.is.cell
  key k = key_is s k.1.is.cell k.1.is.table k.1.is.held

  -- the number of the store's cell, and of the way that it is chosen anew
  abbrev code : OfStore → ℕ
  code k = (key k).0 * ways ^ s.shape.times + way s.period ways s.shape.times k.0.residues

  way_below : (k : OfStore) → way s.period ways s.shape.times k.0.residues < ways ^ s.shape.times
  way_below k = way_low s.period ways is.period_low s.shape.times k.0.residues (λ i l. k.1.proper.range i l)

  code_low : (k : OfStore) → code k < finite.len s.tables * ways ^ s.shape.times
  code_low k =
      let a : (key k).0 < length (finite.keys s.tables) = (key k).1 in
      let b : length (finite.keys s.tables) ≡ finite.len s.tables = length-map (finite.entries s.tables) _ ∙ sym (len-entries s.tables) in
      below (ways ^ s.shape.times) (key k).0 (way s.period ways s.shape.times k.0.residues) (finite.len s.tables) (omega arith) (way_below k)

  -- its tuple lies in the store's cell too
  inner : (k : OfStore) → LiesInCell s.shape s.period k.1.is.cell k.1.times k.1.texts
  inner k = lies_in s is k.1.times k.1.texts k.1.is

  agrees : (k : OfStore) (i : ℕ) → i ≤ s.shape.times → Divides (pos s.period) (node k.0.residues i -ℤ node k.1.is.cell.residues i)
  agrees k i l =
      Divides-is (pos s.period) ((node k.1.times i -ℤ node k.1.is.cell.residues i) -ℤ (node k.1.times i -ℤ node k.0.residues i)) (node k.0.residues i -ℤ node k.1.is.cell.residues i) (omega (arith, ints))
      (Divides-- (pos s.period) _ _ ((inner k).residues i l) (Divides-trans (pos s.period) (pos (ways * s.period)) _ (subst (λ x. Divides (pos s.period) (pos x)) (let c : s.period * ways ≡ ways * s.period = omega arith in c) (Divides-multiple s.period ways)) (k.1.inside.residues i l)))

  text_is : (k : OfStore) (i : ℕ) → i < s.shape.texts → get_or k.0.texts i 0 ≡ get_or k.1.is.cell.texts i 0
  text_is k i l = sym (get_or-take s.shape.texts k.0.texts i 0 l) ∙ ap (λ ms. get_or ms i 0) (k.1.inside.named ∙ sym (inner k).named) ∙ get_or-take s.shape.texts k.1.is.cell.texts i 0 l

  code_same : (a b : OfStore) → code a ≡ code b → a.0 ≡ b.0
  code_same a b same =
      let numbers : (key a).0 ≡ (key b).0 = first_same (ways ^ s.shape.times) (key a).0 (key b).0 _ _ (way_below a) (way_below b) same in
      let chosen : way s.period ways s.shape.times a.0.residues ≡ way s.period ways s.shape.times b.0.residues = second_same (ways ^ s.shape.times) (key a).0 (key b).0 _ _ numbers same in
      let cell : a.1.is.cell ≡ b.1.is.cell =
      sym (key a).2 ∙ get_or_default (finite.keys s.tables) (key a).0 a.1.is.cell b.1.is.cell (key a).1 ∙ ap (λ i. get_or (finite.keys s.tables) i b.1.is.cell) numbers ∙ (key b).2 in
      let texts : a.0.texts ≡ b.0.texts = same_padded 0 s.shape.texts a.0.texts b.0.texts a.1.proper.texts b.1.proper.texts (λ i l. number a b cell i l) in
      let residues : a.0.residues ≡ b.0.residues = same_padded (pos 0) s.shape.times a.0.residues b.0.residues a.1.proper.residues b.1.proper.residues
      (way_same s.period ways is.period_low s.shape.times a.0.residues b.0.residues (λ i l. a.1.proper.range i l) (λ i l. b.1.proper.range i l) (λ i l. both a b cell i l) chosen) in
      ap (λ ms. record { texts = ms; residues = a.0.residues }) texts ∙ ap (λ rs. record { texts = b.0.texts; residues = rs }) residues
    where
      number : (a b : OfStore) → a.1.is.cell ≡ b.1.is.cell → (i : ℕ) → i < s.shape.texts → get_or a.0.texts i 0 ≡ get_or b.0.texts i 0
      number a b cell i l = text_is a i l ∙ ap (λ (c : Cell). get_or c.texts i 0) cell ∙ sym (text_is b i l)

      both : (a b : OfStore) → a.1.is.cell ≡ b.1.is.cell → (i : ℕ) → i ≤ s.shape.times → Divides (pos s.period) (node a.0.residues i -ℤ node b.0.residues i)
      both a b cell i l =
          Divides-is (pos s.period) ((node a.0.residues i -ℤ node b.1.is.cell.residues i) -ℤ (node b.0.residues i -ℤ node b.1.is.cell.residues i)) (node a.0.residues i -ℤ node b.0.residues i) (omega (arith, ints))
          (Divides-- (pos s.period) _ _ (subst (λ (c : Cell). Divides (pos s.period) (node a.0.residues i -ℤ node c.residues i)) cell (agrees a i l)) (agrees b i l))

  -- no more than as many cells as that are inhabited
  pub few_cells : (cap : ℕ) → finite.len s.tables * ways ^ s.shape.times ≤ cap → InhabitsMany s.shape (ways * s.period) (InStore s) cap → ⊥
  few_cells cap enough m =
      let codes : Many ◌≢◌ (λ n. n < finite.len s.tables * ways ^ s.shape.times) cap =
      many_map code (λ a b. a.0 ≢ b.0) ◌≢◌ (λ k. Unit {0}) (λ n. n < finite.len s.tables * ways ^ s.shape.times) (λ k u. code_low k) (λ a b x y d e. d (code_same a b e)) cap (many_known Inhabited ◌≢◌ cap m) in
      let n : length codes.cells ≤ finite.len s.tables * ways ^ s.shape.times = few_numbers _ codes.cells codes.apart codes.each in
      let c : length codes.cells ≡ cap + 1 = codes.count in
      omega arith

-- what the tuples of a store inhabit, its assignments do
pub few_named : (domain : List Text) → Ascends domain → (table : Table) → IsStore table.store → AreNumbered domain table.store → (ways cap : ℕ) → 0 < ways → (InhabitsMany table.store.shape (ways * table.store.period) (InStore table.store) cap → ⊥)
    → InhabitsMoreThan cap domain (ways * table.store.period) table.vars.times table.vars.texts (HasAssignment table domain) → ⊥
few_named domain ascends table is numbered ways cap some few m =
    let times_differ : AllPairs ◌≢◌ table.vars.times = pairs_left ◌≢◌ table.vars.times table.vars.texts table.names_differ in
    let texts_differ : AllPairs ◌≢◌ table.vars.texts = pairs_right ◌≢◌ table.vars.times table.vars.texts table.names_differ in
    few (many_placed domain ascends table.vars.times table.vars.texts times_differ texts_differ (ways * table.store.period) (mul-pos some is.period_low) table.store.shape (sym table.times_named) (sym table.texts_named) is.times is.texts (InStore table.store) (HasAssignment table domain)
    (tuples_of domain table is numbered) cap m)

-- so the assignments of a table inhabit no more
pub few_of_table : (domain : List Text) → Ascends domain → (table : Table) → IsStore table.store → AreNumbered domain table.store → (ways cap : ℕ) → 0 < ways → finite.len table.store.tables * ways ^ table.store.shape.times ≤ cap
    → InhabitsMoreThan cap domain (ways * table.store.period) table.vars.times table.vars.texts (HasAssignment table domain) → ⊥
few_of_table domain ascends table is numbered ways cap some enough m = few_named domain ascends table is numbered ways cap some (few_cells table.store is ways cap enough) m

-- ---- the number of ways

-- one column more
pub one_more : (c w t b p : ℕ) → b ≡ c * w ^ t → p ≡ b * w → p ≡ c * w ^ (t + 1)
one_more c w t b p e f =
    let s : w ^ (t + 1) ≡ w * w ^ t = ap (λ i. w ^ i) (add-one t) ∙ pow-succ' w t in
    let m : p ≡ (c * w ^ t) * w = f ∙ ap (λ x. x * w) e in
    let n : (c * w ^ t) * w ≡ c * (w * w ^ t) = omega arith in
    m ∙ n ∙ ap (λ x. c * x) (sym s)

pub none_more : (c w : ℕ) → c ≡ c * w ^ 0
none_more c w = let e : w ^ 0 ≡ 1 = pow-zero w in rw e (omega arith)

-- a period that divides another goes into it so often
pub ways_value : (p k : ℕ) → 0 < p → Divides (pos p) (pos k) → k / p * p ≡ k
ways_value p k low d = value d.times d.is
  where
    value : (m : ℤ) → pos k ≡ pos p *ℤ m → k / p * p ≡ k
    value (pos n) e = let f : k ≡ n * p = omega (arith, ints) in rw (f, mul-div_cancel n low) refl
    value (negsuc n) e = absurd (omega (arith, ints, low))

-- at least once, where it is not zero
pub ways_some : (a p k : ℕ) → a * p ≡ k → 0 < k → 0 < a
ways_some zero p k e low = omega arith
ways_some (suc a) p k e low = omega arith
