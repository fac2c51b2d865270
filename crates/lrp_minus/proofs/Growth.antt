-- By how many zones each cell grows.
use Rattle.std.proofs.Common.{◌≡◌, ◌≢◌, ℕ, zero, suc, ◌+◌, ◌*◌, ◌<◌, ◌≤◌, inl, inr, List, [], ◌∷◌, length, unwrap_or, refl, sym, ap, subst, ◌∙◌, arith, get_or, set, get_or-set_other, get_or-set_same}
use Rattle.std.specs.Prelude.{ℤ, pos, ◌<ℤ◌, ◌+ℤ◌, AllPairs, Contains}
use Rattle.std.proofs.lemmas.Int.{ints}
use Rattle.std.specs.FinMap as finite
use Rattle.std.specs.FinMap.{get-empty}
use Rattle.lrp_model.specs.declared.tuples.Cell.{Cell}
use Rattle.lrp_zone.specs.Zones.{ZoneView}
use Rattle.lrp_store.specs.Growing.{GrowsByAtMost}
use Rattle.lrp_store.specs.Stores.{StoreView, tables_at}
use Rattle.lrp_store.proofs.Aligning.{head_in, tail_in}
use Rattle.lrp_store.proofs.Held.{cell_or}
use Rattle.lrp_store.proofs.ZoneCounts.{first_differs, rest_differ}
use Rattle.lrp_cutting.specs.declared.pairs.NodePair.{NodePair}
use Rattle.lrp_cutting.specs.Thresholds.{most_parts, most_pieces, pairs_below, parts_along}
use Rattle.lrp_minus.specs.Counts.{GrowsIn, BeginsWithResidues, BeginsWithTexts, LiesInWideCell, cell_modulo}

-- ---- one cell

-- as many more as two calls add
pub grows_more : (m n : ℕ) (c : Cell) (a b d : StoreView) → GrowsByAtMost m c a b → GrowsByAtMost n c b d → GrowsByAtMost (m + n) c a d
grows_more m n c a b d g h = record {
  few = let x : length (tables_at b c) ≤ length (tables_at a c) + m = g.few in let y : length (tables_at d c) ≤ length (tables_at b c) + n = h.few in omega arith;
  others = λ q apart. h.others q apart ∙ g.others q apart;
}

-- none more
pub grows_by_none : (c : Cell) (a : StoreView) → GrowsByAtMost 0 c a a
grows_by_none c a = record { few = omega arith; others = λ q apart. refl }

-- at most so many are at most more
pub grows_within : (m n : ℕ) (c : Cell) (a b : StoreView) → m ≤ n → GrowsByAtMost m c a b → GrowsByAtMost n c a b
grows_within m n c a b le g = record { few = let x : length (tables_at b c) ≤ length (tables_at a c) + m = g.few in omega arith; others = g.others }

-- ---- many cells

-- a cell, or another one
pub grows_at : (P : Cell → Type 0) (n : Cell → ℕ) (c : Cell) (old new : StoreView) → P c → GrowsByAtMost (n c) c old new → GrowsIn P n old new
grows_at P n c old new p g = record {
  each = λ q. elim (cell_or q c) [
    | inl e ↦ inr (subst P (sym e.0) p, subst (λ d. length (tables_at new d) ≤ length (tables_at old d) + n d) (sym e.0) g.few)
    | inr e ↦ inl (g.others q e.0)
  ];
}

-- no call
pub grows_not : (P : Cell → Type 0) (n : Cell → ℕ) (old : StoreView) → GrowsIn P n old old
grows_not P n old = record { each = λ q. inl refl }

-- cells of P, then other ones
pub grows_then : (P Q R : Cell → Type 0) (n : Cell → ℕ) (old mid new : StoreView) → GrowsIn P n old mid → GrowsIn Q n mid new → ((c : Cell) → P c → R c) → ((c : Cell) → Q c → R c) → ((c : Cell) → P c → Q c → ⊥) → GrowsIn R n old new
grows_then P Q R n old mid new g h one two apart = record {
  each = λ q. elim (g.each q) [
    | inl e ↦ elim (h.each q) [
      | inl f ↦ inl (f ∙ e)
      | inr f ↦ inr (two q f.0, subst (λ l. length (tables_at new q) ≤ length l + n q) e f.1)
    ]
    | inr e ↦ elim (h.each q) [
      | inl f ↦ inr (one q e.0, subst (λ l. length l ≤ length (tables_at old q) + n q) (sym f) e.1)
      | inr f ↦ absurd (apart q e.0 f.0)
    ]
  ];
}

-- the same cells, named otherwise
pub grows_as : (P Q : Cell → Type 0) (n : Cell → ℕ) (old new : StoreView) → ((c : Cell) → P c → Q c) → GrowsIn P n old new → GrowsIn Q n old new
grows_as P Q n old new to g = record {
  each = λ q. elim (g.each q) [
    | inl e ↦ inl e
    | inr e ↦ inr (to q e.0, e.1)
  ];
}

-- by at most more
pub grows_wider : (P : Cell → Type 0) (m n : Cell → ℕ) (old new : StoreView) → ((c : Cell) → P c → m c ≤ n c) → GrowsIn P m old new → GrowsIn P n old new
grows_wider P m n old new wider g = record {
  each = λ q. elim (g.each q) [
    | inl e ↦ inl e
    | inr e ↦ inr (e.0, let l : m q ≤ n q = wider q e.0 in let h : length (tables_at new q) ≤ length (tables_at old q) + m q = e.1 in omega arith)
  ];
}

-- the same cells twice
pub grows_again : (P : Cell → Type 0) (m n : Cell → ℕ) (old mid new : StoreView) → GrowsIn P m old mid → GrowsIn P n mid new → GrowsIn P (λ c. m c + n c) old new
grows_again P m n old mid new g h = record {
  each = λ q. elim (g.each q) [
    | inl e ↦ elim (h.each q) [
      | inl f ↦ inl (f ∙ e)
      | inr f ↦ inr (f.0, let s : length (tables_at mid q) ≡ length (tables_at old q) = ap length e in let l : length (tables_at new q) ≤ length (tables_at mid q) + n q = f.1 in omega arith)
    ]
    | inr e ↦ elim (h.each q) [
      | inl f ↦ inr (e.0, let s : length (tables_at new q) ≡ length (tables_at mid q) = ap length f in let l : length (tables_at mid q) ≤ length (tables_at old q) + m q = e.1 in omega arith)
      | inr f ↦ inr (e.0, let l : length (tables_at mid q) ≤ length (tables_at old q) + m q = e.1 in let r : length (tables_at new q) ≤ length (tables_at mid q) + n q = f.1 in omega arith)
    ]
  ];
}

-- into a store without cells
pub grows_from_none : (P : Cell → Type 0) (n : Cell → ℕ) (old new : StoreView) → ((c : Cell) → tables_at old c ≡ []) → GrowsIn P n old new → (c : Cell) → length (tables_at new c) ≤ n c
grows_from_none P n old new none g c = elim (g.each c) [
  | inl e ↦ let l : length (tables_at new c) ≡ 0 = ap length (e ∙ none c) in omega arith
  | inr e ↦ let l : length (tables_at old c) ≡ 0 = ap length (none c) in let m : length (tables_at new c) ≤ length (tables_at old c) + n c = e.1 in omega arith
]

-- the cells that lie in cells of the left store that were passed
abbrev pub IsCellBefore : StoreView → List Cell → Cell → Type 0
IsCellBefore left rest cell = Contains (finite.keys left.tables) (cell_modulo left.period cell) × (Contains rest (cell_modulo left.period cell) → ⊥)

pub passed_next : (left : StoreView) (first : Cell) (rest cells : List Cell) → cells ≡ first ∷ rest → AllPairs ◌≢◌ cells → Contains (finite.keys left.tables) first → (n : Cell → ℕ) (old mid new : StoreView)
    → GrowsIn (IsCellBefore left cells) (λ c. n (cell_modulo left.period c)) old mid → GrowsIn (LiesInWideCell left.period first) (λ c. n first) mid new → GrowsIn (IsCellBefore left rest) (λ c. n (cell_modulo left.period c)) old new
passed_next left first rest cells is apart key n old mid new g h = grows_then (IsCellBefore left cells) (LiesInWideCell left.period first) (IsCellBefore left rest) (λ c. n (cell_modulo left.period c)) old mid new g
    (grows_wider (LiesInWideCell left.period first) (λ c. n first) (λ c. n (cell_modulo left.period c)) mid new (λ c e. same_le (n first) (n (cell_modulo left.period c)) (ap n (sym e))) h)
    (λ c p. (p.0, λ r. p.1 (tail_in first rest cells is (cell_modulo left.period c) r)))
    (λ c e. (subst (λ d. Contains (finite.keys left.tables) d) (sym e) key, λ r. first_differs first rest (subst (AllPairs ◌≢◌) is apart) (cell_modulo left.period c) r e))
    (λ c p e. p.1 (subst (λ d. Contains cells d) (sym e) (head_in first rest cells is)))
  where
    same_le : (a b : ℕ) → a ≡ b → a ≤ b
    same_le a b e = omega arith

pub still_apart : (first : Cell) (rest cells : List Cell) → cells ≡ first ∷ rest → AllPairs ◌≢◌ cells → AllPairs ◌≢◌ rest
still_apart first rest cells is apart = rest_differ first rest (subst (AllPairs ◌≢◌) is apart)

-- ---- texts and residues

-- the cells with the first texts of a column
abbrev pub HasTextBefore : ℕ → List ℕ → ℕ → Cell → Type 0
HasTextBefore column texts number cell = BeginsWithTexts column texts cell × (get_or cell.texts column 0 < number)

pub texts_first : (column : ℕ) (texts : List ℕ) (n : Cell → ℕ) (old : StoreView) → GrowsIn (HasTextBefore column texts 0) n old old
texts_first column texts n old = grows_not (HasTextBefore column texts 0) n old

pub texts_next : (column : ℕ) (texts : List ℕ) (number : ℕ) → column < length texts → (n : Cell → ℕ) (old mid new : StoreView) (next : List ℕ) → next ≡ set texts column number → GrowsIn (HasTextBefore column texts number) n old mid → GrowsIn (BeginsWithTexts (column + 1) next) n mid new → GrowsIn (HasTextBefore column texts (number + 1)) n old new
texts_next column texts number low n old mid new next is g h = grows_then (HasTextBefore column texts number) (BeginsWithTexts (column + 1) next) (HasTextBefore column texts (number + 1)) n old mid new g h
    (λ c p. let l : get_or c.texts column 0 < number = p.1 in (p.0, omega arith))
    (λ c q. let e : get_or c.texts column 0 ≡ number = here c q in (λ i l. let ne : i ≢ column = omega arith in q i (omega arith) ∙ ap (λ ts. get_or ts i 0) is ∙ get_or-set_other texts column i number 0 ne, omega arith))
    (λ c p q. let l : get_or c.texts column 0 < number = p.1 in let e : get_or c.texts column 0 ≡ number = here c q in omega arith)
  where
    here : (c : Cell) → BeginsWithTexts (column + 1) next c → get_or c.texts column 0 ≡ number
    here c q = q column (omega arith) ∙ ap (λ ts. get_or ts column 0) is ∙ get_or-set_same texts column number 0 low

pub texts_last : (column : ℕ) (texts : List ℕ) (number : ℕ) (n : Cell → ℕ) (old new : StoreView) → GrowsIn (HasTextBefore column texts number) n old new → GrowsIn (BeginsWithTexts column texts) n old new
texts_last column texts number n old new g = grows_as (HasTextBefore column texts number) (BeginsWithTexts column texts) n old new (λ c p. p.0) g

-- all texts are chosen
pub texts_chosen : (column : ℕ) (chosen : Cell) (n : Cell → ℕ) (old new : StoreView) → GrowsIn (BeginsWithResidues 0 chosen) n old new → GrowsIn (BeginsWithTexts column chosen.texts) n old new
texts_chosen column chosen n old new g = grows_as (BeginsWithResidues 0 chosen) (BeginsWithTexts column chosen.texts) n old new (λ c p i l. ap (λ ts. get_or ts i 0) p.texts) g

-- the cells with the first residues of a column
abbrev pub HasResidueBefore : ℕ → Cell → ℤ → Cell → Type 0
HasResidueBefore column chosen residue cell = BeginsWithResidues column chosen cell × (get_or cell.residues column (pos 0) <ℤ residue)

pub residues_next : (column : ℕ) (chosen : Cell) (residue : ℤ) → column < length chosen.residues → (n : Cell → ℕ) (old mid new : StoreView) (next : Cell) → next ≡ record chosen { residues = set chosen.residues column residue } → GrowsIn (HasResidueBefore column chosen residue) n old mid → GrowsIn (BeginsWithResidues (column + 1) next) n mid new → GrowsIn (HasResidueBefore column chosen (residue +ℤ pos 1)) n old new
residues_next column chosen residue low n old mid new next is g h = grows_then (HasResidueBefore column chosen residue) (BeginsWithResidues (column + 1) next) (HasResidueBefore column chosen (residue +ℤ pos 1)) n old mid new g h
    (λ c p. let l : get_or c.residues column (pos 0) <ℤ residue = p.1 in (p.0, omega (arith, ints)))
    (λ c q. let e : get_or c.residues column (pos 0) ≡ residue = here c q in (
      record {
        texts = q.texts ∙ ap (λ d. d.texts) is;
        residues = λ i l. let ne : i ≢ column = omega arith in q.residues i (omega arith) ∙ ap (λ d. get_or d.residues i (pos 0)) is ∙ get_or-set_other chosen.residues column i residue (pos 0) ne;
      },
      omega (arith, ints),
    ))
    (λ c p q. let l : get_or c.residues column (pos 0) <ℤ residue = p.1 in let e : get_or c.residues column (pos 0) ≡ residue = here c q in omega (arith, ints))
  where
    here : (c : Cell) → BeginsWithResidues (column + 1) next c → get_or c.residues column (pos 0) ≡ residue
    here c q = q.residues column (omega arith) ∙ ap (λ d. get_or d.residues column (pos 0)) is ∙ get_or-set_same chosen.residues column residue (pos 0) low

pub residues_last : (column : ℕ) (chosen : Cell) (residue : ℤ) (n : Cell → ℕ) (old new : StoreView) → GrowsIn (HasResidueBefore column chosen residue) n old new → GrowsIn (BeginsWithResidues column chosen) n old new
residues_last column chosen residue n old new g = grows_as (HasResidueBefore column chosen residue) (BeginsWithResidues column chosen) n old new (λ c p. p.0) g

-- all residues are chosen
pub residues_chosen : (column : ℕ) (chosen : Cell) (n : Cell → ℕ) (old new : StoreView) → GrowsByAtMost (n chosen) chosen old new → GrowsIn (BeginsWithResidues column chosen) n old new
residues_chosen column chosen n old new g = grows_at (BeginsWithResidues column chosen) n chosen old new (record { texts = refl; residues = λ i l. refl }) g

-- ---- numbers of pieces

-- a pair has one part at least, and one piece is allowed at least
some_part : (k : ℕ) (cutters : List ZoneView) (p : NodePair) → 1 ≤ parts_along k cutters p
unfolding parts_along
some_part k cutters p = omega arith

product : (m n : ℕ) → 1 ≤ m → 1 ≤ n → 1 ≤ m * n
product zero n a b = absurd (omega arith)
product (suc m) n a b = omega arith

pub one_at_least : (k : ℕ) (cutters : List ZoneView) (ps : List NodePair) → 1 ≤ most_parts k cutters ps
one_at_least k cutters [] = omega arith
one_at_least k cutters (p ∷ ps) = product (parts_along k cutters p) (most_parts k cutters ps) (some_part k cutters p) (one_at_least k cutters ps)

-- the period and the columns of the zone alone decide
pub same_most : (z w : ZoneView) (cutters : List ZoneView) → z.period ≡ w.period → z.residues ≡ w.residues → most_pieces z cutters ≡ most_pieces w cutters
same_most z w cutters k r = ap (λ n. most_parts n cutters (pairs_below (length z.residues + 1))) k ∙ ap (λ rs. most_parts w.period cutters (pairs_below (length rs + 1))) r

-- a store without cells has no zones
pub none_held : (start : StoreView) → start.tables ≡ finite.empty → (c : Cell) → tables_at start c ≡ []
none_held start e c = ap (λ m. unwrap_or (finite.get m c) []) e ∙ ap (λ o. unwrap_or o []) (get-empty _ c)
