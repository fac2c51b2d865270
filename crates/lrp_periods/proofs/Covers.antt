-- Parts with whole cells, and their covers.
use Rattle.std.proofs.Common.{◌≡◌, ◌⊎◌, inl, inr, ⊎_elim, ℕ, ◌+◌, ◌<◌, ◌≤◌, List, [], ◌∷◌, ◌++◌, length, take, Contains, get_or, sym, subst}
use Rattle.std.specs.FinMap as finite
use Rattle.std.proofs.lemmas.List.{take_all}
use Rattle.std.proofs.lemmas.List.Elements.{Contains-append_cases, Contains-append_left, Contains-append_right}
use Rattle.lrp_theory.proofs.Members.{front_more, in_none, in_one, one_in}
use Rattle.lrp_model.proofs.Decided.{cons_cases, contains_none}
use Rattle.lrp_model.specs.declared.tuples.Cell.{Cell}
use Rattle.lrp_store.specs.Stores.{BeginsWhole, StoreView}
use Rattle.lrp_store.proofs.ZoneCounts.{key_is}
use Rattle.lrp_tables.specs.declared.table.Table.{Table}
use Rattle.lrp_periods.specs.Sieves.{AreCoversOf, HasWholeCells, IsCoverOf}
use Rattle.lrp_periods.specs.declared.sieves.Cover.{Cover}

-- ---- cells

-- each cell that is not left begins with the zone without bounds
pub record AreFirstWhole (s : StoreView) (left : List Cell) : Type 0 where
  pub each : (cell : Cell) → Contains (finite.keys s.tables) cell → Contains left cell ⊎ BeginsWhole s cell

pub first_whole_none : (s : StoreView) (left : List Cell) → left ≡ finite.keys s.tables → AreFirstWhole s left
first_whole_none s left e = record { each = λ cell k. inl (subst (λ cs. Contains cs cell) (sym e) k) }

pub first_whole_more : (s : StoreView) (left rest : List Cell) (c : Cell) → left ≡ c ∷ rest → AreFirstWhole s left → BeginsWhole s c → AreFirstWhole s rest
first_whole_more s left rest c e all own = record {
  each = λ cell k. ⊎_elim
      (λ l. ⊎_elim (λ same. inr (subst (BeginsWhole s) same own)) (λ r. inl r) (cons_cases c cell rest (subst (λ cs. Contains cs cell) e l)))
      (λ d. inr d)
      (all.each cell k);
}

pub first_whole_all : (s : StoreView) (left : List Cell) → left ≡ [] → AreFirstWhole s left → HasWholeCells s
first_whole_all s left none all cell t k = ⊎_elim (λ l. absurd (contains_none cell (subst (λ cs. Contains cs cell) none l))) (λ d. d) (all.each cell (key_is s cell t k))

-- ---- parts

module _ (P : Table → Type 0) (parts : List Table) (n : ℕ) where
  pub each_none : n ≡ 0 → (part : Table) → Contains (take n parts) part → P part
  each_none e part k = absurd (in_none part (subst (λ m. Contains (take m parts) part) e k))

  pub each_more : (next : Table) → n < length parts → next ≡ get_or parts n next → ((part : Table) → Contains (take n parts) part → P part) → P next → (part : Table) → Contains (take (n + 1) parts) part → P part
  each_more next low at first own part k = elim (Contains-append_cases (take n parts) (next ∷ []) part (subst (λ ps. Contains ps part) (front_more parts n next low at) k)) [
    | inl a ↦ first part a
    | inr b ↦ subst P (in_one next part b) own
  ]

  pub each_all : length parts ≤ n → ((part : Table) → Contains (take n parts) part → P part) → (part : Table) → Contains parts part → P part
  each_all high first part k = first part (subst (λ ps. Contains ps part) (sym (take_all n parts high)) k)

-- ---- covers of parts

pub covers_none : (parts : List Table) (n : ℕ) (covers : List Cover) → n ≡ 0 → covers ≡ [] → AreCoversOf (take n parts) covers
covers_none parts n covers e none = subst (AreCoversOf (take n parts)) (sym none) (record {
  of_cover = λ cover k. absurd (in_none cover k);
  of_part = λ part k. absurd (in_none part (subst (λ m. Contains (take m parts) part) e k));
})

pub covers_more : (parts : List Table) (n : ℕ) (part : Table) (covers new : List Cover) (cover : Cover) → n < length parts → part ≡ get_or parts n part → new ≡ covers ++ cover ∷ [] → AreCoversOf (take n parts) covers → IsCoverOf part.store cover → AreCoversOf (take (n + 1) parts) new
covers_more parts n part covers new cover low at e are own = subst (AreCoversOf (take (n + 1) parts)) (sym e) (subst (λ ps. AreCoversOf ps (covers ++ cover ∷ [])) (sym (front_more parts n part low at)) (record {
  of_cover = λ other k. elim (Contains-append_cases covers (cover ∷ []) other k) [
    | inl a ↦ (let h = are.of_cover other a in (h.0, Contains-append_left (take n parts) (part ∷ []) h.0 h.1, h.2))
    | inr b ↦ (part, Contains-append_right (take n parts) (part ∷ []) part (one_in part), subst (IsCoverOf part.store) (in_one cover other b) own)
  ];
  of_part = λ other k. elim (Contains-append_cases (take n parts) (part ∷ []) other k) [
    | inl a ↦ (let h = are.of_part other a in (h.0, Contains-append_left covers (cover ∷ []) h.0 h.1, h.2))
    | inr b ↦ (cover, Contains-append_right covers (cover ∷ []) cover (one_in cover), subst (λ (t : Table). IsCoverOf t.store cover) (in_one part other b) own)
  ];
}))

pub covers_all : (parts : List Table) (n : ℕ) (covers : List Cover) → length parts ≤ n → AreCoversOf (take n parts) covers → AreCoversOf parts covers
covers_all parts n covers high are = subst (λ ps. AreCoversOf ps covers) (take_all n parts high) are
