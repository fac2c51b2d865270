-- Windows that are made up of two, and what ranges cover.
use Rattle.std.proofs.Common.{◌≡◌, ◌↔◌, ℕ, suc, ◌+◌, inl, inr, List, [], ◌∷◌, cond, length, arith, refl, sym, subst, ap, ◌∙◌}
use Rattle.std.specs.Prelude.{ℤ, pos, ◌+ℤ◌, ◌≤ℤ◌, ◌<ℤ◌, Bool, true, false, Contains}
use Rattle.std.specs.List.{AllByRecursion, AllZip}
use Rattle.std.proofs.lemmas.Int.{ints, by_lt_z}
use Rattle.lrp_model.specs.Order.{InWindow}
use Rattle.lrp_model.specs.Formulas.{Question}
use Rattle.lrp_model.specs.Rows.{Datum, Tuple, text, time, times_of}
use Rattle.lrp_model.specs.Satisfaction.{IsAnswer, IsOfSort, Structure, structure}
use Rattle.lrp_model.specs.Sorts.{is_time, time_count}
use Rattle.lrp_model.specs.declared.relations.Column.{Column}
use Rattle.lrp_model.specs.declared.relations.Relation.{Relation}
use Rattle.lrp_model.specs.declared.relations.Sort.{Sort}
use Rattle.lrp_model.specs.declared.relations.Sort.TheVariants.{Data, Named, Time}
use Rattle.lrp_model.proofs.ColumnCounts.{none_more, one_more, times_more}
use Rattle.lrp_store.proofs.Unions.{one_number}
use Rattle.lrp_count.specs.declared.windows.Range.{Range}
use Rattle.lrp_count.specs.Numbers.{HasSize}
use Rattle.lrp_count.specs.Ranges.{AreRanges, InSomeRange, InWindowOf, LiesInWindow, IsRange}
use Rattle.lrp_count.proofs.Sizes.{both_sized}

module _ (answers : Tuple → Type 0) (from middle to : ℤ) (single : (t : Tuple) → answers t → (x : ℤ) × (times_of t ≡ x ∷ [])) (low : from ≤ℤ middle) (high : middle ≤ℤ to) where
  -- the one time of an answer lies in the window
  time_in : (a b : ℤ) (t : Tuple) (x : ℤ) → times_of t ≡ x ∷ [] → InWindow a b t → (a ≤ℤ x) × (x ≤ℤ b)
  time_in a b t x e h = (subst (AllByRecursion (λ y. (a ≤ℤ y) × (y ≤ℤ b))) e h).0

  window_of : (a b : ℤ) (t : Tuple) (x : ℤ) → times_of t ≡ x ∷ [] → a ≤ℤ x → x ≤ℤ b → InWindow a b t
  window_of a b t x e l h = subst (AllByRecursion (λ y. (a ≤ℤ y) × (y ≤ℤ b))) (sym e) ((l, h), tt)

  pub sizes_added : (n m : ℕ) → HasSize (InWindowOf answers from middle) n → HasSize (InWindowOf answers (middle +ℤ pos 1) to) m → HasSize (InWindowOf answers from to) (n + m)
  sizes_added n m p q = both_sized (InWindowOf answers from middle) (InWindowOf answers (middle +ℤ pos 1) to) (InWindowOf answers from to) n m (record {
    apart = λ t a b. (
        let x = single t a.is in
        let u = time_in from middle t x.0 x.1 a.inside in
        let v = time_in (middle +ℤ pos 1) to t x.0 x.1 b.inside in
        let c : x.0 ≤ℤ middle = u.1 in
        let d : (middle +ℤ pos 1) ≤ℤ x.0 = v.0 in
        omega (arith, ints));
    to = λ t a. (
        let x = single t a.is in
        let u = time_in from to t x.0 x.1 a.inside in
        by_lt_z middle x.0
        (λ lt. inr (record { is = a.is; inside = window_of (middle +ℤ pos 1) to t x.0 x.1 (omega (arith, ints)) u.1; later = tt }))
        (λ le. inl (record { is = a.is; inside = window_of from middle t x.0 x.1 u.0 le; later = tt })));
    left = λ t a. (
        let x = single t a.is in
        let u = time_in from middle t x.0 x.1 a.inside in
        let c : x.0 ≤ℤ middle = u.1 in
        record { is = a.is; inside = window_of from to t x.0 x.1 u.0 (omega (arith, ints)); later = tt });
    right = λ t a. (
        let x = single t a.is in
        let u = time_in (middle +ℤ pos 1) to t x.0 x.1 a.inside in
        let c : (middle +ℤ pos 1) ≤ℤ x.0 = u.0 in
        record { is = a.is; inside = window_of from to t x.0 x.1 (omega (arith, ints)) u.1; later = tt });
  }) p q

module _ (set : ℤ → Type 0) (from to : ℤ) (limit : ℕ) (ranges : List Range) where
  covered : (more : Bool) (x : ℤ) → AreRanges set from to limit ranges more → InSomeRange ranges x → LiesInWindow set from to x
  covered more x are h =
      let r : IsRange set from to h.0 = are.each h.0 h.1 in
      let a : h.0.from ≤ℤ x = h.2.low in
      let b : x ≤ℤ h.0.to = h.2.high in
      let c : from ≤ℤ h.0.from = r.low in
      let d : h.0.to ≤ℤ to = r.high in
      record { is = r.each x h.2; low = omega (arith, ints); high = omega (arith, ints) }

  pub cover_all : (x : ℤ) → AreRanges set from to limit ranges false → InSomeRange ranges x ↔ LiesInWindow set from to x
  cover_all x are = (
    covered false x are,
    λ i. elim (are.whole x i) [
      | inl h ↦ h
      | inr b ↦ absurd (let e : false ≡ true = are.more_is.1 (x, i, b) in cc)
    ],
  )

  pub cover_front : (more : Bool) (last : Range) (x : ℤ) → AreRanges set from to limit ranges more → Contains ranges last → x ≤ℤ last.to → InSomeRange ranges x ↔ LiesInWindow set from to x
  cover_front more last x are l le = (
    covered more x are,
    λ i. elim (are.whole x i) [
      | inl h ↦ h
      | inr b ↦ absurd (let g : last.to <ℤ x = b last l in omega (arith, ints))
    ],
  )

-- ---- the times of answers
more_times : (M : Structure) (s : Sort) (d : Datum) (tuple : Tuple) (n : ℕ) → IsOfSort M s d → length (times_of tuple) ≡ n → length (times_of (d ∷ tuple)) ≡ cond (is_time s) 1 0 + n
more_times M Time (time x) tuple n i e = ap suc e ∙ sym (one_more n)
more_times M Time (text t) tuple n i e = absurd i
more_times M Data (time x) tuple n i e = absurd i
more_times M Data (text t) tuple n i e = e ∙ sym (none_more n)
more_times M (Named name) (time x) tuple n i e = absurd i
more_times M (Named name) (text t) tuple n i e = e ∙ sym (none_more n)

times_size : (M : Structure) (columns : List Column) (tuple : Tuple) → AllZip (λ c d. IsOfSort M c.sort d) columns tuple → length (times_of tuple) ≡ time_count columns
times_size M [] [] h = refl
times_size M [] (d ∷ tuple) h = absurd h
times_size M (c ∷ columns) [] h = absurd h
times_size M (c ∷ columns) (d ∷ tuple) h = more_times M c.sort d tuple (time_count columns) h.0 (times_size M columns tuple h.1) ∙ sym (times_more c columns)

pub one_time : (db : List Relation) (q : Question) → time_count q.head ≡ 1 → (t : Tuple) → IsAnswer db q t → (x : ℤ) × (times_of t ≡ x ∷ [])
one_time db q one t w = one_number (times_of t) (times_size (structure db q) q.head t w.fits ∙ one)
