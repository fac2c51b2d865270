-- Spans of zones, column by column, and zones without a tuple that is asked for.
use Rattle.std.proofs.Common.{◌≡◌, ℕ, zero, suc, ◌+◌, ◌<◌, ◌≤◌, ◌⊎◌, inl, inr, List, [], ◌∷◌, ◌++◌, length, map, refl, ap, sym, subst, ◌∙◌, arith, get_or, Some, Vec, Global}
use Rattle.std.specs.Prelude.{slice_get}
use Rattle.std.proofs.lemmas.List.{get_or-map, length-append, length-map}
use Rattle.lrp_theory.specs.Entries.{node}
use Rattle.lrp_tables.specs.declared.pieces.Piece.{Piece}
use Rattle.lrp_hulls.specs.Columns.{AreTextColumns, AreTimeColumns, HaveColumnSpans}
use Rattle.lrp_hulls.specs.Hulls.{AreHullsOf}
use Rattle.lrp_hulls.specs.Queries.{piece_at}
use Rattle.lrp_hulls.specs.Spans.{IsInHullSpan as IsInSpan, IsInTextSpan, span_at, text_span_at, whole_span}
use Rattle.lrp_hulls.specs.declared.columns.SpanColumns.{SpanColumns}
use Rattle.lrp_hulls.specs.declared.hull.Hull.{Hull}
use Rattle.lrp_hulls.specs.declared.hull.TextSpan.{TextSpan}
use Rattle.lrp_hulls.specs.declared.span.ColumnSpan.{ColumnSpan}

-- what is read after one was put after the others
at_push : {X : Type 0} (xs : List X) (x y : X) (i : ℕ) → slice_get (xs ++ x ∷ []) i ≡ Some y → (slice_get xs i ≡ Some y) ⊎ ((i ≡ length xs) × (x ≡ y))
at_push [] x y zero e = inr (refl, cc)
at_push [] x y (suc i) e = cc
at_push (z ∷ zs) x y zero e = inl e
at_push (z ∷ zs) x y (suc i) e = elim (at_push zs x y i e) [
  | inl l ↦ inl l
  | inr r ↦ inr (ap suc r.0, r.1)
]

-- what is read stands within
pub read_low : {X : Type 0} (xs : List X) (i : ℕ) (x : X) → slice_get xs i ≡ Some x → i < length xs
read_low [] i x e = cc
read_low (y ∷ ys) zero x e = omega arith
read_low (y ∷ ys) (suc i) x e = let l : i < length ys = read_low ys i x e in omega (arith, l)

-- and is what stands there
read_at : {X : Type 0} (xs : List X) (i : ℕ) (x d : X) → slice_get xs i ≡ Some x → get_or xs i d ≡ x
read_at [] i x d e = cc
read_at (y ∷ ys) zero x d e = cc
read_at (y ∷ ys) (suc i) x d e = read_at ys i x d e

-- the columns have what a function gives for each hull
record Are {X : Type 0} (f : ℕ → Hull → X) (hulls : List Hull) (count : ℕ) (columns : List (Vec X Global)) : Type 0 where
  pub size : length columns ≡ count
  pub each : (i : ℕ) (column : Vec X Global) → slice_get columns i ≡ Some column → column.items ≡ map (f i) hulls

-- one column more
more : {X : Type 0} (f : ℕ → Hull → X) (hulls : List Hull) (i : ℕ) (columns new : List (Vec X Global)) (column : Vec X Global) → new ≡ columns ++ column ∷ [] → column.items ≡ map (f i) hulls → Are f hulls i columns → Are f hulls (i + 1) new
more {X} f hulls i columns new column is has are = subst (Are f hulls (i + 1)) (sym is) (record {
  size = (let l : length (columns ++ column ∷ []) ≡ length columns + 1 = length-append columns (column ∷ []) in let c = are.size in omega (arith, l, c));
  each = λ j other e. elim (at_push columns column other j e) [
    | inl old ↦ are.each j other old
    | inr last ↦
        let same : j ≡ i = last.0 ∙ are.size in
        subst (λ (v : Vec X Global). v.items ≡ map (f j) hulls) last.1 (subst (λ k. column.items ≡ map (f k) hulls) (sym same) has)
  ];
})

pub times_more : (hulls : List Hull) (i : ℕ) (columns new : List (Vec ColumnSpan Global)) (column : Vec ColumnSpan Global) → new ≡ columns ++ column ∷ [] → column.items ≡ map (λ (hull : Hull). span_at hull.times i) hulls → AreTimeColumns hulls i columns → AreTimeColumns hulls (i + 1) new
times_more hulls i columns new column is has are =
    let made = more (λ j (hull : Hull). span_at hull.times j) hulls i columns new column is has (record { size = are.size; each = are.each }) in
    record { size = made.size; each = made.each }

pub texts_more : (hulls : List Hull) (i : ℕ) (columns new : List (Vec TextSpan Global)) (column : Vec TextSpan Global) → new ≡ columns ++ column ∷ [] → column.items ≡ map (λ (hull : Hull). text_span_at hull.texts i) hulls → AreTextColumns hulls i columns → AreTextColumns hulls (i + 1) new
texts_more hulls i columns new column is has are =
    let made = more (λ j (hull : Hull). text_span_at hull.texts j) hulls i columns new column is has (record { size = are.size; each = are.each }) in
    record { size = made.size; each = made.each }

-- no column yet
pub no_times : (hulls : List Hull) (columns : List (Vec ColumnSpan Global)) → columns ≡ [] → AreTimeColumns hulls 0 columns
no_times hulls columns e = subst (AreTimeColumns hulls 0) (sym e) (record { size = refl; each = λ i column h. cc })

pub no_texts : (hulls : List Hull) (columns : List (Vec TextSpan Global)) → columns ≡ [] → AreTextColumns hulls 0 columns
no_texts hulls columns e = subst (AreTextColumns hulls 0) (sym e) (record { size = refl; each = λ i column h. cc })

-- what stands in a column is what the hull with that number has there
stands : {X : Type 0} (f : Hull → X) (hulls : List Hull) (column : List X) (n : ℕ) (x d : X) (none : Hull) → column ≡ map f hulls → slice_get column n ≡ Some x → (n < length hulls) × (f (get_or hulls n none) ≡ x)
stands f hulls column n x d none is there =
    let low : n < length column = read_low column n x there in
    let size : length column ≡ length hulls = ap length is ∙ length-map hulls f in
    let l : n < length hulls = omega (arith, low, size) in
    (l, sym (get_or-map f hulls n none d l) ∙ ap (λ c. get_or c n d) (sym is) ∙ read_at column n x d there)

-- spans of hulls are spans of their zones
pub all_spans : (hulls : List Hull) (spans : SpanColumns) (times texts : ℕ) → times ≤ 8 → texts ≤ 8 → AreTimeColumns hulls times spans.times.items → AreTextColumns hulls texts spans.texts.items → (pieces : List Piece) → AreHullsOf pieces hulls → HaveColumnSpans pieces spans
all_spans hulls spans times texts few names at tt pieces are = record {
  times = λ i n span s low within xs m.
      let found = stands (λ (hull : Hull). span_at hull.times i) hulls s.column.items n span whole_span (record { times = []; texts = [] }) (at.each i s.column s.is) s.there in
      let below : i < 8 = (let l = read_low spans.times.items i s.column s.is in let c = at.size in omega (arith, l, c, few)) in
      subst (λ p. IsInSpan (piece_at pieces n).zone.period p (node xs (i + 1))) found.1 ((are.each n low).times.each i below within xs m);
  texts = λ i n span s low.
      let found = stands (λ (hull : Hull). text_span_at hull.texts i) hulls s.column.items n span (record { first = 0; last = 0 }) (record { times = []; texts = [] }) (tt.each i s.column s.is) s.there in
      let below : i < 8 = (let l = read_low spans.texts.items i s.column s.is in let c = tt.size in omega (arith, l, c, names)) in
      subst (λ p. IsInTextSpan p (get_or (piece_at pieces n).cell.texts i 0)) found.1 ((are.each n low).texts.each i below);
}
