-- Hulls of zones, and hulls that have what others have.
use Rattle.std.proofs.Common.{◌≡◌, ℕ, ◌+◌, ◌<◌, ◌≤◌, List, [], ◌∷◌, ◌++◌, length, replicate, set, get_or, inl, inr, ap, sym, subst, ◌∙◌, arith}
use Rattle.std.specs.Prelude.{ℤ, pos, ◌-ℤ◌}
use Rattle.std.proofs.lemmas.Int.{ints}
use Rattle.std.proofs.lemmas.Bool.{cases_eq}
use Rattle.std.proofs.lemmas.List.{get_or-set_same, get_or-set_other, get_or_append_left, get_or-append-add, get_or_default, length-append, length-set}
use Rattle.lrp_theory.specs.Entries.{node}
use Rattle.lrp_zone.specs.Zones.{ZoneView, IsMember, columns_of}
use Rattle.lrp_tables.specs.declared.pieces.Piece.{Piece}
use Rattle.lrp_hulls.specs.Hulls.{AreHullsOf, AreSpansOf, AreWider, AreWiderTexts, IsHullOf, IsWiderHull, hull_at}
use Rattle.lrp_hulls.specs.Queries.{piece_at}
use Rattle.lrp_hulls.specs.Spans.{IsInHullSpan as IsInSpan, IsInTextSpan, IsWiderSpan as IsWider, IsWiderText, span_at, text_span_at, whole_span}
use Rattle.lrp_hulls.specs.declared.hull.Hull.{Hull}
use Rattle.lrp_hulls.specs.declared.hull.TextSpan.{TextSpan}
use Rattle.lrp_hulls.specs.declared.span.ColumnSpan.{ColumnSpan}

-- what holds of the first i values holds of one more that is put after them
pub set_more : {X : Type 0} (P : ℕ → X → Type 0) (d : X) (xs : List X) (i : ℕ) (x : X) → i < length xs → ((j : ℕ) → j < i → P j (get_or xs j d)) → P i x → (j : ℕ) → j < i + 1 → P j (get_or (set xs i x) j d)
set_more P d xs i x low all one j h = elim (cases_eq j i) [
  | inl e ↦ subst (λ k. P k (get_or (set xs i x) k d)) (sym e) (subst (P i) (sym (get_or-set_same xs i x d low)) one)
  | inr n ↦ subst (P j) (sym (get_or-set_other xs i j x d n)) (all j (omega (arith, n, h)))
]

-- the spans of the first i columns of a zone
pub record AreSpansBefore (zone : ZoneView) (i : ℕ) (spans : List ColumnSpan) : Type 0 where
  pub size : length spans ≡ 8
  pub each : (j : ℕ) → j < i → (xs : List ℤ) → IsMember zone xs → IsInSpan zone.period (span_at spans j) (node xs (j + 1))

pub spans_more : (zone : ZoneView) (i : ℕ) (spans : List ColumnSpan) (span : ColumnSpan) → i < 8 → AreSpansBefore zone i spans → ((xs : List ℤ) → IsMember zone xs → IsInSpan zone.period span (node xs (i + 1))) → AreSpansBefore zone (i + 1) (set spans i span)
spans_more zone i spans span low are one = record {
  size = length-set spans i span ∙ are.size;
  each = set_more (λ j s. (xs : List ℤ) → IsMember zone xs → IsInSpan zone.period s (node xs (j + 1))) whole_span spans i span (let s : length spans ≡ 8 = are.size in omega (arith, s, low)) are.each one;
}

pub less_nothing : (x : ℤ) → x -ℤ pos 0 ≡ x
less_nothing x = omega (arith, ints)

-- the span of a zone's only column, put before others
pub spans_first : (zone : ZoneView) → columns_of zone ≡ 1 → (rest : ColumnSpan) (span : ColumnSpan) → ((xs : List ℤ) → IsMember zone xs → IsInSpan zone.period span (node xs 1)) → AreSpansOf zone (set (replicate 8 rest) 0 span)
spans_first zone lone rest span one = record { each = λ i low below xs m. let e : i ≡ 0 = omega (arith, lone, below) in subst (λ j. IsInSpan zone.period (span_at (set (replicate 8 rest) 0 span) j) (node xs (j + 1))) (sym e) (one xs m) }

-- the spans of the first i texts
pub record AreTextsBefore (numbers : List ℕ) (i : ℕ) (spans : List TextSpan) : Type 0 where
  pub size : length spans ≡ 8
  pub each : (j : ℕ) → j < i → IsInTextSpan (text_span_at spans j) (get_or numbers j 0)

pub texts_more : (numbers : List ℕ) (i : ℕ) (spans : List TextSpan) (span : TextSpan) → i < 8 → AreTextsBefore numbers i spans → IsInTextSpan span (get_or numbers i 0) → AreTextsBefore numbers (i + 1) (set spans i span)
texts_more numbers i spans span low are one = record {
  size = length-set spans i span ∙ are.size;
  each = set_more (λ j s. IsInTextSpan s (get_or numbers j 0)) (record { first = 0; last = 0 }) spans i span (let s : length spans ≡ 8 = are.size in omega (arith, s, low)) are.each one;
}

-- the first i spans are wider
pub record AreWiderBefore (old : List ColumnSpan) (i : ℕ) (new : List ColumnSpan) : Type 0 where
  pub size : length new ≡ 8
  pub each : (j : ℕ) → j < i → IsWider (span_at old j) (span_at new j)

pub wider_more : (old : List ColumnSpan) (i : ℕ) (new : List ColumnSpan) (span : ColumnSpan) → i < 8 → AreWiderBefore old i new → IsWider (span_at old i) span → AreWiderBefore old (i + 1) (set new i span)
wider_more old i new span low are one = record {
  size = length-set new i span ∙ are.size;
  each = set_more (λ j s. IsWider (span_at old j) s) whole_span new i span (let s : length new ≡ 8 = are.size in omega (arith, s, low)) are.each one;
}

pub record AreWiderTextsBefore (old : List TextSpan) (i : ℕ) (new : List TextSpan) : Type 0 where
  pub size : length new ≡ 8
  pub each : (j : ℕ) → j < i → IsWiderText (text_span_at old j) (text_span_at new j)

pub wider_texts_more : (old : List TextSpan) (i : ℕ) (new : List TextSpan) (span : TextSpan) → i < 8 → AreWiderTextsBefore old i new → IsWiderText (text_span_at old i) span → AreWiderTextsBefore old (i + 1) (set new i span)
wider_texts_more old i new span low are one = record {
  size = length-set new i span ∙ are.size;
  each = set_more (λ j s. IsWiderText (text_span_at old j) s) (record { first = 0; last = 0 }) new i span (let s : length new ≡ 8 = are.size in omega (arith, s, low)) are.each one;
}

-- a hull is wider where its spans are
pub wider_hull : (old new : Hull) → AreWider old.times new.times → AreWiderTexts old.texts new.texts → IsWiderHull old new
wider_hull old new times texts = record {
  covers = λ piece h. record {
    times = record { each = λ i low below xs m. (times.each i low).covers piece.zone.period _ (h.times.each i low below xs m) };
    texts = record { each = λ i low. (texts.each i low).covers _ (h.texts.each i low) };
  };
}

pub wider_trans : (a b c : Hull) → IsWiderHull a b → IsWiderHull b c → IsWiderHull a c
wider_trans a b c f g = record { covers = λ piece h. g.covers piece (f.covers piece h) }

pub wider_self : (a : Hull) → IsWiderHull a a
wider_self a = record { covers = λ piece h. h }

-- the hulls of the first i zones
pub record AreHullsBefore (pieces : List Piece) (i : ℕ) (hulls : List Hull) : Type 0 where
  pub count : length hulls ≡ i
  pub each : (n : ℕ) → n < i → IsHullOf (piece_at pieces n) (hull_at hulls n)

pub hulls_more : (pieces : List Piece) (i : ℕ) (hulls : List Hull) (piece : Piece) (hull : Hull) → i < length pieces → piece ≡ get_or pieces i piece → AreHullsBefore pieces i hulls → IsHullOf piece hull → AreHullsBefore pieces (i + 1) (hulls ++ hull ∷ [])
hulls_more pieces i hulls piece hull low is are one = record {
  count = (let l : length (hulls ++ hull ∷ []) ≡ length hulls + 1 = length-append hulls (hull ∷ []) in let c = are.count in omega (arith, l, c));
  each = λ n h. elim (cases_eq n i) [
    | inl e ↦ subst (λ k. IsHullOf (piece_at pieces k) (hull_at (hulls ++ hull ∷ []) k)) (sym e) (subst (λ p. IsHullOf p (hull_at (hulls ++ hull ∷ []) i)) (is ∙ get_or_default pieces i piece _ low) (subst (IsHullOf piece) (sym here) one))
    | inr d ↦ subst (IsHullOf (piece_at pieces n)) (sym (get_or_append_left hulls (hull ∷ []) _ n (let c = are.count in omega (arith, c, d, h)))) (are.each n (omega (arith, d, h)))
  ];
}
  where
    here : hull_at (hulls ++ hull ∷ []) i ≡ hull
    here = ap (hull_at (hulls ++ hull ∷ [])) (let c = are.count in omega (arith, c)) ∙ get_or-append-add hulls (hull ∷ []) 0 _

pub hulls_all : (pieces : List Piece) (i : ℕ) (hulls : List Hull) → length pieces ≤ i → i ≤ length pieces → AreHullsBefore pieces i hulls → AreHullsOf pieces hulls
hulls_all pieces i hulls high low are = record { count = (let c = are.count in omega (arith, c)); each = λ n h. are.each n (omega (arith, h)) }
