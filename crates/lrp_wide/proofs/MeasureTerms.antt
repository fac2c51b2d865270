-- Terms that have a column, counted one after the other.
use Rattle.std.proofs.Common.{◌≡◌, ◌+◌, ◌<◌, ◌≤◌, ℕ, zero, suc, min, Bool, true, false, cond, List, [], ◌∷◌, length, take, get_or, refl, ap, sym, ◌∙◌, arith, add-one}
use Rattle.lrp_model.specs.declared.relations.Column.{Column}
use Rattle.lrp_model.specs.declared.raw.RawTerm.{RawTerm}
use Rattle.lrp_model.specs.declared.raw.RawTermKind.{RawTermKind}
use Rattle.lrp_model.specs.declared.raw.RawTermKind.TheVariants.{Int, Text, Var, Shifted}
use Rattle.lrp_model.specs.QueryMeaning.{star_name}
use Rattle.std.specs.Str.{bytes_eq}
use Rattle.lrp_wide.specs.Meaning.{is_star, is_star_kind}
use Rattle.lrp_wide.specs.Inlining.{star_total}
use Rattle.lrp_wide.specs.Sizes.{compared_total, is_compared, is_compared_kind}

-- how many of the terms that have a column pass
abbrev total : (RawTerm → Bool) → List Column → List RawTerm → ℕ
total p [] ts = 0
total p (c ∷ cs) [] = 0
total p (c ∷ cs) (t ∷ ts) = cond (p t) (suc (total p cs ts)) (total p cs ts)

of_stars : (cs : List Column) (ts : List RawTerm) → star_total cs ts ≡ total is_star cs ts
of_stars [] ts = refl
of_stars (c ∷ cs) [] = refl
of_stars (c ∷ cs) (t ∷ ts) = ap (λ n. cond (is_star t) (suc n) n) (of_stars cs ts)

of_compared : (cs : List Column) (ts : List RawTerm) → compared_total cs ts ≡ total is_compared cs ts
of_compared [] ts = refl
of_compared (c ∷ cs) [] = refl
of_compared (c ∷ cs) (t ∷ ts) = ap (λ n. cond (is_compared t) (suc n) n) (of_compared cs ts)

none_left : (p : RawTerm → Bool) (cs : List Column) → total p cs [] ≡ 0
none_left p [] = refl
none_left p (c ∷ cs) = refl

chosen : (b : Bool) (m n : ℕ) → m ≡ n → cond b (suc m) m ≡ n + cond b 1 0
chosen true m n e = omega (arith, e)
chosen false m n e = omega (arith, e)

moved : (a b : Bool) (m n : ℕ) → m ≡ n + cond b 1 0 → cond a (suc m) m ≡ cond a (suc n) n + cond b 1 0
moved true true m n e = omega (arith, e)
moved true false m n e = omega (arith, e)
moved false true m n e = e
moved false false m n e = e

total_more : (p : RawTerm → Bool) (cs : List Column) (ts : List RawTerm) (i : ℕ) (t : RawTerm) → i < length cs → i < length ts → t ≡ get_or ts i t → total p cs (take (suc i) ts) ≡ total p cs (take i ts) + cond (p t) 1 0
total_more p [] ts i t below within is = absurd (omega (arith, below))
total_more p (c ∷ cs) [] i t below within is = absurd (omega (arith, within))
total_more p (c ∷ cs) (u ∷ ts) zero t below within is = ap (λ x. cond (p x) (suc (total p cs [])) (total p cs [])) (sym is) ∙ chosen (p t) (total p cs []) 0 (none_left p cs)
total_more p (c ∷ cs) (u ∷ ts) (suc i) t below within is =
    moved (p u) (p t) (total p cs (take (suc i) ts)) (total p cs (take i ts)) (total_more p cs ts i t (omega (arith, below)) (omega (arith, within)) is)

total_end : (p : RawTerm → Bool) (cs : List Column) (ts : List RawTerm) (n : ℕ) → n ≡ min (length ts) (length cs) → total p cs (take n ts) ≡ total p cs ts
total_end p [] ts n e = refl
total_end p (c ∷ cs) [] zero e = refl
total_end p (c ∷ cs) [] (suc n) e = refl
total_end p (c ∷ cs) (t ∷ ts) zero e = absurd (omega (arith, e))
total_end p (c ∷ cs) (t ∷ ts) (suc n) e = ap (λ m. cond (p t) (suc m) m) (total_end p cs ts n (omega (arith, e)))

-- one term more
pub stars_more : (cs : List Column) (ts : List RawTerm) (i : ℕ) (t : RawTerm) → i < length cs → i < length ts → t ≡ get_or ts i t → star_total cs (take (i + 1) ts) ≡ star_total cs (take i ts) + cond (is_star t) 1 0
stars_more cs ts i t below within is =
    ap (λ n. star_total cs (take n ts)) (add-one i) ∙ of_stars cs (take (suc i) ts) ∙ total_more is_star cs ts i t below within is ∙ ap (λ n. n + cond (is_star t) 1 0) (sym (of_stars cs (take i ts)))

pub compared_more : (cs : List Column) (ts : List RawTerm) (i : ℕ) (t : RawTerm) → i < length cs → i < length ts → t ≡ get_or ts i t → compared_total cs (take (i + 1) ts) ≡ compared_total cs (take i ts) + cond (is_compared t) 1 0
compared_more cs ts i t below within is =
    ap (λ n. compared_total cs (take n ts)) (add-one i) ∙ of_compared cs (take (suc i) ts) ∙ total_more is_compared cs ts i t below within is ∙ ap (λ n. n + cond (is_compared t) 1 0) (sym (of_compared cs (take i ts)))

-- those that have a column are all that count
pub stars_end : (cs : List Column) (ts : List RawTerm) (n : ℕ) → n ≡ min (length ts) (length cs) → star_total cs (take n ts) ≡ star_total cs ts
stars_end cs ts n e = of_stars cs (take n ts) ∙ total_end is_star cs ts n e ∙ sym (of_stars cs ts)

pub compared_end : (cs : List Column) (ts : List RawTerm) (n : ℕ) → n ≡ min (length ts) (length cs) → compared_total cs (take n ts) ≡ compared_total cs ts
compared_end cs ts n e = of_compared cs (take n ts) ∙ total_end is_compared cs ts n e ∙ sym (of_compared cs ts)

-- none at first
pub stars_begin : (cs : List Column) → star_total cs [] ≡ 0
stars_begin cs = of_stars cs [] ∙ none_left is_star cs

pub compared_begin : (cs : List Column) → compared_total cs [] ≡ 0
compared_begin cs = of_compared cs [] ∙ none_left is_compared cs

-- a term is a `*` or compared, if any of these
pub one_at_most : (t : RawTerm) → cond (is_star t) 1 0 + cond (is_compared t) 1 0 ≤ 1
one_at_most t = by t.kind
  where
    either : (b : Bool) → cond b 1 0 + 0 ≤ 1
    either true = omega arith
    either false = omega arith

    by : (k : RawTermKind) → cond (is_star_kind k) 1 0 + cond (is_compared_kind k) 1 0 ≤ 1
    by (Int x) = omega arith
    by (Text x) = omega arith
    by (Var v) = either (bytes_eq v star_name)
    by (Shifted v plus) = omega arith
