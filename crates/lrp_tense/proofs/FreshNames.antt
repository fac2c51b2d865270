-- The names that an operator brings differ from each name without `~`, and from those of operators with other numbers.
use Rattle.std.proofs.Common.{◌≡◌, ◌≢◌, ℕ, ◌<◌, ◌^◌, List, [], ◌∷◌, ◌++◌, refl, sym, ap₂, subst, arith}
use Rattle.std.specs.Fmt.{decimal}
use Rattle.std.specs.Char.{digit_value}
use Rattle.std.specs.Str.Parse.{AllDigits}
use Rattle.std.proofs.lemmas.Fmt.{decimal_injective, decimal_is_IsNumeral}
use Rattle.lrp_model.specs.Texts.{Identifier}
use Rattle.lrp_tense.specs.Expanding.{IsPlain, moment_name, between_name}

-- a text is cut in one way at its first `~`
split : (xs ys us vs : List ℕ) → IsPlain xs → IsPlain ys → xs ++ 126 ∷ us ≡ ys ++ 126 ∷ vs → us ≡ vs
split [] [] us vs h k e = cc
split [] (y ∷ ys) us vs h k e = let d : 126 ≡ y = cc in absurd (k.0 (sym d))
split (x ∷ xs) [] us vs h k e = let d : x ≡ 126 = cc in absurd (h.0 d)
split (x ∷ xs) (y ∷ ys) us vs h k e = let f : xs ++ 126 ∷ us ≡ ys ++ 126 ∷ vs = cc in split xs ys us vs h.1 k.1 f

-- the same, of what stands before it
front : (xs ys us vs : List ℕ) → IsPlain xs → IsPlain ys → xs ++ 126 ∷ us ≡ ys ++ 126 ∷ vs → xs ≡ ys
front [] [] us vs h k e = refl
front [] (y ∷ ys) us vs h k e = let d : 126 ≡ y = cc in absurd (k.0 (sym d))
front (x ∷ xs) [] us vs h k e = let d : x ≡ 126 = cc in absurd (h.0 d)
front (x ∷ xs) (y ∷ ys) us vs h k e =
    let d : x ≡ y = cc in
    let f : xs ++ 126 ∷ us ≡ ys ++ 126 ∷ vs = cc in
    ap₂ (λ z zs. z ∷ zs) d (front xs ys us vs h.1 k.1 f)

inside : (xs us : List ℕ) → IsPlain (xs ++ 126 ∷ us) → ⊥
inside [] us h = h.0 refl
inside (x ∷ xs) us h = inside xs us h.1

digits_plain : (ds : List ℕ) → AllDigits 10 ds → IsPlain ds
digits_plain [] d = tt
digits_plain (c ∷ cs) d = ((λ e. absurd (large (subst (λ z. digit_value z < 10) e d.0))), digits_plain cs d.1)
  where
    large : digit_value 126 < 10 → ⊥
    large lt = omega arith

decimal_plain : (n : ℕ) → n < 2 ^ 64 → IsPlain (decimal n)
decimal_plain n lt = digits_plain (decimal n) (decimal_is_IsNumeral n lt).0.1

pub moment_not_plain : (v w : Identifier) (i : ℕ) → IsPlain w → moment_name v i ≢ w
moment_not_plain v w i h e = inside v (decimal i) (subst IsPlain (sym e) h)

pub between_not_plain : (v w : Identifier) (i : ℕ) → IsPlain w → between_name v i ≢ w
between_not_plain v w i h e = inside v (decimal i ++ 126 ∷ []) (subst IsPlain (sym e) h)

module _ (v u : Identifier) (i j : ℕ) (vp : IsPlain v) (up : IsPlain u) (il : i < 2 ^ 64) (jl : j < 2 ^ 64) where
  pub moments_differ : i ≢ j → moment_name v i ≢ moment_name u j
  moments_differ ne e = ne (decimal_injective i j il jl (split v u (decimal i) (decimal j) vp up e))

  pub betweens_differ : i ≢ j → between_name v i ≢ between_name u j
  betweens_differ ne e =
      ne (decimal_injective i j il jl (front (decimal i) (decimal j) [] [] (decimal_plain i il) (decimal_plain j jl) (split v u (decimal i ++ 126 ∷ []) (decimal j ++ 126 ∷ []) vp up e)))

  pub moment_not_between : moment_name v i ≢ between_name u j
  moment_not_between e = inside (decimal j) [] (subst IsPlain (split v u (decimal i) (decimal j ++ 126 ∷ []) vp up e) (decimal_plain i il))

  pub between_not_moment : between_name v i ≢ moment_name u j
  between_not_moment e = inside (decimal i) [] (subst IsPlain (sym (split v u (decimal i ++ 126 ∷ []) (decimal j) vp up e)) (decimal_plain j jl))
