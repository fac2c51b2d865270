-- Ends in the order in which they are sorted: none, as the least one, before all others.
use Rattle.std.proofs.Common.{◌≡◌, Option, Some, None, false, Ordering, Less, Equal, Greater, arith, refl, subst}
use Rattle.std.specs.Prelude.{ℤ, ◌<ℤ◌}
use Rattle.std.specs.Option.{option_cmp}
use Rattle.std.specs.Ordering.{int_cmp, is_lt, ordering_then, MatchOrdering}
use Rattle.std.specs.Cmp.{int_ranks}
use Rattle.std.proofs.lemmas.Int.{ints, by_lt_z}
use Rattle.lrp_matrix.specs.Ranges.{Above}

less_of : (x y : ℤ) (o : Ordering) → MatchOrdering o (x <ℤ y) (x ≡ y) (y <ℤ x) → x <ℤ y → o ≡ Less
less_of x y Less m l = refl
less_of x y Equal m l = absurd (omega (arith, ints))
less_of x y Greater m l = absurd (omega (arith, ints))

-- what is not before another end
pub not_before : (e f : Option ℤ) (q : Ordering) → is_lt (ordering_then (option_cmp int_cmp f e) q) ≡ false → (x : ℤ) → Above x f → Above x e
not_before None f q h x a = tt
not_before (Some a) None q h x b = absurd (cc)
not_before (Some a) (Some b) q h x above = by_lt_z b a
    (λ lt. let less : int_cmp b a ≡ Less = less_of b a (int_cmp b a) (int_ranks b a) lt in
    let t : is_lt (ordering_then Less q) ≡ false = subst (λ o. is_lt (ordering_then o q) ≡ false) less h in absurd (cc))
    (λ le. omega (arith, ints))
