-- One step of closing in place: the row and the column of the node stay as they are.
use Rattle.std.proofs.Common.{◌≡◌, Option, Some, None, List, ℕ, inl, sym, subst, arith, refl}
use Rattle.std.specs.Option.{is_some}
use Rattle.std.specs.Prelude.{ℤ, pos, Bool, true, not}
use Rattle.std.proofs.lemmas.Int.{ints}
use Rattle.lrp_theory.specs.Bounds.{plus, Within}
use Rattle.lrp_theory.specs.Entries.{entry, IsLesser, IsThrough}

-- no bound stands where none is found
pub none_found : (e : Option ℤ) (r : Bool) → is_some e ≡ not r → r ≡ true → e ≡ None
none_found None r h t = refl
none_found (Some a) r h t = cc

-- without a bound to the node there is no way through it
pub no_way : (old : List (Option ℤ)) (k p q : ℕ) → entry old p k ≡ None → IsThrough old k old p q
no_way old k p q e = record { lesser = record { below = λ d h. (h, subst (λ f. Within d (plus f (entry old k q))) (sym e) tt); one = inl refl } }

-- a way that begins with a bound of the node from itself is no shorter
longer : (d : ℤ) (e f : Option ℤ) → Within (pos 0) e → Within d f → Within d (plus e f)
longer d None f s h = tt
longer d (Some a) None s h = tt
longer d (Some a) (Some b) s h = omega (arith, ints)

-- so the node's own row is lowered already
pub own_row : (old new : List (Option ℤ)) (k q : ℕ) → Within (pos 0) (entry old k k) → entry new k q ≡ entry old k q → IsThrough old k new k q
own_row old new k q s e = record {
  lesser = record { below = λ d h. let g : Within d (entry old k q) = subst (λ f. Within d f) e h in (g, longer d (entry old k k) (entry old k q) s g); one = inl e };
}

-- a row that was lowered from bounds that are still the old ones
pub through_of : (old mid new : List (Option ℤ)) (k p q : ℕ) → entry mid p q ≡ entry old p q → entry mid p k ≡ entry old p k → entry mid k q ≡ entry old k q → IsThrough mid k new p q → IsThrough old k new p q
through_of old mid new k p q a b c h = record { lesser = subst (λ e. IsLesser (entry new p q) e (plus (entry old p k) (entry old k q))) a (subst (λ e. IsLesser (entry new p q) (entry mid p q) (plus e (entry old k q))) b (subst (λ e. IsLesser (entry new p q) (entry mid p q) (plus (entry mid p k) e)) c h.lesser)) }
