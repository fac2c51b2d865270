-- The lines of trips, one after the other.
use Rattle.std.proofs.Common.{◌≡◌, ◌+◌, ℕ, zero, suc, List, [], ◌∷◌, ◌++◌, ap, ◌∙◌, sym, arith, add-one, append-nil, append_assoc}
use Rattle.std.specs.List.{flat_map, range_with_len}
use Rattle.std.proofs.lemmas.Grind.{flat_map-append}

-- one number more
range_more : (a n : ℕ) → range_with_len a (suc n) ≡ range_with_len a n ++ (a + n) ∷ []
range_more a zero = let e : a ≡ a + 0 = omega arith in ap (λ k. k ∷ []) e
range_more a (suc n) = let e : (a + 1) + n ≡ a + suc n = omega arith in ap (λ l. a ∷ l) (range_more (a + 1) n ∙ ap (λ k. range_with_len (a + 1) n ++ k ∷ []) e)

-- one line more
pub one_more : (line : ℕ → List ℕ) (head : List ℕ) (n : ℕ) → (head ++ flat_map line (range_with_len 0 n)) ++ line n ≡ head ++ flat_map line (range_with_len 0 (n + 1))
one_more line head n =
    let e : 0 + n ≡ n = omega arith in
    let lines = flat_map line (range_with_len 0 n) in
    append_assoc head lines (line n) ∙ ap (λ l. head ++ l) (
    ap (λ l. lines ++ l) (sym (append-nil (line n)) ∙ ap (λ k. line k ++ []) (sym e)) ∙ sym (flat_map-append line (range_with_len 0 n) ((0 + n) ∷ [])) ∙ ap (flat_map line) (sym (range_more 0 n)) ∙ ap (λ k. flat_map line (range_with_len 0 k)) (sym (add-one n)))
