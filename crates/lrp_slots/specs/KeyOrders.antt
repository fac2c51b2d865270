-- Short keys are in the order of their cells. No public clause cites this module.
use Rattle.std.proofs.Common.{◌≡◌, ℕ, ◌/◌, ◌%◌, ◌^◌, ◌<◌, arith, Ordering, Less, Equal, Greater, refl, sym, ap, ap₂, ◌∙◌}
use Rattle.std.specs.Ordering.{ordering_then, ordering_reverse, nat_cmp, int_cmp}
use Rattle.std.proofs.lemmas.Cmp.{by_ranked, ranked, nat_cmp_total, tied_itself}
use Rattle.lrp_slots.specs.declared.medium.Medium.{Medium}
use Rattle.lrp_slots.specs.declared.narrow.Narrow.{Narrow}
use Rattle.lrp_slots.specs.Lists.{cell_cmp}
use Rattle.lrp_slots.specs.Medium.{medium_cmp, medium_cell}
use Rattle.lrp_slots.specs.Narrow.{narrow_cmp, wide}

-- what is equal after does not decide
after_two : (r s t : Ordering) → ordering_then r (ordering_then s t) ≡ ordering_then r (ordering_then s (ordering_then t Equal))
after_two Less s t = refl
after_two Greater s t = refl
after_two Equal Less t = refl
after_two Equal Greater t = refl
after_two Equal Equal Less = refl
after_two Equal Equal Equal = refl
after_two Equal Equal Greater = refl

decided : (p q r s t : Ordering) → ordering_then p (ordering_then q (ordering_then r (ordering_then s t))) ≡ ordering_then (ordering_then p (ordering_then q Equal)) (ordering_then r (ordering_then s (ordering_then t Equal)))
decided Less q r s t = refl
decided Greater q r s t = refl
decided Equal Less r s t = refl
decided Equal Greater r s t = refl
decided Equal Equal r s t = after_two r s t

-- the first of two orders decides, or the second
grouped : (p q r : Ordering) → ordering_then (ordering_then p q) r ≡ ordering_then p (ordering_then q r)
grouped Less q r = refl
grouped Equal q r = refl
grouped Greater q r = refl

-- the order of two numbers, as calls tell it
number_less : (x y : ℕ) → x < y → nat_cmp x y ≡ Less
number_less x y l = by_ranked (x < y) (x ≡ y) (y < x) (nat_cmp x y) (ranked x y (nat_cmp x y) refl) (λ e m. e) (λ e m. absurd (omega arith)) (λ e m. absurd (omega arith))

number_greater : (x y : ℕ) → y < x → nat_cmp x y ≡ Greater
number_greater x y l = nat_cmp_total.antisymm x y ∙ ap ordering_reverse (number_less y x l)

-- two numbers are in the order of their upper halves, and then of their lower ones
halves_order : (x y : ℕ) → nat_cmp x y ≡ ordering_then (nat_cmp (x / 2 ^ 32) (y / 2 ^ 32)) (nat_cmp (x % 2 ^ 32) (y % 2 ^ 32))
halves_order x y = by_upper (nat_cmp (x / 2 ^ 32) (y / 2 ^ 32)) refl
  where
    by_lower : x / 2 ^ 32 ≡ y / 2 ^ 32 → (o : Ordering) → o ≡ nat_cmp (x % 2 ^ 32) (y % 2 ^ 32) → nat_cmp x y ≡ o
    by_lower same Less e = let l : x % 2 ^ 32 < y % 2 ^ 32 = ranked _ _ Less e in number_less x y (omega arith)
    by_lower same Equal e =
        let l : x % 2 ^ 32 ≡ y % 2 ^ 32 = ranked _ _ Equal e in
        let one : x ≡ y = omega arith in
        ap (λ z. nat_cmp x z) (sym one) ∙ tied_itself nat_cmp_total x
    by_lower same Greater e = let l : y % 2 ^ 32 < x % 2 ^ 32 = ranked _ _ Greater e in number_greater x y (omega arith)

    by_upper : (o : Ordering) → o ≡ nat_cmp (x / 2 ^ 32) (y / 2 ^ 32) → nat_cmp x y ≡ ordering_then o (nat_cmp (x % 2 ^ 32) (y % 2 ^ 32))
    by_upper Less e = let l : x / 2 ^ 32 < y / 2 ^ 32 = ranked _ _ Less e in number_less x y (omega arith)
    by_upper Equal e = by_lower (ranked _ _ Equal e) (nat_cmp (x % 2 ^ 32) (y % 2 ^ 32)) refl
    by_upper Greater e = let l : y / 2 ^ 32 < x / 2 ^ 32 = ranked _ _ Greater e in number_greater x y (omega arith)

pub same_order : (a b : Narrow) → narrow_cmp a b ≡ cell_cmp (wide a) (wide b)
same_order a b =
    ap (λ o. ordering_then o (ordering_then (int_cmp a.first_residue b.first_residue) (ordering_then (int_cmp a.second_residue b.second_residue) (int_cmp a.third_residue b.third_residue)))) (halves_order a.texts b.texts)
    ∙ grouped (nat_cmp (a.texts / 2 ^ 32) (b.texts / 2 ^ 32)) (nat_cmp (a.texts % 2 ^ 32) (b.texts % 2 ^ 32)) _
    ∙ decided (nat_cmp (a.texts / 2 ^ 32) (b.texts / 2 ^ 32)) (nat_cmp (a.texts % 2 ^ 32) (b.texts % 2 ^ 32)) (int_cmp a.first_residue b.first_residue) (int_cmp a.second_residue b.second_residue) (int_cmp a.third_residue b.third_residue)

-- what is equal at the end does not decide
ends_equal : (r : Ordering) → r ≡ ordering_then r Equal
ends_equal Less = refl
ends_equal Equal = refl
ends_equal Greater = refl

-- the orders of texts decide, or those of residues
texts_first : (o p q r s t w : Ordering) → ordering_then o (ordering_then p (ordering_then q (ordering_then r (ordering_then s (ordering_then t w))))) ≡ ordering_then (ordering_then o (ordering_then p (ordering_then q (ordering_then r (ordering_then s (ordering_then t Equal)))))) w
texts_first Less p q r s t w = refl
texts_first Greater p q r s t w = refl
texts_first Equal Less q r s t w = refl
texts_first Equal Greater q r s t w = refl
texts_first Equal Equal Less r s t w = refl
texts_first Equal Equal Greater r s t w = refl
texts_first Equal Equal Equal Less s t w = refl
texts_first Equal Equal Equal Greater s t w = refl
texts_first Equal Equal Equal Equal Less t w = refl
texts_first Equal Equal Equal Equal Greater t w = refl
texts_first Equal Equal Equal Equal Equal Less w = refl
texts_first Equal Equal Equal Equal Equal Equal w = refl
texts_first Equal Equal Equal Equal Equal Greater w = refl

pub same_medium_order : (a b : Medium) → medium_cmp a b ≡ cell_cmp (medium_cell a) (medium_cell b)
same_medium_order a b =
    let o : Ordering = nat_cmp (a.first_texts / 2 ^ 32) (b.first_texts / 2 ^ 32) in
    let p : Ordering = nat_cmp (a.first_texts % 2 ^ 32) (b.first_texts % 2 ^ 32) in
    let q : Ordering = nat_cmp (a.next_texts / 2 ^ 32) (b.next_texts / 2 ^ 32) in
    let r : Ordering = nat_cmp (a.next_texts % 2 ^ 32) (b.next_texts % 2 ^ 32) in
    let s : Ordering = nat_cmp (a.last_texts / 2 ^ 32) (b.last_texts / 2 ^ 32) in
    let t : Ordering = nat_cmp (a.last_texts % 2 ^ 32) (b.last_texts % 2 ^ 32) in
    let i : Ordering = int_cmp a.first_residue b.first_residue in
    let j : Ordering = int_cmp a.second_residue b.second_residue in
    let k : Ordering = int_cmp a.third_residue b.third_residue in
    let l : Ordering = int_cmp a.fourth_residue b.fourth_residue in
    let residues : Ordering = ordering_then i (ordering_then j (ordering_then k l)) in
    let texts : Ordering = ordering_then o (ordering_then p (ordering_then q (ordering_then r (ordering_then s (ordering_then t Equal))))) in
    ap₂ (λ n m. ordering_then n (ordering_then m (ordering_then (nat_cmp a.last_texts b.last_texts) residues))) (halves_order a.first_texts b.first_texts) (halves_order a.next_texts b.next_texts)
    ∙ ap (λ n. ordering_then (ordering_then o p) (ordering_then (ordering_then q r) (ordering_then n residues))) (halves_order a.last_texts b.last_texts)
    ∙ grouped o p _
    ∙ ap (λ n. ordering_then o (ordering_then p n)) (grouped q r _)
    ∙ ap (λ n. ordering_then o (ordering_then p (ordering_then q (ordering_then r n)))) (grouped s t _)
    ∙ texts_first o p q r s t residues
    ∙ ap (λ n. ordering_then texts (ordering_then i (ordering_then j (ordering_then k n)))) (ends_equal l)
