-- Numbers that stop at the greatest word.
use Rattle.std.proofs.Common.{◌≡◌, ◌+◌, ◌-◌, ◌<◌, ◌^◌, ℕ, zero, suc, List, [], ◌∷◌, ◌++◌, refl, ap, ap₂, arith}
use Rattle.std.proofs.lemmas.List.{map-append}
use Rattle.std.proofs.lemmas.List.Sums.{sum_by-cons}
use Rattle.lrp_wide.specs.Counts.{stopped, stopped_count, stopped_counts}
use Rattle.lrp_wide.specs.Inlining.{Counted, counted_atom, numbers_of}
use Rattle.lrp_model.specs.declared.tokens.Place.{Place}

counts-cons : (c : Counted) (cs : List Counted) → numbers_of (c ∷ cs) ≡ c.numbers + numbers_of cs
counts-cons c cs = sum_by-cons (λ (x : Counted). x.numbers) c cs

pub stopped-append : (cs ds : List Counted) → stopped_counts (cs ++ ds) ≡ stopped_counts cs ++ stopped_counts ds
stopped-append cs ds = map-append stopped_count cs ds

-- an atom that takes none isn't counted
pub counted-none : (p : Place) (n : ℕ) → n ≡ 0 → counted_atom p n ≡ []
counted-none p n e = ap (counted_atom p) e

pub counted-some : (p : Place) (n : ℕ) → 0 < n → counted_atom p n ≡ record { place = p; numbers = n } ∷ []
counted-some p zero lt = absurd (omega (arith, lt))
counted-some p (suc n) lt = refl

-- nor does it take some where they stop
pub stopped-atom : (p : Place) (n : ℕ) → counted_atom p (stopped n) ≡ stopped_counts (counted_atom p n)
stopped-atom p zero = counted-none p (stopped 0) (omega arith)
stopped-atom p (suc n) = counted-some p (stopped (suc n)) (omega arith)

-- what all take together stops where their numbers do
pub stopped-sum : (cs : List Counted) → stopped (numbers_of (stopped_counts cs)) ≡ stopped (numbers_of cs)
stopped-sum [] = refl
stopped-sum (c ∷ cs) =
    let rest : stopped (numbers_of (stopped_counts cs)) ≡ stopped (numbers_of cs) = stopped-sum cs in
    let kept : numbers_of (stopped_counts (c ∷ cs)) ≡ stopped c.numbers + numbers_of (stopped_counts cs) = counts-cons (stopped_count c) (stopped_counts cs) in
    let all : numbers_of (c ∷ cs) ≡ c.numbers + numbers_of cs = counts-cons c cs in
    omega (arith, rest, kept, all)

-- and where that hasn't stopped, none of them has
pub none-stopped : (cs : List Counted) → numbers_of (stopped_counts cs) < 2 ^ 64 - 1 → stopped_counts cs ≡ cs
none-stopped [] few = refl
none-stopped (c ∷ cs) few =
    let kept : numbers_of (stopped_counts (c ∷ cs)) ≡ stopped c.numbers + numbers_of (stopped_counts cs) = counts-cons (stopped_count c) (stopped_counts cs) in
    let own : stopped c.numbers ≡ c.numbers = omega (arith, few, kept) in
    let as_counted : ℕ → Counted = λ n. record { place = c.place; numbers = n } in
    ap₂ (λ n l. as_counted n ∷ l) own (none-stopped cs (omega (arith, few, kept)))
