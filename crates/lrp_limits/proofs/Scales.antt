-- A reach doubled once for each time column.
use Rattle.std.proofs.Common.{◌≡◌, ◌<◌, ◌+◌, ◌*◌, ◌^◌, ℕ, suc, Bool, true, false, cond, min, List, [], ◌∷◌, ◌++◌, length, take, get_or, refl, sym, ap, ◌∙◌, arith}
use Rattle.std.proofs.lemmas.List.{take_more}
use Rattle.std.proofs.Math.Nat.{pow-succ', mul_assoc}
use Rattle.std.proofs.lemmas.List.Sums.{sum_by_push}
use Rattle.lrp_model.specs.Sorts.{same_sort, time_count}
use Rattle.lrp_model.specs.declared.relations.Column.{Column}
use Rattle.lrp_model.specs.declared.relations.Sort.TheVariants.{Time}
use Rattle.lrp_limits.specs.Capped.{capped}

cap_double : (c a x : ℕ) → x ≡ min a c → min (2 * x) c ≡ min (2 * a) c
cap_double c a x e = omega arith

pow_suc : (m n : ℕ) → 2 * (2 ^ (m + 1) * n) ≡ 2 ^ (m + 1 + 1) * n
pow_suc m n =
    let k : m + 1 + 1 ≡ suc (m + 1) = omega arith in
    let e : 2 ^ (m + 1 + 1) ≡ 2 * 2 ^ (m + 1) = ap (λ i. 2 ^ i) k ∙ pow-succ' 2 (m + 1) in
    sym (mul_assoc 2 (2 ^ (m + 1)) n) ∙ ap (λ x. x * n) (sym e)

pow_one : (n : ℕ) → 2 * n ≡ 2 ^ (0 + 1) * n
pow_one n = omega arith

pub starts : (reach all n : ℕ) → all ≡ capped (2 * reach) → reach ≡ capped n → all ≡ capped (2 ^ (time_count [] + 1) * n)
starts reach all n e h = e ∙ cap_double _ n reach h ∙ ap capped (pow_one n)

by_sort : (b : Bool) (m n old new : ℕ) → new ≡ cond b (capped (2 * old)) old → old ≡ capped (2 ^ (m + 1) * n) → new ≡ capped (2 ^ (m + cond b 1 0 + 1) * n)
by_sort true m n old new e h = e ∙ cap_double _ (2 ^ (m + 1) * n) old h ∙ ap capped (pow_suc m n)
by_sort false m n old new e h = e ∙ h ∙ ap (λ k. capped (2 ^ (k + 1) * n)) (omega arith)

columns_more : (cs : List Column) (i : ℕ) (c : Column) → i < length cs → c ≡ get_or cs i c → time_count (take (i + 1) cs) ≡ time_count (take i cs) + cond (same_sort c.sort Time) 1 0
columns_more cs i c lt is = ap time_count (take_more cs i c lt ∙ ap (λ x. take i cs ++ x ∷ []) (sym is)) ∙ sum_by_push (λ x. cond (same_sort x.sort Time) 1 0) (take i cs) c

pub goes_on : (cs : List Column) (i : ℕ) (c : Column) (n old new : ℕ) → i < length cs → c ≡ get_or cs i c → old ≡ capped (2 ^ (time_count (take i cs) + 1) * n) → new ≡ cond (same_sort c.sort Time) (capped (2 * old)) old → new ≡ capped (2 ^ (time_count (take (i + 1) cs) + 1) * n)
goes_on cs i c n old new lt is h e = by_sort (same_sort c.sort Time) (time_count (take i cs)) n old new e h ∙ ap (λ k. capped (2 ^ (k + 1) * n)) (sym (columns_more cs i c lt is))

pub none_times : (reach n : ℕ) → reach ≡ capped n → reach ≡ capped (2 ^ 0 * n)
none_times reach n h = h ∙ ap capped (one_time n)
  where
    one_time : (n : ℕ) → n ≡ 2 ^ 0 * n
    one_time n = omega arith

pow_more : (t n : ℕ) → 2 * (2 ^ t * n) ≡ 2 ^ (t + 1) * n
pow_more t n =
    let k : t + 1 ≡ suc t = omega arith in
    let e : 2 ^ (t + 1) ≡ 2 * 2 ^ t = ap (λ i. 2 ^ i) k ∙ pow-succ' 2 t in
    sym (mul_assoc 2 (2 ^ t) n) ∙ ap (λ x. x * n) (sym e)

pub once_more : (t n old new : ℕ) → new ≡ capped (2 * old) → old ≡ capped (2 ^ t * n) → new ≡ capped (2 ^ (t + 1) * n)
once_more t n old new e h = e ∙ cap_double _ (2 ^ t * n) old h ∙ ap capped (pow_more t n)
