-- The room that an answer with small zones has for its least tuple.
use Rattle.std.proofs.Common.{◌≡◌, ℕ, zero, suc, ◌+◌, ◌*◌, ◌^◌, ◌≤◌, List, [], ◌∷◌, length, take, sym, ap, subst, arith, ◌∙◌}
use Rattle.std.proofs.Math.Nat.{pow-succ', mul-le-mul_right}
use Rattle.lrp_model.specs.Sorts.{time_count}
use Rattle.lrp_zone.specs.Zones.{columns_of}
use Rattle.lrp_store.specs.Least.{HasRoom}
use Rattle.lrp_store.specs.Stores.{tables_at, zone_of}
use Rattle.lrp_answers.specs.declared.answer.Answer.{Answer}
use Rattle.lrp_cutting.proofs.Lists.{in_map}
use Rattle.lrp_outputs.specs.SmallAnswers.{IsSmallAnswer}
use Rattle.lrp_outputs.proofs.RoomLemmas.{within_more}

-- a number is below so many powers of two
pub one_more : (m : ℕ) → m + 1 ≤ 2 ^ m
one_more zero = omega arith
one_more (suc m) = let r : m + 1 ≤ 2 ^ m = one_more m in let e : 2 ^ suc m ≡ 2 * 2 ^ m = pow-succ' 2 m in omega arith

-- m * (m + 1) is at most 2 ^ (m + 1)
squares : (m : ℕ) → m * (m + 1) ≤ 2 ^ (m + 1)
squares zero = omega arith
squares (suc m) =
    let r : m * (m + 1) ≤ 2 ^ (m + 1) = squares m in
    let s : m + 1 ≤ 2 ^ m = one_more m in
    let d : 2 ^ (m + 1) ≡ 2 * 2 ^ m = ap (λ i. 2 ^ i) (omega arith) ∙ pow-succ' 2 m in
    let e : 2 ^ (suc m + 1) ≡ 2 * 2 ^ (m + 1) = ap (λ i. 2 ^ i) (omega arith) ∙ pow-succ' 2 (m + 1) in
    let f : suc m * (suc m + 1) ≡ m * (m + 1) + 2 * (m + 1) = omega arith in
    omega arith

scaled : (c m R : ℕ) → c ≤ m → 2 ^ (m + 1) * R ≤ 2 ^ 62 → c * ((m + 1) * R) ≤ 2 ^ 62
scaled c m R l h =
    let a : c * ((m + 1) * R) ≤ m * ((m + 1) * R) = mul-le-mul_right ((m + 1) * R) l in
    let b : m * (m + 1) * R ≤ 2 ^ (m + 1) * R = mul-le-mul_right R (squares m) in
    let e : m * ((m + 1) * R) ≡ m * (m + 1) * R = omega arith in
    omega arith

fewer : {X : Type 0} (n : ℕ) (xs : List X) → length (take n xs) ≤ n
fewer zero [] = omega arith
fewer zero (x ∷ xs) = omega arith
fewer (suc n) [] = omega arith
fewer (suc n) (x ∷ xs) = let r : length (take n xs) ≤ n = fewer n xs in omega arith

-- an answer with small zones has room
pub small_room : (a : Answer) (reach : ℕ) → IsSmallAnswer a reach → HasRoom a.store
small_room a R is = record {
  each = λ cell table held.
      let z = zone_of a.store cell table in
      let m = time_count a.head.columns in
      let c : columns_of z ≤ m = subst (λ n. columns_of z ≤ n) (sym a.times_are) (fewer a.store.shape.times cell.residues) in
      let small = is.small cell z (in_map (zone_of a.store cell) (tables_at a.store cell) table held) in (
        (m + 1) * R,
        record {
          room = scaled (columns_of z) m R c is.scaled;
          period = let w : a.store.period ≤ R = is.period in let one : 1 * R ≤ (m + 1) * R = mul-le-mul_right R (omega arith) in omega arith;
          closed = λ n closed same. record { each = λ i j il jl ne. within_more (m * R) ((m + 1) * R) _ (mul-le-mul_right R (omega arith)) ((small.closed n closed same).each i j il jl ne) };
        },
      );
}
