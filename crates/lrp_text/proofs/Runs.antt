-- The longest run of bytes with a test, and what stands after it.
use Rattle.std.proofs.Common.{◌≡◌, ◌-◌, ◌+◌, ℕ, Bool, true, false, List, [], ◌∷◌, ◌++◌, refl, ap, ◌∙◌, sym, if◌then◌else◌, length, take, arith, subst}
use Rattle.std.proofs.Math.Seq.{take-append_seam}
use Rattle.std.proofs.lemmas.List.{length-append}
use Rattle.lrp_model.specs.Lexing.{run, after_run}

-- a run and what stands after it, where a byte is of the test or not
whole_at : (test : ℕ → Bool) (b : ℕ) (bs : List ℕ) (c : Bool) → run test bs ++ after_run test bs ≡ bs → (if c then b ∷ run test bs else []) ++ (if c then after_run test bs else b ∷ bs) ≡ b ∷ bs
whole_at test b bs true e = ap (λ x. b ∷ x) e
whole_at test b bs false e = refl

-- a run and what stands after it are the bytes
pub run_whole : (test : ℕ → Bool) (bs : List ℕ) → run test bs ++ after_run test bs ≡ bs
unfolding run after_run
run_whole test [] = refl
run_whole test (b ∷ bs) = whole_at test b bs (test b) (run_whole test bs)

-- what stands after a run is no longer than the bytes
pub after_shorter : (test : ℕ → Bool) (bs : List ℕ) → length (run test bs) + length (after_run test bs) ≡ length bs
after_shorter test bs = sym (length-append (run test bs) (after_run test bs)) ∙ ap length (run_whole test bs)

-- the front of two lists
pub front_of : {A : Type 0} (xs ys : List A) → take (length (xs ++ ys) - length ys) (xs ++ ys) ≡ xs
front_of xs ys =
    let n : length (xs ++ ys) - length ys ≡ length xs = omega (arith, length-append xs ys) in
    ap (λ k. take k (xs ++ ys)) n ∙ take-append_seam xs ys

-- the bytes up to what stands after a run are the run
pub run_taken : (test : ℕ → Bool) (bs : List ℕ) → take (length bs - length (after_run test bs)) bs ≡ run test bs
run_taken test bs = subst (λ x. take (length x - length (after_run test bs)) x ≡ run test bs) (run_whole test bs) (front_of (run test bs) (after_run test bs))
