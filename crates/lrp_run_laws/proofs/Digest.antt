-- The files' digest is 32 bytes.
use Rattle.std.proofs.Common.{◌≡◌, ◌*◌, ◌<◌, ◌++◌, ℕ, zero, suc, List, [], ◌∷◌, length, length-append, refl, arith, w32}
use Rattle.std.specs.Prelude.{slice_index}
use Rattle.std.specs.List.{AllByRecursion}
use Rattle.std.specs.Int.{to_be_bytes}
use Rattle.sha2.specs.Sha256.{digest_bytes, final_hash, initial_hash_256, sha256}
use Rattle.lrp_model.specs.PrintedPages.{IsDigest}
use Rattle.lrp_token.specs.Files.{files_digest}

all_both : {X : Type 0} (P : X → Type 0) (xs ys : List X) → AllByRecursion P xs → AllByRecursion P ys → AllByRecursion P (xs ++ ys)
all_both P [] ys h k = k
all_both P (x ∷ xs) ys h k = (h.0, all_both P xs ys h.1 k)

word_length : (n : ℕ) → length (to_be_bytes w32 n) ≡ 4
word_length n = refl

word_small : (n : ℕ) → AllByRecursion (λ b. b < 256) (to_be_bytes w32 n)
word_small n = (omega arith, (omega arith, (omega arith, (omega arith, tt))))

digest_length : (h : List ℕ) (n : ℕ) → length (digest_bytes h n) ≡ 4 * n
unfolding digest_bytes
digest_length h zero = refl
digest_length h (suc n) =
    let before : length (digest_bytes h n) ≡ 4 * n = digest_length h n in
    omega (arith, length-append (digest_bytes h n) (to_be_bytes w32 (slice_index h n)), word_length (slice_index h n))

digest_small : (h : List ℕ) (n : ℕ) → AllByRecursion (λ b. b < 256) (digest_bytes h n)
unfolding digest_bytes
digest_small h zero = tt
digest_small h (suc n) = all_both (λ b. b < 256) (digest_bytes h n) (to_be_bytes w32 (slice_index h n)) (digest_small h n) (word_small (slice_index h n))

-- whatever the files are
pub digest_is : (database query : List ℕ) → IsDigest (files_digest database query)
unfolding sha256
digest_is database query =
    let h = final_hash initial_hash_256 (sha256 database ++ sha256 query) in
    record { size = digest_length h 8; bytes = digest_small h 8 }
