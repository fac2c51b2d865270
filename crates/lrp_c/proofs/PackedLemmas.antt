-- What is packed is so in one way, and is taken out piece by piece.
use Rattle.std.proofs.Common.{◌≡◌, ◌<◌, ◌+◌, ◌++◌, ◌^◌, ℕ, List, [], ◌∷◌, length, take, drop, sym, ap, ◌∙◌, refl, arith, true, false}
use Rattle.std.specs.Bool.{◌==◌}
use Rattle.std.specs.Int.{w64, to_le_bytes, from_le_bytes}
use Rattle.std.specs.List.{flat_map}
use Rattle.std.specs.Str.{IsUtf8}
use Rattle.std.proofs.lemmas.Nat.{from_le_bytes-to_le_bytes_8}
use Rattle.std.proofs.lemmas.List.{append_assoc, length-append, take-append-drop}
use Rattle.std.proofs.lemmas.Grind.{common_steps, flat_map-append}
use Rattle.std.proofs.Math.Seq.{drop-append_seam, take-append_seam}
use Rattle.lrp_io.specs.declared.shelf.File.{File}
use Rattle.lrp_c.specs.Packed.{framed, framed_file, packed_words, packed_files, AreFiles, AreWords}

-- numbers that are spelled alike are the same
spelled_same : (m n : ℕ) → m < 2 ^ 64 → n < 2 ^ 64 → to_le_bytes w64 m ≡ to_le_bytes w64 n → m ≡ n
spelled_same m n fm fn e = sym (from_le_bytes-to_le_bytes_8 m fm) ∙ ap (from_le_bytes w64) e ∙ from_le_bytes-to_le_bytes_8 n fn

-- the first byte string of a packing and what comes after it are its own
pub framed_same : (p q r s : List ℕ) → length p < 2 ^ 64 → length q < 2 ^ 64 → framed p ++ r ≡ framed q ++ s → (p ≡ q) × (r ≡ s)
framed_same p q r s fp fq e =
    let n : length p ≡ length q = spelled_same (length p) (length q) fp fq (ap (take 8) e) in
    let b : p ++ r ≡ q ++ s = ap (drop 8) e in (
      sym (take-append_seam p r) ∙ ap (take (length p)) b ∙ ap (λ k. take k (q ++ s)) n ∙ take-append_seam q s,
      sym (drop-append_seam p r) ∙ ap (drop (length p)) b ∙ ap (λ k. drop k (q ++ s)) n ∙ drop-append_seam q s,
    )

-- a byte string and what comes after it are at least as long as their length
pub framed_length : (p r : List ℕ) → length (framed p ++ r) ≡ 8 + (length p + length r)
framed_length p r = let n : length (p ++ r) ≡ length p + length r = length-append p r in omega arith

-- a byte string that is cut out after its length
pub cut_out : (bytes front rest piece after : List ℕ) (n : ℕ) → front ≡ take 8 bytes → rest ≡ drop 8 bytes → to_le_bytes w64 n ≡ front → length piece ≡ n
    → piece ≡ take n rest → after ≡ drop n rest → bytes ≡ framed piece ++ after
cut_out bytes front rest piece after n f r spelled l p a =
    let whole : take 8 bytes ++ drop 8 bytes ≡ bytes = take-append-drop 8 bytes in
    let head : to_le_bytes w64 (length piece) ≡ take 8 bytes = ap (to_le_bytes w64) l ∙ spelled ∙ f in
    let parts : piece ++ after ≡ take n rest ++ drop n rest = ap (λ xs. xs ++ after) p ∙ ap (λ xs. take n rest ++ xs) a in
    let tail : piece ++ after ≡ drop 8 bytes = parts ∙ take-append-drop n rest ∙ r in
    sym (append_assoc (to_le_bytes w64 (length piece)) piece after ∙ ap (λ xs. xs ++ (piece ++ after)) head ∙ ap (λ xs. take 8 bytes ++ xs) tail ∙ whole)

-- a byte string in few bytes is short
pub front_short : (bytes piece after : List ℕ) → length bytes < 2 ^ 64 → bytes ≡ framed piece ++ after → length piece < 2 ^ 64
front_short bytes piece after few e = let n : length bytes ≡ 8 + (length piece + length after) = ap length e ∙ framed_length piece after in omega arith

-- ---- a loop over what is packed

-- what was taken out and what is left are the whole
pub on_so_far : {A : Type 0} (enc : A → List ℕ) (bytes rest after : List ℕ) (done : List A) (x : A) → bytes ≡ flat_map enc done ++ rest → rest ≡ enc x ++ after
    → bytes ≡ flat_map enc (done ++ x ∷ []) ++ after
on_so_far enc bytes rest after done x e r =
    let one : flat_map enc (x ∷ []) ++ after ≡ enc x ++ after = append_assoc (enc x) [] after in
    e ∙ ap (λ xs. flat_map enc done ++ xs) (r ∙ sym one) ∙ sym (append_assoc (flat_map enc done) (flat_map enc (x ∷ [])) after) ∙ ap (λ xs. xs ++ after) (sym (flat_map-append enc done (x ∷ [])))

-- words may be what is left
abbrev pub LeftWords : List ℕ → Type 0
LeftWords rest = (left : List (List ℕ)) × (AreWords left × (rest ≡ packed_words left))

pub next_words : (rest after text : List ℕ) → length rest < 2 ^ 64 → rest ≡ framed text ++ after → LeftWords rest → LeftWords after
next_words rest after text fits e ([], (all, is)) = absurd (let n : length rest ≡ 8 + (length text + length after) = ap length e ∙ framed_length text after in let z : length rest ≡ 0 = ap length is in omega arith)
next_words rest after text fits e (q ∷ qs, (all, is)) =
    let n : length rest ≡ 8 + (length text + length after) = ap length e ∙ framed_length text after in
    let m : length rest ≡ 8 + (length q + length (packed_words qs)) = ap length is ∙ framed_length q (packed_words qs) in
    let same = framed_same text q after (packed_words qs) (omega arith) (omega arith) (sym e ∙ is) in
    (qs, (all.1, same.1))

-- files may be what is left
abbrev pub LeftFiles : List ℕ → Type 0
LeftFiles rest = (left : List File) × (AreFiles left × (rest ≡ packed_files left))

pub file_parts : (file : File) (after : List ℕ) → framed_file file ++ after ≡ framed file.name ++ (framed file.bytes ++ after)
file_parts file after = append_assoc (framed file.name) (framed file.bytes) after

pub next_files : (rest after name content : List ℕ) → length rest < 2 ^ 64 → rest ≡ framed name ++ (framed content ++ after) → LeftFiles rest → LeftFiles after
next_files rest after name content fits e ([], (all, is)) = absurd (let n : length rest ≡ 8 + (length name + length (framed content ++ after)) = ap length e ∙ framed_length name (framed content ++ after) in let z : length rest ≡ 0 = ap length is in omega arith)
next_files rest after name content fits e (f ∷ fs, (all, is)) =
    let parts : rest ≡ framed f.name ++ (framed f.bytes ++ packed_files fs) = is ∙ file_parts f (packed_files fs) in
    let n : length rest ≡ 8 + (length name + length (framed content ++ after)) = ap length e ∙ framed_length name (framed content ++ after) in
    let n2 : length (framed content ++ after) ≡ 8 + (length content + length after) = framed_length content after in
    let m : length rest ≡ 8 + (length f.name + length (framed f.bytes ++ packed_files fs)) = ap length parts ∙ framed_length f.name (framed f.bytes ++ packed_files fs) in
    let m2 : length (framed f.bytes ++ packed_files fs) ≡ 8 + (length f.bytes + length (packed_files fs)) = framed_length f.bytes (packed_files fs) in
    let first = framed_same name f.name (framed content ++ after) (framed f.bytes ++ packed_files fs) (omega arith) (omega arith) (sym e ∙ parts) in
    let second = framed_same content f.bytes after (packed_files fs) (omega arith) (omega arith) first.1 in
    (fs, (all.1, second.1))

-- nothing is left only where no byte is
pub no_words_left : (rest : List ℕ) → LeftWords rest → ((text after : List ℕ) → IsUtf8 text → rest ≡ framed text ++ after → ⊥) → rest ≡ []
no_words_left rest ([], (all, is)) none = is
no_words_left rest (q ∷ qs, (all, is)) none = absurd (none q (packed_words qs) all.0 is)

pub no_files_left : (rest : List ℕ) → LeftFiles rest → ((name content after : List ℕ) → IsUtf8 name → rest ≡ framed name ++ (framed content ++ after) → ⊥) → rest ≡ []
no_files_left rest ([], (all, is)) none = is
no_files_left rest (f ∷ fs, (all, is)) none = absurd (none f.name f.bytes (packed_files fs) all.0 (is ∙ file_parts f (packed_files fs)))

-- bytes of which there are none
nil_of : (rest : List ℕ) → length rest ≡ 0 → rest ≡ []
nil_of [] n = refl
nil_of (b ∷ bs) n = absurd (omega arith)

pub no_byte : (rest : List ℕ) → true ≡ (length rest == 0) → rest ≡ []
no_byte rest e = let n : length rest ≡ 0 = grind (arith, common_steps, e) in nil_of rest n

pub some_byte : (rest : List ℕ) → false ≡ (length rest == 0) → rest ≡ [] → ⊥
some_byte rest e nil = let n : length rest ≡ 0 = ap length nil in grind (arith, common_steps, e, n)
