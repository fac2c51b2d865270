-- Bytes that are held in front of a sink.
use Rattle.std.proofs.Common.{◌≡◌, ◌≤◌, ◌+◌, ◌-◌, ℕ, min, List, [], ◌++◌, length, take, drop, Option, Some, None, Result, Ok, Err, OnOk, OnErr, refl, ap, ap₂, sym, ◌∙◌, append_assoc, append-nil, arith, take-add, take-take, drop-drop, drop_of_length-le}
use Rattle.std.proofs.lemmas.List.{take-append-drop, drop-take, length-append, length-take, length-take-le, append_cancel_left}
use Rattle.std.proofs.lemmas.Option.{same_Some}
use Rattle.std.proofs.Math.Seq.{take-length, take-append_seam, drop-append_seam}
use Rattle.lrp_io.specs.Bytes.{appended, AppendsFront}
use Rattle.lrp_io.specs.Pieces.{IsWritten}
use Rattle.lrp_io.specs.Buffers.{between, told_since, Grew, HandsOn}
use Rattle.lrp_io.proofs.BytesLemmas.{appended_twice}

-- a piece that is written after the bytes that are held
pub held_more : (old new piece : List ℕ) (first last n : ℕ) → first ≤ last → take last new ≡ take last old → between new last (last + n) ≡ piece → between new first (last + n) ≡ between old first last ++ piece
held_more old new piece first last n le same e =
    let d = last - first in
    let size : (last + n) - first ≡ d + n = omega (arith, le) in
    let up : first + d ≡ last = omega (arith, le) in
    let rest : (last + n) - last ≡ n = omega arith in
    let front : (xs : List ℕ) → take d (drop first xs) ≡ drop first (take last xs) = λ xs. sym (drop-take first d xs) ∙ ap (λ k. drop first (take k xs)) up in
    let back : take n (drop d (drop first new)) ≡ piece = ap (take n) (drop-drop d first new ∙ ap (λ k. drop k new) up) ∙ ap (λ k. take k (drop last new)) (sym rest) ∙ e in
    ap (λ k. take k (drop first new)) size ∙ take-add d n (drop first new) ∙ ap₂ (λ a b. a ++ b) (front new ∙ ap (drop first) same ∙ sym (front old)) back

-- the bytes that are held once the first k of them were handed on
pub held_less : (bytes : List ℕ) (first last k : ℕ) → k ≤ length (between bytes first last) → between bytes (first + k) last ≡ drop k (between bytes first last)
held_less bytes first last k le =
    let m = last - (first + k) in
    let many : length (between bytes first last) ≡ min (last - first) (length (drop first bytes)) = length-take (last - first) (drop first bytes) in
    let size : last - first ≡ k + m = omega (arith, le, many) in
    sym (ap (λ j. drop k (take j (drop first bytes))) size ∙ drop-take k m (drop first bytes) ∙ ap (take m) (drop-drop k first bytes))

-- a sink took the first k of the bytes that were held
pub handed : (old new : Option (List ℕ)) (bytes piece : List ℕ) (first last k : ℕ) → piece ≡ between bytes first last → k ≤ length piece → new ≡ appended old (take k piece) → HandsOn old new (between bytes first last) (between bytes (first + k) last)
handed old new bytes piece first last k e le app =
    let within : k ≤ length (between bytes first last) = omega (arith, le, ap length e) in
    (k, within, app ∙ ap (λ p. appended old (take k p)) e, held_less bytes first last k within)

-- a sink took them all
pub handed_all : (old new : Option (List ℕ)) (bytes piece : List ℕ) (first last k : ℕ) → piece ≡ between bytes first last → k ≡ length piece → new ≡ appended old (take k piece) → HandsOn old new (between bytes first last) []
handed_all old new bytes piece first last k e all app =
    let held = between bytes first last in
    let every : k ≡ length held = all ∙ ap length e in
    let none : [] ≡ drop k held = sym (drop_of_length-le held (omega (arith, every))) in
    let within : k ≤ length held = omega (arith, every) in
    (k, within, app ∙ ap (λ p. appended old (take k p)) e, none)

-- what is handed on and what is still held are the same bytes
pub kept_on : (old new : Option (List ℕ)) (before after : List ℕ) → HandsOn old new before after → appended new after ≡ appended old before
kept_on old new before after h =
    ap (λ o. appended o after) h.2 ∙ appended_twice old (take h.0 before) after ∙ ap (λ a. appended old (take h.0 before ++ a)) h.3 ∙ ap (appended old) (take-append-drop h.0 before)

-- appending no bytes changes nothing
pub appended_none : (told : Option (List ℕ)) → appended told [] ≡ told
appended_none None = refl
appended_none (Some x) = ap Some (append-nil x)

-- where bytes were appended, it grew
pub grew_by : (before now : Option (List ℕ)) (more : List ℕ) → now ≡ appended before more → Grew before now
grew_by None now more e = e
grew_by (Some b) now more e = e ∙ ap (λ m. Some (b ++ m)) (sym (ap (told_since (Some b)) e ∙ drop-append_seam b more))

-- so it did before anything was appended
pub grew_not : (before now : Option (List ℕ)) → now ≡ before → Grew before now
grew_not before now e = grew_by before now [] (e ∙ sym (appended_none before))

-- and where more bytes were appended
pub grew_more : (before now new : Option (List ℕ)) (more : List ℕ) → Grew before now → new ≡ appended now more → Grew before new
grew_more before now new more g e = grew_by before new (told_since before now ++ more) (e ∙ ap (λ o. appended o more) g ∙ appended_twice before (told_since before now) more)

-- without the bytes that are held, a front of the bytes is still a front of them
pub front_of_kept : (before now : Option (List ℕ)) (more held bytes : List ℕ) → now ≡ appended before more → AppendsFront before (appended now held) bytes → AppendsFront before now bytes
front_of_kept None now more held bytes e f = (0, omega arith, e)
front_of_kept (Some b) now more held bytes e f =
    let k = f.0 in
    let n = length more in
    let same : (b ++ more) ++ held ≡ b ++ take k bytes = same_Some _ _ (sym (ap (λ o. appended o held) e) ∙ f.2) in
    let tail : more ++ held ≡ take k bytes = append_cancel_left b (more ++ held) (take k bytes) (sym (append_assoc b more held) ∙ same) in
    let small : n ≤ k = omega (arith, length-append more held, ap length tail, length-take-le k bytes f.1) in
    let front : take n bytes ≡ more = sym (take-take n k bytes small) ∙ ap (take n) (sym tail) ∙ take-append_seam more held in
    (n, omega (arith, small, f.1), e ∙ ap (λ m. Some (b ++ m)) (sym front))

-- a front of the bytes that are held makes a front of all
pub front_of_held : (before now new : Option (List ℕ)) (more held bytes : List ℕ) → now ≡ appended before more → appended now held ≡ appended before bytes → AppendsFront now new held → AppendsFront before new bytes
front_of_held before now new more held bytes e whole f =
    let k = f.0 in
    let grown : new ≡ appended before (more ++ take k held) = f.2 ∙ ap (λ o. appended o (take k held)) e ∙ appended_twice before more (take k held) in
    let kept : appended new (drop k held) ≡ appended now held = kept_on now new held (drop k held) (k, f.1, f.2, refl) in
    let all : AppendsFront before (appended new (drop k held)) bytes = (length bytes, omega arith, kept ∙ whole ∙ ap (appended before) (sym (take-length bytes))) in
    front_of_kept before new (more ++ take k held) (drop k held) bytes grown all

-- a writer that failed leaves a front of its bytes in the sink after the buffer
pub lent_front : {X : Type 0} (written : X → Option (List ℕ)) (old first now last : X) (none held bytes : List ℕ) → first ≡ old → none ≡ [] → last ≡ now → Grew (written first) (written now) → AppendsFront (appended (written first) none) (appended (written now) held) bytes → AppendsFront (written old) (written last) bytes
lent_front written old first now last none held bytes from empty end g f =
    let start : appended (written first) none ≡ written first = ap (appended (written first)) empty ∙ appended_none (written first) in
    let whole : appended (written now) held ≡ appended (written first) (take f.0 bytes) = f.2 ∙ ap (λ o. appended o (take f.0 bytes)) start in
    let front : AppendsFront (written first) (written now) bytes = front_of_kept (written first) (written now) (told_since (written first) (written now)) held bytes g (f.0, f.1, whole) in
    (front.0, front.1, ap written end ∙ front.2 ∙ ap (λ x. appended (written x) (take front.0 bytes)) from)

-- once all that is held was handed on, all bytes are written, or a front of them
pub lent_written : {X T E : Type 0} (written : X → Option (List ℕ)) (old first now new last : X) (none held bytes : List ℕ) (r : Result T E) → first ≡ old → none ≡ [] → last ≡ new → Grew (written first) (written now) → appended (written now) held ≡ appended (appended (written first) none) bytes → OnOk r (written new ≡ appended (written now) held) → OnErr r (AppendsFront (written now) (written new) held) → IsWritten (written old) (written last) bytes r
lent_written written old first now new last none held bytes (Ok t) from empty end g whole ok err =
    let start : appended (written first) none ≡ written old = ap (appended (written first)) empty ∙ appended_none (written first) ∙ ap written from in
    ap written end ∙ ok ∙ whole ∙ ap (λ o. appended o bytes) start
lent_written written old first now new last none held bytes (Err x) from empty end g whole ok err =
    let start : appended (written first) none ≡ written first = ap (appended (written first)) empty ∙ appended_none (written first) in
    let front : AppendsFront (written first) (written new) bytes = front_of_held (written first) (written now) (written new) (told_since (written first) (written now)) held bytes g (whole ∙ ap (λ o. appended o bytes) start) err in
    (front.0, front.1, ap written end ∙ front.2 ∙ ap (λ s. appended (written s) (take front.0 bytes)) from)
