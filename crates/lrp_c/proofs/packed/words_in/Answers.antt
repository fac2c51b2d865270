-- Word after word is taken out, and where one isn't there, none can be.
use Rattle.std.proofs.Common.{◌≡◌, ◌++◌, ◌+◌, [], ◌∷◌, length, map, string_bytes, refl, sym, ap, ◌∙◌, arith}
use Rattle.std.proofs.lemmas.List.{append-nil, map-append}
use Rattle.lrp_c.specs.Packed.{framed, packed_words}
use Rattle.lrp_c.proofs.PackedLemmas.{framed_length, next_words, no_byte, no_words_left, on_so_far, some_byte}
use Rattle.lrp_c.proofs.packed.words_in.Goals as goal

pub loop-rest-init : goal.loop-rest-init
loop-rest-init c = record {
  so_far = sym (ap (λ xs. packed_words (map string_bytes xs) ++ c.args.bytes.now) c.new-words.ensures.items);
  left = λ said all is. (said, (all, is));
}

pub loop-rest-smaller : goal.loop-rest-smaller
loop-rest-smaller c =
    let piece = c.in-Some.piece in
    let whole : length c.loop-rest.rest.now ≡ 8 + (length piece.text.now + length piece.rest.now) = ap length c.in-Some.ensures.some ∙ framed_length piece.text.now piece.rest.now in
    omega arith

pub loop-rest-preserved : goal.loop-rest-preserved
loop-rest-preserved c =
    let piece = c.in-Some.piece in
    let done = map string_bytes c.loop-rest.words.items in
    let more = on_so_far framed c.args.bytes.now c.loop-rest.rest.now piece.rest.now done piece.text.now c.loop-rest.invariant.so_far c.in-Some.ensures.some in
    let items = ap (map string_bytes) c.in_ok-push-in-Some.ensures.items ∙ map-append string_bytes c.loop-rest.words.items (c.in_ok-word-in-Some.word ∷ []) ∙ ap (λ b. done ++ b ∷ []) c.in_ok-word-in-Some.ensures.ok in
    record {
      so_far = more ∙ ap (λ xs. packed_words xs ++ piece.rest.now) (sym items);
      left = λ said all is. next_words c.loop-rest.rest.now piece.rest.now piece.text.now c.in-Some.ensures.short c.in-Some.ensures.some (c.loop-rest.invariant.left said all is);
    }

pub returns-in-None-clause-unpacked : goal.returns-in-None-clause-unpacked
returns-in-None-clause-unpacked c = λ said is all e.
    let nil = no_words_left c.loop-rest.rest.now (c.loop-rest.invariant.left said all e) (λ text after utf8 eq. c.in-None.ensures.none text after refl utf8 eq) in
    some_byte c.loop-rest.rest.now (sym c.loop-rest-test.true ∙ c.is_empty.ensures) nil

pub returns-clause-packed : goal.returns-clause-packed
returns-clause-packed c =
    let done = packed_words (map string_bytes c.loop-rest.words.items) in
    c.loop-rest.invariant.so_far ∙ ap (λ xs. done ++ xs) (no_byte c.loop-rest.rest.now (sym c.loop-rest-test.false ∙ c.is_empty.ensures)) ∙ append-nil done
