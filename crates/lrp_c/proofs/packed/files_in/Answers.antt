-- File after file is taken out, and where one isn't there, none can be.
use Rattle.std.proofs.Common.{◌≡◌, ◌++◌, ◌+◌, length, refl, sym, ap, ◌∙◌, arith}
use Rattle.std.proofs.lemmas.List.{append-nil}
use Rattle.lrp_c.specs.Packed.{framed, framed_file, packed_files}
use Rattle.lrp_c.proofs.PackedLemmas.{file_parts, framed_length, next_files, no_byte, no_files_left, on_so_far, some_byte}
use Rattle.lrp_c.proofs.packed.files_in.Goals as goal

pub loop-rest-init : goal.loop-rest-init
loop-rest-init c = record {
  so_far = sym (ap (λ xs. packed_files xs ++ c.args.bytes.now) c.new-files.ensures);
  left = λ held all is. (held, (all, is));
}

pub loop-rest-smaller : goal.loop-rest-smaller
loop-rest-smaller c =
    let piece = c.in-Some.piece in
    let whole : length c.loop-rest.rest.now ≡ 8 + (length piece.name.now + length (framed piece.bytes.now ++ piece.rest.now)) =
    ap length c.in-Some.ensures.some ∙ framed_length piece.name.now (framed piece.bytes.now ++ piece.rest.now) in
    let tail : length (framed piece.bytes.now ++ piece.rest.now) ≡ 8 + (length piece.bytes.now + length piece.rest.now) = framed_length piece.bytes.now piece.rest.now in
    omega arith

pub loop-rest-preserved : goal.loop-rest-preserved
loop-rest-preserved c =
    let piece = c.in-Some.piece in
    let file = c.in_ok-file-in-Some.file in
    let parts : framed piece.name.now ++ (framed piece.bytes.now ++ piece.rest.now) ≡ framed_file file ++ piece.rest.now =
    sym (file_parts file piece.rest.now ∙ ap (λ n. framed n ++ (framed file.bytes ++ piece.rest.now)) c.in_ok-file-in-Some.ensures.name ∙ ap (λ b. framed piece.name.now ++ (framed b ++ piece.rest.now)) c.in_ok-file-in-Some.ensures.bytes) in
    let more = on_so_far framed_file c.args.bytes.now c.loop-rest.rest.now piece.rest.now c.loop-rest.files file c.loop-rest.invariant.so_far (c.in-Some.ensures.some ∙ parts) in
    record {
      so_far = more ∙ ap (λ xs. packed_files xs ++ piece.rest.now) (sym c.in_ok-push-in-Some.ensures.ok);
      left = λ held all is. next_files c.loop-rest.rest.now piece.rest.now piece.name.now piece.bytes.now c.in-Some.ensures.short c.in-Some.ensures.some (c.loop-rest.invariant.left held all is);
    }

pub returns-in-None-clause-unpacked : goal.returns-in-None-clause-unpacked
returns-in-None-clause-unpacked c = λ held is all e.
    let nil = no_files_left c.loop-rest.rest.now (c.loop-rest.invariant.left held all e) (λ name content after utf8 eq. c.in-None.ensures.none name content after refl utf8 eq) in
    some_byte c.loop-rest.rest.now (sym c.loop-rest-test.true ∙ c.is_empty.ensures) nil

pub returns-clause-packed : goal.returns-clause-packed
returns-clause-packed c =
    let done = packed_files c.loop-rest.files in
    c.loop-rest.invariant.so_far ∙ ap (λ xs. done ++ xs) (no_byte c.loop-rest.rest.now (sym c.loop-rest-test.false ∙ c.is_empty.ensures)) ∙ append-nil done
