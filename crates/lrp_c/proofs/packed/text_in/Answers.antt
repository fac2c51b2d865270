-- A byte string is a text in no other way.
use Rattle.std.proofs.Common.{sym, ◌∙◌, subst}
use Rattle.std.specs.Str.{IsUtf8}
use Rattle.lrp_c.proofs.PackedLemmas.{framed_same, front_short}
use Rattle.lrp_c.proofs.packed.text_in.Goals as goal

pub returns-in-Err-clause-none : goal.returns-in-Err-clause-none
returns-in-Err-clause-none c = λ text rest none utf8 e.
    let piece = c.in_ok-piece.piece in
    let is = c.in_ok-piece.ensures.some in
    let short = c.in_ok-piece.ensures.short in
    let same = framed_same text piece.bytes.now rest piece.rest.now (front_short _ text rest short e) (front_short _ piece.bytes.now piece.rest.now short is) (sym e ∙ is) in
    c.in-Err.ensures.cases.0 (subst IsUtf8 same.0 utf8)
