-- What comes after the name is told by no other name.
use Rattle.std.proofs.Common.{◌++◌, refl, sym, ◌∙◌}
use Rattle.lrp_c.specs.Packed.{framed}
use Rattle.lrp_c.proofs.PackedLemmas.{framed_same, front_short}
use Rattle.lrp_c.proofs.packed.file_in.Goals as goal

pub returns-in_err-content-clause-none : goal.returns-in_err-content-clause-none
returns-in_err-content-clause-none c = λ name content rest none utf8 e.
    let first = c.in_ok-name.name in
    let is = c.in_ok-name.ensures.some in
    let short = c.in_ok-name.ensures.short in
    let same = framed_same name first.text.now (framed content ++ rest) first.rest.now (front_short _ name (framed content ++ rest) short e) (front_short _ first.text.now first.rest.now short is) (sym e ∙ is) in
    c.in_err-content.ensures.none content rest refl (sym same.1)
