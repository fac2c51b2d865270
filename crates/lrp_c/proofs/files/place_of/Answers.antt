-- The file that is found has the name, and is the first one.
use Rattle.std.proofs.Common.{◌≡◌, sym, ap, ◌∙◌, true, nat_eq}
use lib.Pointwise.{pointwise}
use Rattle.lrp_io.specs.Files.{name_in, bytes_in}
use Rattle.lrp_io.proofs.FilesLemmas.{get_here, content_here}
use Rattle.std.specs.Cmp.Lexicographic.{same_text}
use Rattle.lrp_c.proofs.files.place_of.Goals as goal

pub returns-then-eq-clause-bytes : goal.returns-then-eq-clause-bytes
returns-then-eq-clause-bytes c =
    let file = c.index-files-i.result in
    let here = get_here c.args.files.now c.loop-i.i file c.loop-i-test.true c.index-files-i.is in
    let same : true ≡ pointwise nat_eq file.name c.args.name.now = c.if-eq.ensures ∙ ap (λ n. pointwise nat_eq n c.as_bytes-in-loop-i.result.now) c.as_bytes.ensures ∙ ap (pointwise nat_eq file.name) c.as_bytes-in-loop-i.ensures.value in
    ap bytes_in here ∙ sym (content_here c.args.files.now c.loop-i.i file c.args.name.now c.loop-i-test.true c.index-files-i.is same) ∙ sym c.loop-i.invariant.content
