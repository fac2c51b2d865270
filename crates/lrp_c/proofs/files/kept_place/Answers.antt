-- The file that is found has the name, and is the first one.
use Rattle.std.proofs.Common.{◌≡◌, sym, ap, ◌∙◌, true, nat_eq}
use lib.Pointwise.{pointwise}
use Rattle.lrp_io.specs.Files.{bytes_in}
use Rattle.lrp_io.proofs.FilesLemmas.{get_here, content_here}
use Rattle.lrp_c.proofs.files.kept_place.Goals as goal

pub returns-then-has_name-clause-bytes : goal.returns-then-has_name-clause-bytes
returns-then-has_name-clause-bytes c =
    let file = c.index-files-i.result in
    let here = get_here c.args.files.now c.loop-i.i file c.loop-i-test.true c.index-files-i.is in
    let same : true ≡ pointwise nat_eq file.name c.args.name.now = sym c.if-has_name.true ∙ c.has_name.ensures in
    ap bytes_in here ∙ sym (content_here c.args.files.now c.loop-i.i file c.args.name.now c.loop-i-test.true c.index-files-i.is same) ∙ sym c.loop-i.invariant.content
