use Rattle.std.proofs.Common.{◌++◌, ◌-◌, take, drop, length}
use Rattle.std.specs.List.{flat_map}
use Rattle.lrp_io.proofs.PieceLemmas.{written_after}
use Rattle.lrp_print.proofs.Lines.{joined_rest, written_as}
use Rattle.lrp_print.proofs.notation.write_joined.Goals as goal

pub returns-in_ok-write-in-len1-up-clause-text : goal.returns-in_ok-write-in-len1-up-clause-text
returns-in_ok-write-in-len1-up-clause-text g c =
    let bytes = g.N.Notation.bytes c.args.notation.now in
    let separator = c.args.separator.now in
    let items = c.args.items.now in
    written_as _ _ _ _ _ (joined_rest separator bytes items c.first-item.result c.in-len1-up.len_at_least c.first-item.is)
    (written_after _ _ _ (bytes c.first-item.result) (flat_map (λ x. separator ++ bytes x) (take (length items - 1) (drop 1 items))) _ c.in_ok-write-in-len1-up.ensures.text c.write_each.ensures.text)
