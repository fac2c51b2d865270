-- The token is that of the last spot.
use Rattle.std.proofs.Common.{◌≡◌, ◌-◌, List, Some, length, sym, ap, subst, map}
use Rattle.std.specs.Prelude.{slice_get}
use Rattle.lrp_print.proofs.Lines.{written_as}
use Rattle.lrp_answer_text.specs.Lines.{is_json}
use Rattle.lrp_model.specs.Pages.{last_of}
use Rattle.lrp_model.specs.PrintedPages.{end_line}
use Rattle.lrp_model.specs.declared.tuples.Spot.{Spot}
use Rattle.lrp_outputs.specs.Spots.{answer_tuple}
use Rattle.lrp_outputs.proofs.PageLemmas.{is_more, last_mapped}
use Rattle.lrp_outputs.proofs.lines.write_end.Goals as goal

pub returns-then-page-clause-text : goal.returns-then-page-clause-text
returns-then-page-clause-text g c =
    let page = c.args.page.now in
    let last = c.in-Some.last.now in
    let at : slice_get page.spots (length page.spots - 1) ≡ Some last = subst (λ (spots : List Spot). slice_get spots (length spots - 1) ≡ Some last) c.as_slice.ensures (sym c.in-Some.ensures.value) in
    written_as _ _ _ _ _ (sym (ap (end_line (is_json page.form)) (is_more page.files page.more (last_of (map (answer_tuple page.answer) page.spots)) (answer_tuple page.answer last) c.if-page.true (last_mapped (answer_tuple page.answer) page.spots last at)))) c.write_more.ensures.text
