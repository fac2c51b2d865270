use Rattle.std.proofs.Common.{◌≡◌, ◌∙◌, ap, sym}
use Rattle.lrp_civil.specs.PlainText.{plain_as}
use Rattle.lrp_civil.proofs.PlainLemmas.{utf8_plain, no_utf8_plain}
use Rattle.lrp_civil.proofs.plain.plain_list.Goals as goal
use Rattle.lrp_civil.proofs.plain.plain_list.Goals.{in-Ok+in_ok-text-in-Ok, in-Err+in_ok-text-in-Err}

pub returns : goal.returns
returns c =
    let bytes = c.args.bytes.now in
    let is : c.match-from_utf8.text.items ≡ plain_as c.args.kind bytes =
    (elim c.match-from_utf8.branch [
      | in-Ok+in_ok-text-in-Ok w ↦ ap (λ v. v.items) w.text-is ∙ w.in_ok-text-in-Ok.ensures ∙ sym (utf8_plain c.args.kind bytes w.in-Ok.ensures.cases.1)
      | in-Err+in_ok-text-in-Err w ↦ ap (λ v. v.items) w.text-is ∙ w.in_ok-text-in-Err.ensures.items_if_clones_equal (λ x y e. e) ∙ sym (no_utf8_plain c.args.kind bytes w.in-Err.ensures.cases.0)
    ]) in
    c.from_vec.ensures ∙ is
