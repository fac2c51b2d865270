use Rattle.std.proofs.Common.{◌≡◌, ◌∙◌, ap, string_bytes}
use Rattle.json.specs.Print.{quoted as json_quoted}
use Rattle.serde_json.specs.Written.{has_float, compact_text}
use Rattle.lrp_model.specs.Printed.{quoted}
use Rattle.lrp_answer_text.proofs.Escapes.{view_text, quoted_same}
use Rattle.lrp_answer_text.proofs.texts.quoted_text.Goals as goal

pub returns : goal.returns
returns c =
    let s = c.in_ok-from_str.field-0 in
    let written : string_bytes c.in_ok-to_string.field-0 ≡ json_quoted (string_bytes s) = c.in_ok-to_string.ensures.text (ap has_float (view_text s)) ∙ ap compact_text (view_text s) in
    c.from_vec.ensures ∙ ap (λ v. v.items) c.into_bytes.ensures.value ∙ written ∙ ap json_quoted c.in_ok-from_str.ensures.ok ∙ quoted_same c.as_str.result.now c.as_str.ensures.whole.fits ∙ ap quoted c.as_str.ensures.same
