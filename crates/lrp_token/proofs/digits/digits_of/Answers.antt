-- The digits are those of a list of bytes.
use Rattle.std.proofs.Common.{◌∙◌, arith}
use Rattle.std.proofs.lemmas.Result.{IfOk-at_ok}
use Rattle.lrp_token.proofs.HexLaws.{bytes_by, encoded}
use Rattle.lrp_token.proofs.digits.digits_of.Goals as goal

pub returns : goal.returns
returns c = IfOk-at_ok _ c.unwrap.ensures c.encode_to_slice.ensures.written ∙ encoded c.args.bytes.now (bytes_by c.args.bytes.now (λ i. let f = c.type_inv.bytes i in omega arith))
