-- What was read, where its digits are the text, and that else nothing is.
use Rattle.std.proofs.Common.{sym, ◌∙◌}
use Rattle.lrp_token.proofs.HexLaws.{read_same, read_none}
use Rattle.lrp_token.proofs.digits.decode.Goals as goal

pub returns-then-is_ok : goal.returns-then-is_ok
returns-then-is_ok c = read_same c.args.digits.now c.args.bytes.now c.decode_to_slice.new.out c.decode_to_slice.result c.are_digits_of.result c.requires.room c.decode_to_slice.ensures.value (sym c.is_ok.ensures.value ∙ c.if-is_ok.true) c.are_digits_of.ensures

pub returns-else-is_ok : goal.returns-else-is_ok
returns-else-is_ok c = read_none c.args.digits.now c.args.bytes.now c.decode_to_slice.new.out c.decode_to_slice.result c.is_ok.result c.requires.room c.decode_to_slice.ensures.value c.is_ok.ensures.value c.if-is_ok.false
