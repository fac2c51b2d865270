-- In JSON, or plainly.
use Rattle.lrp_print.proofs.Lines.{written_as}
use Rattle.lrp_outputs.proofs.RangeTexts.{json_is, plain_is}
use Rattle.lrp_outputs.proofs.ranges.LinesNotation.write.Goals as goal

pub returns-then-self-clause-text : goal.returns-then-self-clause-text
returns-then-self-clause-text g c =
    let s = c.args.self.now in
    written_as _ _ _ _ _ (json_is s.civil s.json c.args.range.now c.if-self.true) c.write_json.ensures.text

pub returns-else-self-clause-text : goal.returns-else-self-clause-text
returns-else-self-clause-text g c =
    let s = c.args.self.now in
    written_as _ _ _ _ _ (plain_is s.civil s.json c.args.range.now c.if-self.false) c.write_plain.ensures.text
