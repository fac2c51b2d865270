use Rattle.std.proofs.Common.{rules, ◌≡◌, ◌≤◌, length, vec_len, arith}
use Rattle.lrp_civil.specs.CivilValues.{spelled}
use Rattle.lrp_civil.proofs.PlainSizes.{spelled_short}
use Rattle.lrp_civil.proofs.PushLemmas.{padded_is}
use Rattle.lrp_civil.proofs.plain.push_padded.Goals as goal

pub overflow_add-end : goal.overflow_add-end
overflow_add-end c =
    let short : length (spelled c.args.value.now) ≤ 64 = spelled_short c.args.value.now c.requires in
    omega (arith, short, c.len.ensures, c.len-2.ensures)

pub returns : goal.returns
returns c =
    let made = c.push_plain.new.text in
    let size : vec_len made ≡ length made.items = search rules in
    let before : vec_len c.args.text.now ≡ length c.args.text.now.items = search rules in
    padded_is c.args.text.now.items made.items c.resize.new.self.items c.args.value.now _ (vec_len made) c.requires c.in_ok-push_plain.ensures (omega (arith, c.len.ensures, c.len-2.ensures)) size c.in_ok-resize.ensures.items
