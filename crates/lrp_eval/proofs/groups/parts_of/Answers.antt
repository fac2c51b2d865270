-- The parts that the group made, or the table before it.
use Rattle.std.proofs.Common.{◌≡◌, ◌-◌, inl, inr, List, Some, length, slice_get, sym, subst, arith}
use Rattle.lrp_tables.specs.declared.table.Table.{Table}
use Rattle.lrp_eval.proofs.GroupLaws.{slice_one}
use Rattle.lrp_eval.proofs.groups.parts_of.Goals as goal

pub returns-then-place-before : goal.returns-then-place-before
returns-then-place-before c = inr (record {
  after = omega (arith, c.if-place-before.true, c.requires.low);
  at = subst (λ (ps : List Table). slice_get c.args.made.now (c.args.number - 1 - length c.args.group.now.tables.now) ≡ Some ps) (sym c.as_slice.ensures) c.at.ensures;
})

pub returns : goal.returns
returns c = inl (record {
  table = c.operand.result.now;
  at = c.operand.ensures.at;
  valid = c.operand.ensures.valid;
  reach = c.has_reach.ensures c.if-not-has_reach.false;
  alone = slice_one c.args.group.now.tables.now (c.args.number - 1) c.operand.result.now _ (omega arith) c.operand.ensures.at;
})
