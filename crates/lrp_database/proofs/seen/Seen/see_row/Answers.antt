-- A row has a value for each column, and one value more adds its text.
use Rattle.std.proofs.Common.{◌<◌, ◌+◌, ◌∷◌, [], ◌++◌, take, length, arith, rules}
use Rattle.lrp_model.specs.Domains.{row_texts}
use Rattle.lrp_database.proofs.SeenLemmas.{as_many, row_next, seen_both, seen_as, row_all}
use Rattle.lrp_database.proofs.seen.Seen.see_row.Goals as goal

pub bounds-columns-i : goal.bounds-columns-i
bounds-columns-i c = omega (arith, c.loop-i-test.true, as_many c.args.columns.now c.args.values.now c.requires.values)

pub offset_bounds-columns-i : goal.offset_bounds-columns-i
offset_bounds-columns-i c = let within : c.loop-i.i < length c.args.columns.now = omega (arith, c.loop-i-test.true, as_many c.args.columns.now c.args.values.now c.requires.values) in search rules

pub loop-i-preserved : goal.loop-i-preserved
loop-i-preserved c =
    let columns = c.args.columns.now in
    let values = c.args.values.now in
    let i = c.loop-i.i in
    let column = c.index-columns-i.result in
    let value = c.index-values-i.result in
    let within : i < length columns = omega (arith, c.loop-i-test.true, as_many columns values c.requires.values) in
    record {
      seen = seen_as (row_texts (take i columns) (take i values) ++ row_texts (column ∷ []) (value ∷ [])) (row_texts (take (i + 1) columns) (take (i + 1) values)) c.args.self.now c.see_value.new.self
          (row_next columns values i column value within c.loop-i-test.true c.index-columns-i.is c.index-values-i.is)
          (seen_both (row_texts (take i columns) (take i values)) (row_texts (column ∷ []) (value ∷ [])) c.args.self.now c.loop-i.self c.see_value.new.self c.loop-i.invariant.seen c.in_ok-see_value.ensures.seen);
      paired = c.in_ok-see_value.ensures.paired;
    }

pub returns-clause-seen : goal.returns-clause-seen
returns-clause-seen c =
    seen_as _ _ c.args.self.now c.loop-i.self (row_all c.args.columns.now c.args.values.now c.loop-i.i c.requires.values (omega (arith, c.loop-i-test.false))) c.loop-i.invariant.seen
