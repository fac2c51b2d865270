-- A zone goes where it lies within another, and else stays.
use Rattle.std.proofs.Common.{◌≡◌, ◌+◌, ◌<◌, arith, refl, subst, sym, ◌∙◌, length, true, false}
use Rattle.lrp_store.specs.Stores.{tables_at}
use Rattle.lrp_store.proofs.Tidying.{IsTidiedTo, none_tidied, is_given, rest_then, covered_then, stays_then, list_then, others_then, length_then}
use Rattle.lrp_store.proofs.store.Store.tidy.Goals as goal

pub loop-i-init : goal.loop-i-init
loop-i-init c = record { tidied = none_tidied c.args.self.now c.args.cell.now (tables_at c.args.self.now c.args.cell.now); others = λ q apart. refl; rest = refl; spare = refl }

pub loop-i-smaller-then-is_covered : goal.loop-i-smaller-then-is_covered
loop-i-smaller-then-is_covered c =
    let low : c.loop-i.i < length (tables_at c.loop-i.self c.args.cell.now) = (omega (arith, c.loop-i-test.true, c.count.ensures.count)) in
    let less : length (tables_at c.remove.new.self c.args.cell.now) + 1 ≡ length (tables_at c.loop-i.self c.args.cell.now) = length_then c.args.self.now c.loop-i.self c.remove.new.self c.args.cell.now c.loop-i.i (omega (arith, c.loop-i-test.true, c.count.ensures.count)) c.loop-i.invariant.rest (is_given c.loop-i.self c.args.cell.now c.loop-i.i (omega (arith, c.loop-i-test.true, c.count.ensures.count)) c.remove.result _ c.remove.ensures.value c.remove.ensures.tables) in
    omega arith

pub loop-i-preserved-then-is_covered : goal.loop-i-preserved-then-is_covered
loop-i-preserved-then-is_covered c = record {
  tidied = subst (λ l. IsTidiedTo c.args.self.now c.args.cell.now (tables_at c.args.self.now c.args.cell.now) l c.loop-i.i) (sym (list_then c.args.self.now c.loop-i.self c.remove.new.self c.args.cell.now c.loop-i.i (omega (arith, c.loop-i-test.true, c.count.ensures.count)) c.loop-i.invariant.rest (is_given c.loop-i.self c.args.cell.now c.loop-i.i (omega (arith, c.loop-i-test.true, c.count.ensures.count)) c.remove.result _ c.remove.ensures.value c.remove.ensures.tables))) (covered_then c.args.self.now c.loop-i.self c.remove.new.self c.args.cell.now c.loop-i.i (omega (arith, c.loop-i-test.true, c.count.ensures.count)) c.loop-i.invariant.rest (c.is_covered.ensures.0 c.if-is_covered.true) c.loop-i.invariant.tidied);
  others = λ q apart. others_then c.args.self.now c.loop-i.self c.remove.new.self c.args.cell.now c.loop-i.i (omega (arith, c.loop-i-test.true, c.count.ensures.count)) c.loop-i.invariant.rest (is_given c.loop-i.self c.args.cell.now c.loop-i.i (omega (arith, c.loop-i-test.true, c.count.ensures.count)) c.remove.result _ c.remove.ensures.value c.remove.ensures.tables) q apart ∙ c.loop-i.invariant.others q apart;
  rest = rest_then c.args.self.now c.loop-i.self c.remove.new.self c.args.cell.now c.loop-i.i (omega (arith, c.loop-i-test.true, c.count.ensures.count)) c.loop-i.invariant.rest c.remove.ensures.rest;
  spare =
      let less : length (tables_at c.remove.new.self c.args.cell.now) + 1 ≡ length (tables_at c.loop-i.self c.args.cell.now) = length_then c.args.self.now c.loop-i.self c.remove.new.self c.args.cell.now c.loop-i.i (omega (arith, c.loop-i-test.true, c.count.ensures.count)) c.loop-i.invariant.rest (is_given c.loop-i.self c.args.cell.now c.loop-i.i (omega (arith, c.loop-i-test.true, c.count.ensures.count)) c.remove.result _ c.remove.ensures.value c.remove.ensures.tables) in
      let more : c.remove.new.self.spare ≡ c.loop-i.self.spare + 1 = (is_given c.loop-i.self c.args.cell.now c.loop-i.i (omega (arith, c.loop-i-test.true, c.count.ensures.count)) c.remove.result _ c.remove.ensures.value c.remove.ensures.spare) in
      let was : c.loop-i.self.spare + length (tables_at c.loop-i.self c.args.cell.now) ≡ c.args.self.now.spare + length (tables_at c.args.self.now c.args.cell.now) = c.loop-i.invariant.spare in
      omega arith;
}

both_ways : false ≡ true → ⊥
both_ways e = cc

pub loop-i-preserved : goal.loop-i-preserved
loop-i-preserved c = record {
  tidied = stays_then c.args.self.now c.loop-i.self c.loop-i.self c.args.cell.now c.loop-i.i (omega (arith, c.loop-i-test.true, c.count.ensures.count)) c.loop-i.invariant.rest (λ h. both_ways (sym c.if-is_covered.false ∙ c.is_covered.ensures.1 h)) c.loop-i.invariant.tidied;
  others = c.loop-i.invariant.others;
  rest = c.loop-i.invariant.rest;
  spare = c.loop-i.invariant.spare;
}
