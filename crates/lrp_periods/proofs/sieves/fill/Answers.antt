-- A residue that no cover has is added whole.
use Rattle.std.proofs.Common.{arith, sym, subst}
use Rattle.std.specs.Prelude.{◌≤◌}
use Rattle.lrp_model.specs.declared.tuples.Cell.{Cell}
use Rattle.lrp_store.specs.Growing.{IsCellAdded}
use Rattle.lrp_store.specs.Stores.{IsCellOf}
use Rattle.lrp_periods.proofs.Sieving.{sifting_all, sifting_none, sifting_open, sifting_proper, sifting_shut}
use Rattle.lrp_periods.proofs.sieves.fill.Goals as goal

pub loop-residue-init : goal.loop-residue-init
loop-residue-init c = sifting_none c.args.covers.now c.args.own c.args.cap c.args.out.now c.requires.sift

pub loop-residue-preserved-then-is_covered : goal.loop-residue-preserved-then-is_covered
loop-residue-preserved-then-is_covered c = sifting_shut c.args.covers.now c.args.own c.args.cap c.args.out.now c.requires.sift c.loop-residue.residue c.loop-residue.out c.loop-residue.invariant (c.is_covered.ensures.shut c.if-is_covered.true)

pub add_whole-requires : goal.add_whole-requires
add_whole-requires c = record {
  proper = subst (λ (cell : Cell). IsCellOf c.loop-residue.out.shape c.loop-residue.out.period cell) (sym c.cell_at.ensures)
      (sifting_proper c.args.covers.now c.args.own c.args.cap c.args.out.now c.requires.sift c.loop-residue.residue c.loop-residue.out c.loop-residue.invariant c.loop-residue-test.true);
}

pub loop-residue-preserved : goal.loop-residue-preserved
loop-residue-preserved c = sifting_open c.args.covers.now c.args.own c.args.cap c.args.out.now c.requires.sift c.loop-residue.residue c.loop-residue.out c.loop-residue.invariant c.add_whole.new.self (c.is_covered.ensures.none c.if-is_covered.false)
    (subst (λ (cell : Cell). IsCellAdded cell c.args.cap c.loop-residue.out c.add_whole.new.self) c.cell_at.ensures c.in-Ok.ensures.ok)

pub returns : goal.returns
returns c = sifting_all c.args.covers.now c.args.own c.args.cap c.args.out.now c.requires.sift c.loop-residue.residue c.loop-residue.out (let l : c.args.own ≤ c.loop-residue.residue = omega (arith, c.loop-residue-test.false) in l) c.loop-residue.invariant
