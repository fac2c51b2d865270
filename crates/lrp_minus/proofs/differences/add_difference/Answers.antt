-- What is left of one cell more is added.
use Rattle.std.proofs.Common.{◌≡◌, ◌≢◌, ℕ, ◌+◌, ◌*◌, ◌-◌, ◌^◌, Contains, List, refl, sym, subst, ◌∙◌}
use Rattle.std.specs.FinMap as finite
use Rattle.lrp_model.specs.declared.tuples.Cell.{Cell}
use Rattle.lrp_store.specs.Growing.{IsAdded, IsRefused}
use Rattle.lrp_store.proofs.Aligning.{head_in, tail_in}
use Rattle.lrp_minus.specs.Cutters.{IsSpared, IsSparedIn}
use Rattle.lrp_tables.proofs.Gathering.{IsGathering}
use Rattle.lrp_minus.proofs.SparedLaws.{InCells, key_proper, cells_all, cells_none, cells_more, cells_refused}
use Rattle.lrp_minus.proofs.DifferenceLaws.{subtract_on}
use Rattle.std.specs.Prelude.{AllPairs}
use Rattle.lrp_store.proofs.ZoneCounts.{keys_differ}
use Rattle.lrp_minus.specs.Counts.{cell_modulo, most_spared}
use Rattle.lrp_minus.proofs.Growth.{IsCellBefore, grows_as, grows_not, passed_next, still_apart}
use Rattle.lrp_minus.proofs.differences.add_difference.Goals as goal

pub loop-cell-init : goal.loop-cell-init
loop-cell-init c =
    let all : c.into_iter-cell-iterator.result ≡ finite.keys c.args.difference.now.left.now.tables = c.into_iter-cell-iterator.ensures.into_iter_gives ∙ c.cells-cell-items.ensures in
    record {
      valid = c.requires.valid;
      shape = refl;
      period = refl;
      within = λ d h. subst (λ (l : List Cell). Contains l d) all h;
      apart = subst (AllPairs ◌≢◌) (sym all) (keys_differ c.args.difference.now.left.now);
      few = λ n at. grows_not (IsCellBefore c.args.difference.now.left.now c.into_iter-cell-iterator.result) (λ cell. most_spared c.args.difference.now.left.now n (cell_modulo c.args.difference.now.left.now.period cell)) c.args.out.now;
      gathering = λ high l r. cells_none c.args.difference.now.places.now c.args.difference.now.left.now c.args.difference.now.right.now c.args.difference.now.cap (high + 2 * c.args.out.now.period) c.args.out.now c.requires.valid c.into_iter-cell-iterator.result all;
    }

pub add_cell-requires-clause-cell : goal.add_cell-requires-clause-cell
add_cell-requires-clause-cell c = key_proper c.args.difference.now.left.now c.requires.subtract.left_store c.in-Some.cell (c.loop-cell.invariant.within c.in-Some.cell (head_in c.in-Some.cell c.next.new.self c.loop-cell.cell-iterator c.in-Some.ensures.steps))

pub add_cell-requires-clause-subtract : goal.add_cell-requires-clause-subtract
add_cell-requires-clause-subtract c = subtract_on c.args.difference.now c.args.out.now c.loop-cell.out c.loop-cell.invariant.valid c.loop-cell.invariant.shape c.loop-cell.invariant.period c.requires

pub loop-cell-preserved : goal.loop-cell-preserved
loop-cell-preserved c =
    let can = (subtract_on c.args.difference.now c.args.out.now c.loop-cell.out c.loop-cell.invariant.valid c.loop-cell.invariant.shape c.loop-cell.invariant.period c.requires).subtract in
    let g = (c.in-Ok.ensures.ok (2 ^ 62 - 2 * c.loop-cell.out.period) can.left_reach can.right_reach).grown in
    record {
      valid = g.valid;
      shape = g.shape ∙ c.loop-cell.invariant.shape;
      period = g.period ∙ c.loop-cell.invariant.period;
      within = λ d h. c.loop-cell.invariant.within d (tail_in c.in-Some.cell c.next.new.self c.loop-cell.cell-iterator c.in-Some.ensures.steps d h);
      apart = still_apart c.in-Some.cell c.next.new.self c.loop-cell.cell-iterator c.in-Some.ensures.steps c.loop-cell.invariant.apart;
      few = λ n at. passed_next c.args.difference.now.left.now c.in-Some.cell c.next.new.self c.loop-cell.cell-iterator c.in-Some.ensures.steps c.loop-cell.invariant.apart
          (c.loop-cell.invariant.within c.in-Some.cell (head_in c.in-Some.cell c.next.new.self c.loop-cell.cell-iterator c.in-Some.ensures.steps))
          (most_spared c.args.difference.now.left.now n) c.args.out.now c.loop-cell.out c.add_cell.new.out (c.loop-cell.invariant.few n at) (c.in-Ok.ensures.few n at);
      gathering = λ high l r. cells_more c.args.difference.now.places.now c.args.difference.now.left.now c.args.difference.now.right.now c.args.difference.now.cap (high + 2 * c.args.out.now.period) c.args.out.now c.in-Some.cell c.next.new.self c.loop-cell.cell-iterator c.in-Some.ensures.steps c.loop-cell.out c.add_cell.new.out (c.loop-cell.invariant.gathering high l r)
          (subst (λ (n : ℕ). IsAdded (IsSparedIn c.args.difference.now.places.now c.args.difference.now.left.now c.in-Some.cell c.args.difference.now.right.now) c.args.difference.now.cap (high + 2 * n) c.loop-cell.out c.add_cell.new.out) c.loop-cell.invariant.period (c.in-Ok.ensures.ok high l r));
    }

pub returns-in-Err-clause-refused : goal.returns-in-Err-clause-refused
returns-in-Err-clause-refused c = λ e high l r.
    cells_refused c.args.difference.now.places.now c.args.difference.now.left.now c.args.difference.now.right.now c.args.difference.now.cap (high + 2 * c.args.out.now.period) c.args.out.now c.in-Some.cell c.next.new.self c.loop-cell.cell-iterator c.in-Some.ensures.steps c.loop-cell.out c.add_cell.new.out (c.loop-cell.invariant.gathering high l r)
    (subst (λ (n : ℕ). IsRefused (IsSparedIn c.args.difference.now.places.now c.args.difference.now.left.now c.in-Some.cell c.args.difference.now.right.now) c.args.difference.now.cap (high + 2 * n) c.loop-cell.out c.add_cell.new.out) c.loop-cell.invariant.period (c.in-Err.ensures.refused e high l r))

pub returns-clause-ok : goal.returns-clause-ok
returns-clause-ok c = λ high l r. cells_all c.args.difference.now.places.now c.args.difference.now.left.now c.args.difference.now.right.now c.args.difference.now.cap (high + 2 * c.args.out.now.period) c.args.out.now c.loop-cell.out (subst (λ (cells : List Cell). IsGathering (IsSpared c.args.difference.now.places.now c.args.difference.now.left.now c.args.difference.now.right.now) (InCells c.args.difference.now.left.now cells) c.args.difference.now.cap (high + 2 * c.args.out.now.period) c.args.out.now c.loop-cell.out) c.in-None.ensures.steps.0 (c.loop-cell.invariant.gathering high l r))

pub returns-clause-few : goal.returns-clause-few
returns-clause-few c = λ n at. grows_as (IsCellBefore c.args.difference.now.left.now c.loop-cell.cell-iterator) (λ cell. Contains (finite.keys c.args.difference.now.left.now.tables) (cell_modulo c.args.difference.now.left.now.period cell)) (λ cell. most_spared c.args.difference.now.left.now n (cell_modulo c.args.difference.now.left.now.period cell)) c.args.out.now c.loop-cell.out (λ cell p. p.0) (c.loop-cell.invariant.few n at)
