use Rattle.std.proofs.Common.{◌≡◌, ◌<◌, ◌≤◌, ◌+◌, ◌*◌, ◌^◌, ℕ, arith, rules, add-one}
use Rattle.std.specs.Prelude.{pos, IsTrue}
use Rattle.std.proofs.Math.Nat.{pow-suc}
use Rattle.lrp_theory.specs.Bounds.{Within, plus}
use Rattle.lrp_theory.specs.Entries.{entry, IsLesser, Triangles, IsClosure}
use Rattle.lrp_theory.proofs.Through.{AllSmall-through, AllSmall-more, no_solution, same_then}
use Rattle.lrp_theory.proofs.Paths.{pivot_solutions, pivot_triangles, closure}
use Rattle.lrp_theory.proofs.Small.{small_closure}
use Rattle.lrp_matrix.proofs.cells.close.Goals as goal

double : (k m : ℕ) → 2 ^ k * m + 2 ^ k * m ≤ 2 ^ (k + 1) * m
double k m = let e : 2 ^ (k + 1) ≡ 2 ^ k * 2 = rw (add-one, pow-suc) in rw e (omega arith)

pub loop-k-preserved : goal.loop-k-preserved
loop-k-preserved c =
    let made : (i j : ℕ) → i < c.args.n → j < c.args.n → IsLesser (entry c.pivot.new.cells i j) (entry c.loop-k.cells i j) (plus (entry c.loop-k.cells i c.loop-k.k) (entry c.loop-k.cells c.loop-k.k j)) =
    λ i j h k. (c.pivot.ensures.all i j h k).lesser in
    let sound : Within (pos 0) (entry c.loop-k.cells c.loop-k.k c.loop-k.k) = rw c.at.ensures at (c.is_sound.ensures.0 (search rules)) in
    record {
      same = same_then _ _ (entry c.loop-k.cells) _ c.loop-k.invariant.same (pivot_solutions _ c.loop-k.k (entry c.loop-k.cells) (entry c.pivot.new.cells) c.loop-k-test.true made);
      triangles = pivot_triangles _ c.loop-k.k (entry c.loop-k.cells) (entry c.pivot.new.cells) c.loop-k-test.true made sound c.loop-k.invariant.triangles;
      small = AllSmall-more _ _ _ _ (double c.loop-k.k (2 ^ 64)) (AllSmall-through _ _ c.loop-k.k c.loop-k.cells _ c.loop-k-test.true c.loop-k.invariant.small c.pivot.ensures.all);
    }

pub returns-then-not-is_sound-clause-none : goal.returns-then-not-is_sound-clause-none
returns-then-not-is_sound-clause-none c = λ f.
    no_solution _ c.loop-k.k _ (entry c.loop-k.cells) _ c.loop-k-test.true c.loop-k.invariant.same c.at.ensures (λ w. let t : IsTrue c.is_sound.result = c.is_sound.ensures.1 w in search rules)

pub returns-then-not-is_sound-2-clause-none : goal.returns-then-not-is_sound-2-clause-none
returns-then-not-is_sound-2-clause-none c = λ f.
    no_solution _ c.loop-i.i _ (entry c.loop-k.cells) _ c.loop-i-test.true c.loop-k.invariant.same c.at-in-loop-i.ensures (λ w. let t : IsTrue c.is_sound-in-loop-i.result = c.is_sound-in-loop-i.ensures.1 w in search rules)

closed_is : (c : goal.After-loop-i) → IsClosure c.args.n (entry c.args.cells.now) (entry c.loop-k.cells)
closed_is c =
    let all : Triangles c.args.n c.args.n (entry c.loop-k.cells) = record { each = λ i j p h k q. c.loop-k.invariant.triangles.each i j p h k (omega arith) } in
    closure _ _ (entry c.loop-k.cells) c.loop-k.invariant.same all (λ i h. c.loop-i.invariant i (omega arith))

pub returns-clause-some : goal.returns-clause-some
returns-clause-some c = λ t. closed_is c

pub returns-clause-size : goal.returns-clause-size
returns-clause-size c = λ t h small. small_closure c.args.n h c.args.cells.now c.loop-k.cells small (closed_is c)
