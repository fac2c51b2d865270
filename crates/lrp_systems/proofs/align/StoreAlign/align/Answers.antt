-- Zone after zone, all tuples are held, or one cell is too many.
use Rattle.std.proofs.Common.{ap, subst, sym, ◌∙◌, ◌≤◌}
use Rattle.std.specs.Prelude.{pos, nat_abs}
use Rattle.lrp_theory.specs.Divides.{Divides}
use Rattle.lrp_store.proofs.Listed.{word_abs}
use Rattle.lrp_tables.specs.Pieces.{ArePieces}
use Rattle.lrp_tables.proofs.Passing.{begun_by}
use Rattle.lrp_systems.proofs.Aligning.{IsAligning, aligned, aligned_few, aligning_more, aligning_none, aligning_refused, next_brought, period_abs, period_most, same_fault}
use Rattle.lrp_systems.proofs.align.StoreAlign.align.Goals as goal

pub loop-piece-init : goal.loop-piece-init
loop-piece-init c = aligning_none c.args.cap c.args.self.now c.new-out.result (begun_by c.new-out.result c.shape-shape.result _ c.args.period c.new-out.ensures (word_abs c.args.period c.requires.low c.requires.high) (subst (λ q. q.times ≤ 8) (sym c.shape-shape.ensures.value) c.shape-shape.ensures.valid.times) (subst (λ q. q.texts ≤ 8) (sym c.shape-shape.ensures.value) c.shape-shape.ensures.valid.texts) c.requires.low c.requires.high) _ (subst (λ l. ArePieces c.args.self.now l) (sym c.into_iter-piece-iterator.ensures.into_iter_gives) c.of-piece-items.ensures)

pub add_piece-requires : goal.add_piece-requires
add_piece-requires c = next_brought c.args.cap c.args.self.now c.new-out.result c.shape-shape.ensures.valid (ap (λ v. v.shape) c.new-out.ensures ∙ c.shape-shape.ensures.value) (nat_abs c.args.period) (ap (λ v. v.period) c.new-out.ensures ∙ word_abs c.args.period c.requires.low c.requires.high) (period_most c.args.period c.requires.low c.requires.high) c.requires.reach c.loop-piece.out c.loop-piece.piece-iterator c.next.new.self c.in-Some.piece c.in-Some.ensures.steps c.loop-piece.invariant
    (subst (λ v. Divides (pos c.args.self.now.period) v) (sym (period_abs c.args.period c.requires.low)) c.requires.multiple)

pub loop-piece-preserved : goal.loop-piece-preserved
loop-piece-preserved c = aligning_more c.args.cap c.args.self.now c.new-out.result c.shape-shape.ensures.valid (ap (λ v. v.shape) c.new-out.ensures ∙ c.shape-shape.ensures.value) (nat_abs c.args.period) (ap (λ v. v.period) c.new-out.ensures ∙ word_abs c.args.period c.requires.low c.requires.high) (period_most c.args.period c.requires.low c.requires.high) c.requires.reach c.loop-piece.out c.loop-piece.piece-iterator c.next.new.self c.in-Some.piece c.in-Some.ensures.steps c.loop-piece.invariant c.add_piece.new.out c.in-Ok.ensures.ok

pub returns-in-Err-clause-too_many : goal.returns-in-Err-clause-too_many
returns-in-Err-clause-too_many c = λ e. aligning_refused c.args.cap c.args.self.now c.new-out.result c.shape-shape.ensures.valid (ap (λ v. v.shape) c.new-out.ensures ∙ c.shape-shape.ensures.value) (nat_abs c.args.period) (ap (λ v. v.period) c.new-out.ensures ∙ word_abs c.args.period c.requires.low c.requires.high) (period_most c.args.period c.requires.low c.requires.high) c.requires.reach c.loop-piece.out c.loop-piece.piece-iterator c.next.new.self c.in-Some.piece c.in-Some.ensures.steps c.loop-piece.invariant c.add_piece.new.out (ap (λ v. v.tables) c.new-out.ensures) (c.in-Err.ensures.too_many (same_fault _ _ e))

pub returns-clause-ok : goal.returns-clause-ok
returns-clause-ok c = aligned c.args.cap c.args.self.now c.new-out.result c.shape-shape.ensures.valid (ap (λ v. v.shape) c.new-out.ensures ∙ c.shape-shape.ensures.value) (nat_abs c.args.period) (ap (λ v. v.period) c.new-out.ensures ∙ word_abs c.args.period c.requires.low c.requires.high) (period_most c.args.period c.requires.low c.requires.high) c.requires.reach c.loop-piece.out (subst (λ l. IsAligning c.args.cap c.args.self.now c.new-out.result c.loop-piece.out l) c.in-None.ensures.steps.0 c.loop-piece.invariant) (ap (λ v. v.tables) c.new-out.ensures)

pub returns-clause-few : goal.returns-clause-few
returns-clause-few c = aligned_few c.args.cap c.args.self.now c.new-out.result c.shape-shape.ensures.valid (ap (λ v. v.shape) c.new-out.ensures ∙ c.shape-shape.ensures.value) (nat_abs c.args.period) (ap (λ v. v.period) c.new-out.ensures ∙ word_abs c.args.period c.requires.low c.requires.high) (period_most c.args.period c.requires.low c.requires.high) c.requires.reach c.loop-piece.out (subst (λ l. IsAligning c.args.cap c.args.self.now c.new-out.result c.loop-piece.out l) c.in-None.ensures.steps.0 c.loop-piece.invariant) (ap (λ v. v.tables) c.new-out.ensures)
