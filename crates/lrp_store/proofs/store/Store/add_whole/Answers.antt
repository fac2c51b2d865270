-- The zone without bounds is held already, or was added or refused.
use Rattle.std.proofs.Common.{◌≡◌, None, replicate, take, refl, ap, subst, ◌∙◌}
use Rattle.lrp_store.specs.Stores.{StoreView, zone_of}
use Rattle.lrp_store.specs.Growing.{GrowsByAtMost, IsAdded, IsTupleOf}
use Rattle.lrp_store.proofs.Added.{free_refused}
use Rattle.lrp_store.proofs.Remembered.{added_from_spare}
use Rattle.lrp_store.proofs.Growth.{grows_from_spare, grows_none}
use Rattle.lrp_store.proofs.store.Store.add_whole.Goals as goal

pub returns-then-is_one_too_many-clause-too_many : goal.returns-then-is_one_too_many-clause-too_many
returns-then-is_one_too_many-clause-too_many c = λ e.
    let many = c.is_one_too_many.ensures.many.0 c.if-is_one_too_many.true in
    free_refused c.args.self.now c.is_remembered.ensures.valid c.args.cell.now c.requires.proper c.args.cap many.0 many.1

pub returns-clause-ok : goal.returns-clause-ok
returns-clause-ok c =
    let held = c.if-branch.false in
    let same : c.begin_whole.new.self ≡ record c.args.self.now { spare = c.begin_whole.new.self.spare } =
    c.in_ok-begin_whole.ensures.rest ∙ ap (λ t. record c.args.self.now { tables = t; spare = c.begin_whole.new.self.spare }) (c.in_ok-begin_whole.ensures.left (λ e. cc (e, held))) in
    added_from_spare (IsTupleOf (zone_of c.args.self.now c.args.cell.now (replicate 81 None)) (take c.args.self.now.shape.texts c.args.cell.now.texts)) c.args.cap 0 c.begin_whole.new.self.spare c.args.self.now c.add_free.new.self
    (subst (λ (v : StoreView). IsAdded (IsTupleOf (zone_of v c.args.cell.now (replicate 81 None)) (take v.shape.texts c.args.cell.now.texts)) c.args.cap 0 v c.add_free.new.self) same c.in_ok-add_free.ensures.ok)

pub returns-then-is_remembered-clause-one : goal.returns-then-is_remembered-clause-one
returns-then-is_remembered-clause-one c = grows_none 1 c.args.cell.now c.args.self.now c.args.self.now refl

pub returns-clause-one : goal.returns-clause-one
returns-clause-one c =
    let held = c.if-branch.false in
    let same : c.begin_whole.new.self ≡ record c.args.self.now { spare = c.begin_whole.new.self.spare } =
    c.in_ok-begin_whole.ensures.rest ∙ ap (λ t. record c.args.self.now { tables = t; spare = c.begin_whole.new.self.spare }) (c.in_ok-begin_whole.ensures.left (λ e. cc (e, held))) in
    grows_from_spare 1 c.args.cell.now c.begin_whole.new.self.spare c.args.self.now c.add_free.new.self
    (subst (λ (v : StoreView). GrowsByAtMost 1 c.args.cell.now v c.add_free.new.self) same c.in_ok-add_free.ensures.one)
