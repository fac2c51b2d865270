-- The first equal row of the relation is gone, or there is none.
use Rattle.std.proofs.Common.{◌≡◌, Bool, true, false, refl, sym, subst}
use Rattle.lrp_model.specs.Rows.{rows_of}
use Rattle.lrp_keep.specs.Keeps.{HasNoEqual, IsWithout}
use Rattle.lrp_keep.specs.States.{IsKeeper, keeper_view}
use Rattle.lrp_keep.proofs.Naming.{held_named}
use Rattle.lrp_keep.proofs.Removing.{keeper_removed, none_equal, none_named, without_row}
use Rattle.lrp_keep.proofs.keep.Keep.remove.Goals as goal

-- a keeper stays one, whether there is such a row or not
either : (b : Bool) (P : Type 0) → (b ≡ true → P) → (b ≡ false → P) → P
either true P t f = t refl
either false P t f = f refl

pub invariant_of-self : goal.invariant_of-self
invariant_of-self c =
    let h = held_named c.self.inside.state c.in-Some.relation c.args.relation.now c.in-Some.ensures.some in
    either c.remove.result (IsKeeper c.self.inside.of c.remove.new.self)
    (λ e. keeper_removed c.self.inside.of c.self.inside.state c.remove.new.self c.self.invariant c.in-Some.relation h.0 h.1 c.args.relation.now h.2 c.args.row.now (c.remove.ensures.taken e))
    (λ e. subst (IsKeeper c.self.inside.of) (sym (c.remove.ensures.same e)) c.self.invariant)

pub returns-in-Some-clause-taken : goal.returns-in-Some-clause-taken
returns-in-Some-clause-taken c = λ e.
    let h = held_named c.self.inside.state c.in-Some.relation c.args.relation.now c.in-Some.ensures.some in
    subst (λ k. IsWithout c.args.relation.now c.args.row.now k (keeper_view c.self.inside.of c.remove.new.self)) c.self.view_is
    (without_row c.self.inside.of c.self.inside.state c.remove.new.self c.self.invariant c.in-Some.relation h.0 h.1 c.args.relation.now h.2 c.args.row.now (c.remove.ensures.taken e))

pub returns-in-Some-clause-none : goal.returns-in-Some-clause-none
returns-in-Some-clause-none c = λ e.
    let h = held_named c.self.inside.state c.in-Some.relation c.args.relation.now c.in-Some.ensures.some in
    subst (λ k. HasNoEqual c.args.row.now (rows_of k.relations c.args.relation.now)) c.self.view_is
    (none_equal c.self.inside.state.rows c.in-Some.relation h.0 c.args.relation.now c.args.row.now c.self.invariant.keeping.distinct h.1 h.2 (c.remove.ensures.none e))

pub returns-in-None-clause-none : goal.returns-in-None-clause-none
returns-in-None-clause-none c = λ e.
    subst (λ k. HasNoEqual c.args.row.now (rows_of k.relations c.args.relation.now)) c.self.view_is
    (none_named c.self.inside.state.rows c.args.relation.now c.args.row.now c.in-None.ensures.none)
