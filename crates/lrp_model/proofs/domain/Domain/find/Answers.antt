use Rattle.std.proofs.Common.{rules, ◌≡◌, subst, Contains, Some}
use Rattle.std.specs.Prelude.{slice_get}
use Rattle.lrp_model.specs.Texts.{Ascends}
use Rattle.lrp_model.proofs.Ascending.{searchable, found_at, not_there}
use Rattle.lrp_model.proofs.domain.Domain.find.Goals as goal

pub returns-in-Ok : goal.returns-in-Ok
returns-in-Ok c =
    let xs = c.as_slice.result.now in
    subst (λ ts. slice_get ts c.in-Ok.number ≡ Some c.args.text.now) (let e : c.as_slice.result.now ≡ c.args.self.now = search rules in e)
    (found_at xs c.args.text.now c.in-Ok.number c.in-Ok.ensures.bound c.in-Ok.ensures.ok)

pub returns-in-Err : goal.returns-in-Err
returns-in-Err c =
    let xs = c.as_slice.result.now in
    subst (λ ts. Contains ts c.args.text.now → ⊥) (let e : c.as_slice.result.now ≡ c.args.self.now = search rules in e)
    (not_there xs c.args.text.now c.in-Err.field-0 (c.in-Err.ensures.position (searchable xs c.args.text.now (let a : Ascends c.as_slice.result.now = rw c.as_slice.ensures c.self.invariant.ascends in a))))
