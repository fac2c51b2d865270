use Rattle.std.proofs.Common.{Some, arith, refl, subst}
use Rattle.std.proofs.lemmas.List.{length-set}
use Rattle.lrp_holdings.specs.Chains.{IsChanged, with_before, with_next}
use Rattle.lrp_holdings.proofs.Relinked.{first_stands, if_changed_stands, put, read_first, still_loose}
use Rattle.lrp_holdings.proofs.chains.put_first.Goals as goal

pub set_before-requires : goal.set_before-requires
set_before-requires g c =
    if_changed_stands (with_next c.index-next.result.now) c.args.slots.now c.set_next.new.slots (Some c.args.link) c.index-next.result.now c.set_next.ensures
    (first_stands c.args.slots.now c.args.chains.now.items c.args.link.slot c.args.link.place c.owner_of-owner.result.number c.requires.chained c.index-next.result.now (read_first c.args.chains.now.items c.owner_of-owner.result.number c.index-next.result.now (c.requires.loose.room c.args.link c.owner_of-owner.result refl (omega arith) c.owner_of-owner.ensures) c.index-next.ensures))

pub returns-clause-chained : goal.returns-clause-chained
returns-clause-chained g c =
    put c.args.slots.now c.set_next.new.slots c.set_before.new.slots c.args.chains.now.items c.args.link c.owner_of-owner.result c.requires.chained c.requires.loose c.owner_of-owner.ensures
    (subst (λ b. IsChanged (with_next b) c.args.slots.now c.set_next.new.slots (Some c.args.link)) (read_first c.args.chains.now.items c.owner_of-owner.result.number c.index-next.result.now (c.requires.loose.room c.args.link c.owner_of-owner.result refl (omega arith) c.owner_of-owner.ensures) c.index-next.ensures) c.set_next.ensures)
    (subst (λ b. IsChanged (with_before (Some c.args.link)) c.set_next.new.slots c.set_before.new.slots b) (read_first c.args.chains.now.items c.owner_of-owner.result.number c.index-next.result.now (c.requires.loose.room c.args.link c.owner_of-owner.result refl (omega arith) c.owner_of-owner.ensures) c.index-next.ensures) c.set_before.ensures)

pub returns-clause-loose : goal.returns-clause-loose
returns-clause-loose g c =
    still_loose c.args.slots.now c.set_next.new.slots c.set_before.new.slots c.args.chains.now.items c.args.link c.owner_of-owner.result c.requires.chained c.requires.loose c.owner_of-owner.ensures
    (subst (λ b. IsChanged (with_next b) c.args.slots.now c.set_next.new.slots (Some c.args.link)) (read_first c.args.chains.now.items c.owner_of-owner.result.number c.index-next.result.now (c.requires.loose.room c.args.link c.owner_of-owner.result refl (omega arith) c.owner_of-owner.ensures) c.index-next.ensures) c.set_next.ensures)
    (subst (λ b. IsChanged (with_before (Some c.args.link)) c.set_next.new.slots c.set_before.new.slots b) (read_first c.args.chains.now.items c.owner_of-owner.result.number c.index-next.result.now (c.requires.loose.room c.args.link c.owner_of-owner.result refl (omega arith) c.owner_of-owner.ensures) c.index-next.ensures) c.set_before.ensures)
    _ (length-set c.args.chains.now.items c.owner_of-owner.result.number (Some c.args.link))
