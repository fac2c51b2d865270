use Rattle.std.proofs.Common.{refl}
use Rattle.lrp_holdings.specs.Chains.{with_next}
use Rattle.lrp_holdings.proofs.Relinked.{changed_at}
use Rattle.lrp_holdings.proofs.chains.set_next.Goals as goal

pub returns-in-Some : goal.returns-in-Some
returns-in-Some g c =
    changed_at (with_next c.args.next) (λ o. refl) c.args.slots.now c.in-Some.link c.index_mut.result.now (record { value = c.index_mut.result.now.value; owners = c.next_at.new.owners }) c.index_mut.ensures.value refl
    c.next_at.ensures c.args.link c.in-Some.is
