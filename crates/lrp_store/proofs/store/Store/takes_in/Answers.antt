-- All tuples of the zone are held already, or the zone was joined.
use Rattle.std.proofs.Common.{refl}
use Rattle.lrp_store.proofs.LastJoined.{last_joined}
use Rattle.lrp_store.proofs.Growth.{grows_last, grows_none}
use Rattle.lrp_store.proofs.store.Store.takes_in.Goals as goal

pub replace_last-requires-clause-first : goal.replace_last-requires-clause-first
replace_last-requires-clause-first c = (c.in-Joined.ensures.joined c.in-Joined.both refl).first

pub replace_last-requires-clause-zone : goal.replace_last-requires-clause-zone
replace_last-requires-clause-zone c = (c.in-Joined.ensures.joined c.in-Joined.both refl).union.valid

pub returns-in-Joined-clause-taken : goal.returns-in-Joined-clause-taken
returns-in-Joined-clause-taken c = λ yes cap. last_joined c.args.self.now c.replace_last.new.self c.place_of.ensures.store c.replace_last.ensures.valid c.args.cell.now c.args.zone.now c.in-Joined.both
    (c.in-Joined.ensures.joined c.in-Joined.both refl) c.replace_last.ensures.tables c.replace_last.ensures.rest cap

pub returns-in-Held-clause-one : goal.returns-in-Held-clause-one
returns-in-Held-clause-one c = λ yes. grows_none 1 c.args.cell.now c.args.self.now c.args.self.now refl

pub returns-in-Joined-clause-one : goal.returns-in-Joined-clause-one
returns-in-Joined-clause-one c = λ yes. grows_last c.args.cell.now c.args.self.now c.replace_last.new.self c.in-Joined.both c.replace_last.ensures.tables
