-- The first and the last zone of the cell are seen in the store.
use Rattle.std.proofs.Common.{◌≡◌, sym, subst, length, ◌-◌}
use Rattle.lrp_store.specs.Joined.{JoinsLast}
use Rattle.lrp_store.specs.Stores.{tables_at, IsStore}
use Rattle.lrp_store.proofs.Added.{seen_within, seen_zone, cell_seen}
use Rattle.lrp_store.proofs.LastJoined.{seen_joined}
use Rattle.lrp_store.proofs.store.Store.place_of.Goals as goal

pub are_looser-requires : goal.are_looser-requires
are_looser-requires c = seen_zone (record { shape = c.self.inside.shape; period = c.self.inside.period; tables = c.self.inside.slots.lists; spare = c.self.inside.slots.spare }) c.args.self.now c.self.view_is (subst IsStore c.self.view_is c.self.invariant.valid) c.args.cell.now 0 c.in-Some.ends.first.now c.args.zone.now c.requires.period c.requires.residues (sym c.in-Some.ensures.first)

pub are_looser-requires-2 : goal.are_looser-requires-2
are_looser-requires-2 c = seen_zone (record { shape = c.self.inside.shape; period = c.self.inside.period; tables = c.self.inside.slots.lists; spare = c.self.inside.slots.spare }) c.args.self.now c.self.view_is (subst IsStore c.self.view_is c.self.invariant.valid) c.args.cell.now (length (tables_at (record { shape = c.self.inside.shape; period = c.self.inside.period; tables = c.self.inside.slots.lists; spare = c.self.inside.slots.spare }) c.args.cell.now) - 1) c.in-Some.ends.last.now c.args.zone.now c.requires.period c.requires.residues (sym c.in-Some.ensures.last)

pub returns-then-are_looser-clause-whole : goal.returns-then-are_looser-clause-whole
returns-then-are_looser-clause-whole c = λ yes. seen_within (record { shape = c.self.inside.shape; period = c.self.inside.period; tables = c.self.inside.slots.lists; spare = c.self.inside.slots.spare }) c.args.self.now c.self.view_is (subst IsStore c.self.view_is c.self.invariant.valid) c.args.cell.now 0 c.in-Some.ends.first.now c.args.zone.now c.requires.period c.requires.residues (sym c.in-Some.ensures.first) (c.are_looser.ensures.within c.if-are_looser.true)

pub returns-then-are_looser-clause-held : goal.returns-then-are_looser-clause-held
returns-then-are_looser-clause-held c = λ some. cell_seen (record { shape = c.self.inside.shape; period = c.self.inside.period; tables = c.self.inside.slots.lists; spare = c.self.inside.slots.spare }) c.args.self.now c.self.view_is c.args.cell.now 0 c.in-Some.ends.first.now (sym c.in-Some.ensures.first)

pub returns-then-are_looser-2-clause-whole : goal.returns-then-are_looser-2-clause-whole
returns-then-are_looser-2-clause-whole c = λ yes. seen_within (record { shape = c.self.inside.shape; period = c.self.inside.period; tables = c.self.inside.slots.lists; spare = c.self.inside.slots.spare }) c.args.self.now c.self.view_is (subst IsStore c.self.view_is c.self.invariant.valid) c.args.cell.now (length (tables_at (record { shape = c.self.inside.shape; period = c.self.inside.period; tables = c.self.inside.slots.lists; spare = c.self.inside.slots.spare }) c.args.cell.now) - 1) c.in-Some.ends.last.now c.args.zone.now c.requires.period c.requires.residues (sym c.in-Some.ensures.last) (c.are_looser-2.ensures.within c.if-are_looser-2.true)

pub returns-then-are_looser-2-clause-held : goal.returns-then-are_looser-2-clause-held
returns-then-are_looser-2-clause-held c = λ some. cell_seen (record { shape = c.self.inside.shape; period = c.self.inside.period; tables = c.self.inside.slots.lists; spare = c.self.inside.slots.spare }) c.args.self.now c.self.view_is c.args.cell.now 0 c.in-Some.ends.first.now (sym c.in-Some.ensures.first)

pub joined-requires-clause-valid : goal.joined-requires-clause-valid
joined-requires-clause-valid c = seen_zone (record { shape = c.self.inside.shape; period = c.self.inside.period; tables = c.self.inside.slots.lists; spare = c.self.inside.slots.spare }) c.args.self.now c.self.view_is (subst IsStore c.self.view_is c.self.invariant.valid) c.args.cell.now (length (tables_at (record { shape = c.self.inside.shape; period = c.self.inside.period; tables = c.self.inside.slots.lists; spare = c.self.inside.slots.spare }) c.args.cell.now) - 1) c.in-Some.ends.last.now c.args.zone.now c.requires.period c.requires.residues (sym c.in-Some.ensures.last)

pub returns-in-Some-joined-clause-held : goal.returns-in-Some-joined-clause-held
returns-in-Some-joined-clause-held c = λ some. cell_seen (record { shape = c.self.inside.shape; period = c.self.inside.period; tables = c.self.inside.slots.lists; spare = c.self.inside.slots.spare }) c.args.self.now c.self.view_is c.args.cell.now 0 c.in-Some.ends.first.now (sym c.in-Some.ensures.first)

pub returns-in-Some-joined-clause-joined : goal.returns-in-Some-joined-clause-joined
returns-in-Some-joined-clause-joined c = λ both e.
    let same : c.in-Some-joined.both ≡ both = cc in
    subst (λ b. JoinsLast c.args.self.now c.args.cell.now c.args.zone.now b) same
    (seen_joined (record { shape = c.self.inside.shape; period = c.self.inside.period; tables = c.self.inside.slots.lists; spare = c.self.inside.slots.spare }) c.args.self.now c.self.view_is c.args.cell.now c.args.zone.now c.requires.period c.requires.residues c.in-Some.ends.first.now c.in-Some.ends.last.now c.in-Some-joined.both c.in-Some.ensures.first
    (λ free. let looser = c.are_looser.ensures.free free in cc (looser, c.if-are_looser.false)) c.in-Some.ensures.last c.in-Some-joined.ensures)
