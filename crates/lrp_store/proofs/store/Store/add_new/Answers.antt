-- The zone was taken in, added or refused.
use Rattle.std.proofs.Common.{◌≡◌, ◌↔◌, ◌++◌, ◌∷◌, [], Err, OnOk, OnErr, subst}
use Rattle.std.specs.FinMap as finite
use Rattle.lrp_store.specs.Stores.{ChangesTablesAlone, IsOneTooMany, tables_at}
use Rattle.lrp_store.specs.declared.store.StoreFault.TheVariants.{TooManyCells}
use Rattle.lrp_store.proofs.Added.{zone_added, zone_refused}
use Rattle.lrp_store.proofs.Growth.{grows_on_ok}
use Rattle.lrp_store.proofs.store.Store.add_new.Goals as goal

pub returns-then-takes_in-clause-ok : goal.returns-then-takes_in-clause-ok
returns-then-takes_in-clause-ok c = c.takes_in.ensures.taken c.if-takes_in.true c.args.cap

pub returns-clause-ok : goal.returns-clause-ok
returns-clause-ok c =
    let same = c.takes_in.ensures.left c.if-takes_in.false in
    zone_added c.args.self.now c.takes_in.ensures.store c.args.cell.now c.args.zone.now c.takes_in.ensures.zone c.requires.period c.requires.residues c.requires.texts c.requires.times c.args.cap c.add.new.self c.add.ensures.valid
    (subst (λ s. ChangesTablesAlone s c.add.new.self) same c.add.ensures.rest) c.add.result (subst (λ s. (c.add.result ≡ Err TooManyCells) ↔ IsOneTooMany s c.args.cell.now c.args.cap) same c.add.ensures.too_many)
    (subst (λ s. OnOk c.add.result (c.add.new.self.tables ≡ finite.insert s.tables c.args.cell.now (tables_at s c.args.cell.now ++ c.args.zone.now.bounds ∷ []))) same c.add.ensures.ok)

pub returns-clause-too_many : goal.returns-clause-too_many
returns-clause-too_many c =
    let same = c.takes_in.ensures.left c.if-takes_in.false in
    zone_refused c.args.self.now c.takes_in.ensures.store c.args.cell.now c.args.zone.now c.takes_in.ensures.zone c.requires.period c.requires.residues c.requires.texts c.requires.times c.args.cap c.add.new.self c.add.ensures.valid
    (subst (λ s. ChangesTablesAlone s c.add.new.self) same c.add.ensures.rest) c.add.result (subst (λ s. (c.add.result ≡ Err TooManyCells) ↔ IsOneTooMany s c.args.cell.now c.args.cap) same c.add.ensures.too_many)
    (subst (λ s. OnErr c.add.result (c.add.new.self.tables ≡ s.tables)) same c.add.ensures.err)

pub returns-clause-one : goal.returns-clause-one
returns-clause-one c =
    let same = c.takes_in.ensures.left c.if-takes_in.false in
    grows_on_ok c.args.cell.now c.args.self.now c.add.new.self c.args.zone.now.bounds c.add.result
    (subst (λ s. OnOk c.add.result (c.add.new.self.tables ≡ finite.insert s.tables c.args.cell.now (tables_at s c.args.cell.now ++ c.args.zone.now.bounds ∷ []))) same c.add.ensures.ok)
