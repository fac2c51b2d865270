-- The zone was taken in or added.
use Rattle.std.proofs.Common.{◌≡◌, ◌-◌, ◌^◌, ◌++◌, ◌∷◌, [], OnOk, subst}
use Rattle.std.specs.FinMap as finite
use Rattle.lrp_store.specs.Stores.{ChangesTablesAlone, IsOneTooMany, tables_at}
use Rattle.lrp_store.proofs.Added.{zone_put}
use Rattle.lrp_store.proofs.Growth.{grows_on_ok}
use Rattle.lrp_store.proofs.store.Store.put_new.Goals as goal

pub returns-then-takes_in-clause-ok : goal.returns-then-takes_in-clause-ok
returns-then-takes_in-clause-ok c = c.takes_in.ensures.taken c.if-takes_in.true (2 ^ 32 - 1)

pub returns-clause-ok : goal.returns-clause-ok
returns-clause-ok c =
    let same = c.takes_in.ensures.left c.if-takes_in.false in
    zone_put c.args.self.now c.takes_in.ensures.store c.args.cell.now c.args.zone.now c.takes_in.ensures.zone c.requires.period c.requires.residues c.requires.texts c.requires.times (2 ^ 32 - 1) c.put.new.self c.put.ensures.valid
    (subst (λ s. ChangesTablesAlone s c.put.new.self) same c.put.ensures.rest) c.put.result (subst (λ s. OnOk c.put.result (IsOneTooMany s c.args.cell.now (2 ^ 32 - 1) → ⊥)) same c.put.ensures.room)
    (subst (λ s. OnOk c.put.result (c.put.new.self.tables ≡ finite.insert s.tables c.args.cell.now (tables_at s c.args.cell.now ++ c.args.zone.now.bounds ∷ []))) same c.put.ensures.ok)

pub returns-clause-one : goal.returns-clause-one
returns-clause-one c =
    let same = c.takes_in.ensures.left c.if-takes_in.false in
    grows_on_ok c.args.cell.now c.args.self.now c.put.new.self c.args.zone.now.bounds c.put.result
    (subst (λ s. OnOk c.put.result (c.put.new.self.tables ≡ finite.insert s.tables c.args.cell.now (tables_at s c.args.cell.now ++ c.args.zone.now.bounds ∷ []))) same c.put.ensures.ok)
