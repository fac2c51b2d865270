-- The first zone of the cell beneath tells what it has.
use Rattle.std.proofs.Common.{◌≡◌, ◌∷◌, sym, subst, ◌∙◌, refl, arith}
use Rattle.std.specs.Prelude.{Contains}
use Rattle.lrp_store.specs.Stores.{zones_at}
use Rattle.lrp_minus.proofs.ContentLaws.{nothing_beneath, zone_beneath}
use Rattle.lrp_minus.proofs.taking.content_beneath.Goals as goal

pub returns-in-Some : goal.returns-in-Some
returns-in-Some c =
    let listed : zones_at c.args.store.now c.cell_beneath-beneath.result ≡ c.in-Some.zone ∷ c.next.new.self = sym c.zones_of.ensures ∙ c.in-Some.ensures.steps in
    zone_beneath c.args.places.now c.args.store.now c.requires.store c.args.cell.now c.cell_beneath-beneath.result c.cell_beneath-beneath.ensures c.requires.places.times_count
    c.in-Some.zone (subst (λ l. Contains l c.in-Some.zone) (sym listed) (0, omega arith, refl)) c.content_of.result c.content_of.ensures.everything c.content_of.ensures.something

pub returns-in-None : goal.returns-in-None
returns-in-None c = nothing_beneath c.args.places.now c.args.store.now c.requires.store c.args.cell.now c.cell_beneath-beneath.result c.cell_beneath-beneath.ensures c.requires.places.times_count (sym c.zones_of.ensures ∙ c.in-None.ensures.steps.0)
