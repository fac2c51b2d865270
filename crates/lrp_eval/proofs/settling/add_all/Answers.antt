-- One zone more.
use Rattle.std.proofs.Common.{List, take, take_all, ap, sym, subst, ◌∙◌}
use Rattle.std.specs.Prelude.{pos}
use Rattle.lrp_zone.specs.Zones.{ZoneView}
use Rattle.lrp_model.specs.declared.tuples.Shape.{Shape}
use Rattle.lrp_store.specs.Stores.{StoreView, IsPadded}
use Rattle.lrp_cutting.specs.Settling.{AddsZones}
use Rattle.lrp_cutting.proofs.AddingLaws.{none_added, one_added}
use Rattle.lrp_cutting.proofs.Lists.{read}
use Rattle.lrp_eval.proofs.settling.add_all.Goals as goal
use Rattle.lrp_theory.proofs.Members.{front_more}

pub loop-zone-init : goal.loop-zone-init
loop-zone-init c = none_added c.args.cell.now c.args.store.now

pub put-requires-clause-period : goal.put-requires-clause-period
put-requires-clause-period c = c.requires.periods c.zone-item.result (read _ _ _ c.loop-zone-test.true c.zone-item.is) ∙ sym c.loop-zone.invariant.period

pub put-requires-clause-residues : goal.put-requires-clause-residues
put-requires-clause-residues c = c.requires.residues c.zone-item.result (read _ _ _ c.loop-zone-test.true c.zone-item.is) ∙ ap (λ (s : Shape). take s.times c.args.cell.now.residues) (sym c.loop-zone.invariant.shape)

pub put-requires-clause-texts : goal.put-requires-clause-texts
put-requires-clause-texts c = subst (λ (s : Shape). IsPadded 0 s.texts c.args.cell.now.texts) (sym c.loop-zone.invariant.shape) c.requires.texts

pub put-requires-clause-times : goal.put-requires-clause-times
put-requires-clause-times c = subst (λ (s : Shape). IsPadded (pos 0) s.times c.args.cell.now.residues) (sym c.loop-zone.invariant.shape) c.requires.times

pub loop-zone-preserved : goal.loop-zone-preserved
loop-zone-preserved c = one_added c.args.cell.now _ _ c.zone-item.result c.args.store.now c.loop-zone.store c.put.new.self (front_more _ _ _ c.loop-zone-test.true c.zone-item.is) c.loop-zone.invariant c.in_ok-put.ensures.ok
    (ap (λ (s : StoreView). s.shape) c.put.ensures.rest) (ap (λ (s : StoreView). s.period) c.put.ensures.rest)

pub returns : goal.returns
returns c = subst (λ (zs : List ZoneView). AddsZones c.args.cell.now zs c.args.store.now c.loop-zone.store) (take_all _ _ c.loop-zone-test.false) c.loop-zone.invariant
