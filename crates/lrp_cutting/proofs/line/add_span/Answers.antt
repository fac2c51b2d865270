-- The zone has the cell's period and residues.
use Rattle.std.proofs.Common.{[], ◌∷◌, ◌∙◌, ap, refl}
use Rattle.lrp_store.specs.Stores.{StoreView}
use Rattle.lrp_cutting.proofs.AddingLaws.{none_added, one_added}
use Rattle.lrp_cutting.proofs.line.add_span.Goals as goal

pub put-requires-clause-period : goal.put-requires-clause-period
put-requires-clause-period c = c.in_ok-span.ensures.cell.period ∙ c.requires.place.period

pub put-requires-clause-residues : goal.put-requires-clause-residues
put-requires-clause-residues c = c.in_ok-span.ensures.cell.residues ∙ c.requires.place.residues

pub put-requires-clause-texts : goal.put-requires-clause-texts
put-requires-clause-texts c = c.requires.place.texts

pub put-requires-clause-times : goal.put-requires-clause-times
put-requires-clause-times c = c.requires.place.times

pub returns : goal.returns
returns c = record {
  span = c.in_ok-span.span;
  is = c.in_ok-span.ensures;
  adds = one_added c.args.cell.now [] (c.in_ok-span.span ∷ []) c.in_ok-span.span c.args.made.now c.args.made.now c.put.new.self refl (none_added c.args.cell.now c.args.made.now) c.in_ok-put.ensures.ok
      (ap (λ (s : StoreView). s.shape) c.put.ensures.rest) (ap (λ (s : StoreView). s.period) c.put.ensures.rest);
}
