use Rattle.std.proofs.Common.{refl, sym, ◌∙◌}
use Rattle.lrp_model.specs.Sorts.{is_time, is_data}
use Rattle.lrp_sorts.specs.declared.width.Tally.{Tally}
use Rattle.lrp_sorts.proofs.RawNodes.{then_ok}
use Rattle.lrp_sorts.proofs.Tallies.{time_counted, text_counted}
use Rattle.lrp_sorts.proofs.width.Tally.add.Goals as goal

pub returns-then-is_time : goal.returns-then-is_time
returns-then-is_time c =
    let new : Tally = record { times = c.keep.new.kept; texts = c.args.self.now.texts } in
    then_ok c.keep.result _ _ c.keep.ensures (λ kept bs names h t.
    time_counted bs c.args.quantifiers names c.args.self.now c.args.name.now t new c.args.sort.now h (sym c.is_time.ensures ∙ c.if-is_time.true) (λ p k. kept is_time bs names p k) refl)

pub returns-else-is_time : goal.returns-else-is_time
returns-else-is_time c =
    let new : Tally = record { times = c.args.self.now.times; texts = c.keep-else-is_time.new.kept } in
    then_ok c.keep-else-is_time.result _ _ c.keep-else-is_time.ensures (λ kept bs names h t.
    text_counted bs c.args.quantifiers names c.args.self.now c.args.name.now t new c.args.sort.now h (sym c.is_time.ensures ∙ c.if-is_time.false) (λ p k. kept is_data bs names p k) refl)
