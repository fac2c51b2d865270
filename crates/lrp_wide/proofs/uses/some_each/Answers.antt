use Rattle.std.proofs.Common.{ap, sym, ◌∙◌}
use Rattle.lrp_model.specs.RawQueries.{raw_form_of}
use Rattle.lrp_wide.specs.Inlining.{some_each}
use Rattle.lrp_wide.proofs.InlineParts.{some_each-more}
use Rattle.lrp_wide.proofs.uses.some_each.Goals as goal

pub loop-binder-preserved : goal.loop-binder-preserved
loop-binder-preserved c =
    let p = c.args.place in
    let before = raw_form_of c.loop-binder.made.value in
    ap (some_each p c.pop.new.self.items) c.in_ok-made.ensures ∙ sym (some_each-more p c.pop.new.self.items c.in-Some.binder before) ∙ ap (λ cs. some_each p cs before) (sym c.in-Some.ensures.items) ∙ c.loop-binder.invariant
