use Rattle.std.proofs.Common.{not, bytes_eq, rules, tests, ap, ◌∙◌, Bor}
use Rattle.std.proofs.lemmas.Fn.{filter_same}
use Rattle.lrp_model.specs.Texts.{Identifier}
use Rattle.lrp_sorts.specs.Widths.{names_after}
use Rattle.lrp_sorts.specs.declared.width.Tally.{Tally}
use Rattle.lrp_sorts.proofs.Tallies.{filter_after, outside_counted}
use Rattle.lrp_sorts.proofs.width.Tally.leave.Goals as goal

pub returns : goal.returns
returns c = λ binder bs q names e k.
    let new : Tally = record { times = c.retain.new.self; texts = c.retain-2.new.self } in
    outside_counted binder bs q names c.args.name.now c.args.self.now new e k
    (ap names_after (filter_same _ (λ (n : Bor Identifier). not (bytes_eq c.args.name.now n.now)) _ (λ x b q k. search (rules, tests)) _ _ c.retain.ensures.filtered)
    ∙ filter_after (λ n. not (bytes_eq c.args.name.now n)) c.args.self.now.times.items)
    (ap names_after (filter_same _ (λ (n : Bor Identifier). not (bytes_eq c.args.name.now n.now)) _ (λ x b q k. search (rules, tests)) _ _ c.retain-2.ensures.filtered)
    ∙ filter_after (λ n. not (bytes_eq c.args.name.now n)) c.args.self.now.texts.items)
