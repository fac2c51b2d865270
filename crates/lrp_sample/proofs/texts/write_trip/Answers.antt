use Rattle.std.proofs.Common.{◌≡◌, ◌++◌, ◌∙◌, ap, rules}
use Rattle.std.specs.String.{string_bytes}
use Rattle.lrp_sample.proofs.Small.{printed_line, printed_is}
use Rattle.lrp_sample.proofs.texts.write_trip.Goals as goal

pub returns : goal.returns
returns c =
    let e : string_bytes c.writeln.new.self ≡ string_bytes c.args.text.now ++ printed_line c.args.seed c.args.i = search rules in
    e ∙ ap (λ l. string_bytes c.args.text.now ++ l) (printed_is c.args.seed c.args.i)
