-- What the plain text says, the text says.
use Rattle.std.proofs.Common.{◌∙◌, sym, subst}
use Rattle.std.specs.Prelude.{false}
use Rattle.lrp_top.specs.Written.{IsWideSaid}
use Rattle.lrp_top.proofs.ReadingLemmas.{plain_said}
use Rattle.lrp_top.proofs.reading.civil_query.Goals as goal

pub returns-in-Ok-wide_query-clause-every : goal.returns-in-Ok-wide_query-clause-every
returns-in-Ok-wide_query-clause-every c =
    λ raw said. c.in-Ok-wide_query.ensures.every raw (subst (λ text. IsWideSaid false c.args.database.now text raw) (sym (c.as_slice.ensures ∙ c.in-Ok.ensures.text)) (plain_said c.args.database.now c.args.bytes.now raw said))
