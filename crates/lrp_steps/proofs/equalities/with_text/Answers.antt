-- Another number is known.
use Rattle.lrp_steps.proofs.Conditioned.{one_number}
use Rattle.lrp_steps.proofs.equalities.with_text.Goals as goal

pub returns-in_default-known_at : goal.returns-in_default-known_at
returns-in_default-known_at c = record { none = one_number c.args.domain.now c.requires.ascends c.args.pattern.texts _ c.in-Some.number c.args.text.now c.in-Some.ensures c.in_default-known_at.ensures }
