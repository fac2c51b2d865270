-- A store that stands alike is what is added of it.
use Rattle.std.proofs.Common.{refl, rules}
use Rattle.lrp_steps.proofs.Likeness.{alike_added, copied_added, same_shapes}
use Rattle.lrp_steps.proofs.unions.add_own.Goals as goal

pub returns-then-can_be_copied-clause-ok : goal.returns-then-can_be_copied-clause-ok
returns-then-can_be_copied-clause-ok c = λ high b r.
    let alike = c.is_alike.ensures (search rules) in
    let same = same_shapes c.args.store c.args.out.now c.args.places.now c.requires.stands alike in
    alike_added c.args.store c.args.out.now c.requires.stands.valid c.requires.valid c.args.places.now alike same c.args.wanted.pattern.now c.requires.free c.args.wanted.size c.requires.numbered c.args.wanted.cap c.args.store
    (λ h reach. copied_added c.args.store c.args.out.now c.args.store c.requires.stands.valid c.requires.valid same alike.period (c.can_be_copied.ensures.none (search rules)) refl c.args.wanted.cap (c.can_be_copied.ensures.few (search rules)) h reach) high b
