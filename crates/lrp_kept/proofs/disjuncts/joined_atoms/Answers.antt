use Rattle.std.proofs.Common.{◌≡◌, ◌<◌, length, get_or, subst}
use Rattle.lrp_kept.specs.Held.{names_of}
use Rattle.lrp_kept.proofs.JoinedUp.{name_at, one_joined}
use Rattle.lrp_kept.proofs.disjuncts.joined_atoms.Goals as goal

pub joined_atom-requires : goal.joined_atom-requires
joined_atom-requires c = name_at (names_of c.args.rows.now) c.args.named.now.items c.loop-atom.atom-index c.atom-item.result (subst (λ xs. c.loop-atom.atom-index < length xs) c.deref-atom-items.ensures.value c.loop-atom-test.true) (subst (λ xs. c.atom-item.result ≡ get_or xs c.loop-atom.atom-index c.atom-item.result) c.deref-atom-items.ensures.value c.atom-item.is) c.requires

pub loop-atom-preserved : goal.loop-atom-preserved
loop-atom-preserved c =
    one_joined (names_of c.args.rows.now) c.args.named.now.items c.loop-atom.atom-index c.atom-item.result c.args.tests.now c.loop-atom.vars c.in_ok-vars.vars c.loop-atom.atoms.items c.push.new.self.items c.in_ok-joined.joined (subst (λ xs. c.loop-atom.atom-index < length xs) c.deref-atom-items.ensures.value c.loop-atom-test.true) (subst (λ xs. c.atom-item.result ≡ get_or xs c.loop-atom.atom-index c.atom-item.result) c.deref-atom-items.ensures.value c.atom-item.is) c.loop-atom.invariant
    c.in_ok-vars.ensures.times c.in_ok-vars.ensures.texts c.in_ok-joined.ensures c.in_ok-push.ensures.items
