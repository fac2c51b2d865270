use Rattle.std.proofs.Common.{◌≡◌, ◌<◌, Some, length, arith, subst, sym, ◌∙◌, ap}
use Rattle.lrp_wide.specs.Chains.{IsChain}
use Rattle.lrp_wide.proofs.NumberKnown.{got}
use Rattle.lrp_wide.proofs.inlining.Named.chain.Goals as goal

pub returns-in-Some : goal.returns-in-Some
returns-in-Some c =
    let w = c.args.self.written in
    let there : c.args.self.number < length w.chains.now = omega (arith, c.requires.there, c.requires.written.each_chain) in
    subst (IsChain c.args.self.written.definitions.now c.args.self.written.plain.now c.args.self.number) (sym c.deref.ensures)
    (c.requires.written.chains c.args.self.number (Some c.in-Some.chain) (got w.chains.now c.args.self.number c.index-self-self.result there c.index-self-self.is ∙ ap Some (c.index-self-self.is ∙ c.in-Some.is)))
