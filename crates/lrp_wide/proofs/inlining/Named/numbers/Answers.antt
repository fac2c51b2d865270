use Rattle.lrp_wide.proofs.NumberKnown.{got}
use Rattle.std.proofs.Common.{◌≡◌, ◌<◌, Some, length, sym, ◌∙◌, arith}
use Rattle.lrp_wide.specs.Counts.{stopped_counts}
use Rattle.lrp_wide.proofs.Results.{if_ok_then}
use Rattle.lrp_wide.proofs.inlining.Named.numbers.Goals as goal

pub returns : goal.returns
returns c =
    let w = c.args.self.written in
    let there : c.args.self.number < length w.numbers.now = omega (arith, c.requires.there, c.requires.written.numbers) in
    if_ok_then c.whole.result _ _ c.whole.ensures (λ made h counted e.
    let both : Some c.index-self-self.result ≡ Some (stopped_counts counted) = sym (got w.numbers.now c.args.self.number c.index-self-self.result there c.index-self-self.is) ∙ e in
    h counted cc)
