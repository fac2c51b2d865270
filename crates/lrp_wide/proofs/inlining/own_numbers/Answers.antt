use Rattle.std.proofs.Common.{◌≡◌, Some, None, ap, sym, ◌∙◌}
use Rattle.std.specs.Option.{option_copied}
use Rattle.lrp_wide.specs.Counts.{stopped_counts}
use Rattle.lrp_wide.proofs.inlining.own_numbers.Goals as goal

pub returns-in_ok-whole-in-Some : goal.returns-in_ok-whole-in-Some
returns-in_ok-whole-in-Some c = λ counted e.
    let both : Some c.in-Some.numbers.now ≡ Some (stopped_counts counted) = sym (ap option_copied c.in-Some.is) ∙ c.last.ensures.value ∙ e in
    let same : c.in-Some.numbers.now ≡ stopped_counts counted = cc in
    ap Some (c.in_ok-whole-in-Some.ensures counted same)

pub returns-in-None : goal.returns-in-None
returns-in-None c = λ counted e.
    let both : None ≡ Some (stopped_counts counted) = sym (ap option_copied c.in-None.is) ∙ c.last.ensures.value ∙ e in
    cc
