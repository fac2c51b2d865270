use Rattle.std.proofs.Common.{ap}
use Rattle.lrp_text.proofs.Founds.{found_bad, found_other, sign_kept}
use Rattle.lrp_text.proofs.sources.step.Goals as goal

pub returns-in-Bad-clause-found : goal.returns-in-Bad-clause-found
returns-in-Bad-clause-found c =
    let blanks = c.after_blanks-wide.ensures in
    sign_kept _ _ _ _ _ _ _ blanks.signs (found_bad _ _ _ _ _ _ (ap (λ s. s.bytes) blanks.next) (ap (λ s. s.place) blanks.next) c.first-lexeme.ensures.slice c.first-lexeme.ensures.lexeme c.in-Bad.is)

pub returns-clause-found : goal.returns-clause-found
returns-clause-found c =
    let blanks = c.after_blanks-wide.ensures in
    sign_kept _ _ _ _ _ _ _ blanks.signs (found_other _ _ _ _ _ _ _ (ap (λ s. s.bytes) blanks.next) (ap (λ s. s.place) blanks.next) c.first-lexeme.ensures.slice c.first-lexeme.ensures.rest c.first-lexeme.ensures.lexeme c.in_default.not-Bad)
