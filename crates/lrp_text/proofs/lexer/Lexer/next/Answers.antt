use Rattle.std.proofs.Common.{false, ◌∙◌, sym, subst}
use Rattle.lrp_text.specs.Sources.{tokens_left}
use Rattle.lrp_text.proofs.Giving.{FirstKind, SliceKind, TextKindOf, first_found, slice_found, text_found}
use Rattle.lrp_text.proofs.lexer.Lexer.next.Goals as goal

pub returns-in-Ok-clause-order : goal.returns-in-Ok-clause-order
returns-in-Ok-clause-order c = subst (λ r. FirstKind r c.found-found.result.place (tokens_left false c.args.self.now) (tokens_left false c.found-found.new.self)) (sym c.kind.ensures ∙ c.in-Ok.is) (first_found _ _ _ _ _ c.found-found.ensures)

pub returns-in-Ok-clause-slice : goal.returns-in-Ok-clause-slice
returns-in-Ok-clause-slice c = subst (λ r. SliceKind r c.args.self.now c.found-found.result.slice.now c.found-found.result.place c.found-found.new.self) (sym c.kind.ensures ∙ c.in-Ok.is) (slice_found _ _ _ _ _ c.found-found.ensures)

pub returns-in-Err-clause-order : goal.returns-in-Err-clause-order
returns-in-Err-clause-order c = subst (λ r. FirstKind r c.found-found.result.place (tokens_left false c.args.self.now) (tokens_left false c.found-found.new.self)) (sym c.kind.ensures ∙ c.in-Err.is) (first_found _ _ _ _ _ c.found-found.ensures)

pub returns-in-Ok-clause-text : goal.returns-in-Ok-clause-text
returns-in-Ok-clause-text c = subst (λ r. TextKindOf r c.args.self.now c.found-found.result.slice.now) (sym c.kind.ensures ∙ c.in-Ok.is) (text_found _ _ _ _ _ c.found-found.ensures)
