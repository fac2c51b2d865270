-- Each zone is far after the one before it.
use Rattle.std.proofs.Common.{◌<◌, ◌∷◌, sym, subst, ◌∙◌, arith}
use Rattle.std.specs.Prelude.{Contains}
use Rattle.lrp_cutting.proofs.LineLaws.{word_pos}
use Rattle.lrp_cutting.proofs.SettledLaws.{lines_of, turn_settled}
use Rattle.lrp_cutting.proofs.settled.is_settled.Goals as goal

pub are_apart-requires : goal.are_apart-requires
are_apart-requires c = lines_of c.args.store.now c.shape.ensures.valid c.args.cell.now c.requires.column _ (word_pos c.period.result c.args.store.now.period c.period.ensures c.shape.ensures.valid.period_high) c.requires.reach (c.in-Some.first ∷ c.next.new.self) (sym c.zones_of-zones.ensures ∙ c.in-Some.ensures.steps)

pub returns-in-Some : goal.returns-in-Some
returns-in-Some c = λ e. turn_settled c.args.store.now c.shape.ensures.valid c.args.cell.now c.requires.column c.in-Some.first c.next.new.self (sym c.zones_of-zones.ensures ∙ c.in-Some.ensures.steps) (c.are_apart.ensures e)

pub returns-in-None : goal.returns-in-None
returns-in-None c = λ e z h.
    let none = subst (λ l. Contains l z) (sym c.zones_of-zones.ensures ∙ c.in-None.ensures.steps.0) h in
    let low : none.0 < 0 = none.1 in
    absurd (omega arith)
