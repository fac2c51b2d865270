-- One cell more goes to the end of the line.
use Rattle.std.proofs.Common.{◌++◌, Ok, ap, sym, ◌∙◌}
use Rattle.lrp_slots.proofs.Shortened.{next_none, next_put}
use Rattle.lrp_slots.proofs.held.line_of.Goals as goal

pub insert-requires : goal.insert-requires
insert-requires c = next_none c.loop-entry.line c.in-Some.entry c.next.new.self c.args.tree.now c.requires (ap (λ es. c.loop-entry.line ++ es) (sym c.in-Some.ensures.steps) ∙ c.loop-entry.invariant)

pub loop-entry-preserved : goal.loop-entry-preserved
loop-entry-preserved c =
    ap (λ es. es ++ c.next.new.self) (c.in_ok-insert.ensures.put (ap (λ b. Ok b) c.if-not-branch.false))
    ∙ next_put c.loop-entry.line c.in-Some.entry c.next.new.self c.args.tree.now c.requires (ap (λ es. c.loop-entry.line ++ es) (sym c.in-Some.ensures.steps) ∙ c.loop-entry.invariant)
