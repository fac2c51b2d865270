-- The edits so far are made, and the least answers told; what is kept is kept for the next edit, and no text is new.
use Rattle.std.specs.Prelude.{slice_get}
use Rattle.lrp_model.specs.Formulas.{question_of}
use Rattle.lrp_watch.specs.Decided.{HasAllTexts}
use Rattle.lrp_watch.specs.Keeping.{IsKeptOver}
use Rattle.lrp_watch.proofs.Decisions.{AreDecidedUpTo}
use Rattle.lrp_watch.proofs.anew.Renewed.spots.Given as goal

abbrev pub invariant-loop-i : goal.invariant-loop-i
invariant-loop-i l = record {
  decided : AreDecidedUpTo l.self.anew.planning (question_of l.self.query.now) l.self.anew.cap l.self.domain.now l.i l.edits l.database l.held l.spots;
  kept : IsKeptOver l.self.anew.cap l.held (slice_get l.edits l.i) l.kept;
  texts : HasAllTexts l.self.domain.now (question_of l.self.query.now) l.edits l.held;
}
