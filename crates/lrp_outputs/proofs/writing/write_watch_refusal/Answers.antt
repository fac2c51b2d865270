-- Each refusal has its line.
use Rattle.std.proofs.Common.{◌∙◌, sym, ap}
use Rattle.std.specs.Prelude.{codes}
use Rattle.lrp_print.proofs.Lines.{written_as}
use Rattle.lrp_outputs.specs.Outcomes.{fault_line, watch_line}
use Rattle.lrp_outputs.proofs.writing.write_watch_refusal.Goals as goal

pub returns-in-Edits-clause-text : goal.returns-in-Edits-clause-text
returns-in-Edits-clause-text g c = written_as _ _ _ _ c.write_fault.result (ap (λ word. fault_line (codes "refused: edits ") word c.in-Edits.fault.place) c.word.ensures ∙ sym (ap watch_line c.in-Edits.is)) c.write_fault.ensures.text

pub returns-in-PeriodLimit-clause-text : goal.returns-in-PeriodLimit-clause-text
returns-in-PeriodLimit-clause-text g c = written_as _ _ _ _ c.write_edit.result (sym (ap watch_line c.in-PeriodLimit.is)) c.write_edit.ensures.text

pub returns-in-BoundLimit-clause-text : goal.returns-in-BoundLimit-clause-text
returns-in-BoundLimit-clause-text g c = written_as _ _ _ _ c.write_edit-in-BoundLimit.result (sym (ap watch_line c.in-BoundLimit.is)) c.write_edit-in-BoundLimit.ensures.text

pub returns-in-Cells-clause-text : goal.returns-in-Cells-clause-text
returns-in-Cells-clause-text g c = written_as _ _ _ _ c.write_cells.result (sym (ap watch_line c.in-Cells.is)) c.write_cells.ensures.text
