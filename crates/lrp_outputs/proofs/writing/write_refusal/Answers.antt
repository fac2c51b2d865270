-- Each refusal has its line.
use Rattle.std.proofs.Common.{◌∙◌, sym, ap}
use Rattle.std.specs.Prelude.{codes}
use Rattle.lrp_print.proofs.Lines.{written_as}
use Rattle.lrp_outputs.specs.Outcomes.{cells_line, fault_line, line_of}
use Rattle.lrp_outputs.proofs.writing.write_refusal.Goals as goal

pub returns-in-Database-clause-text : goal.returns-in-Database-clause-text
returns-in-Database-clause-text g c = written_as _ _ _ _ c.write_fault.result (ap (λ word. fault_line (codes "refused: database ") word c.in-Database.fault.place) c.word.ensures ∙ sym (ap line_of c.in-Database.is)) c.write_fault.ensures.text

pub returns-in-Query-clause-text : goal.returns-in-Query-clause-text
returns-in-Query-clause-text g c = written_as _ _ _ _ c.write_fault-in-Query.result (ap (λ word. fault_line (codes "refused: query ") word c.in-Query.fault.place) c.word-in-Query.ensures ∙ sym (ap line_of c.in-Query.is)) c.write_fault-in-Query.ensures.text

pub returns-in-ReadQuery-clause-text : goal.returns-in-ReadQuery-clause-text
returns-in-ReadQuery-clause-text g c = written_as _ _ _ _ c.write_bytes-in-ReadQuery.result (sym (ap line_of c.in-ReadQuery.is)) c.write_bytes-in-ReadQuery.ensures.text

pub returns-in-LongQuery-clause-text : goal.returns-in-LongQuery-clause-text
returns-in-LongQuery-clause-text g c = written_as _ _ _ _ c.write_bytes-in-LongQuery.result (sym (ap line_of c.in-LongQuery.is)) c.write_bytes-in-LongQuery.ensures.text

pub returns-in-Memory-clause-text : goal.returns-in-Memory-clause-text
returns-in-Memory-clause-text g c = written_as _ _ _ _ c.write_bytes-in-Memory.result (sym (ap line_of c.in-Memory.is)) c.write_bytes-in-Memory.ensures.text

pub returns-in-Cells-clause-text : goal.returns-in-Cells-clause-text
returns-in-Cells-clause-text g c = written_as _ _ _ _ c.write_cells.result (ap (cells_line c.in-Cells.cap (codes " cells at step ")) c.from.ensures ∙ sym (ap line_of c.in-Cells.is)) c.write_cells.ensures.text

pub returns-in-CanonRows-clause-text : goal.returns-in-CanonRows-clause-text
returns-in-CanonRows-clause-text g c = written_as _ _ _ _ c.write_rows.result (sym (ap line_of c.in-CanonRows.is)) c.write_rows.ensures.text

pub returns-in-Watch-clause-text : goal.returns-in-Watch-clause-text
returns-in-Watch-clause-text g c = written_as _ _ _ _ c.write_watch_refusal.result (sym (ap line_of c.in-Watch.is)) c.write_watch_refusal.ensures.text

pub returns-in-Head-clause-text : goal.returns-in-Head-clause-text
returns-in-Head-clause-text g c = written_as _ _ _ _ c.write_head.result (sym (ap line_of c.in-Head.is)) c.write_head.ensures.text
