-- The sink is lent as the buffer has it.
use Rattle.lrp_io.proofs.text.write_buffered.Given as goal

abbrev pub ghosts-fill : goal.ghosts-fill
ghosts-fill g a = record { name = a.buffer.out.ghost_name; before = g.S.Sink.written a.buffer.out.now }
