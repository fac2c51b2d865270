-- The shelf is one of these files.
use Rattle.lrp_c.proofs.reply.run_over.Given as goal

abbrev pub ghosts-run_on : goal.ghosts-run_on
ghosts-run_on a = record { files = a.files }
