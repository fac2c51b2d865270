-- The counter's ledger is the one that the blank names.
use Rattle.lrp_top.proofs.listing.gather_part.Given as goal

abbrev pub ghosts-gather : goal.ghosts-gather
ghosts-gather a = record { name = a.blank.name; parts = a.blank.parts }
