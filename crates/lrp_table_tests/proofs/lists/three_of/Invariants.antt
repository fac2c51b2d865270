-- The counter's ledger is the one that the blank names.
use Rattle.lrp_table_tests.proofs.lists.three_of.Given as goal

abbrev pub ghosts-next_three : goal.ghosts-next_three
ghosts-next_three a = record { name = a.blank.name; parts = a.blank.parts }
