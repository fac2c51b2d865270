-- What the group's run says.
use Rattle.lrp_eval.proofs.groups.run_in_parts.Goals as goal

pub run_group-requires : goal.run_group-requires
run_group-requires c = record { domain_is = c.requires.domain; run = c.requires.plan }

pub returns-in-Ok-clause-table : goal.returns-in-Ok-clause-table
returns-in-Ok-clause-table c = c.in-Ok.ensures.run

pub returns-in-Ok-clause-inside : goal.returns-in-Ok-clause-inside
returns-in-Ok-clause-inside c = c.in-Ok.ensures.inside
