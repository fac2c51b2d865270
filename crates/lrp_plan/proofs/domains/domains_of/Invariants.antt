use Rattle.std.proofs.Common.{take}
use Rattle.lrp_model.specs.Domains.{database_texts}
use Rattle.lrp_plan.specs.Domains.{AreDomains}
use Rattle.lrp_plan.proofs.domains.domains_of.Given as goal

-- the texts so far were gathered
abbrev pub invariant-loop-entry : goal.invariant-loop-entry
invariant-loop-entry l = AreDomains (database_texts l.database) (take l.entry-index l.texts) l.domains
