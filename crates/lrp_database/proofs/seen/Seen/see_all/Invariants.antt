-- The texts so far were seen.
use Rattle.std.proofs.Common.{take}
use Rattle.lrp_model.specs.Domains.{database_texts}
use Rattle.lrp_database.specs.Seen.{IsPaired, SeesMore}
use Rattle.lrp_database.proofs.seen.Seen.see_all.Given as goal

abbrev pub invariant-loop-relation : goal.invariant-loop-relation
invariant-loop-relation l = record {
  seen : SeesMore (database_texts (take l.relation-index l.relations)) l.fn.self l.self;
  paired : IsPaired l.self;
}
