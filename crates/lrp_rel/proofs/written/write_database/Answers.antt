-- The relations of a database are kept, so that they read back.
use Rattle.std.proofs.Common.{subst}
use Rattle.lrp_print.specs.ReadBack.{ReadsBack}
use Rattle.lrp_print.proofs.Reading.{reads_back}
use Rattle.lrp_rel.proofs.written.write_database.Goals as goal

pub write_relations-requires : goal.write_relations-requires
write_relations-requires g c = c.as_slice.ensures.kept.each

pub returns-clause-reads_back : goal.returns-clause-reads_back
returns-clause-reads_back g c = subst ReadsBack c.as_slice.ensures.same (reads_back c.as_slice.result.now c.as_slice.ensures.kept)
