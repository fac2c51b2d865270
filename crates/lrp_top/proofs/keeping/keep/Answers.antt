-- The database is that of the bytes, and nothing was asked of it.
use Rattle.std.proofs.Common.{refl, subst}
use Rattle.lrp_model.specs.DatabaseReading.{IsDatabase}
use Rattle.lrp_top.specs.Written.{plain_by}
use Rattle.lrp_top.proofs.keeping.keep.Goals as goal

pub returns-in-Ok-clause-kept : goal.returns-in-Ok-clause-kept
returns-in-Ok-clause-kept c = record {
  civil_is = refl;
  bytes_are = refl;
  read = record { short = c.requires; means = subst (λ bytes. IsDatabase (plain_by c.civil_of-civil.result bytes) c.in-Ok.relations) c.as_slice.ensures c.in-Ok.ensures.read };
  last = tt;
}

pub returns-in-Ok-clause-reads : goal.returns-in-Ok-clause-reads
returns-in-Ok-clause-reads c = c.civil_of-civil.ensures
