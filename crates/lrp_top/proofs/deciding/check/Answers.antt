-- The relations of the bytes that were read.
use Rattle.std.proofs.Common.{Ok, ap}
use Rattle.lrp_model.specs.Printed.{database_bytes}
use Rattle.lrp_top.specs.Languages.{usual_by}
use Rattle.lrp_top.specs.Questions.{database_source}
use Rattle.lrp_top.specs.Written.{plain_by}
use Rattle.lrp_io.proofs.StartsLemmas.{only_first}
use Rattle.lrp_top.proofs.deciding.check.Goals as goal

pub returns-in-Ok-clause-due : goal.returns-in-Ok-clause-due
returns-in-Ok-clause-due g c = record {
  first = Ok (database_source c.in-Ok.file);
  is = c.in-Ok.ensures.read;
  next = (ap database_bytes c.into_relations.ensures, c.databases_read_back.ensures (plain_by (usual_by c.args.civil) c.in-Ok.ensures.read.bytes) c.in-Ok.file.relations c.in-Ok.ensures.read.is.2);
}

pub returns-in-Ok-clause-starts : goal.returns-in-Ok-clause-starts
returns-in-Ok-clause-starts g c = only_first _ _ _ _ c.in-Ok.ensures.starts

pub returns-in-Err-clause-starts : goal.returns-in-Err-clause-starts
returns-in-Err-clause-starts g c = only_first _ _ _ _ c.in-Err.ensures.starts
