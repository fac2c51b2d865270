-- How a run ends with its outcome.
use Rattle.std.specs.Prelude.{◌≡◌, ◌≢◌}
use Rattle.lrp_io.specs.Bytes.{appended, AppendsFront}
use Rattle.lrp_io.specs.Causes.{Rose}
use Rattle.lrp_outputs.specs.Outcomes.{Outcome, status_of, written_of}
use Rattle.lrp_outputs.specs.declared.status.Status.{Status}
use Rattle.lrp_outputs.specs.declared.status.Status.TheVariants as status
use Rattle.lrp_top.specs.Seen.{SinkSeen}

-- it is written whole, and the run ends with its status; or a front of it is written, and the sink's count of faults rose
pub record Ends (outcome : Outcome) (taken : SinkSeen) (ended : Status) : Type 0 where
  pub whole : ended ≢ status.Write → taken.bytes ≡ appended taken.bytes_before (written_of outcome)
  pub own_status : ended ≢ status.Write → ended ≡ status_of outcome
  pub front : ended ≡ status.Write → AppendsFront taken.bytes_before taken.bytes (written_of outcome)
  pub cause : ended ≡ status.Write → Rose taken.faults_before taken.faults
