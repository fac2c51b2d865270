-- How a run ends that wrote its text whole, or a front of it.
use Rattle.std.proofs.Common.{◌≡◌, Ok, Err, refl, sym, ◌∙◌}
use Rattle.lrp_io.specs.Bytes.{appended, AppendsFront}
use Rattle.lrp_io.specs.Causes.{Rose}
use Rattle.lrp_outputs.specs.Outcomes.{Outcome, refused_with, status_of, written_of}
use Rattle.lrp_outputs.specs.declared.status.Status.{Status}
use Rattle.lrp_outputs.specs.declared.status.Status.TheVariants as status
use Rattle.lrp_outputs.specs.declared.refusal.Refusal.{Refusal}
use Rattle.lrp_outputs.specs.declared.refusal.Refusal.TheVariants.{Usage, ReadDatabase, LongDatabase, Database, ReadQuery, LongQuery, Query, Formulas, Depth, PeriodLimit, BoundLimit, TokenForm, TokenShape, TokenStale, Cells, Head, CanonRows, Watch, Memory}
use Rattle.lrp_outputs.specs.declared.watch_refusal.WatchRefusal.TheVariants as watch
use Rattle.lrp_top.specs.Ends.{Ends}
use Rattle.lrp_top.specs.Seen.{SinkSeen}

-- no refusal has the status of a failed write
refused_whole : (refusal : Refusal) → refused_with refusal ≡ status.Write → ⊥
refused_whole Usage e = cc
refused_whole ReadDatabase e = cc
refused_whole LongDatabase e = cc
refused_whole (Database fault) e = cc
refused_whole ReadQuery e = cc
refused_whole LongQuery e = cc
refused_whole (Query fault) e = cc
refused_whole Formulas e = cc
refused_whole Depth e = cc
refused_whole PeriodLimit e = cc
refused_whole BoundLimit e = cc
refused_whole TokenForm e = cc
refused_whole TokenShape e = cc
refused_whole TokenStale e = cc
refused_whole (Cells cap step) e = cc
refused_whole (Head need) e = cc
refused_whole (CanonRows cap) e = cc
refused_whole (Watch watch.NotKept) e = cc
refused_whole (Watch watch.Read) e = cc
refused_whole (Watch watch.Long) e = cc
refused_whole (Watch (watch.Edits fault)) e = cc
refused_whole (Watch (watch.PeriodLimit edit)) e = cc
refused_whole (Watch (watch.BoundLimit edit)) e = cc
refused_whole (Watch (watch.Cells cap edit)) e = cc
refused_whole Memory e = cc

-- nor has any outcome
not_write : (outcome : Outcome) → status_of outcome ≡ status.Write → ⊥
not_write (Ok bytes) e = cc
not_write (Err refusal) e = refused_whole refusal e

-- a text that was written whole ends with its status
pub ends_whole : (outcome : Outcome) (taken : SinkSeen) (ended : Status) → taken.bytes ≡ appended taken.bytes_before (written_of outcome) → ended ≡ status_of outcome → Ends outcome taken ended
ends_whole outcome taken ended text own = record {
  whole = λ other. text;
  own_status = λ other. own;
  front = λ e. absurd (not_write outcome (sym own ∙ e));
  cause = λ e. absurd (not_write outcome (sym own ∙ e));
}

-- a text of which a front was written ends with the status of a failed write
pub ends_cut : (outcome : Outcome) (taken : SinkSeen) → AppendsFront taken.bytes_before taken.bytes (written_of outcome) → Rose taken.faults_before taken.faults → Ends outcome taken status.Write
ends_cut outcome taken front rose = record {
  whole = λ other. absurd (other refl);
  own_status = λ other. absurd (other refl);
  front = λ e. front;
  cause = λ e. rose;
}
