-- The spans of the zones that are not left are appended.
use Rattle.lrp_spans.proofs.GroupLaws.{IsAppending}
use Rattle.lrp_spans.proofs.groups.push_spans.Given as goal

abbrev pub invariant-loop-zone : goal.invariant-loop-zone
invariant-loop-zone l = IsAppending l.group l.fn.zones l.zone-iterator l.initial.groups.lists l.groups.lists
