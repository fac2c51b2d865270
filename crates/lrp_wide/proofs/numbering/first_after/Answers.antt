use Rattle.std.proofs.Common.{rules}
use Rattle.std.proofs.lemmas.List.Sorted.{IsPartitionPoint-from_clause}
use Rattle.lrp_tense.specs.Expanding.{is_before}
use Rattle.lrp_wide.proofs.NumberOrder.{partitioned}
use Rattle.lrp_wide.specs.declared.numbering.Counted.{Counted}
use Rattle.lrp_wide.proofs.numbering.first_after.Goals as goal

pub returns : goal.returns
returns c =
    let point = IsPartitionPoint-from_clause (λ (a : Counted). is_before a.place c.args.place) _ _ c.partition_point.ensures.partitioned (partitioned c.args.atoms.now c.args.place c.requires) (λ a r q k. search rules) in
    record { bound = c.partition_point.ensures.bound; before = point.0; after = point.1 }
