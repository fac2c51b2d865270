use Rattle.std.proofs.Common.{Some, refl, sym, ap, ◌∙◌}
use Rattle.std.proofs.lemmas.List.{length-set}
use Rattle.std.proofs.lemmas.Option.{same_Some, slice_get_read}
use Rattle.std.proofs.Common.{length}
use Rattle.lrp_kept.specs.declared.rows.HeldRelation.{HeldRelation}
use Rattle.lrp_parts.proofs.Parted.{set_here, set_there}
use Rattle.lrp_keep.proofs.states.mark.Goals as goal

pub returns : goal.returns
returns c =
    let there = slice_get_read c.args.rows.now.relations.items (length c.args.rows.now.relations.items) c.args.relation c.index_mut.result.now refl c.requires c.index_mut.ensures.value in
    record {
      sources = refl;
      count = length-set c.args.rows.now.relations.items c.args.relation _;
      rest = λ i n. set_there c.args.rows.now.relations.items c.args.relation i _ n;
      at = λ h e. set_here c.args.rows.now.relations.items c.args.relation _ c.requires ∙ ap (λ (x : HeldRelation). Some (record x { most = c.args.most })) (same_Some c.index_mut.result.now h (sym there ∙ e));
    }
