use Rattle.std.proofs.Common.{refl}
use Rattle.lrp_kept.proofs.Relisted.{relation_there, unlisted}
use Rattle.lrp_kept.proofs.rows.unlist_key.Goals as goal

pub returns : goal.returns
returns c =
    let there = relation_there c.args.relations.now.items c.args.relation c.index_mut.result.now c.requires.relation c.index_mut.ensures.value in
    unlisted c.args.relations.now.items _ c.args.relation c.args.place c.remove.result c.index_mut.result.now (record { name = c.index_mut.result.now.name; columns = c.index_mut.result.now.columns; keys = c.remove.new.self; most = c.index_mut.result.now.most }) there refl refl refl refl
    c.requires.place c.remove.ensures.value c.remove.ensures.items
