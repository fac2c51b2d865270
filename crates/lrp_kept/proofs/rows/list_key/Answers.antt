use Rattle.std.proofs.Common.{◌∷◌, [], ◌++◌, refl, sym, ap, ◌∙◌}
use Rattle.lrp_kept.specs.Keys.{keys_at}
use Rattle.lrp_kept.proofs.Relisted.{if_err, keys_here, relation_there, relisted}
use Rattle.lrp_kept.proofs.rows.list_key.Goals as goal

pub returns-in_err-push-clause-same : goal.returns-in_err-push-clause-same
returns-in_err-push-clause-same c =
    let there = relation_there c.args.relations.now.items c.args.relation c.index_mut.result.now c.requires c.index_mut.ensures.value in
    if_err c.from_residual.result
    (relisted c.args.relations.now.items _ c.args.relation c.index_mut.result.now (record { name = c.index_mut.result.now.name; columns = c.index_mut.result.now.columns; keys = c.push.new.self; most = c.index_mut.result.now.most }) (keys_at c.args.relations.now.items c.args.relation) there refl refl refl refl
    (c.in_err-push.ensures.items ∙ sym (keys_here c.args.relations.now.items c.args.relation c.index_mut.result.now there)))

pub returns-clause-listed : goal.returns-clause-listed
returns-clause-listed c =
    let there = relation_there c.args.relations.now.items c.args.relation c.index_mut.result.now c.requires c.index_mut.ensures.value in
    relisted c.args.relations.now.items _ c.args.relation c.index_mut.result.now (record { name = c.index_mut.result.now.name; columns = c.index_mut.result.now.columns; keys = c.push.new.self; most = c.index_mut.result.now.most }) (keys_at c.args.relations.now.items c.args.relation ++ c.args.key ∷ []) there refl refl refl refl
    (c.in_ok-push.ensures.items ∙ ap (λ ks. ks ++ c.args.key ∷ []) (sym (keys_here c.args.relations.now.items c.args.relation c.index_mut.result.now there)))
