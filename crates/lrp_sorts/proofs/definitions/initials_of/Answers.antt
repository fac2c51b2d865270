use Rattle.std.proofs.Common.{◌≡◌, ◌+◌, ◌<◌, ◌≤◌, ◌++◌, [], ◌∷◌, length, map, take, ap, sym, subst, ◌∙◌, arith}
use Rattle.std.proofs.lemmas.List.{map-append, take_all, take_more}
use Rattle.std.proofs.lemmas.Option.{get_or_from_slice_get}
use Rattle.lrp_model.specs.declared.relations.Relation.{Relation}
use Rattle.lrp_sorts.specs.Definitions.{AreMarked}
use Rattle.lrp_sorts.proofs.definitions.initials_of.Goals as goal

pub loop-i-preserved : goal.loop-i-preserved
loop-i-preserved c =
    let db = c.args.db.now in
    let i = c.loop-i.i in
    let r = c.at.result.now in
    let lt : i < length db = omega (arith, c.loop-i-test.true, c.relations-i-end.ensures.len) in
    let more : map (λ (x : Relation). x.name) (take (i + 1) db) ≡ map (λ (x : Relation). x.name) (take i db) ++ r.name ∷ [] =
    ap (map (λ (x : Relation). x.name)) (take_more db i r lt ∙ ap (λ x. take i db ++ x ∷ []) (get_or_from_slice_get db i r r c.at.ensures.value)) ∙ map-append (λ (x : Relation). x.name) (take i db) (r ∷ []) in
    subst (AreMarked c.mark.new.initials) (sym more) (c.mark.ensures _ (subst (λ m. AreMarked m (map (λ (x : Relation). x.name) (take i db))) (sym c.deref_mut.ensures.value) c.loop-i.invariant))

pub returns : goal.returns
returns c =
    let db = c.args.db.now in
    let all : length db ≤ c.loop-i.i = omega (arith, c.loop-i-test.false, c.relations-i-end.ensures.len) in
    subst (λ l. AreMarked c.loop-i.initials.value (map (λ (x : Relation). x.name) l)) (take_all c.loop-i.i db all) c.loop-i.invariant
