-- The database has the rows that the edit leaves.
use Rattle.std.proofs.Common.{◌≡◌, ◌∙◌, sym, subst}
use Rattle.lrp_keep.specs.Replaced.{replaced}
use Rattle.lrp_watch.specs.Edited.{IsEdited, IsEditedBy}
use Rattle.lrp_watch.proofs.Replacing.{edited_without, if_made, kept_with, kept_without, place_within, same_fits}
use Rattle.lrp_watch.proofs.edited.edited.Goals as goal

pub changed-requires : goal.changed-requires
changed-requires c =
    let own = c.in-Some.relation.now in
    record {
      kept = kept_with c.args.database.now c.args.edit.now.relation c.as_slice-rows.result.now own c.args.edit.now.row c.as_slice.result.now c.relations.ensures.kept (sym c.in-Some.ensures.named) c.in-Some.ensures.kept
          (same_fits own c.requires.relation _ c.args.edit.now.row (sym c.in-Some.ensures.named) c.requires.named c.requires.row) c.as_slice-rows.ensures (c.as_slice.ensures.value ∙ c.in_ok-rows.ensures);
    }

pub without-requires : goal.without-requires
without-requires c = place_within c.as_slice-rows.result.now c.in-Some-place_of.place c.in-Some-place_of.ensures.some.held c.in-Some-place_of.ensures.some.at

pub changed-requires-in-Some-place_of : goal.changed-requires-in-Some-place_of
changed-requires-in-Some-place_of c = record {
  kept = kept_without c.args.database.now c.args.edit.now.relation c.as_slice-rows.result.now c.in-Some.relation.now c.in-Some-place_of.place c.as_slice-in-Some-place_of.result.now c.relations.ensures.kept (sym c.in-Some.ensures.named) c.in-Some.ensures.kept
      c.as_slice-rows.ensures (c.as_slice-in-Some-place_of.ensures.value ∙ c.in_ok-rows-in-Some-place_of.ensures);
}

pub returns-in_ok-rows-in-Some-place_of : goal.returns-in_ok-rows-in-Some-place_of
returns-in_ok-rows-in-Some-place_of c =
    let db = c.args.database.now in
    let name = c.args.edit.now.relation in
    let row = c.args.edit.now.row in
    let all = c.as_slice-in-Some-place_of.result.now in
    if_made c.changed-in-Some-place_of.result (λ made. made ≡ replaced db name all) (IsEdited c.args.edit.now db)
    (λ made e. subst (λ b. IsEditedBy b name row db made) (sym c.if-edit.false)
    (edited_without db made name row c.as_slice-rows.result.now all c.in-Some.relation.now c.in-Some-place_of.place (sym c.in-Some.ensures.named) c.as_slice-rows.ensures c.in-Some-place_of.ensures.some (c.as_slice-in-Some-place_of.ensures.value ∙ c.in_ok-rows-in-Some-place_of.ensures) e))
    c.changed-in-Some-place_of.ensures
