-- The outline is that of the row for the atom.
use Rattle.std.proofs.Common.{◌∙◌, length, refl, sym, subst}
use Rattle.std.proofs.lemmas.Option.{same_Some, slice_get_read}
use Rattle.lrp_kept.specs.Outlines.{IsOutlineFor}
use Rattle.lrp_kept.specs.declared.disjuncts.JoinedAtom.{JoinedAtom}
use Rattle.lrp_kept.proofs.sketches.Sketching.sketch.Goals as goal

pub of_row-requires-clause-few_times : goal.of_row-requires-clause-few_times
of_row-requires-clause-few_times c =
    let can = c.requires.row c.index-of.result.now (slice_get_read c.args.disjunct.now.atoms.items (length c.args.disjunct.now.atoms.items) c.args.atom c.index-of.result.now refl c.requires.atom c.index-of.ensures) in
    can.few_times

pub of_row-requires-clause-few_texts : goal.of_row-requires-clause-few_texts
of_row-requires-clause-few_texts c =
    let can = c.requires.row c.index-of.result.now (slice_get_read c.args.disjunct.now.atoms.items (length c.args.disjunct.now.atoms.items) c.args.atom c.index-of.result.now refl c.requires.atom c.index-of.ensures) in
    can.few_texts

pub of_row-requires-clause-times : goal.of_row-requires-clause-times
of_row-requires-clause-times c =
    let can = c.requires.row c.index-of.result.now (slice_get_read c.args.disjunct.now.atoms.items (length c.args.disjunct.now.atoms.items) c.args.atom c.index-of.result.now refl c.requires.atom c.index-of.ensures) in
    can.times

pub of_row-requires-clause-texts : goal.of_row-requires-clause-texts
of_row-requires-clause-texts c =
    let can = c.requires.row c.index-of.result.now (slice_get_read c.args.disjunct.now.atoms.items (length c.args.disjunct.now.atoms.items) c.args.atom c.index-of.result.now refl c.requires.atom c.index-of.ensures) in
    can.texts

pub of_row-requires-clause-row : goal.of_row-requires-clause-row
of_row-requires-clause-row c =
    let can = c.requires.row c.index-of.result.now (slice_get_read c.args.disjunct.now.atoms.items (length c.args.disjunct.now.atoms.items) c.args.atom c.index-of.result.now refl c.requires.atom c.index-of.ensures) in
    can.read

pub returns : goal.returns
returns c =
    record { disjunct_is = refl; atom_is = refl; outline = λ a at. subst (λ (j : JoinedAtom). IsOutlineFor c.args.self.now.domain.now j.vars j.terms c.args.self.now.row.now c.in_ok-outline.outline) (same_Some c.index-of.result.now a (sym (slice_get_read c.args.disjunct.now.atoms.items (length c.args.disjunct.now.atoms.items) c.args.atom c.index-of.result.now refl c.requires.atom c.index-of.ensures) ∙ at)) c.in_ok-outline.ensures }
