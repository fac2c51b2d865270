-- An atom that reads the relation can read the row.
use Rattle.std.proofs.Common.{◌∙◌, length, refl, sym, ap}
use Rattle.std.proofs.lemmas.Option.{same_Some, slice_get_read}
use Rattle.lrp_kept.specs.declared.disjuncts.JoinedAtom.{JoinedAtom}
use Rattle.lrp_kept.proofs.Sketched.{contained_at}
use Rattle.lrp_kept.proofs.sketches.Sketching.at_atom.Goals as goal

pub sketch-requires-clause-row : goal.sketch-requires-clause-row
sketch-requires-clause-row c =
    let here = slice_get_read c.args.disjunct.now.atoms.items (length c.args.disjunct.now.atoms.items) c.args.atom c.index.result.now refl c.requires.atom c.index.ensures in
    λ a at. c.requires.row c.args.disjunct.now a c.requires.listed (contained_at c.args.disjunct.now.atoms.items c.args.atom a at) (ap (λ (j : JoinedAtom). j.relation) (same_Some a c.index.result.now (sym at ∙ here)) ∙ c.if-index-self.false)

pub returns : goal.returns
returns c =
    record { disjunct = c.args.disjunct.now; listed = c.requires.listed; atom = c.args.atom; is = c.in_ok-sketch.ensures }
