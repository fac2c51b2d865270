use Rattle.std.proofs.Common.{Some, None, ap, subst, ◌∙◌}
use Rattle.std.specs.List.{AllByRecursion}
use Rattle.lrp_model.specs.RawQueries.{raw_form_of}
use Rattle.lrp_wide.specs.Inside.{IsMeant}
use Rattle.lrp_wide.specs.Narrow.{HasNoStar}
use Rattle.lrp_wide.proofs.InPlace.{atom_stays, use_written}
use Rattle.lrp_wide.proofs.inlining.written_atom.Goals as goal

pub returns-then-has_no_star : goal.returns-then-has_no_star
returns-then-has_no_star c = λ n ts e.
    let m : IsMeant c.args.scene.now c.in-Atom.relation None = c.in_default-meaning_of.ensures in
    let none : AllByRecursion HasNoStar c.in-Atom.terms = subst (AllByRecursion HasNoStar) c.as_slice-terms.ensures (c.has_no_star.ensures c.if-has_no_star.true) in
    atom_stays c.args.scene.now c.requires.own c.args.f.now c.in-Atom.relation c.in-Atom.terms c.in-Atom.is none (λ file around. m.meaning file around)

pub returns : goal.returns
returns c =
    let met = c.in_ok-met-2.ensures in
    use_written c.args.scene.now c.requires.own c.args.f.now c.in-Atom.relation c.in-Atom.terms c.in-Atom.is c.in_ok-met-2.met met.place (ap (λ r. r.now) met.name) (ap (λ r. r.now) met.terms ∙ c.as_slice-terms.ensures) met.number
    (raw_form_of c.in_ok-made-2.made.value) c.in-Some.named c.in-Some.ensures (λ file around. c.in_ok-made-2.ensures file around)
