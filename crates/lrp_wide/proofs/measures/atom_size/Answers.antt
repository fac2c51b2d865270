use Rattle.std.proofs.Common.{◌≡◌, ◌<◌, length, get_or, Some, None, subst, sym, ◌∙◌, arith}
use Rattle.std.proofs.lemmas.Option.{get_or_from_slice_get, slice_get-get_or}
use Rattle.lrp_sorts.specs.Definitions.{definition_number}
use Rattle.lrp_wide.specs.Sizes.{AreTermsCounted}
use Rattle.lrp_wide.specs.declared.measures.Size.{Size}
use Rattle.lrp_wide.proofs.MeantNames.{number_nowhere, number_there}
use Rattle.lrp_wide.proofs.MeasureKnown.{IsKnownAt, known_at, measured_length, names_measured}
use Rattle.lrp_wide.proofs.MeasureNodes.{in_atom, in_use}
use Rattle.lrp_wide.proofs.measures.atom_size.Goals as goal

pub returns-in-Some : goal.returns-in-Some
returns-in-Some c = λ ks m place.
    let d = c.args.definitions.now in
    let sizes = c.args.known.now in
    let n = c.args.name.now in
    let i = c.in-Some.number in
    let none : Size = record { formulas = 0; depth = 0 } in
    let size : Size = get_or sizes i none in
    let there : i < length sizes = omega (arith, c.in-Some.ensures.before) in
    let is : size ≡ get_or sizes i size = sym (get_or_from_slice_get sizes i size size (slice_get-get_or sizes i none there)) in
    let number : definition_number d (length sizes) n ≡ Some i = sym c.number.ensures.number ∙ c.in-Some.is in
    let below : i < length ks = omega (arith, measured_length ks d.definitions sizes m, c.in-Some.ensures.before) in
    let at : IsKnownAt ks i c.at.result.now size = known_at ks d.definitions sizes i c.at.result.now size m below c.at.ensures is in
    let counted : AreTermsCounted c.terms_of-found.result at.known.columns c.args.terms.now =
    subst (λ cs. AreTermsCounted c.terms_of-found.result cs c.args.terms.now) (c.as_slice.ensures ∙ at.columns) c.terms_of-found.ensures in
    in_use d.relations ks size c.use_size.result c.terms_of-found.result place n c.args.terms.now at.known
    (number_there d ks (length sizes) n (names_measured ks d.definitions sizes m) i number ∙ at.there) counted at.size c.use_size.ensures

pub returns : goal.returns
returns c = λ ks m place.
    let d = c.args.definitions.now in
    let sizes = c.args.known.now in
    let n = c.args.name.now in
    let none : definition_number d (length sizes) n ≡ None = sym c.number.ensures.number ∙ c.in_default.is in
    in_atom d.relations ks c.leaf.result c.under.result c.stars_of.result place n c.args.terms.now
    (number_nowhere d ks (length sizes) n (names_measured ks d.definitions sizes m) none) c.stars_of.ensures c.leaf.ensures c.under.ensures
