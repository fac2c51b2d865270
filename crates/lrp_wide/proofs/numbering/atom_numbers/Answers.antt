use Rattle.std.proofs.Common.{◌≡◌, ◌<◌, ◌+◌, ◌^◌, ◌∙◌, ap, sym, length, map, take, arith, rules, Some, None}
use Rattle.lrp_model.specs.Rows.{columns_in, relation_named}
use Rattle.lrp_wide.specs.Counts.{stopped}
use Rattle.lrp_wide.specs.Inlining.{atom_numbers, meant_by, star_total}
use Rattle.lrp_wide.proofs.MeantNames.{number_nowhere, number_there}
use Rattle.lrp_wide.proofs.NumberKnown.{at_below, got, numbered-at, numbered-length, numbered-names, use-numbers}
use Rattle.lrp_wide.proofs.numbering.atom_numbers.Goals as goal

pub returns-in-Some : goal.returns-in-Some
returns-in-Some c = λ ks h.
    let d = c.args.definitions.now in
    let ns = c.args.known.now in
    let i = c.in-Some.number in
    let many : length ks ≡ length ns = numbered-length ks d.definitions ns h in
    let at = at_below ks i (omega (arith, many, c.in-Some.ensures.before)) in
    use-numbers (columns_in (relation_named d.relations c.args.name.now)) c.args.terms.now (meant_by d.relations ks c.args.name.now) at.entry c.at.result.now c.index-known-number.result c.saturating_add.result c.terms_of-stars.result.stars c.saturating_add-in-Some.result
    (number_there d ks (length ns) c.args.name.now (numbered-names ks d.definitions ns h) i (sym c.in-Some.ensures.number) ∙ at.is)
    (numbered-at ks d.definitions ns i at.entry c.at.result.now c.index-known-number.result h at.is c.at.ensures (got ns i c.index-known-number.result c.in-Some.ensures.before c.index-known-number.is))
    (c.terms_of-stars.ensures.stars ∙ ap (λ cs. star_total cs c.args.terms.now) c.as_slice.ensures)
    c.saturating_add.ensures
    (c.saturating_add-in-Some.ensures ∙ ap (λ n. stopped (c.saturating_add.result + n)) c.total.ensures)

pub returns : goal.returns
returns c = λ ks h.
    let d = c.args.definitions.now in
    let name = c.args.name.now in
    let none : meant_by d.relations ks name ≡ None = number_nowhere d ks (length c.args.known.now) name (numbered-names ks d.definitions c.args.known.now h) (sym c.in_default.ensures.number) in
    let small : c.stars_of.result < 2 ^ 64 = search rules in
    let stars : stopped c.stars_of.result ≡ c.stars_of.result = omega (arith, small) in
    sym stars ∙ ap stopped (c.stars_of.ensures ∙ ap (atom_numbers (columns_in (relation_named d.relations name)) c.args.terms.now) (sym none))
