-- The page of all parts can be written by the columns and the domain of the first one.
use Rattle.std.proofs.Common.{List, Contains, refl, subst, sym}
use Rattle.lrp_store.proofs.Held.{Contains-from_get}
use Rattle.lrp_answers.specs.declared.answer.Answer.{Answer}
use Rattle.lrp_outputs.proofs.PartLeasts.{taken_out}
use Rattle.lrp_outputs.proofs.Spots.{texts_known}
use Rattle.lrp_top.specs.Parts.{AreProperParts, IsAfterOf, IsPageOfParts}
use Rattle.lrp_top.proofs.CivilSpots.{are_ends, page_dates}
use Rattle.lrp_top.proofs.Listed.{known_all}
use Rattle.lrp_top.proofs.listing.page_of_parts.Goals as goal

pub gather_parts-requires-clause-parts : goal.gather_parts-requires-clause-parts
gather_parts-requires-clause-parts c = subst AreProperParts (sym c.as_slice.ensures) c.requires.parts

pub gather_parts-requires-clause-after : goal.gather_parts-requires-clause-after
gather_parts-requires-clause-after c = subst (λ parts. IsAfterOf parts c.args.after) (sym c.as_slice.ensures) c.requires.after

pub invariant_of-result-clause-known : goal.invariant_of-result-clause-known
invariant_of-result-clause-known c =
    let p = c.args.paging.now in
    let part = c.swap_remove-answer.result in
    let here = taken_out c.args.parts c.into_vec.result.items c.args.parts 0 part c.into_vec.ensures refl c.requires.parts.some c.swap_remove-answer.ensures.value in
    let listed : Contains c.as_slice.result.now part = subst (λ (parts : List Answer). Contains parts part) (sym c.as_slice.ensures) (Contains-from_get c.args.parts 0 part here) in
    known_all texts_known part p.from p.to c.in_ok-found.found.spots (are_ends p.civil p.from p.to c.requires.from c.requires.to) (c.in_ok-found.ensures.page part listed).standing

pub invariant_of-result-clause-dates : goal.invariant_of-result-clause-dates
invariant_of-result-clause-dates c =
    let p = c.args.paging.now in
    let part = c.swap_remove-answer.result in
    let here = taken_out c.args.parts c.into_vec.result.items c.args.parts 0 part c.into_vec.ensures refl c.requires.parts.some c.swap_remove-answer.ensures.value in
    let listed : Contains c.as_slice.result.now part = subst (λ (parts : List Answer). Contains parts part) (sym c.as_slice.ensures) (Contains-from_get c.args.parts 0 part here) in
    page_dates p.civil part p.from p.to c.in_ok-found.found.spots c.requires.from c.requires.to (c.in_ok-found.ensures.page part listed).standing

pub returns-clause-part : goal.returns-clause-part
returns-clause-part c =
    let part = c.swap_remove-answer.result in
    Contains-from_get c.args.parts 0 part (taken_out c.args.parts c.into_vec.result.items c.args.parts 0 part c.into_vec.ensures refl c.requires.parts.some c.swap_remove-answer.ensures.value)

pub returns-clause-page : goal.returns-clause-page
returns-clause-page c =
    let part = c.swap_remove-answer.result in
    let here = taken_out c.args.parts c.into_vec.result.items c.args.parts 0 part c.into_vec.ensures refl c.requires.parts.some c.swap_remove-answer.ensures.value in
    let listed : Contains c.as_slice.result.now part = subst (λ (parts : List Answer). Contains parts part) (sym c.as_slice.ensures) (Contains-from_get c.args.parts 0 part here) in
    subst (λ parts. IsPageOfParts parts c.args.paging.now c.args.after part c.in_ok-found.found) c.as_slice.ensures (c.in_ok-found.ensures.page part listed)
