use Rattle.std.proofs.Common.{◌≡◌, ap, get_or, sym, subst, ◌∙◌, arith}
use Rattle.std.specs.Prelude.{length}
use Rattle.lrp_wide.specs.Counts.{IsFirstAfter, counted_of, stopped}
use Rattle.lrp_wide.specs.Inlining.{numbers_before, numbers_of}
use Rattle.lrp_wide.specs.declared.numbering.Counted.{Counted}
use Rattle.lrp_wide.proofs.NumberOrder.{at-end, at-read, at_index, before-few, before-first, total-is}
use Rattle.lrp_wide.proofs.numbering.Numbers.before.Goals as goal

pub returns-then-self-eq0 : goal.returns-then-self-eq0
returns-then-self-eq0 c =
    let atoms = c.self.inside.atoms.items in
    let all = total-is 0 atoms c.self.inside.total c.self.invariant.sums in
    let few = before-few (counted_of atoms) c.args.place in
    let none : c.self.inside.total ≡ 0 = c.if-self-eq0.true in
    let is : 0 ≡ stopped (numbers_before (counted_of atoms) c.args.place) = omega (arith, all, few, none) in
    is ∙ ap (λ l. stopped (numbers_before l c.args.place)) c.self.view_is

pub returns-then-not-self : goal.returns-then-not-self
returns-then-not-self c =
    let atoms = c.self.inside.atoms.items in
    let p = c.args.place in
    c.sum_before.ensures ∙ ap (λ l. stopped (numbers_before (counted_of l) p)) c.as_slice-atoms.ensures.value ∙ ap (λ l. stopped (numbers_before l p)) c.self.view_is

pub returns-then-first-atoms : goal.returns-then-first-atoms
returns-then-first-atoms c =
    let atoms = c.self.inside.atoms.items in
    let p = c.args.place in
    let first : IsFirstAfter atoms p c.first_from-first.result = subst (λ l. IsFirstAfter l p c.first_from-first.result) c.as_slice-atoms.ensures.value c.first_from-first.ensures in
    let end : c.first_from-first.result ≡ length atoms = c.if-first-atoms.true ∙ ap length c.as_slice-atoms.ensures.value in
    sym (ap (λ n. at_index atoms n c.self.inside.total) end ∙ at-end atoms c.self.inside.total) ∙ before-first atoms c.self.inside.total p c.first_from-first.result c.self.invariant.sums first ∙ ap (λ l. stopped (numbers_before l p)) c.self.view_is

pub returns : goal.returns
returns c =
    let atoms = c.self.inside.atoms.items in
    let p = c.args.place in
    let n = c.first_from-first.result in
    let first : IsFirstAfter atoms p n = subst (λ l. IsFirstAfter l p n) c.as_slice-atoms.ensures.value c.first_from-first.ensures in
    let size : length c.as_slice-atoms.result.now ≡ length atoms = ap length c.as_slice-atoms.ensures.value in
    let none : Counted = record { place = record { line = 0; column = 0 }; numbers = 0; before = 0 } in
    let there = at-read atoms n c.self.inside.total none (omega (arith, first.bound, size, c.if-first-atoms.false)) in
    ap (λ l. (get_or l n none).before) c.as_slice-atoms.ensures.value ∙ sym there ∙ before-first atoms c.self.inside.total p n c.self.invariant.sums first ∙ ap (λ l. stopped (numbers_before l p)) c.self.view_is
