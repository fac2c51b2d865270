use Rattle.std.proofs.Common.{◌≡◌, ◌<◌, ◌≤◌, ◌-◌, true, false, get_or, length, sym, ◌∙◌, arith}
use Rattle.lrp_tense.specs.Expanding.{is_before}
use Rattle.lrp_wide.specs.declared.numbering.Counted.{Counted}
use Rattle.lrp_wide.proofs.NumberOrder.{before-last, first-at}
use Rattle.lrp_wide.proofs.numbering.is_first_after.Goals as goal

pub returns-then-number-eq0 : goal.returns-then-number-eq0
returns-then-number-eq0 c = λ holds.
    let atoms = c.args.atoms.now in
    let p = c.args.place in
    let none : Counted = record { place = record { line = 0; column = 0 }; numbers = 0; before = 0 } in
    let own : is_before (get_or atoms c.args.number none).place p ≡ false = sym c.is_before.ensures ∙ c.if-is_before.false in
    first-at atoms p c.args.number none c.requires c.if-number-atoms.false own (λ k d lt. absurd (omega (arith, lt, c.if-number-eq0.true)))

pub returns : goal.returns
returns c = λ holds.
    let atoms = c.args.atoms.now in
    let p = c.args.place in
    let n = c.args.number in
    let none : Counted = record { place = record { line = 0; column = 0 }; numbers = 0; before = 0 } in
    let within : n < length atoms = c.if-number-atoms.false in
    let own : is_before (get_or atoms n none).place p ≡ false = sym c.is_before.ensures ∙ c.if-is_before.false in
    let last : is_before (get_or atoms (n - 1) none).place p ≡ true = sym c.is_before-2.ensures ∙ holds in
    let low : n ≤ length atoms = omega (arith, within) in
    let some : 1 ≤ n = omega (arith, c.if-number-eq0.false) in
    first-at atoms p n none c.requires within own (before-last atoms p n none c.requires low some last)
