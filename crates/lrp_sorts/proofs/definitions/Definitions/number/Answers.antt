use Rattle.std.proofs.Common.{◌≡◌, ◌<◌, true, false, map, position, Some, None, ap, subst, sym, ◌∙◌, arith}
use Rattle.std.specs.Option.{option_copied}
use Rattle.std.specs.Str.{bytes_eq}
use Rattle.lrp_sorts.specs.Definitions.{Defined, definition_number, is_marked}
use Rattle.lrp_sorts.proofs.Marked.{unmarked_none, unnumbered}
use Rattle.lrp_sorts.proofs.Numbered.{below_is, below_some, none_before, number_of, number_there}
use Rattle.lrp_sorts.proofs.definitions.Definitions.number.Goals as goal

pub returns-then-before-eq0-clause-number : goal.returns-then-before-eq0-clause-number
returns-then-before-eq0-clause-number c = none_before c.args.self.now c.args.before c.args.name.now c.if-before-eq0.true

pub returns-then-not-may_begin-clause-number : goal.returns-then-not-may_begin-clause-number
returns-then-not-may_begin-clause-number c =
    let n = c.args.name.now in
    let marks = c.self.inside.initials.value in
    let d : Defined = record { relations = c.self.inside.db.now; definitions = c.self.inside.all.items } in
    let none : c.may_begin.result ≡ false = grind (arith, c.if-not-may_begin.true) in
    let unmarked : is_marked marks n ≡ false = ap (λ m. is_marked m n) (sym c.deref.ensures) ∙ sym c.may_begin.ensures ∙ none in
    unnumbered d c.args.before n (unmarked_none marks (map (λ r. r.name) d.definitions) n c.self.invariant.marked unmarked) ∙ ap (λ e. definition_number e c.args.before n) c.self.view_is

pub returns-in_err-number-clause-number : goal.returns-in_err-number-clause-number
returns-in_err-number-clause-number c =
    let n = c.args.name.now in
    let d : Defined = record { relations = c.self.inside.db.now; definitions = c.self.inside.all.items } in
    c.from_residual.ensures ∙ number_of d c.args.before n None (sym (sym (c.self.invariant.numbered n) ∙ sym c.get.ensures.value ∙ ap option_copied c.in_err-number.was)) ∙ ap (λ e. definition_number e c.args.before n) c.self.view_is

pub returns-clause-number : goal.returns-clause-number
returns-clause-number c =
    let n = c.args.name.now in
    let i = c.in_ok-number.field-0.now in
    let d : Defined = record { relations = c.self.inside.db.now; definitions = c.self.inside.all.items } in
    c.then_some.ensures ∙ below_is i c.args.before ∙ number_of d c.args.before n (Some i) (sym (sym (c.self.invariant.numbered n) ∙ sym c.get.ensures.value ∙ ap option_copied c.in_ok-number.was)) ∙ ap (λ e. definition_number e c.args.before n) c.self.view_is
