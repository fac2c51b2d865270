use Rattle.std.proofs.Common.{◌≡◌, ◌<◌, ◌∷◌, ◌++◌, [], ℕ, refl, ap, subst, sym, ◌∙◌, append-nil, arith, rules}
use Rattle.lrp_wide.specs.Counts.{AreAscending, SumTo, counted_of, end_before}
use Rattle.lrp_wide.specs.Inlining.{counted_atom}
use Rattle.lrp_wide.specs.declared.numbering.Counted.{Counted}
use Rattle.lrp_wide.proofs.NumberOrder.{ascending-more, sums-more}
use Rattle.lrp_wide.proofs.NumberStops.{counted-none, counted-some}
use Rattle.lrp_wide.proofs.numbering.Numbers.count.Goals as goal

pub returns-then-numbers-eq0 : goal.returns-then-numbers-eq0
returns-then-numbers-eq0 c = sym (ap (λ l. c.args.self.now ++ l) (counted-none c.args.place c.args.numbers (omega (arith, c.if-numbers-eq0.true))) ∙ append-nil c.args.self.now)

pub invariant_of-self-2 : goal.invariant_of-self-2
invariant_of-self-2 c =
    let a : Counted = record { place = c.args.place; numbers = c.args.numbers; before = c.self.inside.total } in
    let items = c.in_ok-push.ensures.items ∙ ap (λ l. l ++ a ∷ []) c.make_room.ensures in
    record {
      sums = subst (λ l. SumTo 0 l c.saturating_add-self-inside.result) (sym items) (subst (SumTo 0 (c.self.inside.atoms.items ++ a ∷ [])) (sym c.saturating_add-self-inside.ensures) (sums-more 0 c.self.inside.atoms.items c.self.inside.total a c.self.invariant.sums refl));
      ascending = λ h.
          let both = c.ascends-is_ascending.ensures h in
          subst AreAscending (sym items) (ascending-more c.self.inside.atoms.items a (c.self.invariant.ascending both.0) (sym (ap (λ l. end_before l c.args.place) c.as_slice.ensures.value) ∙ both.1));
    }
