use Rattle.std.proofs.Common.{◌≡◌, ◌∙◌, ◌++◌, ◌∷◌, ℕ, List, [], length, vec_len, sym, ap, refl, arith, rules}
use Rattle.lrp_model.specs.declared.tokens.Place.{Place}
use Rattle.lrp_model.specs.declared.raw.RawColumn.{RawColumn}
use Rattle.lrp_model.specs.RawQueries.{raw_form_of}
use Rattle.lrp_query.specs.Grammars.{quantified_by}
use Rattle.lrp_query.specs.Rules.{each_bound}
use Rattle.lrp_query.proofs.trees.bound.Goals as goal

-- one quantifier more, innermost
one_more : {F : Type 0} (bind : Place → RawColumn → F → F) (p : Place) (cs : List RawColumn) (c : RawColumn) (f : F) → each_bound bind p (cs ++ c ∷ []) f ≡ each_bound bind p cs (bind p c f)
one_more bind p [] c f = refl
one_more bind p (b ∷ cs) c f = ap (bind p b) (one_more bind p cs c f)

none_left : {A : Type 0} (xs : List A) → length xs ≡ 0 → xs ≡ []
none_left [] e = refl
none_left (x ∷ xs) e = absurd (omega (arith, e))

pub loop-binder-preserved : goal.loop-binder-preserved
loop-binder-preserved c =
    let bind = quantified_by c.args.quantifier in
    let before = raw_form_of c.loop-binder.made in
    ap (each_bound bind c.args.place c.pop.new.self.items) c.in_ok-made.ensures
    ∙ sym (one_more bind c.args.place c.pop.new.self.items c.in-Some.binder before)
    ∙ ap (λ cs. each_bound bind c.args.place cs before) (sym c.in-Some.ensures.items)
    ∙ c.loop-binder.invariant

pub returns : goal.returns
returns c =
    let size : vec_len c.loop-binder.left ≡ length c.loop-binder.left.items = search rules in
    let none : c.loop-binder.left.items ≡ [] = none_left c.loop-binder.left.items (sym size ∙ c.in_default.ensures.cases.0) in
    ap (λ cs. each_bound (quantified_by c.args.quantifier) c.args.place cs (raw_form_of c.loop-binder.made)) (sym none) ∙ c.loop-binder.invariant
