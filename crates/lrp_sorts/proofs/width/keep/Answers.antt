use Rattle.std.proofs.Common.{◌≡◌, ◌∷◌, [], ◌++◌, false, ap, sym, ◌∙◌, subst, length, arith}
use Rattle.std.proofs.lemmas.List.{map-append, length-map}
use Rattle.lrp_model.specs.Faults.{is_named_in}
use Rattle.lrp_sorts.specs.Widths.{AreKeptNames, names_after}
use Rattle.lrp_sorts.proofs.Kept.{as_is, kept_too}
use Rattle.lrp_sorts.proofs.width.keep.Goals.{else-more-quantifiers-via-then-more-quantifiers+else-not-is_among, else-more-quantifiers-via-else-more-quantifiers}
use Rattle.lrp_sorts.proofs.width.keep.Goals as goal

pub returns-in_ok-push : goal.returns-in_ok-push
returns-in_ok-push c = λ passes bs names p k.
    let new : is_named_in (names_after c.args.kept.now.items) c.args.name.now ≡ false =
    ap (λ ns. is_named_in (names_after ns) c.args.name.now) (sym c.deref.ensures.value) ∙ sym c.is_among.ensures ∙ c.if-not-is_among.true in
    subst (λ l. AreKeptNames passes bs c.args.quantifiers (names ++ c.args.name.now ∷ []) l)
    (sym (ap names_after c.in_ok-push.ensures.items ∙ map-append (λ n. n.now) c.args.kept.now.items (c.args.name ∷ [])))
    (kept_too passes bs c.args.quantifiers names (names_after c.args.kept.now.items) c.args.name.now k new p)

pub returns-else-more-quantifiers : goal.returns-else-more-quantifiers
returns-else-more-quantifiers c = λ passes bs names p k.
    let long : length (names_after c.args.kept.now.items) ≡ length c.args.kept.now.items = length-map c.args.kept.now.items (λ n. n.now) in
    as_is passes bs c.args.quantifiers names (names_after c.args.kept.now.items) c.args.name.now k (λ short q.
    elim c.else-more-quantifiers.branch [
      | else-more-quantifiers-via-then-more-quantifiers+else-not-is_among w ↦
          ap (λ ns. is_named_in (names_after ns) c.args.name.now) (sym w.deref.ensures.value) ∙ sym w.is_among.ensures ∙ w.if-not-is_among.false
      | else-more-quantifiers-via-else-more-quantifiers w ↦ absurd (omega (arith, short, long, w.if-more-quantifiers.false, c.saturating_sub-more.ensures, c.len.ensures))
    ])
