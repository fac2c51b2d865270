use Rattle.std.proofs.Common.{◌≡◌, ◌+◌, ◌∷◌, [], ◌++◌, take, ap, sym, ◌∙◌, subst, append_assoc, length, List, Bor, arith}
use Rattle.std.proofs.Math.Seq.{take-length}
use Rattle.std.proofs.lemmas.List.{map-append, take_more}
use Rattle.lrp_model.specs.Texts.{Identifier}
use Rattle.lrp_model.specs.Faults.{is_named_in}
use Rattle.lrp_sorts.specs.Widths.{AreKeptNames, names_after}
use Rattle.lrp_sorts.proofs.Counting.{and_both}
use Rattle.lrp_sorts.proofs.Kept.{joined}
use Rattle.lrp_sorts.proofs.Tallies.{item_after}
use Rattle.lrp_sorts.proofs.width.keep_each.Goals as goal

pub loop-name-preserved : goal.loop-name-preserved
loop-name-preserved c = λ passes bs names k all.
    let others : List (Bor Identifier) = c.args.others.now in
    let i = c.loop-name.name-index in
    let one : Bor Identifier = c.name-item.result in
    let whole : (names ++ names_after (take i others)) ++ one.now ∷ [] ≡ names ++ names_after (take (i + 1) others) =
    append_assoc names (names_after (take i others)) (one.now ∷ [])
    ∙ ap (λ l. names ++ l) (sym (map-append (λ n. n.now) (take i others) (one ∷ [])) ∙ ap (λ x. names_after (take i others ++ x ∷ [])) c.name-item.is ∙ ap names_after (sym (take_more others i one c.loop-name-test.true))) in
    subst (λ l. AreKeptNames passes bs c.args.quantifiers l (names_after c.keep.new.kept.items)) whole
    (c.in_ok-keep.ensures passes bs (names ++ names_after (take i others)) (all one.now (item_after others i one c.loop-name-test.true c.name-item.is)) (c.loop-name.invariant passes bs names k all))

pub returns : goal.returns
returns c = λ passes bs names more k j.
    let whole : take c.loop-name.name-index c.args.others.now ≡ c.args.others.now =
    let last : c.loop-name.name-index ≡ length c.args.others.now = omega arith in
    ap (λ i. take i c.args.others.now) last ∙ take-length c.args.others.now in
    joined passes bs c.args.quantifiers names more (names_after c.args.others.now) (names_after c.loop-name.kept.items)
    (subst (λ l. AreKeptNames passes bs c.args.quantifiers (names ++ names_after l) (names_after c.loop-name.kept.items)) whole
    (c.loop-name.invariant passes bs names k (λ n h. (and_both (is_named_in more n) _ (j.among n h)).1))) j
