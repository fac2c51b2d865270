-- One spot more.
use Rattle.std.proofs.Common.{◌≡◌, ◌+◌, List, [], ◌∷◌, ◌++◌, length, ap, sym, subst, ◌∙◌}
use Rattle.lrp_model.specs.declared.tuples.Spot.{Spot}
use Rattle.lrp_answers.specs.Merging.{AreMergedLists, IsEarlierSpot}
use Rattle.lrp_answers.proofs.Given.{length_more}
use Rattle.lrp_answers.proofs.MergeLaws.{earlier_trans, merged_more}
use Rattle.lrp_answers.proofs.merging.first_of_both.Goals as goal

pub loop-line-preserved : goal.loop-line-preserved
loop-line-preserved c =
    let left = c.args.left.now in
    let right = c.args.right.now in
    let made = c.loop-line.made in
    let next = c.in-Some.next in
    let found = c.in-Some.ensures in
    let inv = c.loop-line.invariant in
    let pushed : c.push.new.self ≡ made.spots ++ next.spot ∷ [] = c.in_ok-push.ensures.ok in
    record {
      merged = subst (λ xs. AreMergedLists IsEarlierSpot left right next.left next.right xs) (sym pushed)
          (merged_more IsEarlierSpot earlier_trans left right c.requires.left c.requires.right made.left made.right made.spots inv.merged next.spot next.left next.right found.left found.right found.here);
      count = ap (λ (xs : List Spot). length xs) pushed ∙ length_more made.spots next.spot ∙ ap (λ n. n + 1) inv.count;
    }
