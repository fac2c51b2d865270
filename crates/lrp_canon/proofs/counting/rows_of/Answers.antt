-- One more group.
use Rattle.std.proofs.Common.{◌∙◌, ◌++◌, ◌∷◌, [], ap, append-nil, append_assoc, subst, sym}
use Rattle.lrp_canon.specs.Counting.{IsCount, IsCountOf}
use Rattle.lrp_canon.specs.Edges.{AreRepeating}
use Rattle.lrp_canon.proofs.JoinedCounts.{more_counted, none_counted}
use Rattle.lrp_canon.proofs.counting.rows_of.Goals as goal

pub loop-group-init : goal.loop-group-init
loop-group-init c = ([], c.into_iter-group-iterator.ensures.into_iter_gives ∙ c.cells-group-items.ensures.cells, none_counted c.args.periods c.args.groups.now.lists c.requires.low)

pub rows_at-requires : goal.rows_at-requires
rows_at-requires c = subst (AreRepeating c.args.periods) (sym c.deref.ensures.value) (c.requires.groups.each c.in-Some.group c.in_ok-spans.spans.items c.in_ok-spans.ensures)

pub loop-group-preserved : goal.loop-group-preserved
loop-group-preserved c = (
  c.loop-group.invariant.0 ++ c.in-Some.group ∷ [],
  append_assoc c.loop-group.invariant.0 (c.in-Some.group ∷ []) c.next.new.self ∙ ap (λ xs. c.loop-group.invariant.0 ++ xs) (sym c.in-Some.ensures.steps) ∙ c.loop-group.invariant.1,
  subst (IsCountOf c.args.periods c.args.groups.now.lists (c.loop-group.invariant.0 ++ c.in-Some.group ∷ [])) (sym c.saturating_add-rows.ensures)
      (more_counted c.args.periods c.args.groups.now.lists c.requires.low c.loop-group.invariant.0 c.in-Some.group c.in_ok-spans.spans.items c.loop-group.rows c.in_ok-rows_at.field-0 c.in_ok-spans.ensures c.loop-group.invariant.2
      (subst (λ s. IsCount c.args.periods s c.in_ok-rows_at.field-0) c.deref.ensures.value c.in_ok-rows_at.ensures)),
)

pub returns : goal.returns
returns c = subst (λ g. IsCountOf c.args.periods c.args.groups.now.lists g c.loop-group.rows)
    (sym (append-nil c.loop-group.invariant.0) ∙ ap (λ x. c.loop-group.invariant.0 ++ x) (sym c.in-None.ensures.steps.0) ∙ c.loop-group.invariant.1) c.loop-group.invariant.2
