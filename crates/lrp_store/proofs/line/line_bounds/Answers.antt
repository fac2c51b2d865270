-- The entries are the bounds, first the one on zero less the column.
use Rattle.std.proofs.Common.{◌≡◌, ◌++◌, ap, sym, subst, ◌∙◌}
use Rattle.lrp_store.specs.Stored.{bounds_of, table_of, AreListed}
use Rattle.lrp_store.specs.Joined.{if_listed, line_list}
use Rattle.lrp_store.proofs.LineBounds.{line_listed}
use Rattle.lrp_store.proofs.line.line_bounds.Goals as goal

both : (c : goal.After-list_bound-2) → bounds_of c.list_bound-2.new.entries.items ≡ line_list c.args.low c.args.high
both c =
    c.list_bound-2.ensures.listed
    ∙ ap (λ bs. bs ++ if_listed 9 c.args.high) (c.list_bound.ensures.listed ∙ ap (λ es. bounds_of es ++ if_listed 1 c.args.low) c.new-entries.ensures.items)

pub invariant_of-result : goal.invariant_of-result
invariant_of-result c = subst AreListed (sym (both c)) (line_listed c.args.low c.args.high)

pub returns : goal.returns
returns c = ap table_of (both c)
