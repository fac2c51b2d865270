use Rattle.std.proofs.Common.{◌≡◌, ◌++◌, take}
use Rattle.std.specs.Prelude.{flat_map}
use Rattle.lrp_model.specs.RawQueries.{raw_forms_of}
use Rattle.lrp_lint.specs.Known.{binders_in}
use Rattle.lrp_lint.specs.Mentions.{mention_findings, mentions_each}
use Rattle.lrp_lint.proofs.queries.+walking.Given as goal

-- the members so far
abbrev pub invariant-walk_each-loop-f : goal.invariant-walk_each-loop-f
invariant-walk_each-loop-f l = record {
  found : l.found.items ≡ l.fn.found.items ++ flat_map (mention_findings l.catalog) (mentions_each (raw_forms_of (take l.f-index l.fs)) l.catalog (binders_in l.fn.binders.items));
  binders : l.binders.items ≡ l.fn.binders.items;
}
