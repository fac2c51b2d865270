use Rattle.std.proofs.Common.{◌≡◌, take}
use Rattle.lrp_model.specs.RawQueries.{raw_forms_of}
use Rattle.lrp_tense.specs.Scopes.{each_in, past_each}
use Rattle.lrp_tense.proofs.expansion.+expanding.Given as goal

-- the formulas so far are expanded, and their operators are passed
abbrev pub invariant-expand_each-loop-f : goal.invariant-expand_each-loop-f
invariant-expand_each-loop-f l = record {
  trees : raw_forms_of l.all.items ≡ each_in l.fn.scope (raw_forms_of (take l.f-index l.fs));
  scope : l.scope ≡ past_each l.fn.scope (raw_forms_of (take l.f-index l.fs));
}
