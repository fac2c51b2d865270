use Rattle.std.proofs.Common.{◌≡◌, ℕ, map, take}
use Rattle.lrp_model.specs.Texts.{Identifier}
use Rattle.lrp_wide.specs.Chains.{as_themselves}
use Rattle.lrp_wide.specs.Inlining.{passed_name}
use Rattle.lrp_wide.proofs.chains.continued.Given as goal

-- the names so far
abbrev pub invariant-loop-name : goal.invariant-loop-name
invariant-loop-name l = (name : Identifier → Identifier) (k : ℕ) → map (passed_name (as_themselves name l.columns l.variables) k) (take l.name-index l.name-items) ≡ map name l.names.items
