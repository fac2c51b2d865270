use Rattle.std.proofs.Common.{◌≡◌, ℕ, drop}
use Rattle.lrp_model.specs.Texts.{Identifier}
use Rattle.lrp_wide.specs.Chains.{as_themselves}
use Rattle.lrp_wide.specs.Inlining.{passed_name}
use Rattle.lrp_wide.proofs.chains.variable_of.Given as goal

-- the columns that are left give the name that all of them give
abbrev pub invariant-loop-i : goal.invariant-loop-i
invariant-loop-i l = (name : Identifier → Identifier) (k : ℕ) → passed_name (as_themselves name l.columns l.variables) k l.name ≡ passed_name (as_themselves name (drop l.i l.columns) (drop l.i l.variables)) k l.name
