use Rattle.std.proofs.Common.{◌≡◌, drop}
use Rattle.lrp_model.specs.Variables.{head_variables}
use Rattle.lrp_kept.specs.Asked.{conjuncts_of}
use Rattle.lrp_kept.specs.KeptForm.{all_occur}
use Rattle.lrp_kept.proofs.kept.columns_occur.Given as goal

-- all do if those that are left do
abbrev pub invariant-loop-column : goal.invariant-loop-column
invariant-loop-column l = all_occur (conjuncts_of l.whole) (head_variables (drop l.column-index l.columns)) ≡ all_occur (conjuncts_of l.whole) (head_variables l.columns)
