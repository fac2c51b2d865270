use Rattle.std.proofs.Common.{◌≡◌, drop}
use Rattle.std.specs.Prelude.{true}
use Rattle.std.specs.List.{list_all}
use Rattle.lrp_model.specs.Formulas.{form_of}
use Rattle.lrp_model.specs.Core.{disjuncts}
use Rattle.lrp_kept.specs.KeptForm.{all_pass, is_disjunct}
use Rattle.lrp_kept.specs.Signs.{kept_signed}
use Rattle.lrp_kept.proofs.kept.+disjuncts.Given as goal

-- all are if those that are left are
abbrev pub invariant-each_are_disjuncts-loop-f : goal.invariant-each_are_disjuncts-loop-f
invariant-each_are_disjuncts-loop-f l =
    list_all (λ f. all_pass (is_disjunct l.columns) (disjuncts (kept_signed true (form_of f)))) (drop l.f-index l.fs) ≡ list_all (λ f. all_pass (is_disjunct l.columns) (disjuncts (kept_signed true (form_of f)))) l.fs
