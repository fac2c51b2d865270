use Rattle.std.proofs.Common.{◌≡◌, drop}
use Rattle.std.specs.List.{list_all}
use Rattle.lrp_model.specs.Formulas.{form_of}
use Rattle.lrp_model.specs.Core.{conjuncts}
use Rattle.lrp_kept.specs.Asked.{tests_in_atoms}
use Rattle.lrp_kept.specs.Signs.{kept_signed}
use Rattle.lrp_kept.proofs.kept.+tests.Given as goal

-- all do if those that are left do
abbrev pub invariant-tests_of_each_occur-loop-f : goal.invariant-tests_of_each_occur-loop-f
invariant-tests_of_each_occur-loop-f l = list_all (λ f. tests_in_atoms l.whole (conjuncts (kept_signed l.holds (form_of f)))) (drop l.f-index l.fs) ≡ list_all (λ f. tests_in_atoms l.whole (conjuncts (kept_signed l.holds (form_of f)))) l.fs
