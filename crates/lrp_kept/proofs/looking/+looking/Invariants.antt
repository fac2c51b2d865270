use Rattle.std.proofs.Common.{◌≡◌, drop}
use Rattle.std.specs.List.{list_any}
use Rattle.lrp_model.specs.Formulas.{form_of}
use Rattle.lrp_model.specs.Core.{conjuncts}
use Rattle.lrp_kept.specs.Asked.{is_sought}
use Rattle.lrp_kept.specs.KeptForm.{some_passes}
use Rattle.lrp_kept.specs.Signs.{kept_signed}
use Rattle.lrp_kept.proofs.looking.+looking.Given as goal

-- some has such an element if one of those that are left has
abbrev pub invariant-some_of-loop-f : goal.invariant-some_of-loop-f
invariant-some_of-loop-f l =
    list_any (λ f. some_passes (is_sought l.sought) (conjuncts (kept_signed l.holds (form_of f)))) (drop l.f-index l.fs) ≡ list_any (λ f. some_passes (is_sought l.sought) (conjuncts (kept_signed l.holds (form_of f)))) l.fs
