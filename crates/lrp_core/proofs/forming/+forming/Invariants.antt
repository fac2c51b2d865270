use Rattle.std.proofs.Common.{◌≡◌, take}
use Rattle.lrp_model.specs.Formulas.{forms_of, joined}
use Rattle.lrp_core.specs.Cores.{cores_of}
use Rattle.lrp_core.specs.Junctions.{all_elements}
use Rattle.lrp_core.specs.Polarities.{all_formed}
use Rattle.lrp_core.proofs.forming.+forming.Given as goal

-- the elements of the formulas so far stand after those before
abbrev pub invariant-push_all-loop-f : goal.invariant-push_all-loop-f
invariant-push_all-loop-f l = cores_of l.all.items ≡ joined (cores_of l.fn.all.items) (all_elements l.junction (all_formed l.forming.polarity (forms_of (take l.f-index l.fs)) l.forming.named))
